-- One command through the processor: it is read at the own word and done in the book, and its outputs are put behind
-- those before.
use Rattle.std.proofs.Common.{◌≡◌, ℕ, zero, suc, ◌+◌, ◌<◌, ◌≤◌, nat_le, List, [], ◌∷◌, ◌++◌, length, take, drop, ap}
use Rattle.std.proofs.Common.{refl, sym, subst, ◌∙◌, length-append, arith, Some}
use Rattle.std.proofs.lemmas.List.{length-take-le}
use mathlib.Core.Option.{some, some-injective, some-ne-none}
use lib.ListN.{get_elem?}
use Rattle.venue_model.specs.History.{Message}
use Rattle.venue_model.specs.declared.commands.Command.{Command}
use Rattle.venue_model.specs.declared.outputs.Output.{Output}
use Rattle.venue_model.specs.Requests.{Limits, State, Stepped}
use Rattle.venue_model.specs.Step.{Request, IsCommand, state, outputs, step}
use Rattle.venue_model.specs.HistoryLaws.{requests_from-more, state-more, outputs-one}
use Rattle.fix_orders.specs.RangeLaws.{reads_within}
use Rattle.ring_words.specs.declared.view.Person.{Person}
use Rattle.ring_words.specs.Log.{IsEntry}
use Rattle.ring_words.specs.At.{At, seated}
use Rattle.command_words.specs.Packing.{command_words}
use Rattle.venue_model.specs.ListLaws.{stands}
use Rattle.barrier.specs.Commands.{after_command}
use Rattle.book.specs.Books.{Book}
use Rattle.book.specs.Standing.{Below}
use Rattle.book.proofs.LawStamps.{history-behind, length-requests}
use Rattle.stages.specs.Turns.{after_reading}
use Rattle.book.specs.Histories.{reads_at, request_at, requests_of, state_of, outputs_of}
use Rattle.stages.specs.Processed.{entries_done}
use Rattle.stages.specs.Processes.{to_put}
use Rattle.stages.specs.Insides.{FollowsRings}

-- HISTORIES

-- the first entries, and the next one
pub take_next : {A : Type 0} (l : List A) (i : ℕ) (a : A) → get_elem? l i ≡ some a → take (suc i) l ≡ take i l ++ a ∷ []
take_next [] i a at = absurd (some-ne-none a (sym at))
take_next (x ∷ xs) zero a at = ap (λ y. y ∷ []) (some-injective x a at)
take_next (x ∷ xs) (suc i) a at = ap (λ l. x ∷ l) (take_next xs i a at)

length-first : {A : Type 0} (i : ℕ) (l : List A) → length (take i l) ≤ i
length-first zero l = omega arith
length-first (suc i) [] = omega arith
length-first (suc i) (x ∷ xs) = let most = length-first i xs in omega (arith, most)

module _ (limits : Limits) (p : Person) (e : Message) (at : get_elem? p.seen p.sequence ≡ some e)
    (known : p.sequence < length p.seen) where
  -- what the entry asks
  abbrev ask : Request
  ask = request_at limits p.sequence e

  abbrev next : Stepped
  next = step limits.symbols (state_of limits (entries_done p)) p.sequence ask

  place : length (requests_of limits (entries_done p)) ≡ p.sequence
  place = length-requests (reads_at limits) 0 (entries_done p) ∙ length-take-le p.sequence p.seen (omega arith)

  here : 0 + length (entries_done p) ≡ p.sequence
  here = let whole = length-take-le p.sequence p.seen (omega arith) in omega (arith, whole)

  one_more : requests_of limits (take (suc p.sequence) p.seen) ≡ requests_of limits (entries_done p) ++ ask ∷ []
  one_more = ap (requests_of limits) (take_next p.seen p.sequence e at)
      ∙ requests_from-more (reads_at limits) 0 (entries_done p) e
      ∙ ap (λ (n : ℕ). requests_of limits (entries_done p) ++ request_at limits n e ∷ []) here

  -- the state with one entry more, and the outputs
  next_state : state_of limits (take (suc p.sequence) p.seen) ≡ next.state
  next_state = ap (state limits.symbols) one_more ∙ state-more limits.symbols (requests_of limits (entries_done p)) ask
      ∙ ap (λ (n : ℕ). (step limits.symbols (state_of limits (entries_done p)) n ask).state) place

  next_outputs : outputs_of limits (take (suc p.sequence) p.seen) ≡ outputs_of limits (entries_done p) ++ next.outputs
  next_outputs = ap (outputs limits.symbols) one_more ∙ outputs-one limits.symbols (requests_of limits (entries_done p))
      ask
      ∙ ap (λ (n : ℕ). outputs_of limits (entries_done p)
      ++ (step limits.symbols (state_of limits (entries_done p)) n ask).outputs) place

-- what rests after the first entries was stamped before the next one
pub behind : (limits : Limits) (k : ℕ) (h : List Message) (s : State) → s ≡ state_of limits (take k h)
    → Below k s.orders
behind limits k h s is = subst (λ (z : State). Below k z.orders) (sym is)
    (history-behind (reads_at limits) limits.symbols (take k h) k (length-first k h))

-- A COMMAND THAT WAS READ

-- it is that of the next entry
pub record Took (n : ℕ) (limits : Limits) (v r : At Limits) (s gateway : ℕ) (command : Command) : Type 0 where
  pub place : s ≡ v.who.sequence
  pub known : v.who.sequence < length v.who.seen
  pub entry : Message
  pub at : get_elem? v.who.seen v.who.sequence ≡ some entry
  pub valid : IsEntry entry
  pub from : gateway ≡ entry.gateway
  pub command_is : command ≡ reads_at limits v.who.sequence entry
  pub view : r ≡ seated v (after_reading n limits v.who entry)

pub took : {n : ℕ} {limits : Limits} {v r : At Limits} {s gateway : ℕ} {command : Command} → s < length v.who.seen
    → s ≡ v.who.sequence → ((e : Message) → get_elem? v.who.seen s ≡ some e →
    (gateway ≡ e.gateway) × (command ≡ reads_at limits s e) × IsEntry e)
    → ((e : Message) → get_elem? v.who.seen s ≡ some e →
    r ≡ seated v (after_command n v.who s (command_words e.gateway (reads_at limits s e))))
    → Took n limits v r s gateway command
took {n} {limits} {v} {s = s} known at is loads =
    let stood = stands v.who.seen s known in let e = stood.0 in let read = is e stood.1 in record {
      place = at;
      known = rw (← at) known;
      entry = e;
      at = rw (← at) stood.1;
      valid = read.2;
      from = read.0;
      command_is = rw (← at) read.1;
      view = loads e stood.1
          ∙ ap (λ (t : ℕ). seated v (after_command n v.who t (command_words e.gateway (reads_at limits t e)))) at;
    }

-- the book may be asked to do it
pub may_apply : {n : ℕ} {limits : Limits} {v r : At Limits} {s gateway : ℕ} {command : Command}
    → Took n limits v r s gateway command → (1 ≤ gateway) × (gateway ≤ 8) × IsCommand command
may_apply {limits = limits} {v = v} is =
    let entry = is.valid.message in rw (is.from, is.command_is)
    (entry.from, entry.to, reads_within (nat_le limits.cut v.who.sequence) is.entry.bytes)

-- WHAT THE PROCESSOR KEEPS

-- while the command behind those done is under way, its outputs are to be put
pub left_to_put : (v : At Limits) (book : Book) (applied : ℕ) (left : List Output) → FollowsRings v book applied left
    → applied ≡ suc v.who.sequence
    → to_put book.limits v.who ≡ left
left_to_put v book applied left follows one =
    ap (λ (k : ℕ). drop v.who.row.sequence (outputs_of book.limits (take k v.who.seen))) (sym one) ∙ follows.rest

-- where no outputs are left of them
pub at_rest : (v : At Limits) (book : Book) (applied s : ℕ) (left : List Output) → FollowsRings v book applied left
    → applied ≡ s → left ≡ [] → FollowsRings v book s []
at_rest v book applied s left follows at none = subst (λ (k : ℕ). FollowsRings v book k []) at
    (subst (FollowsRings v book applied) none follows)

-- of a list that goes on, what is behind it
drop_front : {A : Type 0} (xs ys : List A) (n : ℕ) → length xs ≡ n → drop n (xs ++ ys) ≡ ys
drop_front [] ys n is = ap (λ (k : ℕ). drop k ys) (sym is)
drop_front (x ∷ xs) ys n is = ap (λ (k : ℕ). drop k (x ∷ xs ++ ys)) (sym is) ∙ drop_front xs ys (length xs) refl

module _ (n : ℕ) (v r : At Limits) (s gateway : ℕ) (command : Command) (book : Book)
    (took : Took n book.limits v r s gateway command)
    (follows : FollowsRings v book s []) where
  abbrev this_step : Stepped
  this_step = step book.limits.symbols book.state s (record { gateway = gateway; command = command })

  before : FollowsRings v book v.who.sequence []
  before = subst (λ (k : ℕ). FollowsRings v book k []) took.place follows

  -- the book was asked what the entry asks, in the state of those before it
  asked_so : this_step ≡ next book.limits v.who took.entry took.at took.known
  asked_so = ap (λ (t : ℕ). step book.limits.symbols book.state t (record { gateway = gateway; command = command }))
      took.place
      ∙ ap (λ (k : ℕ). step book.limits.symbols book.state v.who.sequence (record { gateway = k; command = command }))
      took.from
      ∙ ap (λ (d : Command). step book.limits.symbols book.state v.who.sequence
      (record { gateway = took.entry.gateway; command = d })) took.command_is
      ∙ ap (λ (z : State). step book.limits.symbols z v.who.sequence (request_at book.limits v.who.sequence took.entry))
      before.state

  grown : outputs_of book.limits (take (suc v.who.sequence) v.who.seen)
      ≡ outputs_of book.limits (entries_done v.who) ++ this_step.outputs
  grown = next_outputs book.limits v.who took.entry took.at took.known
      ∙ ap (λ (t : Stepped). outputs_of book.limits (entries_done v.who) ++ t.outputs) (sym asked_so)

  -- all before were published
  all_out : length (outputs_of book.limits (entries_done v.who)) ≡ v.who.row.sequence
  all_out = let all = before.published in omega (arith, all)

  -- whatever else is said of a book, of these limits and in this state it follows
  same_book : {w : At Limits} {k : ℕ} {left : List Output} (book' : Book) → book'.limits ≡ book.limits
      → book'.state ≡ this_step.state
      → FollowsRings w (record book { state = this_step.state }) k left → FollowsRings w book' k left
  same_book book' limits stepped f = record {
    logic = f.logic ∙ ap Some (sym limits);
    state = rw (limits, stepped) f.state;
    rest = rw limits f.rest;
    published = rw limits f.published;
  }

  -- the book follows with one entry more, and its outputs are left
  pub follows_on : (book' : Book) (left : List Output) (k : ℕ) → k ≡ suc s → book'.limits ≡ book.limits
      → book'.state ≡ this_step.state
      → left ≡ this_step.outputs → FollowsRings r book' k left
  follows_on book' left k k_is limits stepped told =
      subst (λ (z : At Limits). FollowsRings z book' k left) (sym took.view) (same_book book' limits stepped
      (subst (λ (i : ℕ). FollowsRings (seated v (after_reading n book.limits v.who took.entry))
      (record book { state = this_step.state }) i left)
      (sym (k_is ∙ ap suc took.place)) (record {
        logic = follows.logic;
        state = ap (λ (t : Stepped). t.state) asked_so ∙ sym
            (next_state book.limits v.who took.entry took.at took.known);
        rest = ap (drop v.who.row.sequence) grown ∙ drop_front _ _ _ all_out ∙ sym told;
        published = ap length grown ∙ length-append (outputs_of book.limits (entries_done v.who)) this_step.outputs
            ∙ ap (λ (i : ℕ). i + length this_step.outputs) all_out
            ∙ ap (λ (l : List Output). v.who.row.sequence + length l) (sym told);
      })))
