-- When all seats have come back and no claim is left, each sequence below claim has an entry, and all that anyone knows
-- is of that log.
use Rattle.std.proofs.Common.{◌≡◌, ℕ, zero, suc, ◌+◌, ◌-◌, ◌<◌, ◌≤◌, Bool, true, false, List, [], ◌∷◌, ◌++◌, cond, eqb}
use Rattle.std.proofs.Common.{ltb, drop, take, length, length-append, refl, ap, sym, subst, ◌∙◌, arith}
use Rattle.std.proofs.lemmas.Bool.{lt-ltb, ltb-true, eq-eqb, cond-true, cond-false}
use Rattle.std.proofs.lemmas.List.{take-append-le, take_all}
use mathlib.Core.Option.{Option, none, some, some-injective, some-ne-none}
use native.Mathlib.Decide.{dec_le, ℕ_discrete}
use lib.ListN.{get_elem?}
use Rattle.atomic_table.specs.Table.{State}
use Rattle.atomic_table.proofs.Lists.{at_last}
use Rattle.venue_model.specs.History.{Message}
use Rattle.venue_model.specs.ListLaws.{at_longer, stands, within}
use Rattle.ring_words.specs.Slots.{Boxed}
use Rattle.ring_words.specs.declared.view.Role.{Role}
use Rattle.ring_words.specs.declared.view.Role.TheVariants.{Process, Journal, Gateway}
use Rattle.ring_words.specs.declared.view.Person.{Person}
use Rattle.ring_words.specs.declared.view.View.{View}
use Rattle.ring_words.specs.declared.seats.Seats.{Seats}
use Rattle.ring_words.specs.declared.close.Summary.{Summary}
use Rattle.ring_words.specs.At.{At}
use Rattle.ring_words.specs.Places.{processed, claim, journalled, published, word_of_role, number_of}
use Rattle.ring_words.specs.Log.{Status, unclaimed, old, claimed, sent, Log, entry_of, sends_of, claims_of, times_in}
use Rattle.ring_words.specs.Log.{of_gateway, published_at}
use Rattle.ring_words.specs.Terms.{Terms, outputs_by}
use Rattle.ring_words.specs.Rule.{IsGateway, Depth, Knows, PartOf, words_of, Lawful}
use Rattle.ring_words.specs.Seats.{together}
use Rattle.ring_words.specs.Gathered.{GathersPersons}
use Rattle.ring_words.specs.Ending.{AreSpent, Ended, stages_of}
use Rattle.ring_words.proofs.Logs.{beyond, published_late}
use Rattle.ring_words.proofs.Outputs.{begins}

-- the log below k, as a list
abbrev here : Option Message → List Message
here none = []
here (some e) = e ∷ []

abbrev entries_upto : Log → ℕ → List Message
entries_upto log zero = []
entries_upto log (suc k) = entries_upto log k ++ here (entry_of (log.status k))

abbrev AllThere : Log → ℕ → Type 0
AllThere log k = (s : ℕ) → s < k → (e : Message) × (entry_of (log.status s) ≡ some e)

one_there : (o : Option Message) (e : Message) → o ≡ some e → here o ≡ e ∷ []
one_there o e is = ap here is

length_upto : (log : Log) (k : ℕ) → AllThere log k → length (entries_upto log k) ≡ k
length_upto log zero all = refl
length_upto log (suc k) all = let last = all k (omega arith) in let e : Message = last.0 in
    let before : length (entries_upto log k) ≡ k = length_upto log k (λ s lt. all s (omega arith)) in
    let one : length (here (entry_of (log.status k))) ≡ 1 =
    ap (λ (l : List Message). length l) (one_there (entry_of (log.status k)) e last.1) in
    let both = length-append (entries_upto log k) (here (entry_of (log.status k))) in omega arith

at_upto : (log : Log) (k : ℕ) → AllThere log k → (s : ℕ) → s < k
    → get_elem? (entries_upto log k) s ≡ entry_of (log.status s)
at_upto log zero all s lt = absurd (omega arith)
at_upto log (suc k) all s lt = by_place (ℕ_discrete s k)
    (λ below. at_upto log k (λ t lower. all t (omega arith)) s below) where
      by_place : Dec (s ≡ k) → (s < k → get_elem? (entries_upto log k) s ≡ entry_of (log.status s))
          → get_elem? (entries_upto log k ++ here (entry_of (log.status k))) s ≡ entry_of (log.status s)
      by_place (yes is) before = let last = all k (omega arith) in let e : Message = last.0 in
          subst (λ (i : ℕ). get_elem? (entries_upto log k ++ here (entry_of (log.status k))) i ≡ entry_of (log.status i))
          (sym is)
          (ap (λ (l : List Message). get_elem? (entries_upto log k ++ l) k) (one_there (entry_of (log.status k)) e last.1)
          ∙ at_last (entries_upto log k) e k (length_upto log k (λ t lower. all t (omega arith))) ∙ sym last.1)
      by_place (no ne) before = let there = all s lt in
          at_longer (entries_upto log k) (here (entry_of (log.status k))) s there.0 (before (omega arith) ∙ there.1)
          ∙ sym there.1

-- the first of a list that has one
pub begins_with : (ps : List Person) (p : Person) → get_elem? ps 0 ≡ some p → ps ≡ p ∷ drop 1 ps
begins_with [] p at = absurd (some-ne-none p (sym at))
begins_with (q ∷ ps) p at = ap (λ (x : Person). x ∷ ps) (some-injective q p at)

module _ {L : Type 0} (terms : Terms L) (s : State Boxed (View L)) (r : Lawful terms s) (id : ℕ) (v : View L)
    (at : get_elem? s.views id ≡ some v)
    (seats : Seats L) (all : GathersPersons seats.gateways.items (stages_of seats) v)
    (numbered : (i : ℕ) (g : At L) → get_elem? seats.gateways.items i ≡ some g → g.who.role ≡ Gateway (i + 1))
    (spent : AreSpent seats.gateways.items) (count : length seats.gateways.items ≡ terms.gateways) where
  knows_of : (i : ℕ) (g : At L) → get_elem? seats.gateways.items i ≡ some g → Knows terms (words_of s) r.log g.who
  knows_of i g there = let found = all.all i g there in (r.people id found.0 v g.who at found.1).2

  knows_stage : (j : ℕ) (p : Person) → get_elem? (stages_of seats) j ≡ some p → Knows terms (words_of s) r.log p
  knows_stage j p there = (r.people id j v p at (all.stage j p there)).2

  no_claim : (t k : ℕ) → r.log.status t ≡ claimed k → ⊥
  no_claim t k is = let gateway = r.logged.holder t k is in
      let lo : 1 ≤ k = gateway.0 in
      let hi : k ≤ terms.gateways = gateway.1 in
      let there = stands seats.gateways.items (k - 1) (omega arith) in let g : At L = there.0 in
      let same : k - 1 + 1 ≡ k = omega arith in
      let role_is : number_of g.who.role ≡ k = ap number_of (numbered (k - 1) g there.1) ∙ same in
      let counted : times_in t g.who.claims ≡ claims_of (number_of g.who.role) (r.log.status t) =
      (knows_of (k - 1) g there.1).claims t in
      let zero_is : times_in t g.who.claims ≡ 0 = ap (times_in t) (spent (k - 1) g there.1) in
      let one_is : claims_of (number_of g.who.role) (r.log.status t)
      ≡ 1 = ap (claims_of (number_of g.who.role)) is ∙ ap (λ (j : ℕ). claims_of j (claimed k)) role_is
      ∙ cond-true (eqb k k) 1 0 (eq-eqb k k refl) in
      omega arith

  there_or_not : (t : ℕ) (x : Status) → r.log.status t ≡ x → t < words_of s claim
      → (e : Message) × (entry_of x ≡ some e)
  there_or_not t unclaimed is below = absurd (r.logged.somebodys t below is)
  there_or_not t (old e) is below = (e, refl)
  there_or_not t (claimed k) is below = absurd (no_claim t k is)
  there_or_not t (sent e) is below = (e, refl)

  all_there : AllThere r.log (words_of s claim)
  all_there t below = there_or_not t (r.log.status t) refl below

  abbrev whole : List Message
  whole = entries_upto r.log (words_of s claim)

  long : length whole ≡ words_of s claim
  long = length_upto r.log (words_of s claim) all_there

  -- the list has what the log has
  same : (t : ℕ) → get_elem? whole t ≡ entry_of (r.log.status t)
  same t = by_place (dec_le (words_of s claim) t) where
    by_place : Dec (words_of s claim ≤ t) → get_elem? whole t ≡ entry_of (r.log.status t)
    by_place (yes le) = beyond whole t (let l : length whole ≡ words_of s claim = long in omega arith)
        ∙ sym (ap entry_of (r.logged.ahead t le))
    by_place (no gt) = at_upto r.log (words_of s claim) all_there t (omega arith)

  sends_late : (t k : ℕ) (x : Status) → r.log.status t ≡ x → length terms.base ≤ t
      → sends_of k x ≡ of_gateway k (entry_of x)
  sends_late t k unclaimed is late = refl
  sends_late t k (old e) is late = let early = r.logged.older t e is in absurd (omega arith)
  sends_late t k (claimed j) is late = refl
  sends_late t k (sent e) is late = refl

  sends_early : (t k : ℕ) → t < length terms.base → sends_of k (r.log.status t) ≡ []
  sends_early t k early = let there = stands terms.base t early in ap (sends_of k) (r.logged.based t there.0 there.1)

  not_below : (b : Bool) (t k : ℕ) → k ≤ t → ltb t k ≡ b → b ≡ false
  not_below false t k le e = refl
  not_below true t k le e = let lt = ltb-true t k e in absurd (omega arith)

  sends_are : (t k : ℕ) → sends_of k (r.log.status t) ≡ published_at (length terms.base) k whole t
  sends_are t k = by_place (dec_le (length terms.base) t) where
    b : ℕ
    b = length terms.base

    by_place : Dec (length terms.base ≤ t) → sends_of k (r.log.status t)
        ≡ cond (ltb t (length terms.base)) [] (of_gateway k (get_elem? whole t))
    by_place (yes le) = sends_late t k (r.log.status t) refl le ∙ ap (of_gateway k) (sym (same t))
        ∙ sym (cond-false (ltb t (length terms.base)) [] (of_gateway k (get_elem? whole t))
        (not_below (ltb t (length terms.base)) t (length terms.base) le refl))
    by_place (no gt) = let early : t < length terms.base = omega arith in
        sends_early t k early ∙ sym (cond-true (ltb t (length terms.base)) [] (of_gateway k (get_elem? whole t))
        (lt-ltb t (length terms.base) early))

  -- the history that is kept is its beginning
  kept_begins : (rest : List Message) × (whole ≡ r.log.history ++ rest)
  kept_begins = begins r.log.status whole r.log.history (λ t e there. sym (same t) ∙ there) r.outgoing.front
      (let l : length whole ≡ words_of s claim = long in let kept : length r.log.history
      ≡ words_of s journalled = r.outgoing.kept in let low = r.order.journalled_claimed in omega arith)

  -- all outputs of the entries processed are published, and maybe some of the next entry's, where that is kept
  least : length (outputs_by terms (take (words_of s processed) whole)) ≤ words_of s published
  least = let longer = kept_begins in
      let kept : length r.log.history ≡ words_of s journalled = r.outgoing.kept in
      let low = r.order.processed_journalled in
      let is : take (words_of s processed) whole ≡ take (words_of s processed) r.log.history =
      ap (take (words_of s processed)) longer.1 ∙ take-append-le (words_of s processed) r.log.history longer.0
      (omega arith) in
      subst (λ (h : List Message). length (outputs_by terms h) ≤ words_of s published) (sym is) r.outgoing.least

  most : words_of s published ≤ length
      (outputs_by terms (take (suc (words_of s processed)) (take (words_of s journalled) whole)))
  most = let longer = kept_begins in let kept : length r.log.history ≡ words_of s journalled = r.outgoing.kept in
      let is : take (words_of s journalled) whole ≡ r.log.history =
      ap (take (words_of s journalled)) longer.1 ∙ take-append-le (words_of s journalled) r.log.history longer.0
      (omega arith) ∙ take_all (words_of s journalled) r.log.history (omega arith) in
      subst (λ (h : List Message). words_of s published ≤ length
      (outputs_by terms (take (suc (words_of s processed)) h))) (sym is) r.outgoing.most

  -- a gateway has seen no more than what is kept
  seen_kept : (i : ℕ) (g : At L) → get_elem? seats.gateways.items i ≡ some g → length g.who.seen ≤ words_of s journalled
  seen_kept i g there = subst (λ (z : Role). Depth (words_of s) z (length g.who.seen)) (numbered i g there)
      (knows_of i g there).depth

  ends : (summary : Summary) → summary.commands ≡ words_of s processed
      → words_of s journalled ≡ seats.journal.who.sequence → summary.outputs ≡ words_of s published
      → seats.journal.who.sequence ≤ length seats.journal.who.seen → Ended (outputs_by terms) terms.base seats summary
  ends summary commands kept outputs released = record {
    log = whole;
    begins = λ t e there. same t ∙ ap entry_of (r.logged.based t e there);
    later = λ t e late there. (let sound = r.logged.sender t e
        (published_late terms (words_of s) r.log t e r.logged (sym (same t) ∙ there) late) in
        (sound.0, subst (λ (k : ℕ). IsGateway k e.gateway) (sym count) sound.1));
    mine = λ i g there t. (knows_of i g there).mine t ∙ sends_are t (number_of g.who.role);
    seen = λ i g there. (
      (λ t e at_t. same t ∙ (knows_of i g there).front t e at_t),
      subst (λ (n : ℕ). length g.who.seen ≤ n) kept (seen_kept i g there),
    );
    known = λ j p there t e at_t. same t ∙ (knows_stage j p there).front t e at_t;
    done = (let low = r.order.processed_journalled in omega arith);
    journalled = (let l : length whole ≡ words_of s claim = long in let low = r.order.journalled_claimed in
        omega arith);
    released = released;
    least = subst (λ (n : ℕ). length (outputs_by terms (take n whole)) ≤ summary.outputs) (sym commands)
        (subst (λ (n : ℕ). length (outputs_by terms (take (words_of s processed) whole)) ≤ n) (sym outputs) least);
    most = subst (λ (n : ℕ). n ≤ length
        (outputs_by terms (take (suc summary.commands) (take seats.journal.who.sequence whole)))) (sym outputs)
        (subst (λ (n : ℕ). words_of s published
        ≤ length (outputs_by terms (take (suc n) (take seats.journal.who.sequence whole)))) (sym commands)
        (subst (λ (n : ℕ). words_of s published
        ≤ length (outputs_by terms (take (suc (words_of s processed)) (take n whole)))) kept most));
  }

  own_is : seats.process.who.role ≡ Process → words_of s processed ≡ seats.process.who.sequence
  own_is role = ap (λ (z : Role). words_of s (word_of_role z)) (sym role) ∙ (knows_stage 0 seats.process.who refl).sequence

  journalled_is : seats.journal.who.role ≡ Journal → words_of s journalled ≡ seats.journal.who.sequence
  journalled_is role = ap (λ (z : Role). words_of s (word_of_role z)) (sym role)
      ∙ (knows_stage 2 seats.journal.who refl).sequence

  published_is : seats.process.who.role ≡ Process → words_of s published ≡ seats.process.who.row.sequence
  published_is role = sym (subst
      (λ (z : Role). PartOf terms.rows terms.output_rows (words_of s) r.log z seats.process.who.row) role
      (knows_stage 0 seats.process.who refl).row).0

  -- what the summary says, when its words are those at the end
  pub all_ends : seats.process.who.role ≡ Process → seats.journal.who.role ≡ Journal
      → seats.journal.who.sequence ≤ length seats.journal.who.seen → (summary : Summary)
      → summary.commands ≡ words_of s processed → summary.outputs ≡ words_of s published
      → (summary.commands ≡ seats.process.who.sequence) × (summary.outputs ≡ seats.process.who.row.sequence)
      × Ended (outputs_by terms) terms.base seats summary
  all_ends process journal released summary commands outputs = (
    commands ∙ own_is process,
    outputs ∙ published_is process,
    ends summary commands (journalled_is journal) outputs released,
  )

module _ {L : Type 0} (gs : List (At L)) (stages : List Person) where
  -- those behind the first `left` have been taken in
  pub record Gathering (left : List (At L)) (v : View L) : Type 0 where
    pub others : (i : ℕ) (g : At L) → get_elem? left i ≡ some g → get_elem? gs i ≡ some g
    pub stage : (j : ℕ) (p : Person) → get_elem? stages j ≡ some p → get_elem? v.people j ≡ some p
    pub taken : (i : ℕ) (g : At L) → get_elem? gs i ≡ some g → length left ≤ i
        → (j : ℕ) × (get_elem? v.people j ≡ some g.who)

  pub gathers_none : (v : View L) → v.people ≡ stages → Gathering gs v
  gathers_none v is = record {
    others = λ i g there. there;
    stage = λ j p there. ap (λ (ps : List Person). get_elem? ps j) is ∙ there;
    taken = λ i g there late. (let below = within gs i g there in absurd (omega arith));
  }

  pub gathers_one : (left : List (At L)) (x : At L) (v w : View L) → w.people ≡ x.who ∷ []
      → Gathering (left ++ x ∷ []) v → Gathering left (together v w)
  gathers_one left x v w one_is r = record {
    others = λ i g there. r.others i g (at_longer left (x ∷ []) i g there);
    stage = λ j p there. at_longer v.people w.people j p (r.stage j p there);
    taken = λ i g there late. by_place i g there (ℕ_discrete i (length left)) late;
  } where
    by_place : (i : ℕ) (g : At L) → get_elem? gs i ≡ some g → Dec (i ≡ length left) → length left ≤ i
        → (j : ℕ) × (get_elem? (v.people ++ w.people) j ≡ some g.who)
    by_place i g there (yes is) late =
        let last : get_elem? gs i ≡ some x = r.others i x (at_last left x i (sym is)) in
        let one : g ≡ x = some-injective g x (sym there ∙ last) in (
          length v.people,
          ap (λ (ps : List Person). get_elem? (v.people ++ ps) (length v.people)) one_is
              ∙ at_last v.people x.who (length v.people) refl ∙ ap (λ (y : At L). some y.who) (sym one),
        )
    by_place i g there (no ne) late = let more = length-append left (x ∷ []) in
        let found = r.taken i g there (omega arith) in
        (found.0, at_longer v.people w.people found.0 g.who found.1)
