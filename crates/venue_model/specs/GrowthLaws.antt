-- Whole histories: what more entries add to the outputs, and how many outputs there are at most.
use Rattle.std.proofs.Common.{◌≡◌, ℕ, suc, ◌+◌, ◌*◌, ◌≤◌, List, [], ◌∷◌, ◌++◌, length, refl, ap, sym, ◌∙◌, arith, append_assoc, append-nil, length-append}
use Rattle.venue_model.specs.declared.commands.Command.{Command}
use Rattle.venue_model.specs.declared.outputs.Output.{Output}
use Rattle.venue_model.specs.History.{Message}
use Rattle.venue_model.specs.Requests.{Symbols, State, most_resting}
use Rattle.venue_model.specs.Step.{Request, step, empty, outputs_from, outputs, requests_from, requests}
use Rattle.venue_model.specs.HistoryLaws.{few-step, grows}

-- each message is one request
pub length-requests : (reads : ℕ → Message → Command) (sequence : ℕ) (h : List Message) → length (requests_from reads sequence h) ≡ length h
length-requests reads sequence [] = refl
length-requests reads sequence (m ∷ ms) = ap suc (length-requests reads (sequence + 1) ms)

-- however messages are read, the outputs of a history begin with those of each of its beginnings
pub grows-by : (reads : ℕ → Message → Command) (symbols : Symbols) (h rest : List Message) →
    (more : List Output) × (outputs symbols (requests reads (h ++ rest)) ≡ outputs symbols (requests reads h) ++ more)
grows-by reads symbols h [] =
    ([], ap (λ l. outputs symbols (requests reads l)) (append-nil h) ∙ sym (append-nil (outputs symbols (requests reads h))))
grows-by reads symbols h (e ∷ rest) =
    let one = grows reads symbols h e in
    let others = grows-by reads symbols (h ++ e ∷ []) rest in (
      one.0 ++ others.0,
      ap (λ l. outputs symbols (requests reads l)) (sym (append_assoc h (e ∷ []) rest))
          ∙ others.1 ∙ ap (λ os. os ++ others.0) one.1 ∙ append_assoc (outputs symbols (requests reads h)) one.0 others.0,
    )

-- at most 8,194 outputs a command
few-told-from : (symbols : Symbols) (sequence : ℕ) (s : State) (rs : List Request) → length s.orders ≤ most_resting →
    length (outputs_from symbols sequence s rs) ≤ 8194 * length rs
few-told-from symbols sequence s [] few = omega arith
few-told-from symbols sequence s (r ∷ rs) few =
    let stepped = few-step symbols s sequence r few in
    let next : State = (step symbols s sequence r).state in
    let first = stepped.told in
    let more = few-told-from symbols (sequence + 1) next rs stepped.resting in
    let both = length-append (step symbols s sequence r).outputs (outputs_from symbols (sequence + 1) next rs) in
    omega (arith, first, more, both)

-- and at most 8,194 an entry, however messages are read
pub few-told-by : (reads : ℕ → Message → Command) (symbols : Symbols) (h : List Message) →
    length (outputs symbols (requests reads h)) ≤ 8194 * length h
few-told-by reads symbols h =
    let few = few-told-from symbols 0 empty (requests reads h) (omega arith) in
    let same = length-requests reads 0 h in
    omega (arith, few, same)
