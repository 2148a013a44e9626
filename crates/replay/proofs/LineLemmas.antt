-- What is written piece by piece, and the lines of a report.
use Rattle.std.proofs.Common.{◌≡◌, ℕ, zero, suc, ◌+◌, ◌<◌, Option, Some, None, Result, Ok, Err, OnOk}
use Rattle.std.proofs.Common.{List, [], ◌∷◌, ◌++◌, length, get_or, take, drop, slice_get, append_assoc}
use Rattle.std.proofs.Common.{refl, ap, sym, ◌∙◌}
use Rattle.std.specs.Io.KnownBytes.{Appends}
use Rattle.std.proofs.Math.Seq.{drop-cons}
use Rattle.venue_model.specs.declared.orders.Order.{Order}
use Rattle.venue_model.specs.declared.outputs.Output.{Output}
use Rattle.fix_frame.specs.Grammar.{print_fields}
use Rattle.fix_orders.specs.Text.{Said, field}
use Rattle.fix_orders.specs.Writing.{Puts, PutsFields}
use Rattle.fix_orders.specs.WritingLaws.{print_fields-append, ◌⨟◌}
use Rattle.replay.specs.Lines.{said_fields, line_to, client_lines}

-- a piece and then another one are both together
pub appends_both : (before between behind : Option (List ℕ)) (xs ys : List ℕ) →
    Appends before between xs → Appends between behind ys → Appends before behind (xs ++ ys)
appends_both None between behind xs ys first then = tt
appends_both (Some before) None behind xs ys first then = absurd first
appends_both (Some before) (Some between) None xs ys first then = then
appends_both (Some before) (Some between) (Some behind) xs ys first then =
    then ∙ ap (λ front. front ++ ys) first ∙ append_assoc before xs ys

-- the last piece may fail
pub then_written : {T E : Type 0} (before between behind : Option (List ℕ)) (xs ys : List ℕ) (last : Result T E) →
    Appends before between xs → OnOk last (Appends between behind ys) → OnOk last (Appends before behind (xs ++ ys))
then_written before between behind xs ys (Ok x) first then = appends_both before between behind xs ys first then
then_written before between behind xs ys (Err e) first then = tt

-- MsgType and SendingTime in a buffer, and the body behind them, are what is said
pub said_put : (blank typed timed whole : List ℕ) (at end upto : ℕ) (type time body : List ℕ) (said : Said) →
    type ≡ said.kind → time ≡ said.time → body ≡ print_fields said.body →
    PutsFields blank typed 0 at (field 35 type ∷ []) → PutsFields typed timed at end (field 52 time ∷ [])
    → Puts timed whole end upto body →
    take upto whole ≡ print_fields (said_fields said)
said_put blank typed timed whole at end upto type time body said type_is time_is body_is first then last =
    let both = first ⨟ then in
    last.written ∙ ap (λ front. front ++ body) both.written
    ∙ ap (λ t. print_fields (field 35 t ∷ field 52 time ∷ []) ++ body) type_is
    ∙ ap (λ t. print_fields (field 35 said.kind ∷ field 52 t ∷ []) ++ body) time_is
    ∙ ap (λ b. print_fields (field 35 said.kind ∷ field 52 said.time ∷ []) ++ b) body_is
    ∙ sym (print_fields-append (field 35 said.kind ∷ field 52 said.time ∷ []) said.body)

-- a line more, of the outputs that are left
pub lines_on : (client place i n : ℕ) (os : List Output) (o : Output) (so_far all : List ℕ) →
    i < length os → o ≡ get_or os i o → suc i ≡ n → so_far ++ client_lines client place (drop i os) ≡ all →
    (so_far ++ line_to client place o) ++ client_lines client (place + 1) (drop n os) ≡ all
lines_on client place i n os o so_far all within is more are =
    let next : drop i os ≡ o ∷ drop n os =
    drop-cons os i o within ∙ ap (λ (x : Output). x ∷ drop (suc i) os) (sym is) ∙ ap (λ k. o ∷ drop k os) more in
    append_assoc so_far (line_to client place o) (client_lines client (place + 1) (drop n os))
    ∙ ap (λ (rest : List Output). so_far ++ client_lines client place rest) (sym next) ∙ are

-- where none is left all are written
pub none_left : (all : List Order) (i : ℕ) → None ≡ slice_get (drop i all) 0 → take i all ≡ all
none_left [] zero is = refl
none_left [] (suc i) is = refl
none_left (x ∷ xs) zero is = cc
none_left (x ∷ xs) (suc i) is = ap (λ (l : List Order). x ∷ l) (none_left xs i is)
