use Rattle.std.proofs.Common.{◌≡◌, Err, ap, subst, sym}
use Rattle.std.specs.Prelude.{IsErrOf}
use Rattle.venue_model.specs.Requests.{Limits}
use Rattle.book.specs.Snapshots.{SnapshotOf}
use Rattle.book.proofs.book.Book.restore.Goals as goal

-- a fault is the same whatever there would have been without it
same-fault : {T U E : Type 0} (e f : E) → IsErrOf {T = T} {E = E} (Err e) f → IsErrOf {T = U} {E = E} (Err e) f
same-fault e f is = let same : e ≡ f = cc in ap (λ x. Err x) same

pub returns-in-Err-clause-bad : goal.returns-in-Err-clause-bad
returns-in-Err-clause-bad c bad s commands told is = c.in-Err.ensures.bad (same-fault _ _ bad) s commands told
    (subst (λ (l : Limits). SnapshotOf l.symbols s commands told c.args.bytes.now) (sym c.of.ensures) is)
