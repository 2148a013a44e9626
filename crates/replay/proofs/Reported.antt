-- What a report says of a disk it says of the file that was opened.
use Rattle.std.proofs.Common.{◌≡◌, true≢false, List, ℕ, Option, Result, Ok, Err, IsOk, OnOk, sym, subst}
use Rattle.venue_model.specs.History.{History}
use Rattle.venue_model.specs.Requests.{Limits}
use Rattle.journal.specs.Format.{HasCut, IsJournal}
use Rattle.journal.specs.Snapshots.{HasTaken}
use Rattle.replay.specs.declared.job.Subject.{Subject}
use Rattle.replay.specs.declared.job.Subject.TheVariants.{Book, Client}
use Rattle.replay.specs.declared.recovered.Recovered.{Recovered}
use Rattle.replay.specs.Starts.{HasTrueSnapshots}
use Rattle.replay.specs.Recovering.{Recovers, ComesToAll, RecoversWhole}
use Rattle.replay.specs.Reports.{Reports}

pub on_ok : {T E P : Type 0} (r : Result T E) → IsOk r → OnOk r P → P
on_ok (Ok x) is p = p
on_ok (Err e) is p = absurd (true≢false (sym is))

recovers-of : (was is : Type 0) (old new : List ℕ) (limits : Limits) (r : Recovered) → (is → was) → (is → old ≡ new)
    → Recovers was old limits r → Recovers is new limits r
recovers-of was is old new limits r honest same said = record {
  history = said.history;
  few = said.few;
  journal = λ h. subst (λ (file : List ℕ). IsJournal file said.history) (same h) (said.journal (honest h));
  taken = said.taken;
  has = λ h. subst (λ (file : List ℕ). HasTaken file said.taken) (same h) (said.has (honest h));
  cut = λ h. subst (λ (file : List ℕ). HasCut file r.book.limits.cut) (same h) (said.cut (honest h));
  table = said.table;
  counted = said.counted;
  newest = said.newest;
}

whole-of : (was is : Type 0) (old new : List ℕ) (limits : Limits) (r : Recovered) → (is → was) → (is → old ≡ new)
    → RecoversWhole was old limits r → RecoversWhole is new limits r
whole-of was is old new limits r honest same said i =
    subst (λ (file : List ℕ). (h : History) (cut : ℕ) → IsJournal file h → HasCut file cut
    → HasTrueSnapshots file (record limits { cut = cut }) h → ComesToAll (record limits { cut = cut }) h r)
    (same i) (said (honest i))

pub reports-of : (was is : Type 0) (old new : List ℕ) (limits : Limits) (subject : Subject) (before after : Option (List ℕ))
    → (is → was) → (is → old ≡ new) → Reports was old limits subject before after → Reports is new limits subject before after
reports-of was is old new limits Book before after honest same said = record {
  recovered = said.recovered;
  recovers = recovers-of was is old new limits said.recovered honest same said.recovers;
  whole = whole-of was is old new limits said.recovered honest same said.whole;
  printed = said.printed;
}
reports-of was is old new limits (Client n) before after honest same said = record {
  history = said.history;
  few = said.few;
  journal = λ h. subst (λ (file : List ℕ). IsJournal file said.history) (same h) (said.journal (honest h));
  cut = said.cut;
  by_cut = λ h. subst (λ (file : List ℕ). HasCut file said.cut) (same h) (said.by_cut (honest h));
  printed = said.printed;
}
