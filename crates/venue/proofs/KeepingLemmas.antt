-- The version of a journal and its snapshots, while a venue serves: no poll of the journaller changes them.
use Rattle.std.proofs.Common.{◌≡◌, ◌⊎◌, inl, inr, ⊎_elim, Bool, true, false, ℕ, zero, suc, List, refl, ap, sym, subst}
use Rattle.venue_model.specs.History.{History}
use Rattle.venue_model.specs.Requests.{Limits}
use Rattle.disks.specs.Disk.{Told, Only, LeavesOnly}
use Rattle.disks.specs.MomentLaws.{started, joined, weaker}
use Rattle.journal.specs.Format.{HasVersion, HasCut}
use Rattle.journal.specs.Snapshots.{Taken, HasTaken, KeepsVersionAndSnapshots}
use Rattle.stages.specs.Devices.{Device}
use Rattle.stages.specs.Journalling.{PollsOnce, PollsFor}
use Rattle.stages.specs.Kept.{LeavesBlock}
use Rattle.stages.specs.Stations.{AtJournal}
use Rattle.venue.specs.Headline.{IsJournalBy}

-- one run of calls and another
keeps_both : (a b c : Told) → KeepsVersionAndSnapshots a b → KeepsVersionAndSnapshots b c → KeepsVersionAndSnapshots a c
keeps_both a b c first second = record {
  version = λ v has. let one = first.version v has in let two = second.version v one.file in record {
    file = two.file;
    any_moment = joined a b c (λ file. HasVersion file v) one.any_moment two.any_moment;
    kept = two.kept;
  };
  snapshots = λ taken has. let one = first.snapshots taken has in let two = second.snapshots taken one.file in record {
    file = two.file;
    any_moment = joined a b c (λ file. HasTaken file taken) one.any_moment two.any_moment;
    kept = two.kept;
  };
}

-- the disk is as it was, or its file keeps them
abbrev pub Keeps : {D : Type 0} → Device D → D → D → Type 0
Keeps device old new = (new ≡ old) ⊎ KeepsVersionAndSnapshots (device.tells old) (device.tells new)

module _ {D : Type 0} (device : Device D) where
  pub keeps_further : (a b c : D) → Keeps device a b → Keeps device b c → Keeps device a c
  keeps_further a b c (inl same) second = subst (λ (d : D). Keeps device d c) same second
  keeps_further a b c (inr first) (inl same) =
      inr (subst (λ (d : D). KeepsVersionAndSnapshots (device.tells a) (device.tells d)) (sym same) first)
  keeps_further a b c (inr first) (inr second) = inr (keeps_both (device.tells a) (device.tells b)
      (device.tells c) first second)

  -- a poll of a journal that hasn't failed
  pub block_keeps : (n : ℕ) (old new : AtJournal D) → LeavesBlock n device.honest device.tells old new
      → old.journal.failed ≡ false
      → device.honest old.journal.disk → Keeps device old.journal.disk new.journal.disk
  block_keeps n old new leaves ready honest =
      ⊎_elim (λ same. inl (ap (λ j. j.disk) same)) inr (leaves.version ready honest)

  poll_keeps : (n : ℕ) (old new : AtJournal D) → PollsOnce n device old new → device.honest old.journal.disk
      → Keeps device old.journal.disk new.journal.disk
  poll_keeps n old new poll honest = at old.journal.failed refl
    where
      at : (had : Bool) → old.journal.failed ≡ had → Keeps device old.journal.disk new.journal.disk
      at true failed = inl (ap (λ (a : AtJournal D). a.journal.disk) (poll.untouched.0 failed).1)
      at false ready = block_keeps n old new poll.leaves ready honest

  -- and so does a chain of them
  polls_keep_both : (n k : ℕ) (old new : AtJournal D) → PollsFor n k device old new → device.honest old.journal.disk
      → device.honest new.journal.disk × Keeps device old.journal.disk new.journal.disk
  polls_keep_both n zero old new is honest = (
    subst (λ (a : AtJournal D). device.honest a.journal.disk)
        (sym is) honest,
    inl (ap (λ (a : AtJournal D). a.journal.disk) is),
  )
  polls_keep_both n (suc k) old new (mid, before, poll) honest =
      let so_far = polls_keep_both n k old mid before honest in (
        poll.leaves.any_moment.honest.0 so_far.0,
        keeps_further old.journal.disk mid.journal.disk new.journal.disk so_far.1 (poll_keeps n mid new poll so_far.0),
      )

  pub polls_keep : (n k : ℕ) (old new : AtJournal D) → PollsFor n k device old new → device.honest old.journal.disk
      → Keeps device old.journal.disk new.journal.disk
  polls_keep n k old new polls honest = (polls_keep_both n k old new polls honest).1

-- a file with this cut, and these snapshots
abbrev pub Same : ℕ → List Taken → List ℕ → Type 0
Same cut taken file = HasCut file cut × HasTaken file taken

-- what two things hold of
pub both_leave : (old new : Told) (P Q : List ℕ → Type 0) → LeavesOnly old new P → LeavesOnly old new Q
    → LeavesOnly old new (λ c. P c × Q c)
both_leave old new P Q first second = record {
  later = first.later;
  each = λ c left. (first.each c left, second.each c left);
  before = λ t c le left. ⊎_elim inl (λ p. ⊎_elim inl (λ q. inr (p, q)) (second.before t c le left))
      (first.before t c le left);
}

-- So a crash leaves files with the cut of the journal that was there, and its snapshots.
module _ {D : Type 0} (device : Device D) (old new : D) (limits : Limits) (base : History)
    (only_now : (c : List ℕ) → (device.tells old).left_since (device.tells old).moment c
    → (device.tells old).may_leave c)
    (durable : Only (device.tells old).file (device.tells old).may_leave)
    (is : IsJournalBy limits (device.tells old).file base) where
  abbrev taken : List Taken
  taken = is.trues.0

  here : (c : List ℕ) → (device.tells old).may_leave c → Same limits.cut taken c
  here c left = subst (Same limits.cut taken) (sym (durable c left)) (is.by_cut, is.trues.1)

  kept_now : KeepsVersionAndSnapshots (device.tells old) (device.tells new)
      → LeavesOnly (device.tells old) (device.tells new) (Same limits.cut taken)
  kept_now keeps =
      let a = device.tells old in let b = device.tells new in let v = is.by_cut.0 in
      weaker a b (λ c. HasVersion c v × HasTaken c taken) (Same limits.cut taken)
      (both_leave a b (λ c. HasVersion c v) (λ c. HasTaken c taken) (keeps.version v is.by_cut.1).any_moment
      (keeps.snapshots taken is.trues.1).any_moment)
      (λ c both. ((v, both.0, is.by_cut.2), both.1))

  pub same_meanwhile : Keeps device old new → LeavesOnly (device.tells old) (device.tells new) (Same limits.cut taken)
  same_meanwhile (inl same) =
      subst (λ (d : D). LeavesOnly (device.tells old) (device.tells d) (Same limits.cut taken)) (sym same)
      (started (device.tells old) (Same limits.cut taken) (λ c left. here c (only_now c left)))
  same_meanwhile (inr keeps) = kept_now keeps

  pub same_after : Keeps device old new → (c : List ℕ) → (device.tells new).may_leave c → Same limits.cut taken c
  same_after (inl same) c left = here c (subst (λ (d : D). (device.tells d).may_leave c) same left)
  same_after (inr keeps) c left = (
    (is.by_cut.0, (keeps.version is.by_cut.0 is.by_cut.1).kept c left, is.by_cut.2),
    (keeps.snapshots taken is.trues.1).kept c left,
  )
