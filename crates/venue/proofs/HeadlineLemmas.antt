-- What a crash leaves of a run, by the one history, and how one chooses a day for each member.
use Rattle.std.proofs.Common.{◌≡◌, ◌⊎◌, inl, inr, ⊎_elim, ℕ, zero, suc, ◌-◌, ◌<◌, ◌≤◌, List, [], ◌∷◌, ◌++◌, length}
use Rattle.std.proofs.Common.{take, drop}
use Rattle.std.proofs.Common.{refl, ap, sym, subst, ◌∙◌, arith, length-append}
use Rattle.std.proofs.lemmas.List.{length-take-le}
use mathlib.Core.Option.{some}
use lib.ListN.{get_elem?}
use Rattle.venue_model.specs.History.{History, Message}
use Rattle.venue_model.specs.ListLaws.{within, at_end, at_longer}
use Rattle.venue_model.specs.Requests.{Limits}
use Rattle.disks.specs.Disk.{Told, LeavesOnly}
use Rattle.disks.specs.MomentLaws.{joined, weaker}
use Rattle.journal.specs.Format.{IsJournal, HasCut, cut_of}
use Rattle.journal.specs.FormatLaws.{one-history, one-version}
use Rattle.journal.specs.Journals.{IsJournalFrom}
use Rattle.ring_words.specs.Ending.{IsBeginning}
use Rattle.ring_words.specs.declared.view.Person.{Person}
use Rattle.replay.proofs.Starting.{one-cut}
use Rattle.replay.proofs.Staying.{behind-more}
use Rattle.replay.specs.Starts.{HasTrueSnapshots}
use Rattle.replay.specs.StartsUp.{IsSameJournal, LeftOrSame, KeepsHistory, IsStarted}
use Rattle.stages.proofs.Finishing.{in_front, to_front}
use Rattle.stages.specs.Finishing.{Survives}
use Rattle.stages.specs.Processed.{entries_done}
use Rattle.gateway.proofs.ReportLemmas.{begins_with_rest}
use Rattle.venue.specs.CrashLaws.{front_is, kept_honest}
use Rattle.venue.specs.Crashes.{Behind}
use Rattle.venue.specs.Headline.{IsJournalBy, IsJournalOf, OfOneHistory, KeepsSame}
use Rattle.venue.proofs.KeepingLemmas.{Same}

-- Where there is one for each number below n, there is a list of them.
pub choose : {B : Type 0} (P : ℕ → B → Type 0) (n : ℕ) → ((i : ℕ) → i < n → (b : B) × P i b)
    → (bs : List B) × (length bs ≡ n) × ((i : ℕ) (b : B) → get_elem? bs i ≡ some b → P i b)
choose P zero each = ([], refl, λ i b there. absurd (let near = within [] i b there in omega (arith, near)))
choose P (suc n) each =
    let before = choose P n (λ i less. each i (omega (arith, less))) in
    let last = each n (omega arith) in
    let long = length-append before.0 (last.0 ∷ []) in let count = before.1 in (
      before.0 ++ last.0 ∷ [],
      omega (arith, long, count),
      λ i b there. ⊎_elim (λ inside. before.2 i b inside)
          (λ (end : (i ≡ length before.0) × (last.0 ≡ b)). let place : n ≡ i = let at = end.0 in
          omega (arith, at, count) in
          subst (λ c. P i c) end.1 (subst (λ (k : ℕ). P k last.0) place last.1))
          (at_end before.0 last.0 b i there),
    )

-- a beginning is no longer
pub begins_shorter : (h log : History) → IsBeginning h log → length h ≤ length log
begins_shorter h log begins =
    let rest = begins_with_rest h log begins in let whole = ap length rest in
    omega (arith, whole, length-append {A = Message})

-- what a crash might have left before, or the journal of a beginning of the log
abbrev pub LeftOrOf : Limits → Told → History → History → List ℕ → Type 0
LeftOrOf limits old base log file = old.may_leave file ⊎ IsJournalOf limits base log file

-- THE JOURNAL

-- what a start may have added to a journal of this history, with this cut
by_same : (old : List ℕ) (limits : Limits) (cut : ℕ) (base : History) (file : List ℕ) → HasCut old cut
    → IsJournal old base
    → IsSameJournal old limits file → IsJournalBy (record limits { cut = cut }) file base
by_same old limits cut base file by_cut journal same =
    let its_cut : same.added.cut ≡ cut = one-cut old same.added.cut cut same.added.by_cut by_cut in
    let its_own : same.added.history ≡ base = one-history old same.added.history base same.added.of_journal journal in
    record {
      journal = subst (IsJournal file) its_own same.added.either.0;
      by_cut = (by_cut.0, same.added.version by_cut.0 by_cut.1, by_cut.2);
      trues = subst (λ (n : ℕ). HasTrueSnapshots file (record limits { cut = n }) base) its_cut
          (subst (λ (h : History). HasTrueSnapshots file (record limits {
            cut =
                same.added.cut;
          }) h) its_own same.trues);
    }

-- nobody was served: the disk keeps its history
of_added : (old : List ℕ) (limits : Limits) (file : List ℕ) → IsSameJournal old limits file → OfOneHistory limits old file
of_added old limits file same = record {
  history = same.added.history;
  cut = same.added.cut;
  journal = same.added.of_journal;
  by_cut = same.added.by_cut;
  same = by_same old limits same.added.cut same.added.history file same.added.by_cut same.added.of_journal same;
}

pub kept_same : (was is : Type 0) (old new : Told) (limits : Limits) → KeepsHistory was is old new limits
    → KeepsSame limits was old new
kept_same was is old new limits (inl read) = record {
  file = λ there. inl (read.file there);
  meanwhile = λ there file left. inl ((read.any_moment.leaves there).each file left);
}
kept_same was is old new limits (inr added) = record {
  file = λ there. inr (of_added old.file limits new.file (added.file there));
  meanwhile = λ there file left. ⊎_elim inl (λ same. inr (of_added old.file limits file same))
      ((added.any_moment.leaves there).each file left);
}

-- A venue was started on a disk, and reads it by the cut of what stands there now.
module _ (was is : Type 0) (old mid : Told) (limits : Limits) (base : History) (cut : ℕ)
    (up : IsStarted was is old mid limits base)
    (by_cut : is → HasCut mid.file cut) (there : was) where
  abbrev limited : Limits
  limited = record limits { cut = cut }

  -- that is the cut of the file at the start
  by_keeping : KeepsHistory was is old mid limits → HasCut mid.file cut → HasCut old.file cut
  by_keeping (inl read) has = subst (λ (file : List ℕ). HasCut file cut) (read.file there) has
  by_keeping (inr added) (w, of_new, is_w) = let known = up.by_cut there in (
    known.0,
    known.1,
    is_w ∙ ap cut_of (one-version mid.file w known.0 of_new
        ((added.file there).added.version known.0 known.1)),
  )

  has_cut : HasCut old.file cut
  has_cut = by_keeping up.keeps (by_cut ((kept_honest was is old mid limits up.keeps).0 there))

  -- all snapshots were true
  pub started_by : IsJournalBy limited old.file base
  started_by = record {
    journal = up.history there;
    by_cut = has_cut;
    trues = subst (λ (n : ℕ). HasTrueSnapshots old.file (record limits { cut = n }) base)
        (one-cut old.file up.cut cut (up.by_cut there) has_cut)
        (up.adds.taken, up.adds.has there, up.adds.each);
  }

  still_by : KeepsHistory was is old mid limits → IsJournalBy limited mid.file base
  still_by (inl read) = subst (λ (file : List ℕ). IsJournalBy limited file base) (sym (read.file there)) started_by
  still_by (inr added) = by_same old.file limits cut base mid.file has_cut (up.history there) (added.file there)

  -- and are
  pub taken_up : IsJournalBy limited mid.file base
  taken_up = still_by up.keeps

  -- what a crash leaves of it meanwhile
  module _ (log : History) (begins : IsBeginning base log) where
    of_base : (file : List ℕ) → IsJournalBy limited file base → IsJournalOf limited base log file
    of_base file journal = record { history = base; journal = journal; begins = begins; behind = omega arith }

    kept_of : KeepsHistory was is old mid limits → LeavesOnly old mid (LeftOrOf limited old base log)
    kept_of (inl read) = weaker old mid old.may_leave (LeftOrOf limited old base log) (read.any_moment.leaves there)
        (λ c left. inl left)
    kept_of (inr added) = weaker old mid (LeftOrSame old limits) (LeftOrOf limited old base log)
        (added.any_moment.leaves there) (λ c same. ⊎_elim inl
        (λ it. inr (of_base c (by_same old.file limits cut base c has_cut (up.history there) it))) same)

    -- and of one over which members were served then
    pub served_of : (new : Told) → LeavesOnly mid new (IsJournalOf limited base log)
        → LeavesOnly old new (LeftOrOf limited old base log)
    served_of new served = joined old mid new (LeftOrOf limited old base log) (kept_of up.keeps)
        (weaker mid new (IsJournalOf limited base log) (LeftOrOf limited old base log) served (λ c it. inr it))

module _ (limits : Limits) (base log : History) (begins : IsBeginning base log) (old file : List ℕ)
    (is : IsJournalBy limits old base)
    (same : Same limits.cut is.trues.0 file) where
  -- a journal of more, with the snapshots that were there
  pub by_more : (more : History) → IsJournal file (base ++ more) → IsJournalBy limits file (base ++ more)
  by_more more journal = record {
    journal = journal;
    by_cut = same.0;
    trues = behind-more old file limits base more is.trues.0 is.journal is.trues.1 same.1 is.trues;
  }

  -- the journal of a beginning of what the journaller knows, with all that it had handed on
  pub of_from : (v w : Person) → length base ≤ v.sequence → Behind base w → IsBeginning w.seen log
      → IsJournalFrom v.sequence w.seen file → IsJournalOf limits base log file
  of_from v w kept behind known (k, least, most, journal) =
      let long = length-take-le k w.seen most in let front = front_is base w behind k (omega (arith, kept, least)) in
      record {
        history = take k w.seen;
        journal = subst (IsJournalBy limits file) (sym front) (by_more (take (k - length base) behind.rest)
            (subst (IsJournal file) front journal));
        begins = λ s e there. known s e (in_front k w.seen s e there);
        behind = omega (arith, kept, least, long);
      }

  -- what survives all seats' coming back
  abbrev pub of_survivor : (w : Person) → Behind base w → (survives : Survives log (entries_done w) file)
      → IsJournalOf limits base log file
  of_survivor w behind survives =
      let starts : IsBeginning base survives.history = λ s e there. survives.holds s e
      (to_front w.sequence w.seen s e (let near = within base s e there in let kept = behind.kept in
      omega (arith, near, kept))
      (subst (λ (h : History). get_elem? h s ≡ some e) (sym behind.seen) (at_longer base behind.rest s e there))) in
      let whole = begins_with_rest base survives.history starts in record {
        history = survives.history;
        journal = subst (IsJournalBy limits file) (sym whole)
            (by_more (drop (length base) survives.history) (subst (IsJournal file) whole survives.journal));
        begins = survives.begins;
        behind = begins_shorter base survives.history starts;
      }
