-- From the file that is opened to what a crash leaves of it while the program serves.
use Rattle.std.proofs.Common.{◌≡◌, ◌⊎◌, inl, inr, ⊎_elim, Bool, true, false, List, [], ◌++◌, ℕ, Option, Some, None}
use Rattle.std.proofs.Common.{◌∷◌, ◌+◌, ◌<◌, refl, ap, sym, subst, ◌∙◌, map, take, length, get_or}
use Rattle.std.proofs.lemmas.List.{take_more, map-append}
use Rattle.venue_model.specs.History.{History}
use Rattle.venue_model.specs.Requests.{Limits}
use Rattle.disks.specs.Disk.{Told, OnlyRead}
use Rattle.disks.specs.MomentLaws.{started}
use Rattle.venue.specs.Headline.{KeepsSame}
use Rattle.journal.specs.Format.{IsJournal}
use Rattle.disks.specs.Places.{Place, IsLeft}
use Rattle.journal.specs.Openings.{Opens}
use Rattle.running.specs.Running.{StandsFrom, Runs}
use Rattle.venue.specs.Serving.{LeavesFrom}
use Rattle.venue.specs.Venues.{IsJournalBehind}

module _ (old new : Place) (honest : Type 0) (file : Told) (opens : Opens old new honest file) where
  -- what might have been left of the file that was opened, or a journal behind its history
  stands : (c : List ℕ) → file.may_leave c ⊎ ((base : History) × IsJournal file.file base × IsJournalBehind base c)
      → StandsFrom old c
  stands c left = at old.there refl
    where
      at : (there : Bool) → old.there ≡ there → StandsFrom old c
      at true is = let was = opens.existing is in
          inl (
            is,
            ⊎_elim (λ may. inl (was.as_it_was c may))
                (λ more. inr (more.0, subst (λ f. IsJournal f more.0) (sym was.names.same) more.1, more.2)) left,
          )
      at false is = let made = opens.made is in
          inr (
            is,
            ⊎_elim (λ may. ([], subst (λ f. IsJournal f []) (sym (made.1 c may)) made.0.0))
                (λ more. (more.0 ++ more.2.0, more.2.1)) left,
          )

  name_stands : (o : Option (List ℕ)) → new.may_leave o → IsLeft (StandsFrom old) o
  name_stands None now = absurd (opens.under None now)
  name_stands (Some c) now = stands c (inl (opens.under (Some c) now))

  pub runs : (after : Told) → LeavesFrom file after → Runs old new after
  runs after served =
      record {
        opened = file.moment;
        later = served.later;
        file = λ c left. stands c (served.each c left);
        name = name_stands;
      }

-- one more of these was mapped
pub mapped_on : {A B : Type 0} (f : A → B) (xs before after : List A) (i : ℕ) (x w : A) → i < length xs
    → after ≡ before ++ x ∷ [] → f x ≡ f w → w ≡ get_or xs i w → map f before ≡ map f (take i xs) → map f after ≡ map f (take (i + 1) xs)
mapped_on f xs before after i x w within grown same is so_far =
    ap (map f) grown ∙ map-append f before (x ∷ []) ∙ ap (λ l. l ++ f x ∷ []) so_far
    ∙ ap (λ y. map f (take i xs) ++ y ∷ []) (same ∙ ap f is)
    ∙ sym (ap (map f) (take_more xs i w within) ∙ map-append f (take i xs) (get_or xs i w ∷ []))

-- a disk of which nothing was asked was only read, and keeps its history
module _ (honest : Type 0) (told : Told)
    (now : (c : List ℕ) → honest → told.left_since told.moment c → told.may_leave c) where
  pub unasked : OnlyRead honest honest told told
  unasked = record {
    any_moment =
        record { honest = (λ h. h, λ h. h); leaves = λ h. started told told.may_leave (λ c left. now c h left) };
    file = λ h. refl;
  }

  pub unasked_same : (limits : Limits) → KeepsSame limits honest told told
  unasked_same limits = record { file = λ h. inl refl; meanwhile = λ h c left. inl (now c h left) }

  pub unasked_leaves : honest → LeavesFrom told told
  unasked_leaves h = started told _ (λ c left. inl (now c h left))
