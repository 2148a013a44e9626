-- What happens between a member and the venue, as more happens.
use Rattle.std.proofs.Common.{◌≡◌, ℕ, ◌+◌, ◌≤◌, Bool, true, false, List, [], ◌∷◌, ◌++◌, length, map, take}
use Rattle.std.proofs.Common.{refl, ap, arith}
use Rattle.std.specs.List.{flat_map}
use Rattle.fix_orders.specs.Text.{Said}
use Rattle.venue_model.specs.History.{History}
use Rattle.venue_model.specs.Requests.{Limits}
use Rattle.gateway.specs.Visits.{Entry, Act, Enters, Gives, Misses, entered_by, given_by, missed_by, reports_by}
use Rattle.gateway.specs.Visits.{reports_for, NoneOvertakes}

-- a report goes to a client that is logged on, and else is passed over
abbrev pub reporting : Bool → Said → Act
reporting true said = Gives said
reporting false said = Misses said

pub reporting-reports : (on : Bool) (these : List Said) → flat_map reports_by (map (reporting on) these) ≡ these
reporting-reports on [] = refl
reporting-reports true (said ∷ these) = ap (λ l. said ∷ l) (reporting-reports true these)
reporting-reports false (said ∷ these) = ap (λ l. said ∷ l) (reporting-reports false these)

pub reporting-enters : (on : Bool) (these : List Said) → flat_map entered_by (map (reporting on) these) ≡ []
reporting-enters on [] = refl
reporting-enters true (said ∷ these) = reporting-enters true these
reporting-enters false (said ∷ these) = reporting-enters false these

pub giving-gives : (these : List Said) → flat_map given_by (map (reporting true) these) ≡ these
giving-gives [] = refl
giving-gives (said ∷ these) = ap (λ l. said ∷ l) (giving-gives these)

pub giving-misses : (these : List Said) → flat_map missed_by (map (reporting true) these) ≡ []
giving-misses [] = refl
giving-misses (said ∷ these) = giving-misses these

-- where nothing entered, was given or passed over, nothing happened
pub nothing_done : (acts : List Act) → flat_map entered_by acts ≡ [] → flat_map given_by acts ≡ []
    → flat_map missed_by acts ≡ [] → acts ≡ []
nothing_done [] unentered ungiven unmissed = refl
nothing_done (Enters entry ∷ acts) unentered ungiven unmissed = cc
nothing_done (Gives said ∷ acts) unentered ungiven unmissed = cc
nothing_done (Misses said ∷ acts) unentered ungiven unmissed = cc

module _ (k : ℕ) (limits : Limits) (base log : History) where
  pub behind-enters : (taken : ℕ) (acts : List Act) (entry : Entry) → NoneOvertakes k limits base log taken acts
      → taken + length (flat_map reports_by acts) ≤ length (reports_for k limits base (take entry.place log))
      → NoneOvertakes k limits base log taken (acts ++ Enters entry ∷ [])
  behind-enters taken [] entry behind few = (omega (arith, few), tt)
  behind-enters taken (Enters e ∷ acts) entry (first, rest) few = (first, behind-enters taken acts entry rest few)
  behind-enters taken (Gives said ∷ acts) entry rest few = behind-enters (taken + 1) acts entry rest
      (omega (arith, few))
  behind-enters taken (Misses said ∷ acts) entry rest few = behind-enters (taken + 1) acts entry rest
      (omega (arith, few))

  -- reports are behind whatever was before
  behind-reporting_next : (taken : ℕ) (on : Bool) (these : List Said) → NoneOvertakes k limits base log taken
      (map (reporting on) these)
  behind-reporting_next taken on [] = tt
  behind-reporting_next taken true (said ∷ these) = behind-reporting_next (taken + 1) true these
  behind-reporting_next taken false (said ∷ these) = behind-reporting_next (taken + 1) false these

  pub behind-reporting : (taken : ℕ) (acts : List Act) (on : Bool) (these : List Said)
      → NoneOvertakes k limits base log taken acts
      → NoneOvertakes k limits base log taken (acts ++ map (reporting on) these)
  behind-reporting taken [] on these behind = behind-reporting_next taken on these
  behind-reporting taken (Enters e ∷ acts) on these (first, rest) = (first, behind-reporting taken acts on these rest)
  behind-reporting taken (Gives said ∷ acts) on these rest = behind-reporting (taken + 1) acts on these rest
  behind-reporting taken (Misses said ∷ acts) on these rest = behind-reporting (taken + 1) acts on these rest
