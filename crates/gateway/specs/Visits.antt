-- What can be seen of a member from outside: its clients, one behind the other, what each of them sent and was sent, and how that stands to the one history.
use Rattle.std.specs.Prelude.{◌≡◌, ℕ, ◌+◌, ◌≤◌, ◌==◌, if◌then◌else◌, ⊤, List, [], ◌∷◌, ◌++◌, length, map, take, drop, Option, Some, None}
use Rattle.std.specs.List.{flat_map, AllByRecursion}
use Rattle.fix_orders.specs.Text.{Said}
use Rattle.venue_model.specs.History.{History}
use Rattle.venue_model.specs.Requests.{Limits}
use Rattle.book.specs.Histories.{outputs_of}
use Rattle.gateway.specs.Seats.{texts_to}
use Rattle.gateway.specs.Standing.{Standing, At}
use Rattle.wires.specs.Wires.{Told, grown}

-- a message and its place in the history
pub record Entry : Type 0 where
  pub place : ℕ
  pub bytes : List ℕ

-- what happens between a member's session and the venue
pub data Act : Type 0 where
  -- a message of the client entered the history
  Enters : Entry → Act
  -- a report for the client was given to it
  Gives : Said → Act
  -- a report for the client was passed over, since none was logged on
  Misses : Said → Act

abbrev pub entered_by : Act → List Entry
entered_by (Enters entry) = entry ∷ []
entered_by (Gives said) = []
entered_by (Misses said) = []

abbrev pub given_by : Act → List Said
given_by (Enters entry) = []
given_by (Gives said) = said ∷ []
given_by (Misses said) = []

abbrev pub missed_by : Act → List Said
missed_by (Enters entry) = []
missed_by (Gives said) = []
missed_by (Misses said) = said ∷ []

-- given or passed over
abbrev pub reports_by : Act → List Said
reports_by (Enters entry) = []
reports_by (Gives said) = said ∷ []
reports_by (Misses said) = said ∷ []

-- One client, from its coming to the end of its session: what its wire told then and now; the bytes that the session heard of it, and those that came but
-- weren't heard any more; the reports passed over until it was logged on; what happened then, in this order; and the bytes that were written to it.
pub record Visit : Type 0 where
  pub came : Told
  pub gone : Told
  pub heard : List ℕ
  pub unheard : List ℕ
  pub missed : List Said
  pub acts : List Act
  pub written : List ℕ

-- Over the wire came just those bytes, and over it went just those; and the session of member k's client is what the profile makes of them: of the bytes
-- heard the messages published, and of these and the reports given the bytes written (docs/PROFILE.md, "Session"). Once one of its messages entered or a
-- report was given to it, no report is passed over.
pub record IsVisit (k : ℕ) (v : Visit) : Type 0 where
  pub gave : v.gone.gave ≡ grown v.came.gave (v.heard ++ v.unheard)
  pub took : v.gone.took ≡ grown v.came.took v.written
  pub session : Standing
  pub member : session.gateway ≡ k
  pub stands : At session v.heard (map (λ e. e.bytes) (flat_map entered_by v.acts)) (flat_map given_by v.acts) v.written
  pub none_missed : flat_map missed_by v.acts ≡ []

-- all that happened between a member and the venue: reports passed over before a client came, what happened while it was there, and so on, and those
-- passed over behind the last one
pub data DayPart : Type 0 where
  Away : List Said → DayPart
  There : Visit → DayPart

abbrev pub acts_in : DayPart → List Act
acts_in (Away missed) = map Misses missed
acts_in (There visit) = map Misses visit.missed ++ visit.acts

abbrev pub visits_in : DayPart → List Visit
visits_in (Away missed) = []
visits_in (There visit) = visit ∷ []

-- what the wires of all clients told as they came, and what they tell in the end
abbrev pub came_in : List DayPart → List Told
came_in parts = map (λ v. v.came) (flat_map visits_in parts)

abbrev pub gone_in : List DayPart → List Told
gone_in parts = map (λ v. v.gone) (flat_map visits_in parts)

-- a client that is still there is the last one, and nothing was passed over behind it
abbrev pub StillThere : Option Told → List DayPart → Type 0
StillThere None parts = ⊤
StillThere (Some wire) parts = (before : List DayPart) × (visit : Visit) × (parts ≡ before ++ There visit ∷ [])

-- the reports for member k of this history, behind those of the history at the start, in their order
abbrev pub reports_for : ℕ → Limits → History → History → List Said
reports_for k limits base h = texts_to k (length (outputs_of limits base)) (drop (length (outputs_of limits base)) (outputs_of limits h))

-- these come first, in their order, and others may follow
abbrev pub IsFirstOf : List Said → List Said → Type 0
IsFirstOf first all = (later : List Said) × (first ++ later ≡ all)

-- the messages of member k among these, the first of which has this place
abbrev pub own_entries : ℕ → ℕ → History → List Entry
own_entries k place [] = []
own_entries k place (m ∷ ms) =
    if m.gateway == k then record { place = place; bytes = m.bytes } ∷ own_entries k (place + 1) ms else own_entries k (place + 1) ms

-- each message stands in the history behind all that brought about the reports that were taken before it; so many were taken so far
abbrev pub NoneOvertakes : ℕ → Limits → History → History → ℕ → List Act → Type 0
NoneOvertakes k limits base log taken [] = ⊤
NoneOvertakes k limits base log taken (Enters entry ∷ acts) =
    (taken ≤ length (reports_for k limits base (take entry.place log))) × NoneOvertakes k limits base log taken acts
NoneOvertakes k limits base log taken (Gives said ∷ acts) = NoneOvertakes k limits base log (taken + 1) acts
NoneOvertakes k limits base log taken (Misses said ∷ acts) = NoneOvertakes k limits base log (taken + 1) acts

-- Member k was served so, behind the history at the start: its clients' messages are the ones of the whole history that are its own, all of them, in their
-- order; the reports that were given or passed over are the first of those for it, in their order, none left out; and no message overtook a report. What
-- neither history nor bytes put in order, as a Logon and a report passed over, may be told in another order than it happened.
pub record WasServed (k : ℕ) (limits : Limits) (base log : History) (parts : List DayPart) : Type 0 where
  pub visits : AllByRecursion (IsVisit k) (flat_map visits_in parts)
  pub entered : flat_map entered_by (flat_map acts_in parts) ≡ own_entries k (length base) (drop (length base) log)
  pub reports : IsFirstOf (flat_map reports_by (flat_map acts_in parts)) (reports_for k limits base log)
  pub behind : NoneOvertakes k limits base log 0 (flat_map acts_in parts)
