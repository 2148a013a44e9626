-- A visit goes on by a turn of its session.
use Rattle.std.proofs.Common.{◌≡◌, ℕ, Bool, false, List, [], ◌∷◌, ◌++◌, map, refl, ap, sym}
use Rattle.std.proofs.Common.{◌∙◌, append_assoc}
use Rattle.std.specs.List.{flat_map}
use Rattle.std.proofs.lemmas.List.{map-append}
use Rattle.std.proofs.lemmas.Grind.{flat_map-append}
use Rattle.fix_orders.specs.Text.{Said}
use Rattle.gateway.specs.Standing.{Standing, At}
use Rattle.gateway.specs.Turns.{World, Front, Moved, Turn}
use Rattle.gateway.specs.declared.ending.Turned.{Turned}
use Rattle.gateway.specs.Visits.{Entry, Act, entered_by, given_by, missed_by, Visit, IsVisit}
use Rattle.gateway.proofs.DeliversLemmas.{none_given}
use Rattle.gateway.proofs.LogonLemmas.{none_published}
use Rattle.gateway.proofs.ActLemmas.{nothing_done}
use Rattle.wires.specs.Wires.{Told, grown}
use Rattle.wires.specs.WireLaws.{grown-append}

-- the visit that a session and its wire make up, so far
pub record Fits (k : ℕ) (front : Front) (wire : Told) (v : Visit) : Type 0 where
  pub visit : IsVisit k v
  pub session : visit.session ≡ front.session
  pub unheard : v.unheard ≡ front.waiting
  pub gone : v.gone ≡ wire

abbrev pub bytes_of : List Act → List (List ℕ)
bytes_of acts = map (λ (e : Entry). e.bytes) (flat_map entered_by acts)

pub bytes-append : (acts more : List Act) → bytes_of (acts ++ more) ≡ bytes_of acts ++ bytes_of more
bytes-append acts more = rw (flat_map-append, map-append)

nothing_mapped : (es : List Entry) → map (λ (e : Entry). e.bytes) es ≡ [] → es ≡ []
nothing_mapped [] is = refl
nothing_mapped (e ∷ es) is = cc

module _ (k : ℕ) (old new : World) (answer : Turned) (turn : Turn old new answer) (v : Visit)
    (fits : Fits k old.front old.wire v) where
  abbrev m : Moved
  m = turn.moved

  -- the visit with what moved in the turn, behind which its wire was told whether to rest
  abbrev pub next_visit : Bool → List Said → List Act → Visit
  next_visit quiet missed acts = record {
    came = v.came;
    gone = record new.wire { quiet = quiet };
    heard = v.heard ++ m.fed;
    unheard = new.front.waiting;
    missed = missed;
    acts = acts;
    written = v.written ++ m.put;
  }

  moves : At new.front.session (v.heard ++ m.fed) (bytes_of v.acts ++ m.messages) (flat_map given_by v.acts ++ m.handed)
      (v.written ++ m.put)
  moves = turn.step.moves v.heard (bytes_of v.acts) (flat_map given_by v.acts) v.written
      (rw fits.session at fits.visit.stands)

  gave : new.wire.gave ≡ grown v.came.gave ((v.heard ++ m.fed) ++ new.front.waiting)
  gave =
      simp (turn.step.gave, ← fits.gone, fits.visit.gave, grown-append, append_assoc, fits.unheard, ← turn.step.input)

  took : new.wire.took ≡ grown v.came.took (v.written ++ m.put)
  took = simp (turn.step.took, ← fits.gone, fits.visit.took, grown-append)

  next_stands : (more : List Act) → m.messages ≡ bytes_of more → m.handed ≡ flat_map given_by more
      → At new.front.session (v.heard ++ m.fed) (bytes_of (v.acts ++ more)) (flat_map given_by (v.acts ++ more))
      (v.written ++ m.put)
  next_stands more messages handed =
      rw (bytes-append v.acts more, flat_map-append given_by v.acts more) (simp (messages, handed) at moves)

  next_unmissed : (more : List Act) → flat_map missed_by more ≡ [] → flat_map missed_by (v.acts ++ more) ≡ []
  next_unmissed more unmissed = rw (flat_map-append, fits.visit.none_missed) unmissed

  -- with more acts that enter the messages published, give what was handed on, and pass nothing over
  pub next_fits : (quiet : Bool) (missed : List Said) (more : List Act) → m.messages ≡ bytes_of more → m.handed
      ≡ flat_map given_by more
      → flat_map missed_by more ≡ [] → Fits k new.front (record new.wire { quiet = quiet })
      (next_visit quiet missed (v.acts ++ more))
  next_fits quiet missed more messages handed unmissed = record {
    visit = record {
      gave = gave;
      took = took;
      session = new.front.session;
      member = turn.step.gateway ∙ ap (λ (s : Standing). s.gateway) (sym fits.session) ∙ fits.visit.member;
      stands = next_stands more messages handed;
      none_missed = next_unmissed more unmissed;
    };
    session = refl;
    unheard = refl;
    gone = refl;
  }

  -- where nobody is logged on behind the turn, nothing happened yet but that reports were passed over
  pub none_yet : (more : List Act) → m.messages ≡ bytes_of more → m.handed ≡ flat_map given_by more
      → flat_map missed_by more ≡ []
      → new.front.session.logged_on ≡ false → v.acts ++ more ≡ []
  none_yet more messages handed unmissed off =
      let acts = v.acts ++ more in
      let stands = next_stands more messages handed in
      nothing_done acts
      (nothing_mapped (flat_map entered_by acts) (none_published new.front.session _ _ _ _ stands off))
      (none_given new.front.session _ _ _ _ stands off)
      (next_unmissed more unmissed)
