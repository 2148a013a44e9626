-- A session that goes on by a turn has delivered what moved in the turn besides.
use Rattle.std.proofs.Common.{◌≡◌, inl, ℕ, Bool, true, false, List, [], ◌∷◌, ◌++◌, refl, ap, sym, ◌∙◌, arith}
use Rattle.std.proofs.Common.{append_assoc, append-nil, length-append}
use Rattle.std.specs.List.{flat_map, list_any}
use Rattle.venue_model.specs.Requests.{Limits}
use Rattle.ring_words.specs.At as ring
use Rattle.fix_orders.specs.Text.{Said}
use Rattle.gateway.specs.Answers.{Logon, Heartbeat, Logout}
use Rattle.gateway.specs.Standing.{Item, Answer, Output, is_logon, is_last, orderly, outputs_in, Standing, At}
use Rattle.gateway.specs.Ledgers.{Ledger}
use Rattle.wires.specs.Wires.{Told, grown}
use Rattle.gateway.specs.Turns.{world, Front, Moved, Takes, Turn}
use Rattle.gateway.specs.declared.ending.Turned.{Turned}
use Rattle.gateway.specs.Delivers.{Course, nothing_yet, further, Start, Delivers, Proceeds}
use Rattle.gateway.specs.Gateways.{AtRings, around}
use Rattle.gateway.specs.Seats.{ledger_of, StaysSeated, MayEnter, MayLook, Uses}
use Rattle.gateway.proofs.SeatLemmas.{seat_still, used}
use Rattle.gateway.proofs.Lists.{no_front}
use Rattle.wires.specs.WireLaws.{grown-append, grown-nil}

-- where no Logon stands among the items no output does
none_last : (items : List Item) → is_last items ≡ true → flat_map outputs_in items ≡ []
none_last [] last = refl
none_last (item ∷ items) last = cc

no_outputs : (items : List Item) → orderly false items ≡ true → list_any is_logon items ≡ false
    → flat_map outputs_in items ≡ []
no_outputs [] order off = refl
no_outputs (Answer (Logon time) ∷ items) order off = cc
no_outputs (Answer (Heartbeat time echo) ∷ items) order off = no_outputs items order off
no_outputs (Answer (Logout time text) ∷ items) order off = none_last items order
no_outputs (Output said ∷ items) order off = cc

-- so a client that isn't logged on was given none
pub none_given : (s : Standing) (input : List ℕ) (messages : List (List ℕ)) (outs : List Said) (written : List ℕ) →
    At s input messages outs written → s.logged_on ≡ false → outs ≡ []
none_given s input messages outs written at off =
    let spoken = at.spoken in
    sym spoken.says.handed ∙ no_outputs spoken.items spoken.says.order (sym spoken.logon ∙ off)

-- a session begins
pub begins : (front : Front) (wire : Told) (desk : Ledger) → At front.session [] [] [] [] → front.waiting ≡ [] →
    Delivers (record { desk = desk; wire = wire; passed = front.passed }) front wire desk nothing_yet
begins front wire desk at none = record {
  stands = at;
  published = sym (append-nil desk.published);
  missed = [];
  taken = sym (append-nil desk.taken);
  passed_over = omega arith;
  gave = sym (ap (grown wire.gave) none ∙ grown-nil wire.gave);
  took = sym (grown-nil wire.took);
}

module _ (start : Start) (old new : Front) (wire wire' : Told) (desk desk' : Ledger) (answer : Turned) (c : Course)
    (turn : Turn (world old wire desk) (world new wire' desk') answer) (so_far : Delivers start old wire desk c) where
  abbrev m : Moved
  m = turn.moved

  stands : At new.session (c.input ++ m.fed) (c.messages ++ m.messages) (c.outs ++ m.handed) (c.written ++ m.put)
  stands = turn.step.moves c.input c.messages c.outs c.written so_far.stands

  -- what the wire gave is what was fed and what waits
  gave : wire'.gave ≡ grown start.wire.gave ((c.input ++ m.fed) ++ new.waiting)
  gave = simp (turn.step.gave, so_far.gave, grown-append, append_assoc, ← turn.step.input)

  took : wire'.took ≡ grown start.wire.took (c.written ++ m.put)
  took = simp (turn.step.took, so_far.took, grown-append)

  published : desk'.published ≡ start.desk.published ++ (c.messages ++ m.messages)
  published = simp (turn.step.published, so_far.published, append_assoc)

  -- the outputs taken in the turn were given, or missed
  goes-on : (on : Bool) → new.session.logged_on ≡ on → Takes on old new desk desk' m.handed
      → Delivers start new wire' desk' (further c m)
  goes-on true on_is takes = record {
    stands = stands;
    published = published;
    missed = so_far.missed;
    taken = simp (takes.taken, so_far.taken, takes.given, append_assoc);
    passed_over = omega (arith, so_far.passed_over, takes.passed);
    gave = gave;
    took = took;
  }
  goes-on false off takes =
      let none = none_given new.session _ _ _ _ stands off in
      let none_before : c.outs ≡ [] = no_front c.outs m.handed none in record {
        stands = stands;
        published = published;
        missed = so_far.missed ++ takes.these;
        taken = simp (takes.taken, so_far.taken, takes.given, none_before, append-nil, append_assoc);
        passed_over = omega (arith, so_far.passed_over, takes.passed, length-append so_far.missed takes.these);
        gave = gave;
        took = took;
      }

  pub delivers : Delivers start new wire' desk' (further c m)
  delivers = goes-on new.session.logged_on refl turn.takes

-- a turn goes on with whatever was delivered before it
pub proceeds : (n : ℕ) (old new : AtRings) (wire wire' : Told) (answer : Turned)
    → Turn (around n old wire) (around n new wire') answer →
    Proceeds n old new wire wire' answer
proceeds n old new wire wire' answer turn = record {
  turn = turn;
  delivers = λ start c. delivers start old.front new.front wire wire' (ledger_of n old.seat) (ledger_of n new.seat)
      answer c turn;
}

-- What a turn comes to at a seat that was used for a try to publish, and then for a look.
pub turn-used : {n : ℕ} {self old new : AtRings} {wire wire' : Told} {answer : Turned} {s t : ring.At Limits}
    → old ≡ self → StaysSeated old.seat s → MayEnter n old.seat s → StaysSeated s t → MayLook s t → new.seat ≡ t
    → Turn (around n old wire) (world new.front wire' (ledger_of n t)) answer
    → record { turn : Proceeds n self new wire wire' answer; uses : Uses n self.seat new.seat }
turn-used is first enters next looks seat turn = rw (← is) (record {
  turn = proceeds _ _ _ _ _ _ (rw seat turn);
  uses = rw seat (used first enters next looks);
})

-- And at one that wasn't used.
pub turn-unused : {n : ℕ} {self old new : AtRings} {wire wire' : Told} {answer : Turned} → old ≡ self
    → new.seat ≡ old.seat → Turn (around n old wire) (world new.front wire' (ledger_of n old.seat)) answer
    → record { turn : Proceeds n self new wire wire' answer; uses : Uses n self.seat new.seat }
turn-unused {old = old} is seat turn =
    turn-used is (seat_still old.seat) (inl refl) (seat_still old.seat) (inl refl) seat turn
