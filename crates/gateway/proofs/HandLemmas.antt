-- What the part that takes an output comes to.
use Rattle.std.proofs.Common.{◌≡◌, ◌+◌, ◌^◌, ◌≤◌, true, false, List, [], ◌∷◌, ◌++◌}
use Rattle.std.proofs.Common.{refl, ap, arith, add-zero, append-nil, None}
use Rattle.fix_orders.specs.Text.{Said}
use Rattle.ring_words.specs.declared.view.Load.{Load}
use Rattle.ring_words.specs.Places.{marshalled}
use Rattle.ring_words.specs.Seats.{load_of}
use Rattle.gateway.specs.Ledgers.{Ledger, ledger_loading}
use Rattle.gateway.specs.SessionCalls.{saying}
use Rattle.gateway.specs.Turns.{Front, nothing_moved, Moves, Takes, farewell}
use Rattle.gateway.specs.TurnParts.{HandsOn, PassesOver}
use Rattle.gateway.proofs.FlushedTurns.{no_takes}
use Rattle.gateway.proofs.Standings.{at-handed}
use Rattle.gateway.proofs.StepLemmas.{moves-nothing}

-- an output is taken: the session says it, or it is passed over
module _ (old new : Front) (desk desk' : Ledger) (handed : List Said) (ls : List Load)
    (others : new ≡ record old { session = new.session; passed = new.passed }) (passed : new.passed ≤ old.passed + 1)
    (few : desk.count + 1 ≤ 2 ^ 62)
    (tells : desk' ≡ record (ledger_loading desk ls) { taken = desk'.taken; count = desk.count + 1 }) where
  more : desk'.count ≡ desk.count + 1
  more = ap (λ (l : Ledger). l.count) tells

  hands-so : Moves old.session new.session (record nothing_moved { handed = handed }) →
      Takes new.session.logged_on old new desk desk' handed → new.session.gateway ≡ old.session.gateway →
      (closing : new.session.closing ≡ old.session.closing) → new.session.accepted ≡ old.session.accepted →
      new.session.held ≡ old.session.held → new.session.number ≤ old.session.number + 1 →
      HandsOn old new desk desk' true
  hands-so moves takes gateway closing accepted held number = record {
    handed = handed;
    moves = moves;
    others = others;
    gateway = gateway;
    closing = closing;
    accepted = accepted;
    held = held;
    takes = takes;
    loaded = ls;
    ledger = rw tells;
    counts = λ counts. omega (arith, counts, more, ap farewell closing);
    passed_over = λ least. omega (arith, more);
    few = λ most. omega (arith, more);
    so = omega (arith, more);
  }

-- the output goes to a client that is logged on
pub hands-said : (old new : Front) (desk desk' : Ledger) (said : Said) (ls : List Load) → old.session.logged_on ≡ true
    → old.session.closing ≡ None →
    new.session ≡ saying said old.session → new ≡ record old { session = new.session } → desk.count + 1 ≤ 2 ^ 62 →
    desk' ≡ record (ledger_loading desk ls) { taken = desk.taken ++ said ∷ []; count = desk.count + 1 }
    → HandsOn old new desk desk' true
hands-said old new desk desk' said ls on is_open new_is others few tells =
    let same : new.passed ≡ old.passed = ap (λ (f : Front). f.passed) others in
    hands-so old new desk desk' (said ∷ []) ls (rw others) (omega arith) few (rw tells)
    (λ input messages outs written stands.
    rw new_is (simp append-nil (at-handed old.session input messages outs written said on is_open stands)))
    (record { these = said ∷ []; taken = rw tells; given = rw (new_is, on); passed = rw (new_is, on) (omega arith) })
    (rw new_is) (rw new_is) (rw new_is) (rw new_is) (rw new_is (omega arith))

-- the output goes to a client that isn't logged on
pub hands-unsaid : (old new : Front) (desk desk' : Ledger) (said : Said) (ls : List Load)
    → old.session.logged_on ≡ false →
    new ≡ record old { passed = old.passed + 1 } → desk.count + 1 ≤ 2 ^ 62 →
    desk' ≡ record (ledger_loading desk ls) { taken = desk.taken ++ said ∷ []; count = desk.count + 1 }
    → HandsOn old new desk desk' true
hands-unsaid old new desk desk' said ls off new_is few tells =
    hands-so old new desk desk' [] ls (rw new_is) (rw new_is (omega arith)) few (rw tells)
    (rw new_is (moves-nothing old.session))
    (record { these = said ∷ []; taken = rw tells; given = rw (new_is, off); passed = rw (new_is, off) })
    (rw new_is) (rw new_is) (rw new_is) (rw new_is) (rw new_is (omega arith))

-- the output goes to another's client
pub hands-other : (old : Front) (desk desk' : Ledger) (ls : List Load) → desk.count + 1 ≤ 2 ^ 62 →
    desk' ≡ record (ledger_loading desk ls) { count = desk.count + 1 } → HandsOn old old desk desk' true
hands-other old desk desk' ls few tells =
    hands-so old old desk desk' [] ls refl (omega arith) few (rw tells) (moves-nothing old.session)
    (no_takes old.session.logged_on old old desk desk' (rw tells) refl) refl refl refl refl (omega arith)

-- PASSING OVER

-- the output goes to another's client
pub passes-other : (old : Front) (desk desk' : Ledger) (ls : List Load)
    → desk' ≡ record (ledger_loading desk ls) { count = desk.count + 1 }
    → PassesOver old old desk desk' true
passes-other old desk desk' ls tells = record {
  these = [];
  taken = rw (tells, append-nil);
  passed = rw add-zero;
  loaded = ls;
  ledger = rw tells;
  so = rw tells;
}

-- there was none
pub passes-none : (old : Front) (desk desk' : Ledger) → desk' ≡ ledger_loading desk (load_of marshalled desk.count ∷ [])
    → PassesOver old old desk desk' false
passes-none old desk desk' tells = record {
  these = [];
  taken = rw (tells, append-nil);
  passed = rw add-zero;
  loaded = load_of marshalled desk.count ∷ [];
  ledger = rw tells;
  so = tells;
}
