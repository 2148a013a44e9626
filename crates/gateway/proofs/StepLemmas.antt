-- Steps of a turn, one after another.
use Rattle.std.proofs.Common.{◌≡◌, ℕ, List, ◌++◌, ap, sym, ◌∙◌, append_assoc, append-nil}
use Rattle.std.proofs.Common.{arith}
use Rattle.wires.specs.Wires.{Told, grown}
use Rattle.gateway.specs.Ledgers.{Ledger}
use Rattle.gateway.specs.Standing.{Standing}
use Rattle.gateway.specs.Turns.{TurnPlace, place, Moved, nothing_moved, Moves, Step, HandlesOne}
use Rattle.gateway.proofs.Standings.{at-flushed}
use Rattle.wires.specs.WireLaws.{grown-append, grown-nil}

-- what moves in two parts
abbrev pub both : Moved → Moved → Moved
both a b = record {
  fed = a.fed ++ b.fed;
  got = a.got ++ b.got;
  put = a.put ++ b.put;
  messages = a.messages ++ b.messages;
  handed = a.handed ++ b.handed;
}

pub moves-then : (a b c : Standing) (m n : Moved) → Moves a b m → Moves b c n → Moves a c (both m n)
moves-then a b c m n first second input messages outs written stands =
    simp append_assoc at (second (input ++ m.fed) (messages ++ m.messages) (outs ++ m.handed) (written ++ m.put)
    (first input messages outs written stands))

pub step-then : (a b c : TurnPlace) (m n : Moved) → Step a b m → Step b c n → Step a c (both m n)
step-then a b c m n first second = record {
  moves = moves-then a.session b.session c.session m n first.moves second.moves;
  input = rw (append_assoc, second.input, ← append_assoc, first.input, append_assoc);
  gave = rw (second.gave, first.gave) (grown-append a.wire.gave m.got n.got);
  took = rw (second.took, first.took) (grown-append a.wire.took m.put n.put);
  published = rw (second.published, first.published) (append_assoc a.desk.published m.messages n.messages);
  gateway = second.gateway ∙ first.gateway;
}

-- nothing moves where the session stays
pub moves-nothing : (s : Standing) → Moves s s nothing_moved
moves-nothing s input messages outs written stands = simp append-nil stands

-- where as many messages are accepted as before, no frame is handled
pub handles-none : (old new : Standing) → new.accepted ≡ old.accepted → HandlesOne old new
handles-none old new same = record { accepts = omega arith; closes = λ is_open closes. same }

-- what comes before and behind handles no frame, nor closes the session
pub handles-between : (a b c d : Standing) → b.accepted ≡ a.accepted → b.closing ≡ a.closing → d.accepted ≡ c.accepted
    → d.closing ≡ c.closing → HandlesOne b c → HandlesOne a d
handles-between a b c d before as_open behind as_closed one = record {
  accepts = let most = one.accepts in omega (arith, before, behind, most);
  closes = λ is_open closes. behind
      ∙ one.closes (as_open ∙ is_open) (λ still_open. closes (as_closed ∙ still_open)) ∙ before;
}

-- bytes go out
pub flush-step : (old new : Standing) (waiting put : List ℕ) (wire wire' : Told) (desk : Ledger) →
    old.outgoing ≡ put ++ new.outgoing → new ≡ record old { outgoing = new.outgoing } →
    wire'.gave ≡ wire.gave → wire'.took ≡ grown wire.took put →
    Step (place old waiting wire desk) (place new waiting wire' desk) (record nothing_moved { put = put })
flush-step old new waiting put wire wire' desk split new_is gave took = record {
  moves = λ input messages outs written stands.
      rw new_is (simp append-nil (at-flushed old input messages outs written put new.outgoing split stands));
  input = sym (append-nil waiting);
  gave = gave ∙ sym (grown-nil wire.gave);
  took = took;
  published = sym (append-nil desk.published);
  gateway = ap (λ (s : Standing). s.gateway) new_is;
}
