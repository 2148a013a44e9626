-- What one turn of a member does: its gateway's turn, a client that leaves or has left, and one that comes in.
use Rattle.std.proofs.Common.{◌≡◌, ◌↔◌, ℕ, Bool, true, false, not, List, [], ◌∷◌, Option, Some, None, inl, inr}
use Rattle.std.proofs.Common.{refl, ap, sym, subst, ◌∙◌, append-nil}
use Rattle.std.specs.Prelude.{IfSome, option_to_list}
use Rattle.venue_model.specs.Requests.{Limits}
use Rattle.ring_words.specs.At.{Opened}
use Rattle.venue.specs.Accepting.{Accepting, Admits, TakesTurn}
use Rattle.venue.specs.AcceptingLaws.{still, one_step}
use Rattle.gateway.specs.Gateways.{AtRings}
use Rattle.gateway.specs.declared.ending.Turned.{Turned}
use Rattle.gateway.specs.declared.ending.Turned.TheVariants.{Quiet}
use Rattle.venue.specs.Leaving.{LeavesOn, LeaveOn, IsSeenOff}
use Rattle.venue.specs.declared.leaving.Leaving as leaving
use Rattle.venue.specs.declared.visitor.Visitor.{Visitor}
use Rattle.venue.specs.declared.visitor.Visitor.TheVariants.{Nobody, There, Leaving}
use Rattle.venue.specs.Trading.{AtPort, TookTurn, TradesOn}
use Rattle.venue.specs.TradingLaws.{all_stay, more-nil, more_turns, no_turn}
use Rattle.venue.specs.Turning.{IsAtRest, SendsOn, SentOn, outcome_at}
use Rattle.venue.specs.Visiting.{HasTurn, SeesOff, at_gateway, is_here, leaver, told_leaver}
use Rattle.wires.specs.Ports.{Register, with_more}
use Rattle.wires.specs.Wires.{Told}

-- a member with this client, with the one that leaves, and with this port
abbrev pub at_door : Accepting → Option Told → Register → AtPort
at_door served leaving register = record { served = served; leaving = leaving; register = register }

-- The gateway took its turn, behind which a client leaves from now on, or none does.
module _ (rings : Opened Limits) (old new : Accepting) (turned : Turned) (register : Register)
    (role : new.gateway.seat.who.role ≡ old.gateway.seat.who.role) where
  turn_taken : (leaving : Option Told) → TakesTurn 1024 old new turned None
      → TradesOn rings (at_door old leaving register) rings (at_door new leaving register)
  turn_taken leaving takes = record {
    rings_are = refl;
    role = role;
    came = [];
    ended = [];
    gone = [];
    attends = one_step 1024 old new [] [] (inl (turned, None, takes, refl, refl));
    number = refl;
    is_open = refl;
    handed_out = sym (more-nil register.came);
    given_back = sym (more-nil register.gone);
    leave = subst (λ (l : List Told). LeaveOn l (option_to_list leaving)) (sym (append-nil (option_to_list leaving)))
        (all_stay (option_to_list leaving));
  }

  session_ended : (told : Told) → TakesTurn 1024 old new turned (Some told)
      → TradesOn rings (at_door old None register) rings (at_door new (Some told) register)
  session_ended told takes = record {
    rings_are = refl;
    role = role;
    came = [];
    ended = told ∷ [];
    gone = [];
    attends = one_step 1024 old new [] (told ∷ []) (inl (turned, Some told, takes, refl, refl));
    number = refl;
    is_open = refl;
    handed_out = sym (more-nil register.came);
    given_back = sym (more-nil register.gone);
    leave = all_stay (told ∷ []);
  }

  pub has_turned : (leaving after : Option Told) → HasTurn old new leaving after turned
      → TradesOn rings (at_door old leaving register) rings (at_door new after register)
  has_turned leaving after (inl (takes, same)) = rw same (turn_taken leaving takes)
  has_turned leaving after (inr (told, takes, none, is)) = rw (none, is) (session_ended told takes)

pub took_turn : (old new : Accepting) (turned : Turned) (leaving after : Option Told) (moved : Bool)
    → HasTurn old new leaving after turned → (moved ≡ false ↔ turned ≡ Quiet) → TookTurn old new moved
took_turn old new turned leaving after moved (inl (takes, same)) is = (turned, None, takes, is)
took_turn old new turned leaving after moved (inr (told, takes, none, same)) is = (turned, Some told, takes, is)

-- The client that leaves is still waited for.
waited_for : (rings : Opened Limits) (a : Accepting) (before behind : Told) (register : Register)
    → LeavesOn before behind
    → TradesOn rings (at_door a (Some before) register) rings (at_door a (Some behind) register)
waited_for rings a before behind register leaves = record {
  rings_are = refl;
  role = refl;
  came = [];
  ended = [];
  gone = [];
  attends = still 1024 a;
  number = refl;
  is_open = refl;
  handed_out = sym (more-nil register.came);
  given_back = sym (more-nil register.gone);
  leave = (leaves, tt);
}

-- It has left.
has_left : (rings : Opened Limits) (a : Accepting) (before behind : Told) (register after : Register)
    → LeavesOn before behind
    → after ≡ record register { gone = with_more register.gone (behind ∷ []); out = false }
    → TradesOn rings (at_door a (Some before) register) rings (at_door a None after)
has_left rings a before behind register after leaves is = record {
  rings_are = refl;
  role = refl;
  came = [];
  ended = [];
  gone = behind ∷ [];
  attends = still 1024 a;
  number = ap (λ (r : Register). r.number) is;
  is_open = ap (λ (r : Register). r.is_open) is;
  handed_out = ap (λ (r : Register). r.came) is ∙ sym (more-nil register.came);
  given_back = ap (λ (r : Register). r.gone) is;
  leave = (leaves, tt);
}

-- Who leaves was gone on with, and has left or not.
module _ {W : Type 0} (tells : W → Told) (flushed shuts : W → W → Type 0) (rings : Opened Limits)
    (gateway : AtRings) where
  -- what that comes to
  pub record SeesSo (old new : Visitor W) (register after : Register) (here : Bool) : Type 0 where
    pub goes : TradesOn rings (at_door (at_gateway tells gateway old) (told_leaver tells old) register) rings
        (at_door (at_gateway tells gateway new) (told_leaver tells new) after)
    pub off : IsSeenOff tells flushed shuts (leaver old) (leaver new)
    pub same : at_gateway tells gateway new ≡ at_gateway tells gateway old
    pub here_is : is_here new ≡ here

  pub still_here : (old new : Visitor W) (register : Register) → SeesOff tells flushed shuts old new None
      → SeesSo old new register register (is_here old)
  still_here Nobody new register (is, none) =
      rw is (record { goes = no_turn rings _; off = refl; same = refl; here_is = refl })
  still_here (There wire) new register (is, none) =
      rw is (record { goes = no_turn rings _; off = refl; same = refl; here_is = refl })
  still_here (Leaving client) new register (later, is, goes) = rw is (record {
    goes = waited_for rings _ _ _ register goes.leaves;
    off = goes;
    same = refl;
    here_is = refl;
  })

  pub is_gone : (old new : Visitor W) (wire : W) (register after : Register)
      → SeesOff tells flushed shuts old new (Some wire)
      → after ≡ record register { gone = with_more register.gone (tells wire ∷ []); out = false }
      → SeesSo old new register after false
  is_gone Nobody new wire register after (is, none) back = absurd (cc none)
  is_gone (There other) new wire register after (is, none) back = absurd (cc none)
  is_gone (Leaving client) new wire register after (last, is, its, goes) back = rw is (record {
    goes = has_left rings _ _ _ register after goes.leaves (rw (← its) back);
    off = (last, goes);
    same = refl;
    here_is = refl;
  })

-- A client came in.
pub has_come : (rings : Opened Limits) (old new : Accepting) (told : Told) (register after : Register)
    → Admits old told new
    → after ≡ record register { came = with_more register.came (told ∷ []); out = true }
    → TradesOn rings (at_door old None register) rings (at_door new None after)
has_come rings old new told register after admits is = record {
  rings_are = refl;
  role = ap (λ (a : Accepting). a.gateway.seat.who.role) admits.1;
  came = told ∷ [];
  ended = [];
  gone = [];
  attends = one_step 1024 old new (told ∷ []) [] (inr (told, admits, refl, refl));
  number = ap (λ (r : Register). r.number) is;
  is_open = ap (λ (r : Register). r.is_open) is;
  handed_out = ap (λ (r : Register). r.came) is;
  given_back = ap (λ (r : Register). r.gone) is ∙ sym (more-nil register.gone);
  leave = tt;
}

-- where nobody is there
pub nobody_is : {W : Type 0} (visitor : Visitor W) → true ≡ not (is_here visitor) → visitor ≡ Nobody
nobody_is Nobody is = refl
nobody_is (There wire) is = cc
nobody_is (Leaving client) is = cc

-- Who left before a turn is the one who is seen off in it.
seen_off : {W : Type 0} (tells : W → Told) (flushed shuts : W → W → Type 0)
    (old mid now new : Option (leaving.Leaving W)) → IfSome old (λ client. mid ≡ Some client) → now ≡ mid
    → IsSeenOff tells flushed shuts now new → IfSome old (λ client. IsSeenOff tells flushed shuts (Some client) new)
seen_off tells flushed shuts None mid now new is same off = tt
seen_off tells flushed shuts (Some client) mid now new is same off =
    subst (λ (l : Option (leaving.Leaving _)). IsSeenOff tells flushed shuts l new) (same ∙ is) off

-- The gateway took its turn, behind which the member was tended, and who left was seen off.
module _ {W : Type 0} {tells : W → Told} {flushed : W → W → Type 0} (shuts : W → W → Type 0)
    (l0 l3 : Option (leaving.Leaving W)) {l1 l2 : Option (leaving.Leaving W)} {t0 t1 t2 t3 : ℕ}
    {r0 r1 r2 r3 : Opened Limits} {old mid now new : AtPort} {moved : Bool} {wanted : Type 0}
    (turn : record {
      goes : TradesOn r0 old r1 mid;
      took : TookTurn old.served mid.served moved;
      leaver : IfSome l0 (λ client. l1 ≡ Some client);
      turns : t1 ≡ t0;
    }) (tended : record {
      rings : r2 ≡ r1;
      same : now ≡ mid;
      leaver : l2 ≡ l1;
      sends : SendsOn tells flushed t1 t2 now.served.wire;
      wanted : wanted;
    }) (seen : record {
      goes : TradesOn r2 now r3 new;
      off : IsSeenOff tells flushed shuts l2 l3;
      same : new.served ≡ now.served;
      turns : t3 ≡ t2;
    }) where
  -- what that comes to, and what was done at the door behind it
  abbrev Attends : Opened Limits → AtPort → Option (leaving.Leaving W) → ℕ → Type 0 → Bool → Type 0
  Attends r last l t looked result = record {
    goes : TradesOn r0 old r last;
    turn : result ≡ false → TookTurn old.served last.served false;
    sent : SentOn tells flushed old.served t0 t;
    off : IfSome l0 (λ client. IsSeenOff tells flushed shuts (Some client) l);
    looked : looked;
  }

  went : TradesOn r0 old r3 new
  went = more_turns _ _ _ _ _ _ turn.goes (subst (λ (r : Opened Limits). TradesOn r mid r3 new) tended.rings
      (subst (λ (a : AtPort). TradesOn r2 a r3 new) tended.same seen.goes))

  took_none : moved ≡ false → TookTurn old.served new.served false
  took_none none = rw (seen.same, tended.same) (rw none at turn.took)

  sent : (t : ℕ) → t ≡ t3 → SentOn tells flushed old.served t0 t
  sent t same_turns = record {
    behind = mid.served;
    moved = moved;
    took = turn.took;
    sends = rw (same_turns, seen.turns, ← turn.turns, ← tended.same) tended.sends;
  }

  gone_on : IfSome l0 (λ client. IsSeenOff tells flushed shuts (Some client) l3)
  gone_on = seen_off tells flushed shuts l0 l1 l2 l3 turn.leaver tended.leaver seen.off

  -- nobody may come
  pub attends_alone : (looked : Type 0) (result : Bool) → (result ≡ false → moved ≡ false) → looked
      → Attends r3 new l3 t3 looked result
  attends_alone looked result quiet look = record {
    goes = went;
    turn = λ is. took_none (quiet is);
    sent = sent t3 refl;
    off = gone_on;
    looked = look;
  }

  -- or one may, behind that
  pub attends_and_admits : {r4 : Opened Limits} {last : AtPort} {l4 : Option (leaving.Leaving W)} {t4 : ℕ}
      {came : Type 0} (looked : Type 0) (come result : Bool) → (result ≡ false → (moved ≡ false) × (come ≡ false))
      → record {
        goes : TradesOn r3 new r4 last;
        leaver : l4 ≡ l3;
        turns : t4 ≡ t3;
        none : come ≡ false → last.served ≡ new.served;
        looked : came;
      } → (came → looked) → Attends r4 last l4 t4 looked result
  attends_and_admits {t4 = t4} looked come result quiet admits look = record {
    goes = more_turns _ _ _ _ _ _ went admits.goes;
    turn = λ is. rw (admits.none (quiet is).1) (took_none (quiet is).0);
    sent = sent t4 admits.turns;
    off = rw admits.leaver gone_on;
    looked = look admits.looked;
  }

-- Where its thread rests behind a turn, nothing moved in it.
pub rest_is_quiet : (held moved pressed wanted : Bool) → IsAtRest (outcome_at held moved pressed wanted) → moved ≡ false
rest_is_quiet true true pressed wanted rests = absurd rests
rest_is_quiet false true pressed wanted rests = absurd rests
rest_is_quiet held false pressed wanted rests = refl
