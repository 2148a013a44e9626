-- What the parts that hear come to.
use Rattle.std.proofs.Common.{◌≡◌, ◌≢◌, ◌⊎◌, inl, inr, ℕ, zero, suc, ◌+◌, ◌^◌, ◌≤◌, false, List, [], ◌∷◌, ◌++◌}
use Rattle.std.proofs.Common.{length, take, drop, refl, ap, sym, ◌∙◌, arith, append-nil, take-append-drop}
use Rattle.std.proofs.Common.{Option, Some, None, is_some}
use Rattle.fix_orders.specs.Text.{Said}
use Rattle.ring_words.specs.declared.view.Load.{Load}
use Rattle.gateway.specs.declared.ending.Reason.{Reason}
use Rattle.gateway.specs.declared.ending.Reason.TheVariants as reason
use Rattle.gateway.specs.declared.seat.TryPublish.{TryPublish}
use Rattle.gateway.specs.declared.seat.TryPublish.TheVariants.{Done, Refused, Exhausted}
use Rattle.gateway.specs.declared.gateway.Found.{Found}
use Rattle.gateway.specs.declared.gateway.Found.TheVariants.{Something, Nothing, Failed}
use Rattle.wires.specs.Wires.{Told}
use Rattle.ring_words.specs.Places.{claim, processed}
use Rattle.ring_words.specs.Seats.{load_of}
use Rattle.gateway.specs.Ledgers.{Ledger, ledger_loading, IsClaimed, IsRefused, PublishTells}
use Rattle.gateway.specs.Gateways.{AtRings, around}
use Rattle.gateway.specs.Seats.{ledger_of}
use Rattle.gateway.specs.Verdict.{Verdict, Welcome, Beat, Hold, Pass, Leave, Refuse, verdict}
use Rattle.gateway.specs.Standing.{Standing, At}
use Rattle.gateway.specs.SessionCalls.{heard, exhausting, Listens, Unheard, HeardFrame, HeardFault}
use Rattle.gateway.specs.Turns.{world, Front, nothing_moved, Moves, CountsMessages, ClosesBy, farewell, HandlesOne}
use Rattle.gateway.specs.Turns.{WasExhausted}
use Rattle.gateway.specs.TurnParts.{Hears, HeardSo, Reads, ReadSo}
use Rattle.gateway.proofs.Opening.{opened}
use Rattle.gateway.proofs.Standings.{at-published, at-exhausted, at-fed, at-heard, at-faulted}
use Rattle.gateway.proofs.StepLemmas.{moves-nothing, handles-none}
use Rattle.gateway.proofs.Lists.{no_front, no_end}
use Rattle.wires.specs.WireLaws.{grown-nil}

-- nothing was loaded
unloaded : (l : Ledger) → l ≡ record (ledger_loading l []) { published = l.published }
unloaded l = rw append-nil

-- what comes of a try to publish: the held message is published, or stays held, or is lost because no sequence is left
abbrev pub Settles : Standing → Standing → TryPublish → Type 0
Settles old new Done = new ≡ record old { held = None }
Settles old new Refused = new ≡ old
Settles old new Exhausted = new ≡ exhausting old

-- it was tried to publish the message held
record Tries (old new : Standing) (desk desk' : Ledger) (answer : TryPublish) : Type 0 where
  pub message : List ℕ
  pub holds : old.held ≡ Some message
  pub tells : PublishTells desk desk' message answer
  pub settles : Settles old new answer

-- and what it means for the turn
abbrev pub heard_of : TryPublish → Found
heard_of Done = Something
heard_of Refused = Nothing
heard_of Exhausted = Nothing

module _ (old new : Front) (desk desk' : Ledger) (is_open : old.session.closing ≡ None)
    (silent : old.session.outgoing ≡ [])
    (room : length new.session.outgoing ≤ length old.session.outgoing + 412)
    (others : new ≡ record old { session = new.session }) where
  room_left : length new.session.outgoing ≤ 512
  room_left = let none : length old.session.outgoing ≡ 0 = ap length silent in omega arith

  waiting_stays : new.waiting ≡ old.waiting
  waiting_stays = ap (λ (f : Front). f.waiting) others

  others_full : new ≡ record old { session = new.session; waiting = new.waiting; closed = new.closed }
  others_full = rw others

  unclosed : (wire : Told) → ClosesBy old.closed new.closed wire.ends wire.ends
  unclosed wire = inl (ap (λ (f : Front). f.closed) others, refl)

  -- the claim word that was loaded first is below 2 ^ 48 where a sequence was claimed, or the claim was refused
  abbrev Below : List Load → Type 0
  Below ls = (value : ℕ) × (more : List Load) × (ls ≡ load_of claim value ∷ more)
      × (value ≡ 2 ^ 48 → new.session.closing ≡ Some reason.Exhausted)

  claimed_below : (ls : List Load) → IsClaimed desk.rows desk.loads ls → Below ls
  claimed_below ls (s, p, (more, sees, is, room, few)) =
      (s, more ++ load_of claim s ∷ [], is, λ most. absurd (omega (arith, most, few)))

  refused_below : (ls : List Load) → IsRefused desk.rows desk.loads ls → Below ls
  refused_below ls (inl (s, p, is, full, few)) =
      (s, load_of processed p ∷ [], is, λ most. absurd (omega (arith, most, few)))
  refused_below ls (inr (s, p, t, (more, sees, is, room, few, late))) =
      (s, more ++ load_of claim t ∷ [], is, λ most. absurd (omega (arith, most, few)))

  -- all else stays as it was: what the answer decides is given
  tried-hears : (messages : List (List ℕ)) (ls : List Load) (answer : Found) (wire : Told) →
      desk' ≡ record (ledger_loading desk ls) { published = desk.published ++ messages } →
      Moves old.session new.session (record nothing_moved { messages = messages }) →
      (new.session.gateway ≡ old.session.gateway) × (new.session.accepted ≡ old.session.accepted) →
      ((count : ℕ) → CountsMessages old.session count → CountsMessages new.session count) →
      new.session.number ≤ old.session.number + 1 →
      (new.session.closing ≡ Some reason.Exhausted → (old.session.held ≢ None) × WasExhausted desk desk') → Below ls →
      HeardSo (world old wire desk) (world new wire desk') (record nothing_moved { messages = messages }) answer →
      Hears (world old wire desk) (world new wire desk') answer
  tried-hears messages ls answer wire tells moves (gateway, accepted) counts next lost below so = record {
    moved = record nothing_moved { messages = messages };
    step = record {
      moves = moves;
      input = rw append-nil waiting_stays;
      gave = sym (grown-nil wire.gave);
      took = sym (grown-nil wire.took);
      published = rw tells;
      gateway = gateway;
    };
    others = others_full;
    loaded = ls;
    ledger = rw tells;
    few = omega arith;
    one = handles-none old.session new.session accepted;
    unwritten = refl;
    unhanded = refl;
    counts = counts;
    room = room_left;
    next = next;
    lost = lost;
    tried = λ holds. below;
    closes = unclosed wire;
    alive = λ other. refl;
    so = so;
  }

  -- it was tried to publish the message held
  publish-hears : (answer : TryPublish) → Tries old.session new.session desk desk' answer →
      (wire : Told) → Hears (world old wire desk) (world new wire desk') (heard_of answer)
  publish-hears Done tries wire =
      tried-hears (tries.message ∷ []) tries.tells.0 Something wire tries.tells.2
      (λ input messages outs written stands. rw tries.settles (simp append-nil
      (at-published old.session input messages outs written tries.message tries.holds is_open stands)))
      (rw tries.settles (refl, refl)) (λ count counts. rw tries.settles counts) (rw tries.settles (omega arith))
      (λ is. absurd (cc)) (claimed_below tries.tells.0 tries.tells.1) (inr (λ none. cc))
  publish-hears Refused tries wire =
      tried-hears [] tries.tells.0 Nothing wire (rw append-nil tries.tells.2)
      (rw tries.settles (moves-nothing old.session))
      (rw tries.settles (refl, refl)) (λ count counts. rw tries.settles counts) (rw tries.settles (omega arith))
      (λ is. absurd (cc)) (refused_below tries.tells.0 tries.tells.1)
      (refl, inl ((λ none. cc), (tries.tells.0, inl tries.tells.1, [], rw (tries.tells.2, append-nil))))
  publish-hears Exhausted tries wire =
      let loads : desk'.loads ≡ desk.loads ++ (tries.tells.0 ++ []) = rw (tries.tells.2, append-nil) in
      tried-hears [] tries.tells.0 Nothing wire (rw append-nil tries.tells.2)
      (λ input messages outs written stands. rw tries.settles (simp append-nil
      (at-exhausted old.session input messages outs written tries.message tries.holds is_open stands)))
      (rw tries.settles (refl, refl))
      (λ count counts. rw tries.settles
      (let none : farewell old.session.closing ≡ 0 = ap farewell is_open in omega arith))
      (rw tries.settles (omega arith)) (λ is. ((λ none. cc), (tries.tells.0, tries.tells.1, [], loads)))
      (2 ^ 48, [], tries.tells.1, λ is. rw tries.settles)
      (refl, inl ((λ none. cc), (tries.tells.0, inr tries.tells.1, [], loads)))

-- the same of a gateway at its rings
pub published : (n : ℕ) (self old new : AtRings) (answer : TryPublish) → old ≡ self →
    self.front.session.closing ≡ None → self.front.session.outgoing ≡ [] →
    length new.front.session.outgoing ≤ length old.front.session.outgoing + 412 →
    new.front ≡ record old.front { session = new.front.session } →
    (message : List ℕ) → old.front.session.held ≡ Some message →
    PublishTells (ledger_of n old.seat) (ledger_of n new.seat) message answer →
    Settles old.front.session new.front.session answer →
    (wire : Told) → Hears (around n self wire) (around n new wire) (heard_of answer)
published n self old new answer is is_open silent room others message holds tells settles wire =
    rw (← is) (publish-hears old.front new.front (ledger_of n old.seat) (ledger_of n new.seat) (rw is is_open)
    (rw is silent) room others answer (record { message = message; holds = holds; tells = tells; settles = settles })
    wire)

-- What a session hears is counted, and is one frame at most; and it is no reason to be exhausted.
record Counted (s t : Standing) : Type 0 where
  counts : (count : ℕ) → CountsMessages s count → CountsMessages t count
  next : t.number ≤ s.number + 1
  one : HandlesOne s t
  gateway : t.gateway ≡ s.gateway
  unlost : t.closing ≢ Some reason.Exhausted

-- nothing is heard
none_counted : (s t : Standing) → s.closing ≡ None → t ≡ record s { under_way = t.under_way } → Counted s t
none_counted s t is_open is = rw is (record {
  counts = λ count counts. counts;
  next = omega arith;
  one = handles-none s (record s { under_way = t.under_way }) refl;
  gateway = refl;
  unlost = λ is. cc;
})

-- one message more is accepted
accepted_counted : (s t : Standing) → s.closing ≡ None → t.closing ≡ s.closing → t.accepted ≡ s.accepted + 1 →
    t.gateway ≡ s.gateway → t.number ≤ s.number + 1 → Counted s t
accepted_counted s t is_open same more gateway next = record {
  counts = λ count counts. omega (arith, ap farewell same);
  next = next;
  one = record { accepts = omega (arith, more); closes = λ was closes. absurd (closes (same ∙ was)) };
  gateway = gateway;
  unlost = λ is. cc;
}

-- the session closes, with a message for that
closed_counted : (s t : Standing) (why : Reason) → why ≢ reason.Exhausted → s.closing ≡ None → t.closing ≡ Some why →
    t.accepted ≡ s.accepted → t.gateway ≡ s.gateway → t.number ≤ s.number + 1 → Counted s t
closed_counted s t why other is_open closes same gateway next = record {
  counts = λ count counts. omega (arith, ap farewell is_open, ap farewell closes);
  next = next;
  one = handles-none s t same;
  gateway = gateway;
  unlost = λ is. other (cc);
}

heard_counted : (time message : List ℕ) (v : Verdict) (s : Standing) → s.closing ≡ None
    → Counted s (heard time message v s)
heard_counted time message Welcome s is_open = accepted_counted s _ is_open refl refl refl (omega arith)
heard_counted time message (Beat echo) s is_open = accepted_counted s _ is_open refl refl refl (omega arith)
heard_counted time message Hold s is_open = accepted_counted s _ is_open refl refl refl (omega arith)
heard_counted time message Pass s is_open = accepted_counted s _ is_open refl refl refl (omega arith)
heard_counted time message Leave s is_open =
    closed_counted s _ reason.LoggedOut (λ is. cc) is_open refl refl refl (omega arith)
heard_counted time message (Refuse r) s is_open =
    closed_counted s _ reason.Refused (λ is. cc) is_open refl refl refl (omega arith)

-- what a feed does to a session that is open and holds nothing
record Fed (old new : Standing) (fed : List ℕ) : Type 0 where
  moves : (input : List ℕ) (messages : List (List ℕ)) (outs : List Said) (written : List ℕ) →
      At old input messages outs written → At new (input ++ fed) messages outs written
  counted : Counted old new

module _ (old new : Standing) (fed : List ℕ) (is_open : old.closing ≡ None) (free : old.held ≡ None) where
  fed-unheard : Unheard old new fed → Fed old new fed
  fed-unheard u = rw u.new_is (record {
    moves = λ input messages outs written stands. at-fed old input messages outs written fed is_open u.partial stands;
    counted = none_counted old (record old { under_way = old.under_way ++ fed }) is_open refl;
  })

  fed-frame : HeardFrame old new fed → Fed old new fed
  fed-frame h =
      let v = verdict old.gateway old.accepted h.frame in
      rw h.new_is (record {
        moves = λ input messages outs written stands.
            at-heard old input messages outs written (opened old input messages outs written is_open stands) free
            h.frame fed h.body h.whole v refl is_open;
        counted = heard_counted _ _ v old is_open;
      })

  fed-fault : HeardFault old new fed → Fed old new fed
  fed-fault h = rw h.new_is (record {
    moves = λ input messages outs written stands.
        at-faulted old input messages outs written (opened old input messages outs written is_open stands) free fed
        h.left h.at h.fault h.faults;
    counted = closed_counted old _ reason.Refused (λ is. cc) is_open refl refl refl (omega arith);
  })

  fed-so : (Unheard old new fed ⊎ HeardFrame old new fed) ⊎ HeardFault old new fed → Fed old new fed
  fed-so (inl (inl u)) = fed-unheard u
  fed-so (inl (inr h)) = fed-frame h
  fed-so (inr h) = fed-fault h

-- a front of bytes that aren't none isn't none
front_is_some : (bytes : List ℕ) (n : ℕ) → 1 ≤ n → n ≤ length bytes → take n bytes ≢ []
front_is_some bytes zero some within = absurd (omega arith)
front_is_some [] (suc n) some within = absurd (omega arith)
front_is_some (b ∷ bytes) (suc n) some within = λ none. cc

module _ (old mid : Front) (wire wire' : Told) (desk : Ledger) (is_open : old.session.closing ≡ None)
    (free : old.session.held ≡ None)
    (silent : old.session.outgoing ≡ []) (answer : Found) (reads : Reads old mid wire wire' answer) where
  session_stays : mid.session ≡ old.session
  session_stays = ap (λ (f : Front). f.session) reads.others

  read-so : (a : Found) → ReadSo old mid wire wire' reads.got a → (a ≡ Failed) ⊎ (mid.waiting ≡ []) →
      HeardSo (world old wire desk) (world mid wire' desk) (record nothing_moved { got = reads.got }) a
  read-so Something so (inl failed) = cc
  read-so Something so (inr empty) = absurd (so (no_end old.waiting reads.got (sym reads.waiting ∙ empty)))
  read-so Nothing so (inl failed) = cc
  read-so Nothing (none, inl stood) (inr empty) =
      absurd (stood (no_front old.waiting reads.got (sym reads.waiting ∙ empty)))
  read-so Nothing (none, inr quiet) (inr empty) = (rw none, inr (free, empty, quiet))
  read-so Failed so why = so.1

  -- what was read is fed, or nothing of it
  hears-behind : (new : Front) (fed : List ℕ) (a : Found) →
      Moves old.session new.session (record nothing_moved { fed = fed }) → fed ++ new.waiting ≡ mid.waiting →
      new ≡ record mid { session = new.session; waiting = new.waiting } → Counted old.session new.session →
      length new.session.outgoing ≤ length mid.session.outgoing + 412 →
      (a ≢ Failed → wire'.failures ≡ wire.failures) →
      HeardSo (world old wire desk) (world new wire' desk) (record nothing_moved { fed = fed; got = reads.got }) a →
      Hears (world old wire desk) (world new wire' desk) a
  hears-behind new fed a moves rest others counted room alive so = record {
    moved = record nothing_moved { fed = fed; got = reads.got };
    step = record {
      moves = moves;
      input = rest ∙ reads.waiting;
      gave = reads.gave;
      took = rw reads.took (sym (grown-nil wire.took));
      published = sym (append-nil desk.published);
      gateway = counted.gateway;
    };
    others = rw (others, reads.others);
    loaded = [];
    ledger = unloaded desk;
    few = reads.few;
    one = counted.one;
    unwritten = refl;
    unhanded = refl;
    counts = counted.counts;
    room = let none : length mid.session.outgoing ≡ 0 = rw (session_stays, silent) in omega arith;
    next = counted.next;
    lost = λ is. absurd (counted.unlost is);
    tried = λ holds. absurd (holds free);
    closes = rw others reads.closes;
    alive = alive;
    so = so;
  }

  -- the wire failed, or nothing stands to be fed
  pub read-hears : (answer ≡ Failed) ⊎ (mid.waiting ≡ []) → Hears (world old wire desk) (world mid wire' desk) answer
  read-hears why =
      hears-behind mid [] answer (rw session_stays (moves-nothing old.session)) refl refl
      (rw session_stays (none_counted old.session old.session is_open refl)) (omega arith) reads.alive
      (read-so answer reads.so why)

  -- what was read is fed, as the code hands it on
  pub fed-hears : answer ≢ Failed → (piece : List ℕ) (new : Front) (n : ℕ) → piece ≡ mid.waiting →
      Listens mid.session new.session piece n →
      new ≡ record mid { session = new.session; waiting = new.waiting } → new.waiting ≡ drop n mid.waiting →
      length new.session.outgoing ≤ length mid.session.outgoing + 412 →
      Hears (world old wire desk) (world new wire' desk) Something
  fed-hears alive piece new n piece_is listened others rest room =
      let listens : Listens old.session new.session mid.waiting n = rw (piece_is, session_stays) at listened in
      let fed = fed-so old.session new.session (take n mid.waiting) is_open free listens.hears in
      hears-behind new (take n mid.waiting) Something
      (λ input messages outs written stands. simp append-nil (fed.moves input messages outs written stands))
      (rw rest (take-append-drop n mid.waiting)) others fed.counted room (λ other. reads.alive alive)
      (inl (free, front_is_some mid.waiting n listens.some listens.within))

-- what is not there is nothing
pub is_free : {A : Type 0} (held : Option A) → is_some held ≡ false → held ≡ None
is_free None e = refl
is_free (Some message) e = cc
