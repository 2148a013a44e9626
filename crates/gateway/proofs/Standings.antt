-- Where a session stands after each thing that a turn may do.
use Rattle.std.proofs.Common.{◌≡◌, ◌≢◌, inl, inr, ℕ, ◌+◌, zero-add, Bool, true, false, List, [], ◌∷◌, ◌++◌, length}
use Rattle.std.proofs.Common.{refl, ap, sym, ◌∙◌, arith, append_assoc, append-nil, Option, Some, None}
use Rattle.std.specs.List.{flat_map}
use Rattle.fix_frame.specs.Grammar.{Field, IsBody, frame_text, most_in}
use Rattle.fix_frame.specs.Stream.{BeginsNoFrame, Faults}
use Rattle.fix_frame.specs.declared.FrameFault.{FrameFault}
use Rattle.fix_orders.specs.Text.{Said}
use Rattle.gateway.specs.declared.ending.Reason.{Reason}
use Rattle.gateway.specs.declared.ending.Reason.TheVariants.{LoggedOut, Refused, Exhausted}
use Rattle.gateway.specs.declared.refusal.Refusal.TheVariants as refusal
use Rattle.gateway.specs.Verdict.{Verdict, Welcome, Beat, Hold, Pass, Leave, Refuse, verdict, refusal_text}
use Rattle.gateway.specs.Answers.{Judgement, judgement, judged, last_time, time_after, no_time, goes_on, Logon}
use Rattle.gateway.specs.Answers.{Heartbeat, Logout, replies_of, held_of, fault_judgement}
use Rattle.gateway.specs.Answers.{exhausted_judgement, Ending}
use Rattle.gateway.specs.Standing.{Standing, speaker, Spoken, Output, said_by, message_text, Waits, Held, At}
use Rattle.gateway.specs.SessionCalls.{saying, closing_by, refusing, accepting, heard}
use Rattle.gateway.proofs.Lists.{flat_map-push, list_all-push, AllByRecursion-push, length-push}
use Rattle.gateway.proofs.Speaking.{or_true, or_false, spoken-item, spoken-reply}
use Rattle.gateway.proofs.Opening.{Open, opened, closed, judged-push, last_time-push, no_frame_in_nothing}

-- with the message that waits, those published are all those to hold
waited : (message : List ℕ) (messages : List (List ℕ)) (js : List Judgement) → Waits message messages js
    → messages ++ message ∷ [] ≡ flat_map held_of js
waited message messages js waits = cc (flat_map-push held_of waits.before waits.last)

module _ (s : Standing) (input : List ℕ) (messages : List (List ℕ)) (outs : List Said) (written : List ℕ) where
  -- bytes went out
  pub at-flushed : (put rest : List ℕ) → s.outgoing ≡ put ++ rest → At s input messages outs written →
      At (record s { outgoing = rest }) input messages outs (written ++ put)
  at-flushed put rest split stands = record {
    frames = stands.frames;
    lasts = stands.lasts;
    answers = stands.answers;
    spoken = rw (append_assoc, ← split) stands.spoken;
    held = stands.held;
    accepted = stands.accepted;
    time = stands.time;
  }

  -- the message held was published
  pub at-published : (message : List ℕ) → s.held ≡ Some message → s.closing ≡ None → At s input messages outs written →
      At (record s { held = None }) input (messages ++ message ∷ []) outs written
  at-published message is_held is_open stands =
      let o = opened s input messages outs written is_open stands in
      closed (record s { held = None }) input (messages ++ message ∷ []) outs written is_open (record {
        frames = o.frames;
        cut = o.cut;
        bodies = o.bodies;
        all_go_on = o.all_go_on;
        partial = o.partial;
        spoken = o.spoken;
        held = waited message messages (judged s.gateway 0 no_time o.frames) (simp is_held at o.held);
        accepted = o.accepted;
        time = o.time;
      })

  -- an output was handed on
  pub at-handed : (said : Said) → s.logged_on ≡ true → s.closing ≡ None → At s input messages outs written →
      At (saying said s) input messages (outs ++ said ∷ []) written
  at-handed said logged_on is_open stands =
      let o = opened s input messages outs written is_open stands in
      closed (saying said s) input messages (outs ++ said ∷ []) written is_open (record {
        frames = o.frames;
        cut = o.cut;
        bodies = o.bodies;
        all_go_on = o.all_go_on;
        partial = o.partial;
        spoken = rw (or_false, append-nil, append_assoc) at
            (spoken-item (Output said) o.spoken (rw logged_on));
        held = o.held;
        accepted = o.accepted;
        time = o.time;
      })

  -- bytes were fed that end no frame
  pub at-fed : (bytes : List ℕ) → s.closing ≡ None → BeginsNoFrame (s.under_way ++ bytes)
      → At s input messages outs written →
      At (record s { under_way = s.under_way ++ bytes }) (input ++ bytes) messages outs written
  at-fed bytes is_open partial stands =
      let o = opened s input messages outs written is_open stands in
      closed (record s { under_way = s.under_way ++ bytes }) (input ++ bytes) messages outs written is_open (record {
        frames = o.frames;
        cut = ap (λ i. i ++ bytes) o.cut ∙ append_assoc (flat_map frame_text o.frames) s.under_way bytes;
        bodies = o.bodies;
        all_go_on = o.all_go_on;
        partial = partial;
        spoken = o.spoken;
        held = o.held;
        accepted = o.accepted;
        time = o.time;
      })

  module _ (o : Open s input messages outs written) where
    -- a Logout is the last that is said
    logout-said : (j : Judgement) (time text : List ℕ) → replies_of j ≡ Logout time text ∷ [] →
        Spoken (speaker s.gateway (s.number + 1) s.logged_on true)
        (written ++ (s.outgoing ++ message_text s.gateway s.number (said_by (Logout time text))))
        (flat_map replies_of (judged s.gateway 0 no_time o.frames ++ j ∷ [])) outs
    logout-said j time text says =
        rw (flat_map-push, says) (rw (or_false, append_assoc) at (spoken-reply o.spoken (Logout time text) refl))

  -- the session closes with a Logout, for what it has heard last
  module _ (o : Open s input messages outs written) (free : s.held ≡ None) where
    at-ended : (reason : Reason) → reason ≢ Exhausted → (j : Judgement) (text bytes left : List ℕ)
        → replies_of j ≡ Logout j.time text ∷ [] →
        Ending s.gateway o.frames (s.under_way ++ bytes) left (Some reason) (j ∷ []) →
        At (closing_by reason j.time text (record s { under_way = left })) (input ++ bytes) messages outs written
    at-ended reason other j text bytes left says ending =
        record {
          frames = o.frames;
          lasts = j ∷ [];
          answers = record {
            rest = s.under_way ++ bytes;
            cut = rw o.cut (append_assoc (flat_map frame_text o.frames) s.under_way bytes);
            bodies = o.bodies;
            accepted = o.all_go_on;
            ending = ending;
          };
          spoken = logout-said o j j.time text says;
          held = rw free (inl (other, rw free at o.held));
          accepted = o.accepted;
          time = o.time;
        }

    -- what was fed goes wrong
    pub at-faulted : (bytes left : List ℕ) (at : ℕ) (fault : FrameFault) → Faults (s.under_way ++ bytes) at fault →
        At (refusing s.time (refusal.Frame fault) (record s { under_way = left })) (input ++ bytes) messages outs
        written
    at-faulted bytes left at fault faults =
        at-ended Refused (λ is. cc) (fault_judgement s.time fault) (refusal_text (refusal.Frame fault)) bytes left refl (
          fault_judgement s.time fault,
          inr (fault, at, faults, ap (λ t. fault_judgement t fault) o.time),
          refl,
          (λ h. cc),
          refl,
        )

    -- a frame ends what was fed
    module _ (frame : List Field) (bytes : List ℕ) (body : IsBody most_in frame)
        (whole : s.under_way ++ bytes ≡ frame_text frame) where
      abbrev the_judgement : Judgement
      the_judgement = judgement s.gateway s.accepted s.time frame

      j_is : the_judgement ≡ judgement s.gateway (length o.frames) (last_time no_time o.frames) frame
      j_is = rw (o.accepted, o.time)

      judged_so : judged s.gateway 0 no_time (o.frames ++ frame ∷ [])
          ≡ judged s.gateway 0 no_time o.frames ++ the_judgement ∷ []
      judged_so = rw (judged-push, zero-add, o.accepted, o.time)

      -- it is accepted
      at-accepted : (outgoing : List ℕ) (number : ℕ) (on : Bool) (held : Option (List ℕ)) →
          goes_on the_judgement.verdict ≡ true →
          Spoken (speaker s.gateway number on false) (written ++ outgoing)
          (flat_map replies_of (judged s.gateway 0 no_time o.frames) ++ replies_of the_judgement) outs →
          Held held None messages (judged s.gateway 0 no_time o.frames ++ the_judgement ∷ []) →
          s.closing ≡ None →
          At (record (accepting (time_after s.time frame) s)
          { outgoing = outgoing; number = number; logged_on = on; held = held }) (input ++ bytes) messages outs
          written
      at-accepted outgoing number on held goes spoken holds is_open =
          closed (record (accepting (time_after s.time frame) s)
          { outgoing = outgoing; number = number; logged_on = on; held = held }) (input ++ bytes) messages outs
          written is_open (record {
            frames = o.frames ++ frame ∷ [];
            cut = rw (o.cut, append_assoc, whole, flat_map-push, append-nil);
            bodies = AllByRecursion-push (IsBody most_in) o.frames frame o.bodies body;
            all_go_on = rw judged_so (list_all-push (λ j. goes_on j.verdict) (judged s.gateway 0 no_time o.frames)
                the_judgement o.all_go_on goes);
            partial = no_frame_in_nothing;
            spoken = rw (judged_so, flat_map-push) spoken;
            held = rw judged_so holds;
            accepted = omega (arith, o.accepted, length-push o.frames frame);
            time = rw (last_time-push, o.time);
          })

      -- it isn't to be held
      not_held : held_of the_judgement ≡ [] → Held s.held None messages
          (judged s.gateway 0 no_time o.frames ++ the_judgement ∷ [])
      not_held none = rw (free, flat_map-push, none, append-nil) (rw free at o.held)

      ends_here : (s.under_way ++ bytes ≡ frame_text frame ++ [])
      ends_here = whole ∙ sym (append-nil (frame_text frame))

      -- it is heard
      pub at-heard : (v : Verdict) → verdict s.gateway s.accepted frame ≡ v → s.closing ≡ None →
          At (heard (time_after s.time frame) (frame_text frame) v s) (input ++ bytes) messages outs written
      at-heard Welcome e is_open =
          let time = time_after s.time frame in
          at-accepted (s.outgoing ++ message_text s.gateway s.number (said_by (Logon time))) (s.number + 1) true s.held
          (ap goes_on e) (rw e (rw (or_true, append_assoc) at (spoken-reply o.spoken (Logon time) refl)))
          (not_held (rw e)) is_open
      at-heard (Beat echo) e is_open =
          let time = time_after s.time frame in
          at-accepted (s.outgoing ++ message_text s.gateway s.number (said_by (Heartbeat time echo))) (s.number + 1)
          s.logged_on s.held
          (ap goes_on e) (rw e (rw (or_false, append_assoc) at (spoken-reply o.spoken (Heartbeat time echo) refl)))
          (not_held (rw e)) is_open
      at-heard Hold e is_open =
          at-accepted s.outgoing s.number s.logged_on (Some (frame_text frame))
          (ap goes_on e) (rw (e, append-nil) o.spoken)
          (record {
            before = judged s.gateway 0 no_time o.frames;
            last = the_judgement;
            judgements_are = refl;
            hold = e;
            message_is = refl;
            published = rw free at o.held;
          }) is_open
      at-heard Pass e is_open =
          at-accepted s.outgoing s.number s.logged_on s.held
          (ap goes_on e) (rw (e, append-nil) o.spoken) (not_held (rw e)) is_open
      at-heard Leave e is_open =
          at-ended LoggedOut (λ is. cc) the_judgement [] bytes [] (rw e)
          (the_judgement, (frame, [], body, ends_here, j_is), e, refl)
      at-heard (Refuse r) e is_open =
          at-ended Refused (λ is. cc) the_judgement (refusal_text r) bytes [] (rw e)
          (the_judgement, inl (frame, [], body, ends_here, j_is), ap goes_on e, (λ leaves. cc), refl)

-- the last judgement has the time of the last right header
last_judged : (gateway accepted : ℕ) (last : List ℕ) (frames : List (List Field)) (before : List Judgement)
    (j : Judgement) →
    judged gateway accepted last frames ≡ before ++ j ∷ [] → last_time last frames ≡ j.time
last_judged gateway accepted last [] [] j e = cc
last_judged gateway accepted last [] (b ∷ before) j e = cc
last_judged gateway accepted last (f ∷ []) [] j e =
    let j_is : judgement gateway accepted last f ≡ j = cc in ap (λ (k : Judgement). k.time) j_is
last_judged gateway accepted last (f ∷ g ∷ frames) [] j e = cc
last_judged gateway accepted last (f ∷ frames) (b ∷ before) j e =
    let rest : judged gateway (accepted + 1) (time_after last f) frames ≡ before ++ j ∷ [] = cc in
    last_judged gateway (accepted + 1) (time_after last f) frames before j rest

module _ (s : Standing) (input : List ℕ) (messages : List (List ℕ)) (outs : List Said) (written : List ℕ) where
  -- no sequence is left for the message held
  pub at-exhausted : (message : List ℕ) → s.held ≡ Some message → s.closing ≡ None → At s input messages outs written →
      At (record (closing_by Exhausted s.time (refusal_text refusal.Exhausted) s) { held = None }) input messages outs
      written
  at-exhausted message is_held is_open stands =
      let o = opened s input messages outs written is_open stands in
      let waits : Waits message messages (judged s.gateway 0 no_time o.frames) = simp is_held at o.held in
      let time_is : s.time ≡ waits.last.time = o.time ∙ last_judged s.gateway 0 no_time o.frames waits.before waits.last
      waits.judgements_are in
      record {
        frames = o.frames;
        lasts = exhausted_judgement waits.last ∷ [];
        answers = record {
          rest = s.under_way;
          cut = o.cut;
          bodies = o.bodies;
          accepted = o.all_go_on;
          ending = (waits.before, waits.last, waits.judgements_are, waits.hold, refl);
        };
        spoken = logout-said s input messages outs written o (exhausted_judgement waits.last) s.time
            (refusal_text refusal.Exhausted)
            (ap (λ t. Logout t (refusal_text refusal.Exhausted) ∷ []) (sym time_is));
        held = inr (refl, message, waits);
        accepted = o.accepted;
        time = o.time;
      }
