-- What a feed of the session comes to, from what the framer and the judgement tell.
use Rattle.std.proofs.Common.{◌≡◌, ℕ, zero, suc, ◌≤◌, List, [], ◌++◌, length, take, refl, sym, ◌∙◌, inl, inr}
use Rattle.std.proofs.Common.{arith, append-nil, Option, Some, None}
use Rattle.std.proofs.lemmas.List.{take_all}
use Rattle.fix_frame.specs.Grammar.{Field, IsBody, frame_text, most_in}
use Rattle.fix_frame.specs.Framing.{Framing, HasFault}
use Rattle.fix_frame.specs.Stream.{BeginsNoFrame, Faults}
use Rattle.fix_frame.specs.declared.FrameFault.{FrameFault}
use Rattle.gateway.specs.declared.ending.Reason.TheVariants.{Refused}
use Rattle.gateway.specs.declared.hearing.Judged.{Judged}
use Rattle.gateway.specs.declared.hearing.Judged.TheVariants as judged
use Rattle.gateway.specs.declared.refusal.Refusal.{Refusal}
use Rattle.gateway.specs.declared.refusal.Refusal.TheVariants as refusal
use Rattle.gateway.specs.Verdict.{Verdict, Welcome, Beat, Hold, Pass, Leave, Refuse, verdict, refusal_text}
use Rattle.gateway.specs.Answers.{time_after, Logout}
use Rattle.gateway.specs.Standing.{Standing}
use Rattle.gateway.specs.Judging.{verdict_of, Holds, IsHeld}
use Rattle.gateway.specs.SessionCalls.{heard, refusing, replying, Listens}

-- bytes that end a frame are some, where no frame stood before
some_fed : (under_way piece : List ℕ) (n : ℕ) (frame : List Field) → BeginsNoFrame under_way → IsBody most_in frame →
    under_way ++ take n piece ≡ frame_text frame → 1 ≤ n
some_fed under_way piece zero frame partial body whole =
    absurd (partial frame [] body (sym (append-nil under_way) ∙ whole ∙ sym (append-nil (frame_text frame))))
some_fed under_way piece (suc n) frame partial body whole = omega arith

-- what was under way doesn't matter to what is made of a frame
under_way_gone : (time message : List ℕ) (v : Verdict) (s : Standing) (rest : List ℕ)
    → heard time message v (record s { under_way = rest }) ≡ heard time message v s
under_way_gone time message Welcome s rest = refl
under_way_gone time message (Beat echo) s rest = refl
under_way_gone time message Hold s rest = refl
under_way_gone time message Pass s rest = refl
under_way_gone time message Leave s rest = refl
under_way_gone time message (Refuse r) s rest = refl

-- nor what was held before a message that is to be held
held_gone : (time message : List ℕ) (j : Judged) (s : Standing) (held : Option (List ℕ)) → Holds message j s.held held →
    heard time message (verdict_of j) (record s { held = held }) ≡ heard time message (verdict_of j) s
held_gone time message judged.Welcome s held stays = rw stays
held_gone time message (judged.Beat echo) s held stays = rw stays
held_gone time message judged.Pass s held stays = rw stays
held_gone time message judged.Leave s held stays = rw stays
held_gone time message judged.Hold s held is = refl
held_gone time message (judged.Refuse r) s held stays = rw stays

-- a message that is to be held is held
pub is_held : (message : List ℕ) (j : Judged) (before held : Option (List ℕ)) → Holds message j before held
    → IsHeld message j held
is_held message judged.Welcome before held stays = tt
is_held message (judged.Beat echo) before held stays = tt
is_held message judged.Pass before held stays = tt
is_held message judged.Leave before held stays = tt
is_held message judged.Hold before held is = is
is_held message (judged.Refuse r) before held stays = tt

pub listens-frame : (old new : Standing) (piece : List ℕ) (n : ℕ) (frame : List Field) (rest time text : List ℕ)
    (j : Judged) (held : Option (List ℕ)) →
    BeginsNoFrame old.under_way → n ≤ length piece → IsBody most_in frame
    → old.under_way ++ take n piece ≡ frame_text frame →
    time ≡ time_after old.time frame → verdict_of j ≡ verdict old.gateway old.accepted frame →
    text ≡ frame_text frame → Holds text j old.held held →
    new ≡ heard time text (verdict_of j) (record old { under_way = rest; held = held }) →
    Listens old new piece n
listens-frame old new piece n frame rest time text j held partial within body whole time_is v_is text_is holds new_is =
    record {
      some = some_fed old.under_way piece n frame partial body whole;
      within = within;
      hears = inl (inr (record {
        frame = frame;
        body = body;
        whole = whole;
        new_is = rw (← v_is, ← time_is, ← text_is) (new_is
            ∙ under_way_gone time text (verdict_of j) (record old { held = held }) rest
            ∙ held_gone time text j old held holds);
      }));
    }

pub listens-fault : (old new : Standing) (piece left : List ℕ) (at : ℕ) (fault : FrameFault) →
    1 ≤ length piece → Faults (old.under_way ++ piece) at fault →
    new ≡ refusing old.time (refusal.Frame fault) (record old { under_way = left }) →
    Listens old new piece (length piece)
listens-fault old new piece left at fault some faults new_is = record {
  some = some;
  within = omega arith;
  hears = inr (record {
    fault = fault;
    left = left;
    at = at;
    faults = rw (take_all (length piece) piece (omega arith)) faults;
    new_is = new_is;
  });
}

-- the Logout has the refusal's text
pub refused_is : (s new : Standing) (left time text : List ℕ) (r : Refusal) → text ≡ refusal_text r →
    new ≡ replying (Logout time text) (record s { under_way = left; closing = Some Refused })
    → new ≡ refusing time r (record s { under_way = left })
refused_is s new left time text r text_is new_is =
    rw text_is at new_is

-- a framer that had no fault has found one
pub fault_now : (framer : Framing) (piece : List ℕ) (fault : FrameFault) → framer.fault ≡ None
    → HasFault framer piece fault →
    (at : ℕ) × Faults (framer.held ++ piece) at fault
fault_now framer piece fault none (inl before) = cc
fault_now framer piece fault none (inr (right, at, faults)) = (at, faults)
