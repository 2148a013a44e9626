-- A session that isn't closing, seen without the cases of its end.
use Rattle.std.proofs.Common.{◌≡◌, ℕ, suc, ◌+◌, add-zero, true, false, List, [], ◌∷◌, ◌++◌, length, refl}
use Rattle.std.proofs.Common.{arith, append-nil, None}
use Rattle.std.specs.List.{flat_map, list_all, AllByRecursion}
use Rattle.fix_frame.specs.Grammar.{Field, IsBody, frame_text, frame_of, head, most_in}
use Rattle.fix_frame.specs.Stream.{BeginsNoFrame}
use Rattle.fix_orders.specs.Text.{Said}
use Rattle.gateway.specs.Answers.{judgement, judged, last_time, time_after, no_time, goes_on, replies_of}
use Rattle.gateway.specs.Standing.{Standing, speaker, Spoken, Held, At}
use Rattle.gateway.specs.SessionCalls.{fresh}

-- one more frame judged
pub judged-push : (gateway accepted : ℕ) (last : List ℕ) (frames : List (List Field)) (frame : List Field) →
    judged gateway accepted last (frames ++ frame ∷ []) ≡
    judged gateway accepted last frames ++ judgement gateway (accepted + length frames) (last_time last frames) frame
    ∷ []
judged-push gateway accepted last [] frame = rw add-zero
judged-push gateway accepted last (f ∷ frames) frame =
    let number : accepted + 1 + length frames ≡ accepted + suc (length frames) = omega arith in
    rw (judged-push gateway (accepted + 1) (time_after last f) frames frame, number)

pub last_time-push : (last : List ℕ) (frames : List (List Field)) (frame : List Field)
    → last_time last (frames ++ frame ∷ []) ≡ time_after (last_time last frames) frame
last_time-push last [] frame = refl
last_time-push last (f ∷ frames) frame = last_time-push (time_after last f) frames frame

-- a session that isn't closing
pub record Open (s : Standing) (input : List ℕ) (messages : List (List ℕ)) (outs : List Said) (written : List ℕ) :
    Type 0 where
  pub frames : List (List Field)
  pub cut : input ≡ flat_map frame_text frames ++ s.under_way
  pub bodies : AllByRecursion (IsBody most_in) frames
  pub all_go_on : list_all (λ j. goes_on j.verdict) (judged s.gateway 0 no_time frames) ≡ true
  pub partial : BeginsNoFrame s.under_way
  pub spoken : Spoken (speaker s.gateway s.number s.logged_on false) (written ++ s.outgoing)
      (flat_map replies_of (judged s.gateway 0 no_time frames)) outs
  pub held : Held s.held None messages (judged s.gateway 0 no_time frames)
  pub accepted : s.accepted ≡ length frames
  pub time : s.time ≡ last_time no_time frames

-- the last judgement is missing, and the rest is the message under way
pub opened : (s : Standing) (input : List ℕ) (messages : List (List ℕ)) (outs : List Said) (written : List ℕ) →
    s.closing ≡ None → At s input messages outs written → Open s input messages outs written
opened s input messages outs written is_open stands =
    let ending = rw is_open at stands.answers.ending in
    record {
      frames = stands.frames;
      cut = rw ending.1 stands.answers.cut;
      bodies = stands.answers.bodies;
      all_go_on = stands.answers.accepted;
      partial = rw ending.1 ending.2;
      spoken = rw (is_open, ending.0, append-nil) at stands.spoken;
      held = rw is_open at stands.held;
      accepted = stands.accepted;
      time = stands.time;
    }

pub closed : (s : Standing) (input : List ℕ) (messages : List (List ℕ)) (outs : List Said) (written : List ℕ) →
    s.closing ≡ None → Open s input messages outs written → At s input messages outs written
closed s input messages outs written is_open stands =
    record {
      frames = stands.frames;
      lasts = [];
      answers = record {
        rest = s.under_way;
        cut = stands.cut;
        bodies = stands.bodies;
        accepted = stands.all_go_on;
        ending = rw is_open (refl, refl, stands.partial);
      };
      spoken = rw (is_open, append-nil) stands.spoken;
      held = rw is_open stands.held;
      accepted = stands.accepted;
      time = stands.time;
    }

-- nothing was fed, and nothing is no frame
pub no_frame_in_nothing : BeginsNoFrame []
unfolding frame_of head
no_frame_in_nothing fields more body = λ h. cc

pub at_beginning : (gateway : ℕ) → At (fresh gateway) [] [] [] []
at_beginning gateway = closed (fresh gateway) [] [] [] [] refl (record {
  frames = [];
  cut = refl;
  bodies = tt;
  all_go_on = refl;
  partial = no_frame_in_nothing;
  spoken = record {
    items = [];
    says = record { answered = refl; handed = refl; frames = refl; order = refl };
    next = refl;
    logon = refl;
    logout = refl;
  };
  held = refl;
  accepted = refl;
  time = refl;
})
