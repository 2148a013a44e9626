-- A session that nobody is logged on to has published nothing: the first message that it accepts is the Logon.
use Rattle.std.proofs.Common.{◌≡◌, inl, inr, ℕ, ◌+◌, Bool, true, false, List, [], ◌∷◌, ◌++◌, refl, ap, sym, ◌∙◌}
use Rattle.std.proofs.Common.{Option, Some, None}
use Rattle.std.specs.Prelude.{◌==◌, not, codes, if◌then◌else◌}
use Rattle.std.specs.List.{flat_map, list_all, list_any}
use Rattle.fix_frame.specs.Grammar.{Field}
use Rattle.fix_orders.specs.Header.{Header, header_of}
use Rattle.fix_orders.specs.Text.{Said}
use Rattle.gateway.specs.declared.ending.Reason.{Reason}
use Rattle.gateway.specs.declared.refusal.Refusal.{Refusal}
use Rattle.gateway.specs.declared.refusal.Refusal.TheVariants.{WrongParty, WrongNumber, NoLogon, BadLogon}
use Rattle.gateway.specs.Verdict.{Verdict, Welcome, Refuse, verdict, verdict_by, header_verdict, is_type, is_party}
use Rattle.gateway.specs.Verdict.{is_logon_body}
use Rattle.gateway.specs.Answers.{Judgement, judgement, judged, no_time, time_after, goes_on, Reply, Logon, Heartbeat}
use Rattle.gateway.specs.Answers.{Logout, replies_of, replies_by}
use Rattle.gateway.specs.Standing.{Standing, Item, Answer, Output, is_logon, replies_in, At, Held}
use Rattle.gateway.proofs.Lists.{and_left}

-- THE FIRST FRAME IS THE LOGON

refusal_or : (a : Bool) (r : Refusal) (v : Verdict) → (goes_on v ≡ true → v ≡ Welcome)
    → goes_on (if a then Refuse r else v) ≡ true → (if a then Refuse r else v) ≡ Welcome
refusal_or true r v welcome goes = cc
refusal_or false r v welcome goes = welcome goes

welcome_or : (a : Bool) (r : Refusal) → goes_on (if a then Welcome else Refuse r) ≡ true
    → (if a then Welcome else Refuse r) ≡ Welcome
welcome_or true r goes = refl
welcome_or false r goes = cc

header_welcome : (gateway : ℕ) (h : Header) → goes_on (header_verdict gateway 0 h) ≡ true → header_verdict gateway 0 h
    ≡ Welcome
header_welcome gateway h =
    refusal_or (not (is_party gateway h)) WrongParty _
    (refusal_or (not (h.number == 0 + 1)) WrongNumber _
    (refusal_or (not (is_type h (codes "A"))) NoLogon _ (welcome_or (is_logon_body h.rest) BadLogon)))

some_welcome : (gateway : ℕ) (h : Option Header) → goes_on (verdict_by gateway 0 h) ≡ true → verdict_by gateway 0 h
    ≡ Welcome
some_welcome gateway None goes = cc
some_welcome gateway (Some h) goes = header_welcome gateway h goes

first_welcome : (gateway : ℕ) (frame : List Field) → goes_on (verdict gateway 0 frame) ≡ true → verdict gateway 0 frame
    ≡ Welcome
unfolding verdict
first_welcome gateway frame goes = some_welcome gateway (header_of frame) goes

-- WITHOUT A LOGON

-- where the first reply is to a Logon, a Logon stands among the items
logon_said : (items : List Item) (time : List ℕ) (rest : List Reply) → flat_map replies_in items ≡ Logon time ∷ rest
    → list_any is_logon items ≡ true
logon_said [] time rest is = cc
logon_said (Output said ∷ items) time rest is = logon_said items time rest is
logon_said (Answer (Logon t) ∷ items) time rest is = refl
logon_said (Answer (Heartbeat t echo) ∷ items) time rest is = cc
logon_said (Answer (Logout t text) ∷ items) time rest is = cc

no_frames : (gateway : ℕ) (frames : List (List Field)) (lasts : List Judgement) (items : List Item)
    → list_all (λ j. goes_on j.verdict) (judged gateway 0 no_time frames) ≡ true
    → flat_map replies_in items ≡ flat_map replies_of (judged gateway 0 no_time frames ++ lasts)
    → list_any is_logon items ≡ false → frames ≡ []
no_frames gateway [] lasts items all_go_on answered off = refl
no_frames gateway (frame ∷ frames) lasts items all_go_on answered off =
    let j = judgement gateway 0 no_time frame in
    let rest : List Reply = flat_map replies_of (judged gateway (0 + 1) (time_after no_time frame) frames ++ lasts) in
    let welcome : verdict gateway 0 frame ≡ Welcome = first_welcome gateway frame (and_left _ _ all_go_on) in
    let first : replies_of j ≡ Logon j.time ∷ [] = ap (replies_by j.time) welcome in
    let on = logon_said items j.time rest (answered ∙ ap (λ (rs : List Reply). rs ++ rest) first) in cc

no_last : (before : List Judgement) (j : Judgement) → [] ≡ before ++ j ∷ [] → ⊥
no_last [] j is = cc
no_last (b ∷ before) j is = cc

none_held : (held : Option (List ℕ)) (closing : Option Reason) (messages : List (List ℕ))
    → Held held closing messages [] → messages ≡ []
none_held (Some message) (Some reason) messages waits = absurd waits
none_held (Some message) None messages waits = absurd (no_last waits.before waits.last waits.judgements_are)
none_held None None messages is = is
none_held None (Some reason) messages (inl (other, is)) = is
none_held None (Some reason) messages (inr (same, message, waits)) = absurd
    (no_last waits.before waits.last waits.judgements_are)

-- a session that nobody is logged on to has published nothing
pub none_published : (s : Standing) (input : List ℕ) (messages : List (List ℕ)) (outs : List Said) (written : List ℕ)
    → At s input messages outs written → s.logged_on ≡ false → messages ≡ []
none_published s input messages outs written stands off =
    let spoken = stands.spoken in
    let none_accepted : stands.frames ≡ [] =
    no_frames s.gateway stands.frames stands.lasts spoken.items stands.answers.accepted spoken.says.answered
    (sym spoken.logon ∙ off) in
    none_held s.held s.closing messages (rw none_accepted at stands.held)
