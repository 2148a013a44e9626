-- Worked frames, computed by the definitions: a Logon, and an order.
use Rattle.std.specs.Prelude.{◌≡◌, ℕ, List, [], ◌∷◌, ◌++◌, codes, length}
use Rattle.std.specs.Fmt.{digits}
use Rattle.std.proofs.Common.{refl}
use Rattle.fix_frame.specs.Grammar.{Field, field_then, head, trailer, frame_of, frame_text}

abbrev soh : List ℕ
soh = 1 ∷ []

abbrev field : ℕ → List ℕ → Field
field tag value = record { tag = tag; value = value }

abbrev pub logon : List Field
logon =
    field 35 (codes "A") ∷ field 49 (codes "C1") ∷ field 56 (codes "VENUE") ∷ field 34 (codes "1") ∷ field 52
    (codes "20250102-09:30:00")
    ∷ field 98 (codes "0") ∷ field 108 (codes "0") ∷ field 141 (codes "Y") ∷ []

-- 8=FIX.4.4|9=63|35=A|49=C1|56=VENUE|34=1|52=20250102-09:30:00|98=0|108=0|141=Y|10=026|
pub logon_text : frame_text logon
    ≡ codes "8=FIX.4.4" ++ (soh ++ (codes "9=63"
    ++ (soh ++ (codes "35=A" ++ (soh
    ++ (codes "49=C1" ++ (soh ++ (codes "56=VENUE"
    ++ (soh ++ (codes "34=1" ++ (soh
    ++ (codes "52=20250102-09:30:00"
    ++ (soh ++ (codes "98=0" ++ (soh
    ++ (codes "108=0" ++ (soh ++ (codes "141=Y" ++ (soh ++ (codes "10=026" ++ soh))))))))))))))))))))
unfolding field_then head trailer frame_of digits
logon_text = refl

pub logon_long : length (frame_text logon) ≡ 85
unfolding field_then head trailer frame_of digits
logon_long = refl
