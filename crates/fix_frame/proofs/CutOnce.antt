-- Two cuts of one stream are one.
use Rattle.std.proofs.Common.{◌≡◌, ℕ, List, [], ◌∷◌, ◌++◌, refl, ap, sym, ◌∙◌}
use Rattle.std.specs.List.{AllByRecursion, flat_map}
use Rattle.std.proofs.lemmas.List.{append_assoc}
use Rattle.fix_frame.specs.Grammar.{Field, IsBody, frame_text, most_in}
use Rattle.fix_frame.specs.Stream.{Cut, BeginsNoFrame}
use Rattle.fix_frame.proofs.FrameLemmas.{one_frame}

abbrev stream_of : List (List Field) → List ℕ → List ℕ
stream_of frames rest = flat_map frame_text frames ++ rest

same_frames : (fs gs : List (List Field)) (rest more : List ℕ) → AllByRecursion (IsBody most_in) fs →
    AllByRecursion (IsBody most_in) gs → BeginsNoFrame rest → BeginsNoFrame more →
    stream_of fs rest ≡ stream_of gs more → (fs ≡ gs) × (rest ≡ more)
same_frames [] [] rest more each other none last e = (refl, e)
same_frames [] (g ∷ gs) rest more each other none last e =
    absurd (none g (stream_of gs more) other.0 (e ∙ append_assoc (frame_text g) (flat_map frame_text gs) more))
same_frames (f ∷ fs) [] rest more each other none last e =
    absurd (last f (stream_of fs rest) each.0 (sym e ∙ append_assoc (frame_text f) (flat_map frame_text fs) rest))
same_frames (f ∷ fs) (g ∷ gs) rest more each other none last e =
    let first = one_frame f g (stream_of fs rest) (stream_of gs more) each.0 other.0
    (sym (append_assoc (frame_text f) (flat_map frame_text fs) rest) ∙ e ∙
    append_assoc (frame_text g) (flat_map frame_text gs) more) in
    let others = same_frames fs gs rest more each.1 other.1 none last first.1 in
    (ap (λ h. h ∷ fs) first.0 ∙ ap (λ hs. g ∷ hs) others.0, others.1)

pub cut_once : (stream : List ℕ) (frames others : List (List Field)) (rest more : List ℕ) → Cut stream frames rest →
    Cut stream others more → (frames ≡ others) × (rest ≡ more)
cut_once stream frames others rest more a b =
    same_frames frames others rest more a.each b.each a.partial b.partial (sym a.whole ∙ b.whole)
