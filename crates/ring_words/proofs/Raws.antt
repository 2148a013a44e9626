-- The words of a message determine it.
use Rattle.std.proofs.Common.{◌≡◌, ℕ, suc, ◌+◌, ◌*◌, ◌/◌, ◌%◌, ◌<◌, List, length, get_or, refl, ap, sym, ◌∙◌, arith}
use Rattle.std.proofs.Common.{mod-lt}
use Rattle.std.specs.Int.{from_be_bytes}
use Rattle.std.proofs.lemmas.Nat.{div-add-mod'}
use Rattle.std.proofs.lemmas.List.{ext_get_or}
use mir.Syntax.{w64}
use Rattle.venue_model.specs.History.{Message}
use Rattle.ring_words.specs.Log.{IsEntry}
use Rattle.ring_words.specs.Raw.{eight, raw_count, SpellsMessage}
use Rattle.ring_words.specs.RawLaws.{word_bytes, byte_at}

same_eight : (a b : List ℕ) (q : ℕ) → ((i : ℕ) → get_or a i 0 < 256) → ((i : ℕ) → get_or b i 0 < 256)
    → from_be_bytes w64 (eight a q) ≡ from_be_bytes w64 (eight b q) → eight a q ≡ eight b q
same_eight a b q sa sb e = sym (word_bytes a q (from_be_bytes w64 (eight a q)) sa refl)
    ∙ word_bytes b q (from_be_bytes w64 (eight a q)) sb e

-- words spell one message
pub spelled_once : (ws : List ℕ) (e d : Message) → IsEntry e → IsEntry d → SpellsMessage ws e → SpellsMessage ws d
    → e ≡ d
spelled_once ws e d ve vd a b =
    let head : e.gateway * 65536 + length e.bytes ≡ d.gateway * 65536 + length d.bytes = sym (a.each 0 (omega arith))
    ∙ b.each 0 (omega arith) in
    let most_e = ve.message.most in let most_d = vd.message.most in
    let one_gateway : e.gateway ≡ d.gateway = omega arith in
    let one_length : length e.bytes ≡ length d.bytes = omega arith in
    let one_text : e.bytes ≡ d.bytes = ext_get_or 0 e.bytes d.bytes one_length (λ i lt.
    let q : ℕ = i / 8 in
    let r : ℕ = i % 8 in
    let r_is : r < 8 = mod-lt i (let g : 0 < 8 = omega arith in g) in
    let dm : q * 8 + r ≡ i = div-add-mod' i 8 in
    let in_e : suc q < raw_count e = omega arith in let in_d : suc q < raw_count d = omega arith in
    let same = same_eight e.bytes d.bytes q ve.bytes vd.bytes (sym (a.each (suc q) in_e) ∙ b.each (suc q) in_d) in
    sym (byte_at e.bytes i) ∙ ap (λ (l : List ℕ). get_or l (i % 8) 0) same ∙ byte_at d.bytes i) in
    λ k. record { gateway = one_gateway k; bytes = one_text k }
