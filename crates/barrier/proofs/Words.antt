-- The words of one message, and its bytes in the buffer.
use Rattle.std.proofs.Common.{◌≡◌, ℕ, suc, ◌+◌, ◌*◌, ◌/◌, ◌<◌, ◌≤◌, List, ◌++◌, length, refl, sym, ap, ◌∙◌, arith}
use Rattle.std.proofs.Common.{append_assoc, add-one, subst}
use borrow.Rule.Slice.PartMut.{put_mid}
use Rattle.std.specs.Int.{div_ceil, to_be_bytes}
use mathlib.Core.Option.{some, some-injective}
use mir.Syntax.{w64}
use lib.ListN.{get_elem?}
use Rattle.venue_model.specs.History.{Message}
use Rattle.venue_model.specs.ListLaws.{stands}
use Rattle.ring_words.specs.declared.view.Load.{Load}
use Rattle.ring_words.specs.Places.{in_row}
use Rattle.ring_words.specs.Log.{IsEntry}
use Rattle.ring_words.specs.Raw.{raw_word, raw_count}
use Rattle.ring_words.specs.Seats.{looked}
use Rattle.ring_words.specs.At.{At, Steps, seated}
use Rattle.ring_words.specs.declared.heads.Raw.{Raw}
use Rattle.barrier.specs.Reading.{IsMessageHead, ReadsMessage, word_loads, after_loads}
use Rattle.barrier.proofs.Buffers.{Agrees, begins, stays_long, agrees_more}

-- the gateway in word 0
quotient : (x g l : ℕ) → x ≡ g * 65536 + l → l < 65536 → x / 65536 ≡ g
quotient x g l is small = omega arith

head_gateway : (e : Message) (x : ℕ) → (x ≡ raw_word e 0) × IsEntry e → x / 65536 ≡ e.gateway
head_gateway e x h = let most = h.1.message.most in quotient x e.gateway (length e.bytes) h.0 (omega arith)

-- each message has word 0
pub has_head : (e : Message) → 0 < raw_count e
has_head e = let k : ℕ = (length e.bytes + 7) / 8 in let g : 0 < suc k = omega arith in g

-- the gateway that word 0 of a known sequence names is a byte
pub head_fits : (seen : List Message) (s x : ℕ) → s < length seen
    → ((e : Message) → get_elem? seen s ≡ some e → 0 < raw_count e → (x ≡ raw_word e 0) × IsEntry e) → x / 65536 < 256
head_fits seen s x low h = let e = stands seen s low in let at = h e.0 e.1 (has_head e.0) in
    let is = head_gateway e.0 x at in let most = at.1.message.to in omega arith

-- so many words behind the head are loaded, and the buffer agrees with them
pub record Reads {L : Type 0} (n : ℕ) (v u : At L) (s : ℕ) (raw : Raw) (buf : List ℕ) (k : ℕ) : Type 0 where
  pub entry : Message
  pub at : get_elem? v.who.seen s ≡ some entry
  pub head : IsMessageHead entry raw
  pub loads : u ≡ seated v (after_loads n v.who s entry (k + 1))
  pub long : length buf ≡ 320
  pub same : Agrees buf entry.bytes k

-- none behind the load of the head
pub reads_none : {L : Type 0} {n : ℕ} {v u : At L} {s : ℕ} {raw : Raw} {buf : List ℕ} → s < length v.who.seen
    → ((e : Message) → get_elem? v.who.seen s ≡ some e → u ≡ seated v (after_loads n v.who s e 1))
    → ((e : Message) → get_elem? v.who.seen s ≡ some e → IsMessageHead e raw) → length buf ≡ 320
    → Reads n v u s raw buf 0
reads_none {v = v} {s = s} inside step head long = let e = stands v.who.seen s inside in record {
  entry = e.0;
  at = e.1;
  head = head e.0 e.1;
  loads = step e.0 e.1;
  long = long;
  same = λ j lt. absurd (omega arith);
}

module _ {L : Type 0} {n : ℕ} {v u : At L} {s : ℕ} {raw : Raw} {buf : List ℕ} {i last : ℕ}
    (so_far : Reads n v u s raw buf i) (ends : last ≡ div_ceil raw.len 8) where
  abbrev e : Message
  e = so_far.entry

  -- a word more is loaded, and its bytes are put behind
  pub reads_more : {w : At L} {m x : ℕ} {ys zs : List ℕ} → i < last
      → Steps u (looked u.who (in_row n s (i + 1 + 1)) x) w
      → ((d : Message) → get_elem? u.who.seen s ≡ some d → i + 1 < raw_count d → (x ≡ raw_word d (i + 1)) × IsEntry d)
      → zs ≡ to_be_bytes w64 x → ys ≡ zs → m ≡ 8 → Reads n v w s raw (put_mid (8 * i) m buf ys) (i + 1)
  reads_more {m = m} {x = x} {ys = ys} {zs = zs} lt step word bytes are eight_long =
      let len = so_far.head.len in let most = so_far.head.entry.message.most in
      let inside : 8 * i + 8 ≤ 320 = omega arith in
      let here : get_elem? u.who.seen s ≡ some e =
      subst (λ (y : At L). get_elem? y.who.seen s ≡ some e) (sym so_far.loads) so_far.at in
      let is = word e here (omega arith) in
      record {
        entry = e;
        at = so_far.at;
        head = so_far.head;
        loads = rw so_far.loads at step ∙ ap (λ (l : List Load). seated v (record v.who { loads = l }))
            (append_assoc v.who.loads (word_loads n s e (i + 1)) _
            ∙ ap (λ (l : List Load). v.who.loads ++ l) (rw (is.0, add-one (i + 1)) refl));
        long = stays_long buf ys zs i m x so_far.long inside bytes are eight_long;
        same = agrees_more buf ys zs i m x so_far.long inside bytes are eight_long e.bytes so_far.same is.1.bytes
            (is.0 ∙ ap (raw_word e) (add-one i));
      }

  -- all are: the message that stands there was read
  pub reads_all : i ≤ last → last ≤ i → (d : Message) → get_elem? v.who.seen s ≡ some d
      → ReadsMessage d raw buf × (u ≡ seated v (after_loads n v.who s d (raw_count d)))
  reads_all le ge d at =
      let len = so_far.head.len in let most = so_far.head.entry.message.most in let long = so_far.long in
      let all : i + 1 ≡ raw_count e = omega arith in
      subst (λ (m : Message). ReadsMessage m raw buf × (u ≡ seated v (after_loads n v.who s m (raw_count m))))
      (some-injective e d (sym so_far.at ∙ at)) (
        record { head = so_far.head; bytes = begins buf e.bytes raw.len i len (omega arith) (omega arith) so_far.same },
        so_far.loads ∙ ap (λ (k : ℕ). seated v (after_loads n v.who s e k)) all,
      )
