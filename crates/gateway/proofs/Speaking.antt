-- What a session has said, after one more item or after some bytes went out.
use Rattle.std.proofs.Common.{◌≡◌, ℕ, suc, ◌+◌, add-zero, Bool, true, false, ◌||◌, List, [], ◌∷◌, ◌++◌, length}
use Rattle.std.proofs.Common.{refl, ap, sym, ◌∙◌, arith, append_assoc, append-nil}
use Rattle.std.specs.Cmp.Derive.{both_true}
use Rattle.std.specs.List.{list_any}
use Rattle.fix_orders.specs.Text.{Said}
use Rattle.gateway.specs.Answers.{Reply, Logon, Heartbeat, Logout}
use Rattle.gateway.specs.Standing.{speaker, Spoken, Item, Answer, Output, said_of, said_by, replies_in, outputs_in}
use Rattle.gateway.specs.Standing.{numbered, message_text, is_logon, is_logout, orderly}
use Rattle.gateway.proofs.Lists.{and_left, and_right, flat_map-push, list_any-push, length-push}

-- the bytes of one more item
numbered-push : (gateway n : ℕ) (items : List Item) (item : Item) →
    numbered gateway n (items ++ item ∷ []) ≡ numbered gateway n items
    ++ message_text gateway (n + length items) (said_of item)
numbered-push gateway n [] item = rw (append-nil, add-zero)
numbered-push gateway n (x ∷ items) item =
    let number : n + 1 + length items ≡ n + suc (length items) = omega arith in
    rw (numbered-push gateway (n + 1) items item, append_assoc, number)

pub or_false : (b : Bool) → (b || false) ≡ b
or_false true = refl
or_false false = refl

pub or_true : (b : Bool) → (b || true) ≡ true
or_true true = refl
or_true false = refl

-- nothing stands behind a Logout, so where there is none one more item may follow
orderly-push : (on : Bool) (items : List Item) (item : Item) → orderly on items ≡ true
    → list_any is_logout items ≡ false →
    orderly (on || list_any is_logon items) (item ∷ []) ≡ true → orderly on (items ++ item ∷ []) ≡ true
orderly-push on [] item order none this = rw or_false at this
orderly-push on (Answer (Logon time) ∷ items) item order none this =
    orderly-push true items item order none (rw or_true at this)
orderly-push on (Answer (Heartbeat time echo) ∷ items) item order none this = orderly-push on items item order none this
orderly-push on (Answer (Logout time text) ∷ items) item order none this = cc
orderly-push on (Output said ∷ items) item order none this =
    both_true (and_left _ _ order) (orderly-push on items item (and_right _ _ order) none this)

-- one more item is said
pub spoken-item : {gateway number : ℕ} {on : Bool} {bytes : List ℕ} {replies : List Reply} {outs : List Said}
    (item : Item) →
    Spoken (speaker gateway number on false) bytes replies outs → orderly on (item ∷ []) ≡ true →
    Spoken (speaker gateway (number + 1) (on || is_logon item) (is_logout item))
    (bytes ++ message_text gateway number (said_of item)) (replies ++ replies_in item) (outs ++ outputs_in item)
spoken-item {gateway} {number} {on} {bytes} item spoken allowed = record {
  items = spoken.items ++ item ∷ [];
  says = record {
    answered = rw (flat_map-push, spoken.says.answered);
    handed = rw (flat_map-push, spoken.says.handed);
    frames = rw (numbered-push, spoken.says.frames, spoken.next);
    order = orderly-push false spoken.items item spoken.says.order (sym spoken.logout) (rw spoken.logon at allowed);
  };
  next = omega (arith, spoken.next, length-push spoken.items item);
  logon = rw (spoken.logon, list_any-push);
  logout = ap (λ b. b || is_logout item) spoken.logout ∙ sym (list_any-push is_logout spoken.items item);
}

module _ {gateway number : ℕ} {on : Bool} {bytes : List ℕ} {replies : List Reply} {outs : List Said}
    (spoken : Spoken (speaker gateway number on false) bytes replies outs) where
  -- a reply is said
  pub spoken-reply : (reply : Reply) → orderly on (Answer reply ∷ []) ≡ true →
      Spoken (speaker gateway (number + 1) (on || is_logon (Answer reply)) (is_logout (Answer reply)))
      (bytes ++ message_text gateway number (said_by reply)) (replies ++ reply ∷ []) outs
  spoken-reply reply allowed = rw append-nil at (spoken-item (Answer reply) spoken allowed)
