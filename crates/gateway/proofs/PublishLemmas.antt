-- A try to publish: what it tells the session.
use Rattle.std.proofs.Common.{◌≡◌, inl, inr, ℕ, List, [], ◌∷◌, ◌++◌, refl, ap, ◌∙◌}
use Rattle.std.proofs.lemmas.List.{append_assoc, map-append}
use Rattle.venue_model.specs.Requests.{Limits}
use Rattle.ring_words.specs.At.{At, seated, number}
use Rattle.ring_words.specs.declared.view.Load.{Load}
use Rattle.ring_words.specs.declared.view.Sent.{Sent}
use Rattle.ring_words.specs.Places.{claim, processed}
use Rattle.ring_words.specs.Seats as seats
use Rattle.ring_words.specs.Seats.{load_of, looked, with_claim, marked, sent_of}
use Rattle.gateway.specs.declared.seat.TryPublish.TheVariants.{Done, Refused}
use Rattle.gateway.specs.Ledgers.{PublishTells}
use Rattle.gateway.specs.Seats.{messages_of, ledger_of, from_gateway, Published, Enters}

-- a load, some more, and one behind them
pub in_order : (xs ls : List Load) (l m : Load) → ((xs ++ l ∷ []) ++ ls) ++ m ∷ [] ≡ xs ++ (l ∷ ls ++ m ∷ [])
in_order xs ls l m = append_assoc (xs ++ l ∷ []) ls (m ∷ []) ∙ append_assoc xs (l ∷ []) (ls ++ m ∷ [])

module _ (n : ℕ) (s t : At Limits) (bytes : List ℕ) where
  -- a message was published
  pub tells_done : Published n s t bytes → PublishTells (ledger_of n s) (ledger_of n t) bytes Done
  tells_done done =
      let p : ℕ = done.claimed.0 in let more = done.claimed.1 in let a : ℕ = done.sequence in
      let e = from_gateway (number s) bytes in
      let claimed = with_claim (looked (seats.loading (looked s.who claim a) more.0) claim a) a in
      let is : t ≡ seated s (marked claimed a e) = done.published
      ∙ ap (λ (z : At Limits). seated z (marked z.who a e)) more.2 in
      let loads = in_order s.who.loads more.0 (load_of claim a) (load_of claim a) in
      let sends : messages_of (s.who.mine ++ sent_of a e ∷ []) ≡ messages_of s.who.mine ++ bytes ∷ [] =
      map-append (λ (m : Sent). m.entry.bytes) s.who.mine (sent_of a e ∷ []) in (
        load_of claim a ∷ more.0 ++ load_of claim a ∷ [],
        (a, p, (more.0, more.1, refl, more.3, more.4)),
        ap (ledger_of n) is ∙ (λ i. record (ledger_of n s) { published = sends i; loads = loads i }),
      )

  -- the ring was full, or another gateway was faster
  pub tells_refused : Enters n s t bytes Refused → PublishTells (ledger_of n s) (ledger_of n t) bytes Refused
  tells_refused (inl (a, p, is, full, few)) = (
    load_of claim a ∷ load_of processed p ∷ [],
    inl (a, p, refl, full, few),
    ap (ledger_of n) is ∙ ap (λ ls. record (ledger_of n s) { loads = ls })
        (append_assoc s.who.loads (load_of claim a ∷ []) (load_of processed p ∷ [])),
  )
  tells_refused (inr (a, p, b, (more, sees, is, room, few, late))) = (
    load_of claim a ∷ more ++ load_of claim b ∷ [],
    inr (a, p, b, (more, sees, refl, room, few, late)),
    ap (ledger_of n) is ∙ ap (λ ls. record (ledger_of n s) { loads = ls })
        (in_order s.who.loads more (load_of claim a) (load_of claim b)),
  )
