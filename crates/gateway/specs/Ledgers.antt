-- What a gateway's seat at the rings tells its session, and what each of the session's two calls tells.
use Rattle.std.specs.Prelude.{◌≡◌, ◌⊎◌, ℕ, ◌+◌, ◌^◌, ◌<◌, ◌≤◌, List, [], ◌∷◌, ◌++◌, take}
use Rattle.std.specs.List.{AllByRecursion}
use Rattle.fix_frame.specs.Grammar.{IsField, print_fields}
use Rattle.fix_orders.specs.Formats.{time_text}
use Rattle.fix_orders.specs.Text.{Said, msg_type_code}
use Rattle.ring_words.specs.declared.view.Load.{Load}
use Rattle.ring_words.specs.Places.{claim, processed, marshalled}
use Rattle.ring_words.specs.Seats.{load_of}
use Rattle.sequencer.specs.Claims.{last_processed, SeesRoom}
use Rattle.barrier.specs.declared.taken.Head.{Head}
use Rattle.barrier.specs.declared.taken.Take.{Take}
use Rattle.barrier.specs.declared.taken.Take.TheVariants.{Mine, Passed, Nothing}
use Rattle.gateway.specs.declared.seat.TryPublish.{TryPublish}
use Rattle.gateway.specs.declared.seat.TryPublish.TheVariants.{Done, Refused, Exhausted}

-- how many rows the input ring has; the messages published and the outputs taken, in order; how many outputs were taken or passed over, with
-- those at the start; and the loads of the rings' words
pub record Ledger : Type 0 where
  pub rows : ℕ
  pub published : List (List ℕ)
  pub taken : List Said
  pub count : ℕ
  pub loads : List Load

-- these words were loaded besides
abbrev pub ledger_loading : Ledger → List Load → Ledger
ledger_loading l ls = record l { loads = l.loads ++ ls }

-- A claim in a ring of n rows came too early: the claim word was s, then the processed word was p, and all rows from p on were claimed. Or too late: there
-- was room for s, by the processed value that the earlier loads had found last or by one loaded for it, but then the claim word was t, above s.
-- Sequences are left
abbrev pub IsRefused : ℕ → List Load → List Load → Type 0
IsRefused n earlier ls = ((s p : ℕ) × (ls ≡ load_of claim s ∷ load_of processed p ∷ []) × (s ≡ p + n) × (s < 2 ^ 48))
    ⊎ ((s p t : ℕ) × ((more : List Load) × SeesRoom n (last_processed earlier) s p more × (ls ≡ load_of claim s ∷ more ++ load_of claim t ∷ [])
    × (s < p + n) × (s < 2 ^ 48) × (s < t)))

-- a sequence was claimed: the claim word was s, below 2 ^ 48; the processed value that the earlier loads had found last, or one loaded for it, was
-- some p that left room; and then the claim word still was s
abbrev pub IsClaimed : ℕ → List Load → List Load → Type 0
IsClaimed n earlier ls = (s p : ℕ) × ((more : List Load) × SeesRoom n (last_processed earlier) s p more
    × (ls ≡ load_of claim s ∷ more ++ load_of claim s ∷ []) × (s < p + n) × (s < 2 ^ 48))

-- no sequence was left to claim
abbrev pub IsExhausted : List Load → Type 0
IsExhausted ls = ls ≡ load_of claim (2 ^ 48) ∷ []

-- what a try to publish with this answer tells
abbrev pub PublishTells : Ledger → Ledger → List ℕ → TryPublish → Type 0
PublishTells old new message Done = (ls : List Load) × IsClaimed old.rows old.loads ls × (new ≡ record (ledger_loading old ls) { published = old.published ++ message ∷ [] })
PublishTells old new message Refused = (ls : List Load) × IsRefused old.rows old.loads ls × (new ≡ ledger_loading old ls)
PublishTells old new message Exhausted = (ls : List Load) × IsExhausted ls × (new ≡ ledger_loading old ls)

-- a head and the bytes of a body say this
pub record CarriesSaid (head : Head) (body : List ℕ) (said : Said) : Type 0 where
  pub type : said.kind ≡ msg_type_code head.kind
  pub time : said.time ≡ time_text head.time
  pub bytes : print_fields said.body ≡ take head.len body
  pub fields : AllByRecursion IsField said.body
  pub most : head.len ≤ 320

-- what a look with this answer tells. Outputs are fewer than 2 ^ 62. Where there is none, the marshalled word is loaded, and shows none at the count
abbrev pub TakeTells : Ledger → Ledger → List ℕ → Take → Type 0
TakeTells old new body (Mine head) =
    (said : Said) × CarriesSaid head body said × (old.count + 1 ≤ 2 ^ 62)
    × (ls : List Load) × (new ≡ record (ledger_loading old ls) { taken = old.taken ++ said ∷ []; count = old.count + 1 })
TakeTells old new body Passed = (old.count + 1 ≤ 2 ^ 62) × (ls : List Load) × (new ≡ record (ledger_loading old ls) { count = old.count + 1 })
TakeTells old new body Nothing = new ≡ ledger_loading old (load_of marshalled old.count ∷ [])
