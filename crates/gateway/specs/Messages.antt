-- Messages: what is needed to say one to the client, its header, and one that is held.
use Rattle.std.specs.Prelude.{◌≡◌, ◌≢◌, ℕ, ◌≤◌, List, [], ◌∷◌, length, Option, Some, None}
use Rattle.std.specs.List.{AllByRecursion}
use Rattle.fix_frame.specs.Ascii.{soh}
use Rattle.fix_frame.specs.Grammar.{Field, IsField, LacksSoh, print_fields}
use Rattle.fix_orders.specs.Formats.{time_text}
use Rattle.fix_orders.specs.Text.{Said, field, number}
use Rattle.gateway.specs.Verdict.{client_name, venue_name}

-- the text of MsgType (35): one byte, not SOH
abbrev pub IsTypeText : List ℕ → Type 0
IsTypeText type = (b : ℕ) × (b ≢ soh) × (type ≡ b ∷ [])

-- the bytes of a body's fields
abbrev pub AreFields : List ℕ → Type 0
AreFields body = (fields : List Field) × AllByRecursion IsField fields × (print_fields fields ≡ body)

-- type, time and the bytes of the body say this
pub record Spells (type : List ℕ) (time : ℕ) (body : List ℕ) (said : Said) : Type 0 where
  pub kind : said.kind ≡ type
  pub time_is : said.time ≡ time_text time
  pub body_is : print_fields said.body ≡ body
  pub fields : AllByRecursion IsField said.body

-- the text of a refusal: 1 to 20 bytes, none of them SOH
pub record IsRefusalText (text : List ℕ) : Type 0 where
  pub some : 1 ≤ length text
  pub most : length text ≤ 20
  pub lacks : LacksSoh text

-- MsgType (35), SenderCompID (49), TargetCompID (56), MsgSeqNum (34) and SendingTime (52)
abbrev pub header_fields : ℕ → ℕ → List ℕ → List ℕ → List Field
header_fields gateway n type time =
    field 35 type ∷ field 49 venue_name ∷ field 56 (client_name gateway) ∷ number 34 n ∷ field 52 time ∷ []

-- the message of these bytes; where there are none, none is held
abbrev pub message_in : List ℕ → Option (List ℕ)
message_in [] = None
message_in (b ∷ bytes) = Some (b ∷ bytes)
