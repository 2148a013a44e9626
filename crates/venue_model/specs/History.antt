-- The history: every message that was published, in the one order that the venue works in.
use Rattle.std.specs.Prelude.{◌≡◌, ℕ, ◌≤◌, List, length, take}

-- a message and the gateway that it came through
pub record Message : Type 0 where
  pub gateway : ℕ
  pub bytes : List ℕ

-- the gateway is one of eight, the message has 1 to 320 bytes
pub record IsMessage (m : Message) : Type 0 where
  pub from : 1 ≤ m.gateway
  pub to : m.gateway ≤ 8
  pub some : 1 ≤ length m.bytes
  pub most : length m.bytes ≤ 320

-- a history; a message's sequence is its place, from 0
abbrev pub History : Type 0
History = List Message

-- what an entry keeps in its fields is a message
pub record KeepsMessage (gateway len : ℕ) (bytes : List ℕ) : Type 0 where
  pub long : length bytes ≡ 320
  pub within : len ≤ 320
  pub valid : IsMessage (record { gateway = gateway; bytes = take len bytes })
