-- What a step of one word tells of the log and its outputs, besides what it makes of the seat.
use Rattle.std.specs.Prelude.{◌≡◌, ◌≢◌, ℕ, suc, ◌^◌, ◌≤◌, List, ◌++◌, length}
use mathlib.Core.Option.{some}
use lib.ListN.{get_elem?}
use Rattle.venue_model.specs.History.{Message}
use Rattle.venue_model.specs.Texts.{Text}
use Rattle.venue_model.specs.declared.commands.Command.{Command}
use Rattle.venue_model.specs.declared.outputs.Output.{Output}
use Rattle.ring_words.specs.declared.view.Person.{Person}
use Rattle.ring_words.specs.Places.{unmarshalled, journalled, marshalled, published, in_row}
use Rattle.ring_words.specs.Log.{IsEntry}
use Rattle.command_words.specs.Packing.{command_words, IsPackable}
use Rattle.ring_words.specs.Texts.{text_words, IsPackableText}
use Rattle.ring_words.specs.Seats.{looked, looked_twice, knowing, saw, last_from}
use Rattle.ring_words.specs.At.{At, Steps}
use Rattle.ring_words.specs.Steps.{lesser_of, Reaches, IsLegal}

-- word i of the command of the entry at s, which the person knows, is x
abbrev pub IsCommandWord : (ℕ → Message → Command) → Person → ℕ → ℕ → ℕ → Type 0
IsCommandWord reads p s i x = (y : ℕ) (e : Message) → get_elem? p.seen s ≡ some e → get_elem? (command_words e.gateway (reads s e)) i ≡ some y
    → (x ≡ y) × IsPackable e.gateway (reads s e) × IsEntry e

-- x is the number of the gateway that the output at q goes to
abbrev pub IsAddress : (List Message → List Output) → Person → ℕ → ℕ → Type 0
IsAddress outputs p q x = (o : Output) → get_elem? (outputs p.seen) q ≡ some o → x ≡ o.to

-- word i of the text of the output at q is x
abbrev pub IsTextWord : (List Message → List Output) → (Output → ℕ → Text) → Person → ℕ → ℕ → ℕ → Type 0
IsTextWord outputs text p q i x = (y : ℕ) (o : Output) → get_elem? (outputs p.seen) q ≡ some o → get_elem? (text_words (text o q)) i ≡ some y
    → (x ≡ y) × IsPackableText (text o q)

module _ {L : Type 0} where
  -- the availability word of the next sequence that the seat doesn't know, in a ring of n rows, was loaded and showed it: its entry is known
  abbrev pub FindsEntry : ℕ → At L → At L → Type 0
  FindsEntry n old new = (e : Message) × IsEntry e
      × Steps old (saw (looked old.who (in_row n (length old.who.seen) 0) (suc (length old.who.seen))) e) new

  -- that word was loaded and showed another sequence, or none
  abbrev pub FindsNone : ℕ → At L → At L → Type 0
  FindsNone n old new = (x : ℕ) × (x ≢ suc (length old.who.seen)) × Steps old (looked old.who (in_row n (length old.who.seen) 0) x) new

  -- journalled was loaded as x: all entries below it and below the unmarshalled value that was loaded last are known
  abbrev pub FindsJournalled : At L → ℕ → At L → Type 0
  FindsJournalled old x new = (rest : List Message) × Reaches (lesser_of (last_from unmarshalled 0 old.who.loads) x) old.who.seen rest
      × Steps old (knowing (looked old.who journalled x) rest) new

  -- published was loaded as x, which isn't below the marshaller's word: a history is known that has so many outputs
  abbrev pub FindsPublished : (List Message → List Output) → At L → ℕ → At L → Type 0
  FindsPublished outputs old x new = (rest : List Message) × Steps old (knowing (looked old.who published x) rest) new
      × (x ≤ length (outputs (old.who.seen ++ rest))) × (old.who.sequence ≤ x)

  -- the answer x is the output at q of those that the person knows; the word at k has its address, and was loaded twice, before the output was
  -- copied and after that
  abbrev pub FindsCopy : List Output → At L → ℕ → ℕ → Output → At L → Type 0
  FindsCopy outputs old k q x new = (o : Output) → get_elem? outputs q ≡ some o → (x ≡ o) × Steps old (looked_twice old.who k o.to) new

  -- Marshalled was loaded as x, above the gateway's count. A history is known that goes on from what was seen, is legal for the gateway behind so
  -- many entries of the history at the start, and has an output at the gateway's count
  pub record FindsOutput (outputs : List Message → List Output) (old : At L) (x : ℕ) (new : At L) : Type 0 where
    pub rest : List Message
    pub step : Steps old (knowing (looked old.who marshalled x) rest) new
    pub legal : IsLegal (length old.base) old.who (old.who.seen ++ rest)
    pub few : length (old.who.seen ++ rest) ≤ 2 ^ 48
    pub output : (o : Output) × (get_elem? (outputs (old.who.seen ++ rest)) old.who.sequence ≡ some o)
