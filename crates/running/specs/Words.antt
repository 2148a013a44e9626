-- The words of the program's command line (docs/OPERATING.md, "Commands"): PORT, JOURNAL, GATEWAYS, and the symbols.
use Rattle.std.specs.Prelude.{⊤, ◌≡◌, ℕ, ◌≤◌, List, ◌∷◌, length, codes}
use Rattle.std.specs.Fmt.{decimal}
use Rattle.venue_model.specs.Requests.{Limits}
use Rattle.venue_model.specs.Spelling.{AreSymbols}
use Rattle.running.specs.declared.words.Mode.{Mode}
use Rattle.running.specs.declared.words.Mode.TheVariants.{Standard, Listening}

-- the word is the number n, 1 to `most`, in decimal digits, with no sign and no 0 in front
pub record IsNumberTo (most : ℕ) (word : List ℕ) (n : ℕ) : Type 0 where
  pub spelled : word ≡ decimal n
  pub range : (1 ≤ n) × (n ≤ most)

-- PORT and GATEWAYS say this mode: `-` and `1`, or the first gateway's port and how many gateways there are
abbrev pub IsMode : List ℕ → List ℕ → Mode → Type 0
IsMode port gateways Standard = (port ≡ codes "-") × (gateways ≡ codes "1")
IsMode port gateways (Listening first many) = IsNumberTo 65528 port first × IsNumberTo 8 gateways many

-- the range of a mode's numbers
abbrev pub IsInRange : Mode → Type 0
IsInRange Standard = ⊤
IsInRange (Listening first many) = (first ≤ 65528) × (1 ≤ many) × (many ≤ 8)

-- the words `PORT JOURNAL GATEWAYS SYMBOL...` with this mode, this journal and these symbols
pub record AreWords (words : List (List ℕ)) (mode : Mode) (journal : List ℕ) (symbols : List (List ℕ)) : Type 0 where
  pub port : List ℕ
  pub gateways : List ℕ
  pub spelled : words ≡ port ∷ journal ∷ gateways ∷ symbols
  pub mode_is : IsMode port gateways mode
  pub named : 1 ≤ length journal
  pub traded : AreSymbols symbols

-- A venue with these symbols. The cut is that of a journal that is made anew, and isn't used: market orders are read
-- from the cut of the journal that is there.
abbrev pub trading : List (List ℕ) → Limits
trading symbols = record { symbols = symbols; cut = 0 }
