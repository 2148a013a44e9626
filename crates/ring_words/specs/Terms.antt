-- What the rule reads of what the rings were opened with.
use Rattle.std.specs.Prelude.{◌≡◌, ℕ, ◌≤◌, List, [], ◌∷◌, ◌++◌, length}
use Rattle.venue_model.specs.History.{Message}
use Rattle.venue_model.specs.Texts.{Text}
use Rattle.venue_model.specs.declared.commands.Command.{Command}
use Rattle.venue_model.specs.declared.outputs.Output.{Output}
use Rattle.ring_words.specs.declared.setup.Setup.{Setup}
use Rattle.command_words.specs.Packing.{command_words}

-- the numbers of input rows, output rows and gateways; the logic, and what it means: the command of an entry at a sequence, the outputs of a
-- history, and the text of an output at its place; the history at the start, and the number of its outputs
pub record Terms (L : Type 0) : Type 0 where
  pub rows : ℕ
  pub output_rows : ℕ
  pub gateways : ℕ
  pub logic : L
  pub reads : L → ℕ → Message → Command
  pub outputs : L → List Message → List Output
  pub text : L → Output → ℕ → Text
  pub base : List Message
  pub base_outputs : ℕ
  -- without entries there are no outputs; an entry more adds to them, at most 8,194
  pub nothing : outputs logic [] ≡ []
  pub grows : (h : List Message) (e : Message) → (more : List Output) × (outputs logic (h ++ e ∷ []) ≡ outputs logic h ++ more) × (length more ≤ 8194)

module _ {L : Type 0} where
  -- the rings of this setup, where a logic means these
  abbrev pub terms_of : (L → ℕ → Message → Command) → (outputs : L → List Message → List Output) → (L → Output → ℕ → Text)
      → ((logic : L) → outputs logic [] ≡ [])
      → ((logic : L) (h : List Message) (e : Message) → (more : List Output) × (outputs logic (h ++ e ∷ []) ≡ outputs logic h ++ more)
      × (length more ≤ 8194)) → Setup L → Terms L
  terms_of reads outputs text nothing grows k = record {
    rows = k.rows;
    output_rows = k.output_rows;
    gateways = k.gateways;
    logic = k.logic;
    reads = reads;
    outputs = outputs;
    text = text;
    base = k.base.entries;
    base_outputs = k.base_outputs;
    nothing = nothing k.logic;
    grows = grows k.logic;
  }

  -- the command of an entry at a sequence
  abbrev pub command_by : Terms L → ℕ → Message → Command
  command_by terms s e = terms.reads terms.logic s e

  -- its words
  abbrev pub commands_of : Terms L → ℕ → Message → List ℕ
  commands_of terms s e = command_words e.gateway (command_by terms s e)

  -- all outputs of a history
  abbrev pub outputs_by : Terms L → List Message → List Output
  outputs_by terms h = terms.outputs terms.logic h

  -- the text of an output at its place
  abbrev pub text_of : Terms L → Output → ℕ → Text
  text_of terms o p = terms.text terms.logic o p
