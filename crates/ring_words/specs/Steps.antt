-- What each kind of step tells the one who makes it: of the step, the seat before, the number found (at a store, the number
-- stored), and the seat after.
use Rattle.std.specs.Prelude.{None, Some, ◌≡◌, ◌≢◌, ◌⊎◌, ℕ, suc, ◌+◌, ◌%◌, ◌^◌, ◌<◌, ◌≤◌, List, [], ◌∷◌, ◌++◌, length, take, if◌then◌else◌, nat_le}
use mathlib.Core.Option.{some}
use lib.ListN.{get_elem?}
use Rattle.atomic_table.specs.Table.{Me, Step, rest}
use Rattle.venue_model.specs.History.{Message}
use Rattle.venue_model.specs.Texts.{Text}
use Rattle.venue_model.specs.declared.commands.Command.{Command}
use Rattle.venue_model.specs.declared.outputs.Output.{Output}
use Rattle.ring_words.specs.declared.report.PlacedOutput.{PlacedOutput}
use Rattle.ring_words.specs.declared.view.Load.{Load}
use Rattle.ring_words.specs.declared.view.Part.{Part}
use Rattle.ring_words.specs.declared.view.Person.{Person}
use Rattle.ring_words.specs.declared.view.View.{View}
use Rattle.ring_words.specs.Places.{processed, claim, unmarshalled, journalled, marshalled, taken, published, in_row, out_row, number_of}
use Rattle.ring_words.specs.Log.{IsEntry, times_in, sent_at, published_at}
use Rattle.ring_words.specs.Raw.{raw_word, raw_count, SpellsMessage}
use Rattle.command_words.specs.Packing.{command_words, IsPackable}
use Rattle.ring_words.specs.Slots.{Boxed, report_of}
use Rattle.ring_words.specs.Texts.{text_words, IsPackableText}
use Rattle.ring_words.specs.Rule.{IsGateway, at_place}
use Rattle.ring_words.specs.Seats.{person, alone, looked, with_claim, stored, wrote, with_out, marked, saw, knowing, last_from, moved}

-- no claim value that the person loaded is above x
abbrev pub ClaimsUpTo : Person → ℕ → Type 0
ClaimsUpTo p x = (i : ℕ) (l : Load) → get_elem? p.loads i ≡ some l → l.place ≡ claim → l.value ≤ x

-- the person loaded some processed value that leaves room for s in a ring of n rows
abbrev pub HasRoom : ℕ → Person → ℕ → Type 0
HasRoom n p s = (i : ℕ) × ((l : Load) × (get_elem? p.loads i ≡ some l) × (l.place ≡ processed) × (s < l.value + n))

-- the person loaded some value of the word at k that is above q
abbrev pub Shows : ℕ → Person → ℕ → Type 0
Shows k p q = (i : ℕ) × ((l : Load) × (get_elem? p.loads i ≡ some l) × (l.place ≡ k) × (q < l.value))

-- of each of g gateways the person loaded some taken value that leaves room for the output at q in a ring of m rows
abbrev pub HasOutputRoom : ℕ → ℕ → Person → ℕ → Type 0
HasOutputRoom g m p q = (k : ℕ) → IsGateway g k → (i : ℕ) × ((l : Load) × (get_elem? p.loads i ≡ some l) × (l.place ≡ taken k) × (q < l.value + m))

-- the history has messages of this person's gateway, behind so many entries of the history at the start, exactly where it published them
abbrev pub IsLegal : ℕ → Person → List Message → Type 0
IsLegal start p h = (s : ℕ) → s < length h → sent_at s p.mine ≡ published_at start (number_of p.role) h s

-- word i of the row of s goes on with the row under way, or begins it
abbrev pub GoesOnRow : Part → ℕ → ℕ → Type 0
GoesOnRow t s i = (i ≡ 0) ⊎ ((t.sequence ≡ s) × (i ≤ length t.words))

abbrev pub lesser_of : ℕ → ℕ → ℕ
lesser_of a b = if nat_le a b then a else b

-- with these entries more as many as x are known; no more are added than that takes
abbrev pub Reaches : ℕ → List Message → List Message → Type 0
Reaches x seen rest = ((x ≤ length seen) × (rest ≡ [])) ⊎ ((length seen < x) × (length (seen ++ rest) ≡ x))

abbrev pub Seated : Type 0 → Type 0 → Type 0
Seated S L = Me S (View L)

-- What bounds who reads the output ring: how many rows the input ring has, how many the output ring has, and the place of the control word that shows
-- how far a reader may go. That is published for the marshaller, and marshalled for a gateway.
pub record Readable : Type 0 where
  pub rows : ℕ
  pub output_rows : ℕ
  pub how_far : ℕ

abbrev pub readable : ℕ → ℕ → ℕ → Readable
readable rows output_rows how_far = record { rows = rows; output_rows = output_rows; how_far = how_far }

-- what a logic means: the outputs of a history, and the text of an output at its place
pub record Meaning (L : Type 0) : Type 0 where
  pub outputs : L → List Message → List Output
  pub text : L → Output → ℕ → Text

abbrev pub meaning : {L : Type 0} → (L → List Message → List Output) → (L → Output → ℕ → Text) → Meaning L
meaning outputs text = record { outputs = outputs; text = text }

-- the unmarshaller wrote the whole command of the row under way, which it hasn't handed on and is that of the entry e, by this reading
pub record WroteCommand (reads : ℕ → Message → Command) (p : Person) (e : Message) : Type 0 where
  pub row : p.sequence ≤ p.row.sequence
  pub entry : get_elem? p.seen p.row.sequence ≡ some e
  pub words : p.row.words ≡ command_words e.gateway (reads p.row.sequence e)
  pub packable : IsPackable e.gateway (reads p.row.sequence e)

-- the rows that the unmarshaller may write: the first that it hasn't handed on, the one under way, and when that is written whole the next one
abbrev pub MayWrite : (ℕ → Message → Command) → Person → ℕ → Type 0
MayWrite reads p s = (s ≡ p.sequence) ⊎ ((s ≡ p.row.sequence) ⊎ ((s ≡ suc p.row.sequence) × ((e : Message) × WroteCommand reads p e)))

-- the processor published all outputs of the first entries that it knows, so many
abbrev pub HasPublished : (List Message → List Output) → Person → ℕ → Type 0
HasPublished outputs p upto = length (outputs (take upto p.seen)) ≤ p.row.sequence

-- the marshaller wrote the whole text of the row under way, which it hasn't handed on and is that of the output o; published was shown above it
pub record WroteText (outputs : List Message → List Output) (text : Output → ℕ → Text) (p : Person) (o : Output) : Type 0 where
  pub row : p.sequence ≤ p.row.sequence
  pub shown : Shows published p p.row.sequence
  pub output : get_elem? (outputs p.seen) p.row.sequence ≡ some o
  pub words : p.row.words ≡ text_words (text o p.row.sequence)
  pub packable : IsPackableText (text o p.row.sequence)

-- the rows that the marshaller may write: the first that it hasn't handed on, the one under way, and when that is written whole the next one
abbrev pub MayWriteText : (List Message → List Output) → (Output → ℕ → Text) → Person → ℕ → Type 0
MayWriteText outputs text p q = (q ≡ p.sequence) ⊎ ((q ≡ p.row.sequence) ⊎ ((q ≡ suc p.row.sequence) × ((o : Output) × WroteText outputs text p o)))

module _ {S L : Type 0} where
  -- the seat is as before, but for its one person, who is now q
  abbrev pub Became : Seated S L → Person → Seated S L → Type 0
  Became m q m' = m' ≡ (alone m.0 q, m.1)

  -- a load of claim
  abbrev pub sees_claim : Step S → Seated S L → ℕ → Seated S L → Type 0
  sees_claim st m r m' = Became m (looked (person m.0) claim r) m' × (length (person m.0).seen ≤ r) × (r ≤ 2 ^ 48)

  -- a load of processed
  abbrev pub sees_processed : ℕ → Step S → Seated S L → ℕ → Seated S L → Type 0
  sees_processed n st m r m' = Became m (looked (person m.0) processed r) m' × ClaimsUpTo (person m.0) (r + n)

  -- a compare-exchange of claim from one number to the next
  abbrev pub claims_next : Step S → Seated S L → ℕ → Seated S L → Type 0
  claims_next st m r m' = (r ≡ st.first → Became m (with_claim (looked (person m.0) claim r) r) m')
      × (r ≢ st.first → Became m (looked (person m.0) claim r) m') × ClaimsUpTo (person m.0) r

  -- a store of a raw word in a row that the gateway claimed
  abbrev pub stores_raw : ℕ → Step S → Seated S L → ℕ → Seated S L → Type 0
  stores_raw n st m r m' = (s i : ℕ) → 0 < times_in s (person m.0).claims → i < 41 → st.word ≡ in_row n s (i + 1)
      → Became m (stored (person m.0) s i r) m'

  -- a store of a command word in the row of a sequence that is known and not released
  abbrev pub stores_command : ℕ → Step S → Seated S L → ℕ → Seated S L → Type 0
  stores_command n st m r m' = (s i : ℕ) → (person m.0).sequence ≤ s → s < length (person m.0).seen
      → i < 16 → st.word ≡ in_row n s (i + 48) → Became m (stored (person m.0) s i r) m'

  -- a store of availability, when the words stored spell the message
  abbrev pub marks_sent : Step S → Seated S L → ℕ → Seated S L → Type 0
  marks_sent st m r m' = (s : ℕ) (e : Message) → r ≡ suc s → SpellsMessage (person m.0).row.words e → IsEntry e → Became m (marked (person m.0) s e) m'

  -- a load of the availability word of the next sequence
  abbrev pub sees_mark : Step S → Seated S L → ℕ → Seated S L → Type 0
  sees_mark st m r m' = (r ≡ suc (length (person m.0).seen)
      → (length (person m.0).seen < 2 ^ 48) × ((e : Message) × IsEntry e × Became m (saw (looked (person m.0) st.word r) e) m'))
      × (r ≢ suc (length (person m.0).seen) → Became m (looked (person m.0) st.word r) m')

  -- a load of a raw word of an entry that is known and not released
  abbrev pub sees_raw : ℕ → Step S → Seated S L → ℕ → Seated S L → Type 0
  sees_raw n st m r m' = Became m (looked (person m.0) st.word r) m'
      × ((s i : ℕ) (e : Message) → get_elem? (person m.0).seen s ≡ some e → (person m.0).sequence ≤ s
      → i < raw_count e → st.word ≡ in_row n s (i + 1) → (r ≡ raw_word e i) × IsEntry e)

  -- a load of unmarshalled
  abbrev pub sees_unmarshalled : Step S → Seated S L → ℕ → Seated S L → Type 0
  sees_unmarshalled st m r m' = Became m (looked (person m.0) unmarshalled r) m' × (length (person m.0).seen ≤ r)

  -- a load of journalled by the processor: it knows what lies below that and below the unmarshalled value that it loaded last
  abbrev pub sees_journalled : Step S → Seated S L → ℕ → Seated S L → Type 0
  sees_journalled st m r m' = (length (person m.0).seen ≤ r) × (r ≤ 2 ^ 48)
      × ((rest : List Message) × Reaches (lesser_of (last_from unmarshalled 0 (person m.0).loads) r) (person m.0).seen rest
      × Became m (knowing (looked (person m.0) journalled r) rest) m')

  -- a load of a command word of an entry that the processor knows and hasn't released
  abbrev pub sees_command : ℕ → (L → ℕ → Message → Command) → Step S → Seated S L → ℕ → Seated S L → Type 0
  sees_command n reads st m r m' = Became m (looked (person m.0) st.word r) m'
      × ((logic : L) (s i x : ℕ) (e : Message) → m.0.logic ≡ Some logic → get_elem? (person m.0).seen s ≡ some e → (person m.0).sequence ≤ s
      → get_elem? (command_words e.gateway (reads logic s e)) i ≡ some x → st.word ≡ in_row n s (i + 48)
      → (r ≡ x) × IsPackable e.gateway (reads logic s e) × IsEntry e)

  -- a store of the own word
  abbrev pub moves_own : Step S → Seated S L → ℕ → Seated S L → Type 0
  moves_own st m r m' = Became m (moved (person m.0) r) m'

  -- a load of a gateway's taken word by the processor, in a ring of m output rows
  abbrev pub sees_taken : ℕ → Step S → Seated S L → ℕ → Seated S L → Type 0
  sees_taken rows st m r after = Became m (looked (person m.0) st.word r) after
      × (r ≤ (person m.0).row.sequence) × ((person m.0).row.sequence ≤ r + rows)

  -- a store of the address of the output at the next place, in its row, whose slot is taken out for its report
  abbrev pub puts_address : ℕ → ℕ → Step S → Seated S L → ℕ → Seated S L → Type 0
  puts_address n rows st m r after = st.word ≡ out_row n rows (person m.0).row.sequence 0
      → (f : PlacedOutput) × ((x : S) × (f.place ≡ (person m.0).row.sequence)
      × (after ≡ (alone m.0 (with_out (wrote (person m.0) (person m.0).row.sequence (r ∷ [])) (Some f)), ((person m.0).row.sequence % rows, x) ∷ m.1)))

  -- a store of published, which brings that slot back
  abbrev pub publishes : Step S → Seated S L → ℕ → Seated S L → Type 0
  publishes st m r after = after ≡ (alone m.0 (with_out (at_place (person m.0) r) None), rest m.1)

  -- a load of an address, where the word that shows how far was loaded above its place and it isn't released: the output is that of the history that is
  -- known
  abbrev pub sees_address : Readable → (L → List Message → List Output) → Step S → Seated S L → ℕ → Seated S L → Type 0
  sees_address ring outputs st m r after = Became m (looked (person m.0) st.word r) after
      × ((logic : L) (q : ℕ) (o : Output) → m.0.logic ≡ Some logic → get_elem? (outputs logic (person m.0).seen) q ≡ some o
      → (person m.0).sequence ≤ q → Shows ring.how_far (person m.0) q → st.word ≡ out_row ring.rows ring.output_rows q 0 → r ≡ o.to)

  -- a load of published: the marshaller knows a history that has so many outputs
  abbrev pub sees_published : (L → List Message → List Output) → Step S → Seated S L → ℕ → Seated S L → Type 0
  sees_published outputs st m r after = ((person m.0).sequence ≤ r)
      × ((rest : List Message) × Became m (knowing (looked (person m.0) published r) rest) after
      × ((logic : L) → m.0.logic ≡ Some logic → r ≤ length (outputs logic ((person m.0).seen ++ rest))))

  -- a store of a text word in the row of an output that is published and not released
  abbrev pub stores_text : ℕ → ℕ → Step S → Seated S L → ℕ → Seated S L → Type 0
  stores_text n rows st m r after = (q i : ℕ) → (person m.0).sequence ≤ q → Shows published (person m.0) q
      → i < 64 → st.word ≡ out_row n rows q (i + 64) → Became m (stored (person m.0) q i r) after

  -- a load of marshalled by a gateway: where it shows an output at its place, the gateway knows a history with that output which is legal for it
  abbrev pub sees_marshalled : (L → List Message → List Output) → Step S → Seated S L → ℕ → Seated S L → Type 0
  sees_marshalled outputs st m r after = ((person m.0).sequence ≤ r)
      × (r ≡ (person m.0).sequence → Became m (looked (person m.0) marshalled r) after)
      × ((person m.0).sequence < r → (rest : List Message) × Became m (knowing (looked (person m.0) marshalled r) rest) after
      × IsLegal (length m.0.base) (person m.0) ((person m.0).seen ++ rest) × (length ((person m.0).seen ++ rest) ≤ 2 ^ 48)
      × ((logic : L) → m.0.logic ≡ Some logic → (o : Output) × (get_elem? (outputs logic ((person m.0).seen ++ rest)) (person m.0).sequence ≡ some o)))

  -- a load of a text word, where the word that shows how far was loaded above its place and it isn't taken: the text is that of the output there
  abbrev pub sees_text : Readable → Meaning L → Step S → Seated S L → ℕ → Seated S L → Type 0
  sees_text ring means st m r after = Became m (looked (person m.0) st.word r) after
      × ((logic : L) (q i x : ℕ) (o : Output) → m.0.logic ≡ Some logic → get_elem? (means.outputs logic (person m.0).seen) q ≡ some o
      → (person m.0).sequence ≤ q → Shows ring.how_far (person m.0) q
      → get_elem? (text_words (means.text logic o q)) i ≡ some x → st.word ≡ out_row ring.rows ring.output_rows q (i + 64)
      → (r ≡ x) × IsPackableText (means.text logic o q))

module _ {L : Type 0} where
  -- a load of the address of an output that is published and not released, which takes the slot of its row out: its report is that of the output in
  -- the history that is known
  abbrev pub takes_report : Readable → (L → List Message → List Output) → Step Boxed → Seated Boxed L → ℕ → Seated Boxed L → Type 0
  takes_report ring outputs st m r after = (q : ℕ) → (person m.0).sequence ≤ q → Shows ring.how_far (person m.0) q → st.word ≡ out_row ring.rows ring.output_rows q 0
      → (b : Boxed) × (b.value.place ≡ q)
      × (after ≡ (alone m.0 (with_out (looked (person m.0) st.word r) (Some b.value)), (q % ring.output_rows, b) ∷ m.1))
      × ((logic : L) (o : Output) → m.0.logic ≡ Some logic → get_elem? (outputs logic (person m.0).seen) q ≡ some o
      → (r ≡ o.to) × (b.value ≡ report_of o q))

  -- a load of that address again, which brings the slot back
  abbrev pub gives_report : Readable → (L → List Message → List Output) → Step Boxed → Seated Boxed L → ℕ → Seated Boxed L → Type 0
  gives_report ring outputs st m r after = (after ≡ (alone m.0 (with_out (looked (person m.0) st.word r) None), rest m.1))
      × ((logic : L) (q : ℕ) (o : Output) → m.0.logic ≡ Some logic → get_elem? (outputs logic (person m.0).seen) q ≡ some o
      → (person m.0).sequence ≤ q → Shows ring.how_far (person m.0) q → st.word ≡ out_row ring.rows ring.output_rows q 0 → r ≡ o.to)
