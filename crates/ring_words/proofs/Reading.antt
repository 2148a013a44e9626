-- A gateway's loads of an output's address and of its text: what stands in the row is that of the history that it
-- knows.
use Rattle.std.proofs.Common.{◌≡◌, ℕ, ◌<◌, ◌≤◌, List, ◌++◌, length, refl, ap, sym, subst, ◌∙◌, arith, le_refl}
use Rattle.std.proofs.lemmas.Option.{same_Some}
use mathlib.Core.Option.{none, some}
use lib.ListN.{get_elem?}
use Rattle.atomic_table.specs.Table.{step, Allows}
use Rattle.venue_model.specs.History.{Message}
use Rattle.venue_model.specs.declared.outputs.Output.{Output}
use Rattle.ring_words.specs.Slots.{Boxed}
use Rattle.ring_words.specs.declared.view.Role.{Role}
use Rattle.ring_words.specs.declared.view.Role.TheVariants.{Gateway}
use Rattle.ring_words.specs.declared.view.Person.{Person}
use Rattle.ring_words.specs.Places.{marshalled, taken, published, word_of_role}
use Rattle.ring_words.specs.Log.{Log}
use Rattle.ring_words.specs.Texts.{text_words, IsPackableText}
use Rattle.ring_words.specs.Terms.{Terms, outputs_by, text_of}
use Rattle.ring_words.specs.Rule.{IsGateway, IsRole, Depth, Outgoing, Knows, words_of, Lawful}
use Rattle.ring_words.specs.Seats.{person, IsAlone, looked}
use Rattle.ring_words.specs.Steps.{Seated, readable, meaning, sees_address, sees_text}
use Rattle.ring_words.proofs.Logs.{knows_looked}
use Rattle.ring_words.proofs.Keeps.{mine}
use Rattle.ring_words.proofs.Outgoings.{rest_of, output_kept, still_above}
use Rattle.ring_words.proofs.Loads.{looks}

module _ {L : Type 0} (terms : Terms L) (w : ℕ → ℕ) (log : Log) (p : Person) where
  -- the history that is kept goes on from what a gateway knows
  pub goes_on_kept : (k : ℕ) → p.role ≡ Gateway k → Outgoing terms w log → Knows terms w log p
      → (rest : List Message) × (log.history ≡ p.seen ++ rest)
  goes_on_kept k role outgoing knows = rest_of terms w log p.seen outgoing knows.front
      (subst (λ (z : Role). Depth w z (length p.seen)) role knows.depth)

  -- an output that a gateway knows of is one of the history that is kept
  pub known_kept : (k q : ℕ) (o : Output) → p.role ≡ Gateway k → Outgoing terms w log → Knows terms w log p
      → get_elem? (outputs_by terms p.seen) q ≡ some o → get_elem? (outputs_by terms log.history) q ≡ some o
  known_kept k q o role outgoing knows at = output_kept terms w log p.seen q o outgoing knows.front
      (subst (λ (z : Role). Depth w z (length p.seen)) role knows.depth) at

  -- a gateway's number is one of those that there are, and its taken word is its own
  pub gateway_owns : (k : ℕ) → p.role ≡ Gateway k → Knows terms w log p
      → IsGateway terms.gateways k × (w (taken k) ≡ p.sequence)
  gateway_owns k role knows = (
    subst (IsRole terms.gateways) role knows.role,
    subst (λ (z : Role). w (word_of_role z) ≡ p.sequence) role knows.sequence,
  )

module _ {L : Type 0} (terms : Terms L) where
  abbrev Loads : ℕ → ℕ → Seated Boxed L → ℕ → (ℕ → Seated Boxed L → Type 0) → Type 0
  Loads slots id me k then = Allows (Lawful terms) slots id me k (λ x. x) then

  -- the address of an output that is marshalled and that the gateway hasn't taken is that of the output
  pub loads_address : (slots id k : ℕ) (me : Seated Boxed L) (place : ℕ) → IsAlone me.0 → (person me.0).role ≡ Gateway k
      → Loads slots id me place (sees_address (readable terms.rows terms.output_rows marshalled) terms.outputs
      (step slots place 0 0 none) me)
  loads_address slots id k me place one role s r wide at _ = let p = person me.0 in
      let w = words_of s in
      let x : ℕ = w place in
      let own = mine terms s r id me.0 p at one in
      let knows = own.2 in
      let owns = gateway_owns terms w r.log p k role knows in
      let own_is : w (taken k) ≡ p.sequence = owns.1 in
      looks terms s r place id me (looked p place x)
      (sees_address (readable terms.rows terms.output_rows marshalled) terms.outputs (step slots place 0 0 none) me)
      at one refl (knows_looked terms w r.log p place x (λ _. le_refl x) knows) (
        refl,
        λ logic q o view_is there held shown is. (
            let logic_is : logic ≡ terms.logic = same_Some logic terms.logic (sym view_is ∙ own.0) in
            let kept = known_kept terms w r.log p k q o role r.outgoing knows
            (subst (λ (l : L). get_elem? (terms.outputs l p.seen) q ≡ some o) logic_is there) in
            let below : q < w marshalled = still_above terms w r.log p marshalled q knows (omega arith) shown in
            let order : w marshalled ≤ w published = r.outgoing.marshalled_published in
            let from : w (taken k) ≤ q = omega arith in let to : q < w published = omega arith in
            ap w is ∙ r.outgoing.addresses k q o owns.0 from to kept),
      )

  -- the same, where the code's numbers of rows are the key's
  pub loads_address_in : (n m : ℕ) → terms.rows ≡ n → terms.output_rows ≡ m
      → (slots id k : ℕ) (me : Seated Boxed L) (place : ℕ) → IsAlone me.0 → (person me.0).role ≡ Gateway k
      → Loads slots id me place (sees_address (readable n m marshalled) terms.outputs (step slots place 0 0 none) me)
  loads_address_in n m is outputs_is slots id k me place one role =
      subst (λ (j : ℕ). Loads slots id me place
      (sees_address (readable j m marshalled) terms.outputs (step slots place 0 0 none) me)) is
      (subst (λ (j : ℕ). Loads slots id me place
      (sees_address (readable terms.rows j marshalled) terms.outputs (step slots place 0 0 none) me)) outputs_is
      (loads_address slots id k me place one role))

  -- a word of the text of an output that is marshalled and that the gateway hasn't taken is that of the text
  pub loads_text : (slots id k : ℕ) (me : Seated Boxed L) (place : ℕ) → IsAlone me.0 → (person me.0).role ≡ Gateway k
      → Loads slots id me place (sees_text (readable terms.rows terms.output_rows marshalled)
      (meaning terms.outputs terms.text) (step slots place 0 0 none) me)
  loads_text slots id k me place one role s r wide at _ = let p = person me.0 in
      let w = words_of s in
      let x : ℕ = w place in
      let own = mine terms s r id me.0 p at one in
      let knows = own.2 in
      let owns = gateway_owns terms w r.log p k role knows in
      let own_is : w (taken k) ≡ p.sequence = owns.1 in
      looks terms s r place id me (looked p place x)
      (sees_text (readable terms.rows terms.output_rows marshalled) (meaning terms.outputs terms.text)
      (step slots place 0 0 none) me) at one refl (knows_looked terms w r.log p place x (λ _. le_refl x) knows) (
        refl,
        λ logic q i y o view_is there held shown word is. (
            let logic_is : logic ≡ terms.logic = same_Some logic terms.logic (sym view_is ∙ own.0) in
            let kept = known_kept terms w r.log p k q o role r.outgoing knows
            (subst (λ (l : L). get_elem? (terms.outputs l p.seen) q ≡ some o) logic_is there) in
            let word' : get_elem? (text_words (text_of terms o q)) i
            ≡ some y = subst (λ (l : L). get_elem? (text_words (terms.text l o q)) i ≡ some y) logic_is word in
            let from : w (taken k) ≤ q = omega arith in
            let to : q < w marshalled = still_above terms w r.log p marshalled q knows (omega arith) shown in (
              ap w is ∙ r.outgoing.texts k q o owns.0 from to kept i y word',
              subst (λ (l : L). IsPackableText (terms.text l o q)) (sym logic_is)
                  (r.outgoing.readable k q o owns.0 from to kept),
            )),
      )

  -- the same, where the code's numbers of rows are the key's
  pub loads_text_in : (n m : ℕ) → terms.rows ≡ n → terms.output_rows ≡ m
      → (slots id k : ℕ) (me : Seated Boxed L) (place : ℕ) → IsAlone me.0 → (person me.0).role ≡ Gateway k
      → Loads slots id me place (sees_text (readable n m marshalled) (meaning terms.outputs terms.text)
      (step slots place 0 0 none) me)
  loads_text_in n m is outputs_is slots id k me place one role =
      subst (λ (j : ℕ). Loads slots id me place
      (sees_text (readable j m marshalled) (meaning terms.outputs terms.text) (step slots place 0 0 none) me)) is
      (subst (λ (j : ℕ). Loads slots id me place
      (sees_text (readable terms.rows j marshalled) (meaning terms.outputs terms.text) (step slots place 0 0 none)
      me)) outputs_is (loads_text slots id k me place one role))
