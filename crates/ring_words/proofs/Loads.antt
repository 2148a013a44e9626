-- Each load keeps the rule, and what it tells.
use Rattle.std.proofs.Common.{◌≡◌, ℕ, zero, suc, ◌+◌, ◌-◌, ◌^◌, ◌<◌, ◌≤◌, Bool, true, false, List, [], ◌∷◌, ◌++◌, inl}
use Rattle.std.proofs.Common.{inr, ⊎_elim, cond, eqb, leb, length, length-append, get_or, set, refl, ap, sym, subst}
use Rattle.std.proofs.Common.{◌∙◌, arith, le_refl}
use Rattle.std.proofs.lemmas.List.{set-get_or, append-nil, append_assoc}
use Rattle.std.proofs.lemmas.Bool.{eq-eqb, ne_eqb, le-leb, leb-true, cond-true, cond-false}
use Rattle.std.proofs.lemmas.Option.{same_Some}
use mathlib.Core.Option.{none, some}
use mathlib.Core.Logic.{dite}
use native.Mathlib.Decide.{dec_le, ℕ_discrete}
use lib.ListN.{get_elem?}
use Rattle.atomic_table.specs.Table.{State, Act, step, keeps, Valid, carried_after, stepped, Allows}
use Rattle.venue_model.specs.History.{Message}
use Rattle.venue_model.specs.ListLaws.{within, at_end}
use Rattle.ring_words.specs.Slots.{Boxed}
use Rattle.ring_words.specs.declared.view.Load.{Load}
use Rattle.ring_words.specs.declared.view.Person.{Person}
use Rattle.ring_words.specs.declared.view.View.{View}
use Rattle.ring_words.specs.declared.view.Role.{Role}
use Rattle.ring_words.specs.declared.view.Role.TheVariants.{Process}
use Rattle.ring_words.specs.Places.{processed, claim, unmarshalled, journalled, in_row, word_of_role}
use Rattle.ring_words.specs.Log.{Status, entry_of, IsFront}
use Rattle.command_words.specs.Packing.{command_words, IsPackable}
use Rattle.ring_words.specs.Terms.{Terms, commands_of}
use Rattle.ring_words.specs.Rule.{Depth, Knows, words_of, Lawful}
use Rattle.ring_words.specs.Seats.{person, IsAlone, IsReader, alone, looked, saw, knowing, last_from}
use Rattle.ring_words.specs.SeatLaws.{not_reached}
use Rattle.ring_words.specs.Steps.{Seated, Reaches, lesser_of, sees_claim, sees_processed, sees_mark, sees_raw}
use Rattle.ring_words.specs.Steps.{sees_unmarshalled, sees_journalled, sees_command}
use Rattle.ring_words.proofs.Logs.{reaches, knows_looked, knows_saw, knows_knowing, published_late}
use Rattle.ring_words.proofs.Keeps.{mine, after}

-- a stage that reads what gateways published may know any beginning of the log
any_depth : (w : ℕ → ℕ) (role : Role) (k : ℕ) → IsReader role → Depth w role k
any_depth w role k (inl is) = subst (λ (z : Role). Depth w z k) (sym is) tt
any_depth w role k (inr is) = subst (λ (z : Role). Depth w z k) (sym is) tt

-- the processor isn't ahead of it
not_ahead : (w : ℕ → ℕ) (role : Role) (sequence : ℕ) → w processed ≤ w unmarshalled → w processed ≤ w journalled
    → IsReader role → w (word_of_role role) ≡ sequence → w processed ≤ sequence
not_ahead w role sequence u j (inl is) at = let here : w unmarshalled
    ≡ sequence = subst (λ (z : Role). w (word_of_role z) ≡ sequence) is at in
    omega arith
not_ahead w role sequence u j (inr is) at = let here : w journalled
    ≡ sequence = subst (λ (z : Role). w (word_of_role z) ≡ sequence) is at in
    omega arith

-- the value loaded last isn't above the word
last_low : (k d x : ℕ) (ls : List Load) → d ≤ x
    → ((i : ℕ) (l : Load) → get_elem? ls i ≡ some l → l.place ≡ k → l.value ≤ x) → last_from k d ls ≤ x
last_low k d x [] le all = le
last_low k d x (l ∷ ls) le all = last_low k (cond (eqb l.place k) l.value d) x ls (by_place (ℕ_discrete l.place k))
    (λ i m there. all (suc i) m there) where
      by_place : Dec (l.place ≡ k) → cond (eqb l.place k) l.value d ≤ x
      by_place (yes e) = subst (λ (y : ℕ). y ≤ x) (sym (cond-true (eqb l.place k) l.value d (eq-eqb l.place k e)))
          (all 0 l refl e)
      by_place (no ne) = subst (λ (y : ℕ). y ≤ x) (sym (cond-false (eqb l.place k) l.value d (ne_eqb l.place k ne))) le

-- the lesser of two
pub lesser_low : (a b : ℕ) → (lesser_of a b ≤ a) × (lesser_of a b ≤ b)
lesser_low a b = by_order (dec_le a b) where
  not_le : (c : Bool) → ¬ (a ≤ b) → leb a b ≡ c → c ≡ false
  not_le false no_le e = refl
  not_le true no_le e = absurd (no_le (leb-true a b e))

  by_order : Dec (a ≤ b) → (cond (leb a b) a b ≤ a) × (cond (leb a b) a b ≤ b)
  by_order (yes le) = let is : cond (leb a b) a b ≡ a = cond-true (leb a b) a b (le-leb a b le) in
      (omega arith, omega arith)
  by_order (no gt) = let is : cond (leb a b) a b ≡ b = cond-false (leb a b) a b (not_le (leb a b) gt refl) in
      (omega arith, omega arith)

-- so many entries are known behind a load of journalled as the lesser word says, or as before where that says less
pub known_behind : (x known : ℕ) (seen rest : List Message) → Reaches x seen rest → known ≡ length seen
    → (known < x → x ≡ length (seen ++ rest)) × (x ≤ known → known ≡ length (seen ++ rest))
known_behind x known seen rest reaches is = (
  λ far. ⊎_elim (λ none_more. let near = none_more.0 in absurd (omega (arith, near, far, is)))
      (λ more. sym more.1) reaches,
  λ near. is ∙ sym (not_reached x seen rest reaches (omega arith)),
)

-- a beginning of the log goes on as far as there are entries
goes_on : (status : ℕ → Status) (k : ℕ) (h : List Message) → IsFront status h
    → ((s : ℕ) → s < length h + k → (e : Message) × (entry_of (status s) ≡ some e))
    → (rest : List Message) × (length rest ≡ k) × IsFront status (h ++ rest)
goes_on status zero h front all = ([], refl, subst (IsFront status) (sym (append-nil h)) front)
goes_on status (suc k) h front all =
    let next = all (length h) (omega arith) in let e : Message = next.0 in let longer = length-append h (e ∷ []) in
    let one_more : IsFront status (h ++ e ∷ []) = λ s d at. ⊎_elim (λ was. front s d was)
    (λ (t : (s ≡ length h) × (e ≡ d)). ap (λ (i : ℕ). entry_of (status i)) t.0 ∙ next.1 ∙ ap some t.1)
    (at_end h e d s at) in
    let more = goes_on status k (h ++ e ∷ []) one_more (λ s lt. all s (omega arith)) in
    (e ∷ more.0, ap suc more.1, subst (IsFront status) (append_assoc h (e ∷ []) more.0) more.2)

module _ {L : Type 0} (terms : Terms L) where
  abbrev St : Type 0
  St = State Boxed (View L)

  abbrev pub Goes : St → ℕ → ℕ → Seated Boxed L → (ℕ → Seated Boxed L → Type 0) → ℕ → Type 0
  Goes s k id me then x = (w : View L) × (a : Act Boxed) × Valid s.homes me.1 a
      × Lawful terms (stepped s k x id me.1 w a) × then (get_or s.words k 0) (w, carried_after me.1 a)

  -- a load after which the seat's one person is q
  pub looks : (s : St) (r : Lawful terms s) (k id : ℕ) (me : Seated Boxed L) (q : Person)
      (then : ℕ → Seated Boxed L → Type 0) → get_elem? s.views id ≡ some me.0 → IsAlone me.0
      → q.role ≡ (person me.0).role
      → Knows terms (words_of s) r.log q → then (get_or s.words k 0) (alone me.0 q, me.1)
      → Goes s k id me then (get_or s.words k 0)
  looks s r k id me q then at one role knows told = (
    alone me.0 q,
    keeps,
    tt,
    subst (λ (ws : List ℕ). Lawful terms record { words = ws; homes = s.homes; views = set s.views id (alone me.0 q) })
        (sym (set-get_or s.words k 0))
        (after terms s r s.words id me.0 (person me.0) q at one role refl r.log r.order r.logged r.rows r.outgoing
        s.homes r.filled knows (λ o _ same. same)),
    told,
  )

  abbrev Loads : ℕ → ℕ → Seated Boxed L → ℕ → (ℕ → Seated Boxed L → Type 0) → Type 0
  Loads slots id me k then = Allows (Lawful terms) slots id me k (λ x. x) then

  pub loads_claim : (slots id : ℕ) (me : Seated Boxed L) → IsAlone me.0
      → Loads slots id me claim (sees_claim (step slots claim 0 0 none) me)
  loads_claim slots id me one s r wide at _ = let p = person me.0 in
      let x : ℕ = words_of s claim in
      let knows = (mine terms s r id me.0 p at one).2 in
      looks s r claim id me (looked p claim x) (sees_claim (step slots claim 0 0 none) me) at one refl
      (knows_looked terms (words_of s) r.log p claim x (λ _. le_refl x) knows)
      (refl, reaches terms (words_of s) r.log p.seen r.logged knows.front, r.order.most)

  pub loads_processed : (slots id : ℕ) (me : Seated Boxed L) → IsAlone me.0
      → Loads slots id me processed (sees_processed terms.rows (step slots processed 0 0 none) me)
  loads_processed slots id me one s r wide at _ = let p = person me.0 in
      let x : ℕ = words_of s processed in
      let knows = (mine terms s r id me.0 p at one).2 in
      looks s r processed id me (looked p processed x) (sees_processed terms.rows (step slots processed 0 0 none) me) at
      one refl (knows_looked terms (words_of s) r.log p processed x (λ _. le_refl x) knows) (
        refl,
        λ i l there is. let c : ℕ = words_of s claim in let below : c ≤ x + terms.rows = r.order.room in
            let low : l.value ≤ c = subst (λ (k : ℕ). l.value ≤ words_of s k) is
            (knows.loads i l there (let k : ℕ = l.place in let k_is : k ≡ 8 = is in omega arith)) in
            omega arith,
      )

  -- the same, where the code's number of rows is the key's
  pub loads_processed_in : (n : ℕ) → terms.rows ≡ n → (slots id : ℕ) (me : Seated Boxed L) → IsAlone me.0
      → Loads slots id me processed (sees_processed n (step slots processed 0 0 none) me)
  loads_processed_in n is slots id me one =
      subst (λ (k : ℕ). Loads slots id me processed (sees_processed k (step slots processed 0 0 none) me)) is
      (loads_processed slots id me one)

  -- a row's availability word shows the next entry, or another number
  pub loads_mark : (slots id : ℕ) (me : Seated Boxed L) (k : ℕ) → IsAlone me.0 → IsReader (person me.0).role
      → k ≡ in_row terms.rows (length (person me.0).seen) 0 → Loads slots id me k (sees_mark (step slots k 0 0 none) me)
  loads_mark slots id me k one reader is s r wide at _ = let p = person me.0 in
      let next : ℕ = length p.seen in
      let x : ℕ = words_of s k in
      let then = sees_mark (step slots k 0 0 none) me in
      let knows = (mine terms s r id me.0 p at one).2 in
      let after_load = knows_looked terms (words_of s) r.log p k x (λ _. le_refl x) knows in
      dite (ℕ_discrete x (suc next))
      (λ fresh. let found = (r.rows.marks next next (ap (words_of s) (sym is) ∙ fresh)).1 in
      let e : Message = found.0 in
      let longer = knows_saw terms (words_of s) r.log (looked p k x) e (ap entry_of found.1)
      (any_depth (words_of s) p.role (length (p.seen ++ e ∷ [])) reader) after_load in
      let long = reaches terms (words_of s) r.log (p.seen ++ e ∷ []) r.logged longer.front in
      let count = length-append p.seen (e ∷ []) in
      let most = r.order.most in
      looks s r k id me (saw (looked p k x) e) then at one refl longer (
        (λ _. ((let small : next < 2 ^ 48 = omega arith in small), (e, (r.logged.sender next e found.1).0, refl))),
        λ other. absurd (other fresh),
      ))
      (λ other. looks s r k id me (looked p k x) then at one refl after_load
      ((λ fresh. absurd (other fresh)), λ _. refl))

  -- a raw word of an entry that the stage knows and hasn't released is that of the entry
  pub loads_raw : (slots id : ℕ) (me : Seated Boxed L) (k : ℕ) → IsAlone me.0 → IsReader (person me.0).role
      → Loads slots id me k (sees_raw terms.rows (step slots k 0 0 none) me)
  loads_raw slots id me k one reader s r wide at _ = let p = person me.0 in
      let w = words_of s in
      let x : ℕ = w k in
      let then = sees_raw terms.rows (step slots k 0 0 none) me in
      let knows = (mine terms s r id me.0 p at one).2 in
      let behind : w processed ≤ p.sequence = not_ahead w p.role p.sequence r.order.processed_unmarshalled
      r.order.processed_journalled reader knows.sequence in
      looks s r k id me (looked p k x) then at one refl (knows_looked terms w r.log p k x (λ _. le_refl x) knows) (
        refl,
        λ t i e there held few is. (
            let low : length terms.base ≤ w processed = r.logged.start in
            let late : length terms.base ≤ t = omega arith in
            let published = published_late terms w r.log t e r.logged (knows.front t e there) late in (
              ap w is ∙ r.rows.raw t e published (let room = r.order.room in omega arith) i few,
              (r.logged.sender t e published).0,
            )),
      )

  pub loads_raw_in : (n : ℕ) → terms.rows ≡ n → (slots id : ℕ) (me : Seated Boxed L) (k : ℕ) → IsAlone me.0
      → IsReader (person me.0).role → Loads slots id me k (sees_raw n (step slots k 0 0 none) me)
  loads_raw_in n is slots id me k one reader =
      subst (λ (j : ℕ). Loads slots id me k (sees_raw j (step slots k 0 0 none) me)) is
      (loads_raw slots id me k one reader)

  pub loads_mark_in : (n : ℕ) → terms.rows ≡ n → (slots id : ℕ) (me : Seated Boxed L) (k : ℕ) → IsAlone me.0
      → IsReader (person me.0).role → k ≡ in_row n (length (person me.0).seen) 0
      → Loads slots id me k (sees_mark (step slots k 0 0 none) me)
  loads_mark_in n is slots id me k one reader at = loads_mark slots id me k one reader
      (at ∙ ap (λ (j : ℕ). in_row j (length (person me.0).seen) 0) (sym is))

  -- the processor loads unmarshalled
  pub loads_unmarshalled : (slots id : ℕ) (me : Seated Boxed L) → IsAlone me.0 → (person me.0).role ≡ Process
      → Loads slots id me unmarshalled (sees_unmarshalled (step slots unmarshalled 0 0 none) me)
  loads_unmarshalled slots id me one role s r wide at _ = let p = person me.0 in
      let x : ℕ = words_of s unmarshalled in
      let knows = (mine terms s r id me.0 p at one).2 in
      looks s r unmarshalled id me (looked p unmarshalled x) (sees_unmarshalled (step slots unmarshalled 0 0 none) me)
      at one refl (knows_looked terms (words_of s) r.log p unmarshalled x (λ _. le_refl x) knows)
      (refl, (subst (λ (z : Role). Depth (words_of s) z (length p.seen)) role knows.depth).0)

  -- the processor loads journalled: it knows what lies below it and below the unmarshalled value that it loaded last
  pub loads_journalled : (slots id : ℕ) (me : Seated Boxed L) → IsAlone me.0 → (person me.0).role ≡ Process
      → Loads slots id me journalled (sees_journalled (step slots journalled 0 0 none) me)
  loads_journalled slots id me one role s r wide at _ = let p = person me.0 in
      let w = words_of s in
      let x : ℕ = w journalled in
      let knows = (mine terms s r id me.0 p at one).2 in
      let deep = subst (λ (z : Role). Depth w z (length p.seen)) role knows.depth in
      let u : ℕ = last_from unmarshalled 0 p.loads in
      let low : u ≤ w unmarshalled = last_low unmarshalled 0 (w unmarshalled) p.loads (omega arith)
      (λ i l there is. subst (λ (j : ℕ). l.value ≤ w j) is
      (knows.loads i l there (let j : ℕ = l.place in let j_is : j ≡ 16 = is in omega arith))) in
      let both = lesser_low u x in let y : ℕ = lesser_of u x in let y_u : y ≤ u = both.0 in let y_x : y ≤ x = both.1 in
      let after_load = knows_looked terms w r.log p journalled x (λ _. le_refl x) knows in
      let then = sees_journalled (step slots journalled 0 0 none) me in
      let most : x ≤ 2 ^ 48 = (let a : x ≤ w claim = r.order.journalled_claimed in
      let b : w claim ≤ 2 ^ 48 = r.order.most in omega arith) in
      let deep_u : length p.seen ≤ w unmarshalled = deep.0 in let deep_x : length p.seen ≤ x = deep.1 in
      dite (dec_le y (length p.seen))
      (λ le. let len = length-append p.seen [] in
      looks s r journalled id me (knowing (looked p journalled x) []) then at one refl
      (knows_knowing terms w r.log (looked p journalled x) []
      (subst (IsFront r.log.status) (sym (append-nil p.seen)) knows.front)
      (subst (λ (z : Role). Depth w z (length (p.seen ++ []))) (sym role) ((omega arith), (omega arith))) after_load)
      (deep_x, most, ([], inl (le, refl), refl)))
      (λ gt. let more = goes_on r.log.status (y - length p.seen) p.seen knows.front
      (λ t lt. r.logged.done t (omega arith)) in let rest : List Message = more.0 in
      let count : length rest ≡ y - length p.seen = more.1 in
      let len = length-append p.seen rest in
      let long : length (p.seen ++ rest) ≡ y = omega arith in
      looks s r journalled id me (knowing (looked p journalled x) rest) then at one refl
      (knows_knowing terms w r.log (looked p journalled x) rest more.2
      (subst (λ (z : Role). Depth w z (length (p.seen ++ rest))) (sym role) ((omega arith), (omega arith)))
      after_load)
      (deep_x, most, (rest, inr ((omega arith), long), refl)))

  -- a command word of an entry that the processor knows and hasn't released is that of its command
  pub loads_command : (slots id : ℕ) (me : Seated Boxed L) (k : ℕ) → IsAlone me.0 → (person me.0).role ≡ Process
      → Loads slots id me k (sees_command terms.rows terms.reads (step slots k 0 0 none) me)
  loads_command slots id me k one role s r wide at _ = let p = person me.0 in
      let w = words_of s in
      let x : ℕ = w k in
      let then = sees_command terms.rows terms.reads (step slots k 0 0 none) me in
      let own = mine terms s r id me.0 p at one in
      let knows = own.2 in
      let deep = subst (λ (z : Role). Depth w z (length p.seen)) role knows.depth in
      let own_is : w processed ≡ p.sequence = subst (λ (z : Role). w (word_of_role z) ≡ p.sequence) role knows.sequence in
      looks s r k id me (looked p k x) then at one refl (knows_looked terms w r.log p k x (λ _. le_refl x) knows) (
        refl,
        λ logic t i y e view_is there held word is. (
            let logic_is : terms.logic ≡ logic = same_Some terms.logic logic (sym own.0 ∙ view_is) in
            let word' : get_elem? (commands_of terms t e) i ≡ some y =
            subst (λ (l : L). get_elem? (command_words e.gateway (terms.reads l t e)) i ≡ some y) (sym logic_is)
            word in
            let low : length terms.base ≤ w processed = r.logged.start in
            let late : length terms.base ≤ t = omega arith in
            let inside = within p.seen t e there in let deep_u : length p.seen ≤ w unmarshalled = deep.0 in
            let published = published_late terms w r.log t e r.logged (knows.front t e there) late in (
              ap w is ∙ r.rows.commands t e published (omega arith) (let room = r.order.room in omega arith) i y word',
              subst (λ (l : L). IsPackable e.gateway (terms.reads l t e)) logic_is
                  (r.rows.packable t e published (omega arith)),
              (r.logged.sender t e published).0,
            )),
      )

  pub loads_command_in : (n : ℕ) → terms.rows ≡ n → (slots id : ℕ) (me : Seated Boxed L) (k : ℕ) → IsAlone me.0
      → (person me.0).role ≡ Process → Loads slots id me k (sees_command n terms.reads (step slots k 0 0 none) me)
  loads_command_in n is slots id me k one role =
      subst (λ (j : ℕ). Loads slots id me k (sees_command j terms.reads (step slots k 0 0 none) me)) is
      (loads_command slots id me k one role)
