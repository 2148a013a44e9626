-- The output ring's part of the rule: what follows from it, and that it stays where a step doesn't touch it.
use Rattle.std.proofs.Common.{◌≡◌, ◌≢◌, ℕ, suc, ◌+◌, ◌*◌, ◌%◌, ◌<◌, ◌≤◌, List, ◌++◌, length, take, ap, sym, subst, ◌∙◌}
use Rattle.std.proofs.Common.{arith, mod-lt}
use Rattle.std.proofs.lemmas.List.{take-append-le}
use mathlib.Core.Option.{Option as Maybe, some}
use lib.ListN.{get_elem?}
use Rattle.venue_model.specs.History.{Message}
use Rattle.venue_model.specs.declared.outputs.Output.{Output}
use Rattle.venue_model.specs.ListLaws.{within}
use Rattle.ring_words.specs.Places.{processed, journalled, marshalled, taken, published, first_row, in_row, out_row}
use Rattle.ring_words.specs.Log.{Log, IsFront}
use Rattle.std.specs.Prelude.{Some}
use Rattle.ring_words.specs.declared.report.PlacedOutput.{PlacedOutput}
use Rattle.ring_words.specs.Slots.{Slots}
use Rattle.ring_words.specs.Texts.{text_words}
use Rattle.ring_words.specs.Terms.{Terms, outputs_by, text_of}
use Rattle.ring_words.specs.Steps.{Shows}
use Rattle.ring_words.specs.declared.view.Person.{Person}
use Rattle.ring_words.specs.Rule.{IsGateway, Outgoing, Knows}
use Rattle.ring_words.proofs.OutputRows.{short_text}
use Rattle.ring_words.proofs.Outputs.{in_front, begins, outputs_begin, output_stays, fewer_outputs, outputs_grow}

module _ {L : Type 0} (terms : Terms L) where
  -- whoever may read a row of the output ring finds the same words there
  pub record SameOutputs (w w' : ℕ → ℕ) : Type 0 where
    pub addresses : (k q : ℕ) → IsGateway terms.gateways k → w (taken k) ≤ q → q < w published
        → w' (out_row terms.rows terms.output_rows q 0) ≡ w (out_row terms.rows terms.output_rows q 0)
    pub texts : (k q : ℕ) → IsGateway terms.gateways k → w (taken k) ≤ q → q < w marshalled
        → (i : ℕ) → i < 64 → w' (out_row terms.rows terms.output_rows q (i + 64))
        ≡ w (out_row terms.rows terms.output_rows q (i + 64))

  -- as where no word of a row changed
  pub all_outputs : (w w' : ℕ → ℕ)
      → ((q i : ℕ) → w' (out_row terms.rows terms.output_rows q i) ≡ w (out_row terms.rows terms.output_rows q i))
      → SameOutputs w w'
  all_outputs w w' same = record {
    addresses = λ k q g from to. same q 0;
    texts = λ k q g from to i few. same q (i + 64);
  }

  -- it stays where its words stay, and the history that is kept
  pub outgoing_stays : (w w' : ℕ → ℕ) (log log' : Log) → terms.gateways ≤ 8 → log'.history ≡ log.history
      → log'.slots ≡ log.slots → IsFront log'.status log.history
      → w' processed ≡ w processed → w' journalled ≡ w journalled
      → ((k : ℕ) → marshalled ≤ k → k < first_row → w' k ≡ w k)
      → SameOutputs w w' → Outgoing terms w log → Outgoing terms w' log'
  outgoing_stays w w' log log' few same slots_are front zero kept_is control rows r =
      let m : w' 32 ≡ w 32 = control 32 (omega arith) (omega arith) in
      let p : w' 104 ≡ w 104 = control 104 (omega arith) (omega arith) in
      let taken_stays : (k : ℕ) → IsGateway terms.gateways k → w' (taken k)
      ≡ w (taken k) = λ k g. (let lo : 1 ≤ k = g.0 in let hi : k ≤ terms.gateways = g.1 in
      control (taken k) (omega arith) (omega arith)) in
      let history_is : (q : ℕ) (o : Output) → get_elem? (outputs_by terms log'.history) q ≡ some o
      → get_elem? (outputs_by terms log.history) q ≡ some o =
      λ q o at. subst (λ (h : List Message). get_elem? (outputs_by terms h) q ≡ some o) same at in record {
        kept = ap length same ∙ r.kept ∙ sym kept_is;
        front = subst (IsFront log'.status) (sym same) front;
        marshalled_published = (let a : w 32 ≤ w 104 = r.marshalled_published in omega arith);
        taken_marshalled = λ k g. (let e = taken_stays k g in let a : w (taken k) ≤ w 32 = r.taken_marshalled k g in
            omega arith);
        free = λ k g. (let e = taken_stays k g in let a : w 104 ≤ w (taken k) + terms.output_rows = r.free k g in omega arith);
        least = (let is : length (outputs_by terms (take (w' 0) log'.history))
            ≡ length (outputs_by terms (take (w 0) log.history)) =
            ap (λ (h : List Message). length (outputs_by terms (take (w' 0) h))) same
            ∙ ap (λ (x : ℕ). length (outputs_by terms (take x log.history))) zero in
            let a : length (outputs_by terms (take (w 0) log.history)) ≤ w 104 = r.least in omega arith);
        most = (let is : length (outputs_by terms (take (suc (w' 0)) log'.history))
            ≡ length (outputs_by terms (take (suc (w 0)) log.history)) =
            ap (λ (h : List Message). length (outputs_by terms (take (suc (w' 0)) h))) same
            ∙ ap (λ (x : ℕ). length (outputs_by terms (take (suc x) log.history))) zero in
            let a : w 104 ≤ length (outputs_by terms (take (suc (w 0)) log.history)) = r.most in omega arith);
        addresses = λ k q o g from to at. (let e = taken_stays k g in let lo : w (taken k) ≤ q = omega arith in
            let hi : q < w 104 = omega arith in
            rows.addresses k q g lo hi ∙ r.addresses k q o g lo hi (history_is q o at));
        reports = λ k q o g from to at. (let e = taken_stays k g in let lo : w (taken k) ≤ q = omega arith in
            let hi : q < w 104 = omega arith in
            ap (λ (x : Slots). x.reports (q % terms.output_rows)) slots_are
            ∙ r.reports k q o g lo hi (history_is q o at));
        filling = λ f is. (let h = r.filling f (ap (λ (x : Slots). x.filling) (sym slots_are) ∙ is) in
            let a : f.place ≡ w 104 = h.0 in let b : w 104 < w 32 + terms.output_rows = h.1 in
            ((omega arith), (omega arith)));
        reading = λ f is. (let h = r.reading f (ap (λ (x : Slots). x.reading) (sym slots_are) ∙ is) in
            let a : w 32 ≤ f.place = h.1 in let b : f.place < w 104 = h.2 in (
              ap (λ (x : Slots). x.reports (f.place % terms.output_rows)) slots_are ∙ h.0,
              (omega arith),
              (omega arith),
            ));
        texts = λ k q o g from to at i x there. (let e = taken_stays k g in let lo : w (taken k) ≤ q = omega arith in
            let hi : q < w 32 = omega arith in
            let size = short_text (text_of terms o q) (r.readable k q o g lo hi (history_is q o at)) in
            let few_words = within (text_words (text_of terms o q)) i x there in
            rows.texts k q g lo hi i (omega arith) ∙ r.texts k q o g lo hi (history_is q o at) i x there);
        readable = λ k q o g from to at. (let e = taken_stays k g in let lo : w (taken k) ≤ q = omega arith in
            let hi : q < w 32 = omega arith in r.readable k q o g lo hi (history_is q o at));
      }

  -- it stays where more entries are kept
  pub outgoing_grows : (w w' : ℕ → ℕ) (log : Log) (h rest : List Message) → terms.gateways ≤ 8 → h ≡ log.history ++ rest
      → IsFront log.status h → w processed ≤ length log.history
      → w' processed ≡ w processed → w' journalled ≡ length h → ((k : ℕ) → marshalled ≤ k → k < first_row → w' k ≡ w k)
      → ((q i : ℕ) → w' (out_row terms.rows terms.output_rows q i) ≡ w (out_row terms.rows terms.output_rows q i))
      → Outgoing terms w log → Outgoing terms w' (record log { history = h })
  outgoing_grows w w' log h rest few is front low zero kept_is control rows r =
      let m : w' 32 ≡ w 32 = control 32 (omega arith) (omega arith) in
      let p : w' 104 ≡ w 104 = control 104 (omega arith) (omega arith) in
      let taken_stays : (k : ℕ) → IsGateway terms.gateways k → w' (taken k)
      ≡ w (taken k) = λ k g. (let lo : 1 ≤ k = g.0 in let hi : k ≤ terms.gateways = g.1 in
      control (taken k) (omega arith) (omega arith)) in
      let all : w 104 ≤ length (outputs_by terms log.history) =
      (let a : w 104 ≤ length (outputs_by terms (take (suc (w 0)) log.history)) = r.most in
      let b = fewer_outputs terms (suc (w 0)) log.history in omega arith) in
      let was_there : (q : ℕ) (o : Output) → q < w 104 → get_elem? (outputs_by terms h) q ≡ some o
      → get_elem? (outputs_by terms log.history) q ≡ some o =
      λ q o lt at. (let more = outputs_begin terms log.history rest in
      in_front (outputs_by terms log.history) more.0 q o (omega arith)
      (subst (λ (l : List Output). get_elem? l q ≡ some o) (ap (outputs_by terms) is ∙ more.1) at)) in record {
        kept = sym kept_is;
        front = front;
        marshalled_published = (let a : w 32 ≤ w 104 = r.marshalled_published in omega arith);
        taken_marshalled = λ k g. (let e = taken_stays k g in let a : w (taken k) ≤ w 32 = r.taken_marshalled k g in
            omega arith);
        free = λ k g. (let e = taken_stays k g in let a : w 104 ≤ w (taken k) + terms.output_rows = r.free k g in omega arith);
        least = (let same : take (w' 0) h ≡ take (w 0) log.history = ap (λ (x : ℕ). take x h) zero ∙ ap (take (w 0)) is
            ∙ take-append-le (w 0) log.history rest low in
            let is_long : length (outputs_by terms (take (w' 0) h))
            ≡ length (outputs_by terms (take (w 0) log.history)) =
            ap (λ (l : List Message). length (outputs_by terms l)) same in
            let a : length (outputs_by terms (take (w 0) log.history)) ≤ w 104 = r.least in omega arith);
        most = (let grown = outputs_grow terms (suc (w 0)) log.history rest in
            let is_long : length (outputs_by terms (take (suc (w' 0)) h))
            ≡ length (outputs_by terms (take (suc (w 0)) (log.history ++ rest))) =
            ap (λ (x : ℕ). length (outputs_by terms (take (suc x) h))) zero
            ∙ ap (λ (l : List Message). length (outputs_by terms (take (suc (w 0)) l))) is in
            let a : w 104 ≤ length (outputs_by terms (take (suc (w 0)) log.history)) = r.most in omega arith);
        addresses = λ k q o g from to at. (let e = taken_stays k g in let lo : w (taken k) ≤ q = omega arith in
            let hi : q < w 104 = omega arith in
            rows q 0 ∙ r.addresses k q o g lo hi (was_there q o hi at));
        reports = λ k q o g from to at. (let e = taken_stays k g in let lo : w (taken k) ≤ q = omega arith in
            let hi : q < w 104 = omega arith in r.reports k q o g lo hi (was_there q o hi at));
        filling = λ f is. (let h = r.filling f is in let a : f.place ≡ w 104 = h.0 in
            let b : w 104 < w 32 + terms.output_rows = h.1 in ((omega arith), (omega arith)));
        reading = λ f is. (let h = r.reading f is in let a : w 32 ≤ f.place = h.1 in let b : f.place < w 104 = h.2 in
            (h.0, (omega arith), (omega arith)));
        texts = λ k q o g from to at i x there. (let e = taken_stays k g in let lo : w (taken k) ≤ q = omega arith in
            let hi : q < w 32 = omega arith in let a : w 32 ≤ w 104 = r.marshalled_published in
            rows q (i + 64) ∙ r.texts k q o g lo hi (was_there q o (omega arith) at) i x there);
        readable = λ k q o g from to at. (let e = taken_stays k g in let lo : w (taken k) ≤ q = omega arith in
            let hi : q < w 32 = omega arith in let a : w 32 ≤ w 104 = r.marshalled_published in
            r.readable k q o g lo hi (was_there q o (omega arith) at));
      }

  -- it stays where the same reports stand for the rows, and other slots are out
  pub outgoing_out : (w : ℕ → ℕ) (log : Log) (slots : Slots) → slots.reports ≡ log.slots.reports
      → ((f : PlacedOutput) → slots.filling ≡ Some f → (f.place ≡ w published)
      × (w published < w marshalled + terms.output_rows))
      → ((f : PlacedOutput) → slots.reading ≡ Some f → (log.slots.reports (f.place % terms.output_rows) ≡ some f)
      × (w marshalled ≤ f.place) × (f.place < w published))
      → Outgoing terms w log → Outgoing terms w (record log { slots = slots })
  outgoing_out w log slots same filling reading r = record {
    kept = r.kept;
    front = r.front;
    marshalled_published = r.marshalled_published;
    taken_marshalled = r.taken_marshalled;
    free = r.free;
    least = r.least;
    most = r.most;
    addresses = r.addresses;
    reports = λ k q o g from to at. ap (λ (x : ℕ → Maybe PlacedOutput). x (q % terms.output_rows)) same
        ∙ r.reports k q o g from to at;
    filling = filling;
    reading = λ f is. (let h = reading f is in
        (ap (λ (x : ℕ → Maybe PlacedOutput). x (f.place % terms.output_rows)) same ∙ h.0, h.1, h.2));
    texts = r.texts;
    readable = r.readable;
  }

  -- the history that is kept goes on where a person's ends that is no longer than journalled
  pub rest_of : (w : ℕ → ℕ) (log : Log) (h : List Message) → Outgoing terms w log → IsFront log.status h
      → length h ≤ w journalled → (rest : List Message) × (log.history ≡ h ++ rest)
  rest_of w log h out front short = let kept = out.kept in begins log.status log.history h out.front front (omega arith)

  -- an output of a history that is no longer than journalled is that of the history that is kept
  pub output_kept : (w : ℕ → ℕ) (log : Log) (h : List Message) (q : ℕ) (o : Output) → Outgoing terms w log
      → IsFront log.status h → length h ≤ w journalled
      → get_elem? (outputs_by terms h) q ≡ some o → get_elem? (outputs_by terms log.history) q ≡ some o
  output_kept w log h q o out front short at = let more = rest_of w log h out front short in
      subst (λ (l : List Message). get_elem? (outputs_by terms l) q ≡ some o) (sym more.1)
      (output_stays terms h more.0 q o at)

  -- no more is published than the outputs of the history that is kept
  pub published_kept : (w : ℕ → ℕ) (log : Log) → Outgoing terms w log
      → w published ≤ length (outputs_by terms log.history)
  published_kept w log out = let most = out.most in
      let fewer = fewer_outputs terms (suc (w processed)) log.history in
      omega arith

  -- a control word that showed a value above q is above it now
  pub still_above : (w : ℕ → ℕ) (log : Log) (p : Person) (k q : ℕ) → Knows terms w log p → k < first_row → Shows k p q
      → q < w k
  still_above w log p k q knows low shows = let load = shows.1.0 in
      let at = shows.1.1 in
      let is = shows.1.2 in
      let above = shows.1.3 in
      let low_place : load.place < first_row = subst (λ (j : ℕ). j < first_row) (sym is) low in
      let below : load.value ≤ w k = subst (λ (j : ℕ). load.value ≤ w j) is (knows.loads shows.0 load at low_place) in
      omega arith

-- a word in front of the output rows is none of theirs
pub no_output : (n m q i k : ℕ) → k < 128 + 64 * n → out_row n m q i ≢ k
no_output n m q i k small e = let x : ℕ = q % m in let e' : 128 + 64 * n + 128 * x + i ≡ k = e in omega arith

-- a word of an input row lies in front of the output rows
pub row_before : (n s i : ℕ) → 0 < n → i < 64 → in_row n s i < 128 + 64 * n
row_before n s i pos small = let x : ℕ = s % n in let lt : x < n = mod-lt s pos in omega arith
