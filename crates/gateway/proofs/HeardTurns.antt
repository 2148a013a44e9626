-- A turn that hears: what it read or published, and what it handed on behind that.
use Rattle.std.proofs.Common.{◌≡◌, ◌≢◌, ◌⊎◌, inl, inr, ℕ, nat_lt, ◌+◌, ◌<◌, Bool, true, false}
use Rattle.std.proofs.Common.{List, [], ◌∷◌, ◌++◌, length, refl, ap, sym, ◌∙◌, arith}
use Rattle.std.proofs.Common.{append-nil, append_assoc, Some, None}
use Rattle.std.proofs.lemmas.List.{append_cancel_left}
use Rattle.gateway.specs.declared.ending.Reason.TheVariants.{WireFailed, Exhausted}
use Rattle.gateway.specs.declared.ending.Turned.{Turned}
use Rattle.gateway.specs.declared.ending.Turned.TheVariants.{Worked, Quiet, Ended}
use Rattle.gateway.specs.declared.gateway.Found.{Found}
use Rattle.gateway.specs.declared.gateway.Found.TheVariants.{Something, Nothing, Failed}
use Rattle.wires.specs.Wires.{Told, grown}
use Rattle.ring_words.specs.declared.view.Load.{Load}
use Rattle.gateway.specs.Ledgers.{Ledger, IsRefused, IsExhausted}
use Rattle.gateway.specs.Standing.{Standing}
use Rattle.gateway.specs.Turns.{World, place, world, Front, Moved, nothing_moved, Step, Takes, WasExhausted}
use Rattle.gateway.specs.Turns.{FoundNone, ClosesBy, Silence, Hearing, IsQuiet, GoesOn, Means, CountsTurns}
use Rattle.gateway.specs.Turns.{Turn, HandlesOne}
use Rattle.gateway.specs.TurnParts.{Hears, HeardSo, HandsOn, TookSo, Waits, Rests, RestsSo}
use Rattle.gateway.proofs.Lists.{no_front}
use Rattle.gateway.proofs.StepLemmas.{both, step-then, flush-step, handles-between}
use Rattle.wires.specs.WireLaws.{grown-nil}
use Rattle.gateway.proofs.FlushedTurns.{no_takes, wrote_some, wrote_none, over-attends, over-counts}

-- nothing fed, read, written, published or handed on is nothing moved
is_still : (m : Moved) → m.fed ≡ [] → m.got ≡ [] → m.put ≡ [] → m.messages ≡ [] → m.handed ≡ [] → m ≡ nothing_moved
is_still m fed got put messages handed =
    λ i. record { fed = fed i; got = got i; put = put i; messages = messages i; handed = handed i }

-- where something was heard, something moved
hearing_moves : (old : World) (m : Moved) → Hearing old m → m ≢ nothing_moved
hearing_moves old m (inl (free, fed)) same = fed (ap (λ (n : Moved). n.fed) same)
hearing_moves old m (inr messages) same = messages (ap (λ (n : Moved). n.messages) same)

first_value : (k l : Load) (ks ls : List Load) → k ∷ ks ≡ l ∷ ls → k.value ≡ l.value
first_value k l ks ls e = let same : k ≡ l = cc in ap (λ (m : Load). m.value) same

-- what the words loaded first show they show where more are loaded
later : (P : List Load → Type 0) (first second third more : List Load) → third ≡ second ++ more
    → (ls : List Load) × P ls × (rest : List Load) × (second ≡ first ++ (ls ++ rest))
    → (ls : List Load) × P ls × (rest : List Load) × (third ≡ first ++ (ls ++ rest))
later P first second third more grown (ls, why, rest, loads) =
    (ls, why, rest ++ more, rw (grown, loads) (simp append_assoc))

-- the held message is that of before the flush
module _ (old h : Front) (session : Standing) (wire wire' wire'' : Told) (desk desk' : Ledger) (put : List ℕ)
    (answer : Found)
    (split : old.session.outgoing ≡ put ++ session.outgoing)
    (session_is : session ≡ record old.session { outgoing = session.outgoing })
    (none : session.outgoing ≡ []) (tells : wire' ≡ record wire { took = grown wire.took put })
    (hears : Hears (world (record old { session = session; deaf = 0 }) wire' desk) (world h wire'' desk') answer) where
  abbrev before : World
  before = world old wire desk

  abbrev flushed : World
  flushed = world (record old { session = session; deaf = 0 }) wire' desk

  abbrev behind : World
  behind = world h wire'' desk'

  flush_step : Step (place old.session old.waiting wire desk) (place session old.waiting wire' desk)
      (record nothing_moved { put = put })
  flush_step = flush-step old.session session old.waiting put wire wire' desk split session_is (rw tells) (rw tells)

  abbrev heard-moved : Moved
  heard-moved = both (record nothing_moved { put = put }) hears.moved

  heard-step : Step (place old.session old.waiting wire desk) (place h.session h.waiting wire'' desk') heard-moved
  heard-step = step-then _ _ _ _ _ flush_step hears.step

  -- a frame was handled in the part that hears, or none
  one_heard : (end : Standing) → end.accepted ≡ h.session.accepted → end.closing ≡ h.session.closing →
      HandlesOne old.session end
  one_heard end accepted closing = handles-between old.session session h.session end
      (rw session_is) (rw session_is) accepted closing hears.one

  -- the message held was lost since no sequence was left
  lost_heard : h.session.closing ≡ Some Exhausted → (old.session.held ≢ None) × WasExhausted desk desk'
  lost_heard is = let lost = hears.lost is in ((λ free. lost.0 (rw session_is free)), lost.1)

  -- it was seen that no sequence was left: then the message held is lost, and the session closes
  heard_exhausts : (desk'' : Ledger) (more : List Load) → desk''.loads ≡ desk'.loads ++ more → old.session.held ≢ None
      → WasExhausted desk desk'' →
      h.session.closing ≡ Some Exhausted
  heard_exhausts desk'' more grown holds (ls, is, rest, loads) =
      let tried = hears.tried (λ free. holds (rw session_is at free)) in
      let same : hears.loaded ++ more ≡ ls ++ rest = append_cancel_left desk.loads (hears.loaded ++ more) (ls ++ rest)
      (sym (append_assoc desk.loads hears.loaded more) ∙ ap (λ l. l ++ more)
      (sym (ap (λ (l : Ledger). l.loads) hears.ledger)) ∙ sym grown ∙ loads) in
      tried.3 (first_value _ _ (tried.1 ++ more) rest (rw (tried.2, is) at same))

  -- the client's side closed in the read, or didn't
  heard_closes : ClosesBy old.closed h.closed wire.ends wire''.ends
  heard_closes = rw tells at hears.closes

  -- the wire failed in the read
  pub turn-unheard : answer ≡ Failed → Turn before (world (record h { live = false }) wire'' desk') (Ended WireFailed)
  turn-unheard failed = record {
    moved = heard-moved;
    step = heard-step;
    few = hears.few;
    one = one_heard h.session refl refl;
    takes = rw hears.unhanded (no_takes h.session.logged_on old (record h { live = false }) desk desk'
        (ap (λ (l : Ledger). l.taken) hears.ledger) (ap (λ (f : Front). f.passed) hears.others));
    means = (rw (failed, tells) at hears.so, refl);
    counts = over-counts before (world (record h { live = false }) wire'' desk') heard-moved (Ended WireFailed) refl
        (inl (ap (λ (f : Front). f.deaf) hears.others)) (ap (λ (f : Front). f.idle) hears.others)
        (λ other. absurd (other refl)) (λ other. absurd (other refl));
    attends = over-attends before (world (record h { live = false }) wire'' desk') heard-moved refl;
    closes = heard_closes;
    fails = λ more. refl;
    exhausts = λ holds none. heard_exhausts desk' [] (sym (append-nil desk'.loads)) holds none;
    lost = λ is_open is. lost_heard is;
  }

  -- all was written, and an output was looked for
  module _ (desk'' : Ledger) (t : Front) (took : Bool) (hands : HandsOn h t desk' desk'' took) where
    abbrev given-moved : Moved
    given-moved = record nothing_moved { handed = hands.handed }

    abbrev all-moved : Moved
    all-moved = both heard-moved given-moved

    hand-step : Step (place h.session h.waiting wire'' desk') (place t.session t.waiting wire'' desk'') given-moved
    hand-step = record {
      moves = hands.moves;
      input = ap (λ (f : Front). f.waiting) hands.others ∙ sym (append-nil h.waiting);
      gave = sym (grown-nil wire''.gave);
      took = sym (grown-nil wire''.took);
      published = ap (λ (l : Ledger). l.published) hands.ledger ∙ sym (append-nil desk'.published);
      gateway = hands.gateway;
    }

    all-step : Step (place old.session old.waiting wire desk) (place t.session t.waiting wire'' desk'') all-moved
    all-step = step-then _ _ _ _ _ heard-step hand-step

    all-takes : Takes t.session.logged_on old t desk desk'' all-moved.handed
    all-takes = rw hears.unhanded (record {
      these = hands.takes.these;
      taken = rw (hands.takes.taken, hears.ledger);
      given = hands.takes.given;
      passed = rw (hands.takes.passed, hears.others);
    })

    count_same : desk'.count ≡ desk.count
    count_same = ap (λ (l : Ledger). l.count) hears.ledger

    loaded_more : desk''.loads ≡ desk'.loads ++ hands.loaded
    loaded_more = ap (λ (l : Ledger). l.loads) hands.ledger

    -- if nothing moved in all, nothing was heard, and nothing written
    unheard_all : all-moved ≡ nothing_moved → hears.moved ≡ nothing_moved
    unheard_all same = is_still hears.moved (rw append-nil at (ap (λ (m : Moved). m.fed) same))
        (rw append-nil at (ap (λ (m : Moved). m.got) same)) hears.unwritten
        (rw append-nil at (ap (λ (m : Moved). m.messages) same)) hears.unhanded

    unwritten_all : all-moved ≡ nothing_moved → put ≡ []
    unwritten_all same = no_front put hears.moved.put (rw append-nil at (ap (λ (m : Moved). m.put) same))

    -- nothing was written, heard or handed on
    still_all : put ≡ [] → hears.moved ≡ nothing_moved → hands.handed ≡ [] → all-moved ≡ nothing_moved
    still_all written heard handed = rw (written, heard, handed)

    -- where none was found, that is why
    found : TookSo h t desk' desk'' hands.handed false → t.session.closing ≡ None → FoundNone desk desk''
    found (handed, stays, uncounted, looked) is_open =
        let at_end = looked (rw stays at is_open) in
        (hears.loaded, rw (at_end, hears.ledger) (append_assoc desk.loads hears.loaded _))

    -- what was heard, in the whole turn
    hearing_all : Hearing flushed hears.moved → Hearing before all-moved
    hearing_all (inl (free, fed)) = inl (rw session_is at free, λ unfed. fed (rw append-nil at unfed))
    hearing_all (inr messages) = inr (λ unsent. messages (rw append-nil at unsent))

    -- why nothing was heard, in the whole turn
    silent_all : (end : Front) → end ≡ record t { idle = end.idle; live = end.live } → Silence before behind
        → Silence before (world end wire'' desk'')
    silent_all end end_is (inl (held, refused)) =
        inl (held, later (λ ls. IsRefused desk.rows desk.loads ls ⊎ IsExhausted ls) _ _ _ _ loaded_more refused)
    silent_all end end_is (inr (free, fed, why)) =
        inr (free, rw (end_is, hands.others) fed, rw (end_is, hands.others) why)

    quiet-all : (end : Front) → put ≡ [] → hears.moved ≡ nothing_moved → TookSo h t desk' desk'' hands.handed false
        → Silence before behind → end ≡ record t { idle = end.idle; live = end.live }
        → IsQuiet before (world end wire'' desk'') all-moved
    quiet-all end written heard untaken silence end_is = record {
      still = still_all written heard untaken.0;
      stuck = λ stood. absurd (stood (rw (split, written) none));
      unheard = λ silent. silent_all end end_is silence;
      untaken = untaken.2 ∙ count_same;
      unhanded = λ silent is_open. found untaken (rw end_is at is_open);
    }

    -- what was heard, if it wasn't something and the wire didn't fail
    heard-nothing : (a : Found) → a ≢ Something → a ≢ Failed → HeardSo flushed behind hears.moved a
        → (hears.moved ≡ nothing_moved) × Silence before behind
    heard-nothing Something other alive so = absurd (other refl)
    heard-nothing Failed other alive so = absurd (alive refl)
    heard-nothing Nothing other alive so = rw (session_is, tells) at so

    -- nothing was written in all, if nothing was flushed
    unput_all : put ≡ [] → all-moved.put ≡ []
    unput_all written = rw (append-nil, written) hears.unwritten

    -- the counts that the part that hands on leaves
    deaf_is : t.deaf ≡ 0
    deaf_is = ap (λ (f : Front). f.deaf) hands.others ∙ ap (λ (f : Front). f.deaf) hears.others

    idle_is : t.idle ≡ old.idle
    idle_is = ap (λ (f : Front). f.idle) hands.others ∙ ap (λ (f : Front). f.idle) hears.others

    -- what was put in all is what stood to be written
    put_all : all-moved.put ≡ old.session.outgoing
    put_all = rw (append-nil, hears.unwritten, split, none)

    -- an output was looked for: it was taken or passed over, or there was none
    took_so : (b : Bool) → took ≡ b → TookSo h t desk' desk'' hands.handed b
    took_so b took_is = rw took_is at hands.so

    took_more : took ≡ true → desk.count < desk''.count
    took_more took_is = rw count_same at (took_so true took_is)

    module _ (end : Front) (wrote : Bool)
        (wrote_is : wrote ≡ nat_lt (length session.outgoing) (length old.session.outgoing))
        (end_is : end ≡ record t { idle = end.idle; live = end.live }) where
      abbrev after : World
      after = world end wire'' desk''

      some_written : wrote ≡ true → put ≢ []
      some_written is = wrote_some old.session.outgoing put session.outgoing split (sym wrote_is ∙ is)

      none_written : wrote ≡ false → put ≡ []
      none_written is = wrote_none old.session.outgoing put session.outgoing split (sym wrote_is ∙ is)

      end_deaf : end.deaf ≡ 0
      end_deaf = rw end_is deaf_is

      -- the second count rises
      idle_rises : (w b : Bool) → wrote ≡ w → took ≡ b → Waits t end w b → end.closed ≡ true
          → end.session.closing ≡ None → old.session.outgoing ≡ [] → desk''.count ≡ desk.count
          → end.idle ≡ old.idle + 1
      idle_rises true b is took_is waits closed is_open silent same =
          absurd (some_written is (no_front put session.outgoing (sym split ∙ silent)))
      idle_rises false true is took_is waits closed is_open silent same =
          let more = took_more took_is in absurd (omega (arith, more, same))
      idle_rises false false is took_is (inl (stays, never)) closed is_open silent same =
          absurd (never (rw end_is at closed) (rw end_is at is_open))
      idle_rises false false is took_is (inr (more, closed_is, open_is)) closed is_open silent same = rw idle_is at more

      -- the counts of a turn that wrote all; where it wrote or took something, the second begins again
      counts_again : (w b : Bool) (turned : Turned) → wrote ≡ w → took ≡ b → Waits t end w b → end.idle ≡ 0
          → CountsTurns before after all-moved turned
      counts_again w b turned is took_is waits again = record {
        deaf = inl end_deaf;
        idle = inl again;
        deaf_rises = λ other stood unput. absurd (stood (sym put_all ∙ unput));
        idle_rises = λ other. idle_rises w b is took_is waits;
        wrote = λ live some. end_deaf;
        wrote_all = λ live some all. again;
        took = λ live more. again;
        stuck = λ left. absurd (left put_all);
      }

      all-counts : (w b : Bool) (turned : Turned) → wrote ≡ w → took ≡ b → Waits t end w b
          → CountsTurns before after all-moved turned
      all-counts true b turned is took_is waits = counts_again true b turned is took_is waits waits
      all-counts false true turned is took_is waits = counts_again false true turned is took_is waits waits
      all-counts false false turned is took_is waits =
          let unput = unput_all (none_written is) in let untaken = took_so false took_is in record {
            deaf = inl end_deaf;
            idle = elim waits [
              | inl (same, never) ↦ inr (inl (same ∙ idle_is))
              | inr (more, closed, is_open) ↦
                  inr (inr (rw idle_is at more, rw end_is closed, unput, found untaken is_open))
            ];
            deaf_rises = λ other stood none_put. absurd (stood (sym put_all ∙ none_put));
            idle_rises = λ other. idle_rises false false is took_is waits;
            wrote = λ live some. end_deaf;
            wrote_all = λ live some all. absurd (some unput);
            took = λ live more. let same = untaken.2 in absurd (omega (arith, more, same, count_same));
            stuck = λ left. absurd (left put_all);
          }

      -- a turn that went on behind its writes listened
      all-listens : (a : Found) → a ≢ Failed → HeardSo flushed behind hears.moved a
          → Hearing before all-moved ⊎ Silence before after
      all-listens Something alive so = inl (hearing_all so)
      all-listens Nothing alive so = inr (silent_all end end_is (heard-nothing Nothing (λ is. cc) alive so).1)
      all-listens Failed alive so = absurd (alive refl)

      -- and looked for an output
      looks : (b : Bool) → took ≡ b → end.session.closing ≡ None → (desk.count < desk''.count) ⊎ FoundNone desk desk''
      looks true took_is is_open = inl (took_more took_is)
      looks false took_is is_open = inr (found (took_so false took_is) (rw end_is at is_open))

      module _ (alive : answer ≢ Failed) (live : t.live ≡ true) (is_open : old.session.closing ≡ None) where
        goes-on : end.live ≡ t.live → GoesOn old end
        goes-on same = record { live = same ∙ live; unsaid = λ closes. absurd (closes is_open) }

        all-means : (turned : Turned) → RestsSo t end wrote answer took turned → Means before after all-moved turned
        all-means Worked (same, inl did) = (inl (λ still. some_written did (unwritten_all still)), goes-on same)
        all-means Worked (same, inr (inl did)) = (inr (took_more did), goes-on same)
        all-means Worked (same, inr (inr did)) =
            (inl (λ still. hearing_moves flushed hears.moved (rw did at hears.so) (unheard_all still)), goes-on same)
        all-means Quiet (same, no_bytes, no_output, no_news) =
            let silent = heard-nothing answer no_news alive hears.so in
            (quiet-all end (none_written no_bytes) silent.0 (took_so false no_output) silent.1 end_is, goes-on same)
        all-means (Ended reason) (same, why, closed, last, before_last) =
            (rw why (rw end_is closed, last, rw idle_is at before_last), same)

    pub turn-rested : (end : Front) (wrote : Bool) (turned : Turned) →
        wrote ≡ nat_lt (length session.outgoing) (length old.session.outgoing) → answer ≢ Failed → old.live ≡ true
        → session.closing ≡ None →
        Rests t end wrote answer took turned → Turn before (world end wire'' desk'') turned
    turn-rested end wrote turned wrote_is alive live is_open rests =
        let end_is = rests.others in
        let t_live : t.live ≡ true = ap (λ (f : Front). f.live) hands.others ∙ ap (λ (f : Front). f.live) hears.others
        ∙ live in
        record {
          moved = all-moved;
          step = rw end_is all-step;
          few = rw append-nil hears.few;
          one = one_heard end.session (rw end_is hands.accepted) (rw end_is hands.closing);
          takes = rw end_is (record {
            these = all-takes.these;
            taken = all-takes.taken;
            given = all-takes.given;
            passed = all-takes.passed;
          });
          means = all-means end wrote wrote_is end_is alive t_live (rw session_is at is_open) turned rests.so;
          counts = all-counts end wrote wrote_is end_is wrote took turned refl refl rests.waits;
          attends = record {
            writes = λ lives. inl put_all;
            listens = λ lives all. all-listens end wrote wrote_is end_is answer alive hears.so;
            looks = λ lives all still_open. looks end wrote wrote_is end_is took refl still_open;
          };
          closes = rw (end_is, hands.others) heard_closes;
          fails = λ more. absurd (more (hears.alive alive ∙ ap (λ (t : Told). t.failures) tells));
          exhausts = λ holds seen.
              rw end_is (hands.closing ∙ heard_exhausts desk'' hands.loaded loaded_more holds seen);
          lost = λ open_before is. let lost = lost_heard (sym hands.closing ∙ (rw end_is at is)) in
              (lost.0, later IsExhausted _ _ _ _ loaded_more lost.1);
        }
