-- A turn that hears nothing: the wire fails or is stuck in the flush, or the session closes behind it.
use Rattle.std.proofs.Common.{◌≡◌, ◌≢◌, ◌⊎◌, inl, inr, ℕ, suc, nat_lt, ◌+◌, ◌≤◌, ◌<◌, Bool, true, false}
use Rattle.std.proofs.Common.{if◌then◌else◌, List, [], ◌∷◌, ◌++◌, length, refl, ap, sym, ◌∙◌, arith}
use Rattle.std.proofs.Common.{append-nil, length-append, Some, None}
use borrow.Author.Tests.{ltb-true, ltb-false}
use Rattle.gateway.specs.declared.ending.Reason.{Reason}
use Rattle.gateway.specs.declared.ending.Reason.TheVariants.{Closed, WireFailed, LoggedOut, Refused, Stalled, Exhausted}
use Rattle.gateway.specs.declared.ending.Turned.{Turned}
use Rattle.gateway.specs.declared.ending.Turned.TheVariants.{Worked, Quiet, Ended}
use Rattle.wires.specs.declared.flushed.Flushed.TheVariants as flushed
use Rattle.venue_model.specs.Counts.{Rose}
use Rattle.wires.specs.Wires.{Told, grown}
use Rattle.gateway.specs.Ledgers.{Ledger}
use Rattle.wires.specs.Flushing.{Flushes}
use Rattle.gateway.specs.Standing.{Standing}
use Rattle.gateway.specs.SessionFields.{ClosesItself}
use Rattle.gateway.specs.Turns.{World, world, Front, Moved, nothing_moved, Takes, WasExhausted}
use Rattle.gateway.specs.Turns.{EndedBy, Means, CountsTurns}
use Rattle.gateway.specs.Turns.{Attends, Turn}
use Rattle.gateway.specs.TurnParts.{Stuck, StuckSo}
use Rattle.gateway.proofs.Lists.{no_end}
use Rattle.gateway.proofs.StepLemmas.{flush-step, handles-none}

-- no outputs are taken
pub no_takes : (on : Bool) (old new : Front) (desk desk' : Ledger) → desk'.taken ≡ desk.taken → new.passed ≡ old.passed
    → Takes on old new desk desk' []
no_takes on old new desk desk' none same = record {
  these = [];
  taken = rw append-nil none;
  given = elim on as (λ b. nothing_moved.handed ≡ (if b then [] else [])) [ true ↦ refl | false ↦ refl ];
  passed =
      elim on as (λ b. new.passed ≡ old.passed + (if b then 0 else 0)) [ true ↦ omega arith | false ↦ omega arith ];
}

-- fewer bytes stand where some were written, and no fewer where none was
pub wrote_some : (stood put rest : List ℕ) → stood ≡ put ++ rest → nat_lt (length rest) (length stood) ≡ true → put ≢ []
wrote_some stood put rest split wrote none =
    let long : length stood ≡ length put + length rest = ap length split ∙ length-append put rest in
    let empty : length put ≡ 0 = ap length none in
    let less : length rest < length stood = ltb-true _ _ wrote in
    omega arith

pub wrote_none : (stood put rest : List ℕ) → stood ≡ put ++ rest → nat_lt (length rest) (length stood) ≡ false → put ≡ []
wrote_none stood [] rest split wrote = refl
wrote_none stood (b ∷ put) rest split wrote =
    let long : length stood ≡ suc (length put) + length rest = ap length split ∙ length-append (b ∷ put) rest in
    let most : length stood ≤ length rest = ltb-false _ _ wrote in
    absurd (omega arith)

-- all was written only if nothing is left
no_rest : (put rest : List ℕ) → put ≡ put ++ rest → rest ≡ []
no_rest [] rest e = sym e
no_rest (b ∷ put) rest e = no_rest put rest cc

-- a session that has ended needn't attend to anything
pub over-attends : (old new : World) (m : Moved) → new.front.live ≡ false → Attends old new m
over-attends old new m over =
    record { writes = λ live. absurd (cc); listens = λ live. absurd (cc); looks = λ live. absurd (cc) }

-- where nothing was loaded it wasn't seen that no sequence was left
unloaded : (desk : Ledger) → WasExhausted desk desk → ⊥
unloaded desk (ls, is, rest, loads) =
    let long : length desk.loads ≡ length desk.loads + length (ls ++ rest) = ap length loads
    ∙ length-append desk.loads (ls ++ rest) in
    let more : length (ls ++ rest) ≡ suc (length rest) = ap (λ l. length (l ++ rest)) is in
    absurd (omega (arith, long, more))

-- Bytes went out, or none could; the gateway ends or goes on without hearing.
module _ (old : Front) (session : Standing) (wire wire' : Told) (desk : Ledger) (put : List ℕ)
    (split : old.session.outgoing ≡ put ++ session.outgoing)
    (session_is : session ≡ record old.session { outgoing = session.outgoing })
    (gave : wire'.gave ≡ wire.gave) (took : wire'.took ≡ grown wire.took put) (ends : wire'.ends ≡ wire.ends)
    (deaf idle : ℕ) (live : Bool) where
  abbrev flushed-front : Front
  flushed-front = record old { session = session; deaf = deaf; idle = idle; live = live }

  flushed-turn : (answer : Turned) → (wire'.failures ≢ wire.failures → answer ≡ Ended WireFailed) →
      Attends (world old wire desk) (world flushed-front wire' desk) (record nothing_moved { put = put }) →
      Means (world old wire desk) (world flushed-front wire' desk) (record nothing_moved { put = put }) answer →
      CountsTurns (world old wire desk) (world flushed-front wire' desk) (record nothing_moved { put = put }) answer →
      Turn (world old wire desk) (world flushed-front wire' desk) answer
  flushed-turn answer fails attends means counts = record {
    moved = record nothing_moved { put = put };
    step = flush-step old.session session old.waiting put wire wire' desk split session_is gave took;
    few = omega arith;
    one = handles-none old.session session (ap (λ (s : Standing). s.accepted) session_is);
    takes = no_takes session.logged_on old flushed-front desk desk refl refl;
    means = means;
    counts = counts;
    attends = attends;
    closes = inl (refl, ends);
    fails = fails;
    lost = λ is_open is. absurd (let stays = ap (λ (s : Standing). s.closing) session_is in cc);
    exhausts = λ holds none. absurd (unloaded desk none);
  }

-- a session is over: its counts are as they were, or the first began again
pub over-counts : (old new : World) (m : Moved) (answer : Turned) → new.front.live ≡ false
    → (new.front.deaf ≡ 0) ⊎ (new.front.deaf ≡ old.front.deaf) → new.front.idle ≡ old.front.idle
    → (answer ≢ Ended WireFailed → old.front.session.outgoing ≢ [] → m.put ≢ [])
    → (answer ≢ Ended WireFailed → new.front.session.closing ≢ None) → CountsTurns old new m answer
over-counts old new m answer over deaf idle all closes = record {
  deaf = elim deaf [ inl zero ↦ inl zero | inr same ↦ inr (inl same) ];
  idle = inr (inl idle);
  deaf_rises = λ other stood none. absurd (all other stood none);
  idle_rises = λ other closed is_open. absurd (closes other is_open);
  wrote = λ live. absurd (cc);
  wrote_all = λ live. absurd (cc);
  took = λ live. absurd (cc);
  stuck = λ left. idle;
}

-- the wire failed in the flush
pub turn-failed : (old : Front) (session : Standing) (wire wire' : Told) (desk : Ledger) →
    session ≡ record old.session { outgoing = session.outgoing } →
    Flushes old.session.outgoing session.outgoing wire wire' flushed.Failed →
    Turn (world old wire desk) (world (record old { session = session; live = false }) wire' desk) (Ended WireFailed)
turn-failed old session wire wire' desk session_is (put, split, (rose, tells)) =
    flushed-turn old session wire wire' desk put split session_is (ap (λ (t : Told). t.gave) tells)
    (ap (λ (t : Told). t.took) tells) (ap (λ (t : Told). t.ends) tells)
    old.deaf old.idle false (Ended WireFailed) (λ more. refl) (over-attends _ _ _ refl) (rose, refl)
    (over-counts _ _ _ _ refl (inr refl) refl (λ other. absurd (other refl)) (λ other. absurd (other refl)))

-- the wire took no more in the flush
module _ (old new : Front) (wire wire' : Told) (desk : Ledger) (put : List ℕ) (wrote : Bool)
    (split : old.session.outgoing ≡ put ++ new.session.outgoing) (left : new.session.outgoing ≢ [])
    (wrote_is : wrote ≡ nat_lt (length new.session.outgoing) (length old.session.outgoing))
    (rose : Rose wire.full_writes wire'.full_writes) where
  abbrev before : World
  before = world old wire desk

  abbrev after : World
  after = world new wire' desk

  abbrev moved : Moved
  moved = record nothing_moved { put = put }

  some_written : wrote ≡ true → put ≢ []
  some_written is = wrote_some old.session.outgoing put new.session.outgoing split (sym wrote_is ∙ is)

  none_written : wrote ≡ false → put ≡ []
  none_written is = wrote_none old.session.outgoing put new.session.outgoing split (sym wrote_is ∙ is)

  -- something stood to be written
  stood : old.session.outgoing ≢ []
  stood silent = left (no_end put new.session.outgoing (sym split ∙ silent))

  stuck-means : (answer : Turned) → old.live ≡ true → StuckSo old new wrote answer → Means before after moved answer
  stuck-means Worked live so = (
    inl (λ same. some_written so.1 (ap (λ (m : Moved). m.put) same)),
    record { live = so.0 ∙ live; unsaid = λ closing. left },
  )
  stuck-means Quiet live so = (
    record {
      still = rw (none_written so.1);
      stuck = λ _. rose;
      unheard = λ silent. absurd (stood silent);
      untaken = refl;
      unhanded = λ silent. absurd (stood silent);
    },
    record { live = so.0 ∙ live; unsaid = λ closing. left },
  )
  stuck-means (Ended reason) live so =
      let full = so.2 in let more = so.4 in rw so.1 ((full, omega (arith, full, more)), so.0)

  -- the first count rises where nothing was written, and begins again where something was
  counts-stuck : (answer : Turned) → new.idle ≡ old.idle
      → ((put ≢ []) × (new.deaf ≡ 0)) ⊎ ((put ≡ []) × (new.deaf ≡ old.deaf + 1)) → CountsTurns before after moved answer
  counts-stuck answer idle deaf = record {
    deaf = elim deaf [
      | inl (some, again) ↦ inl again
      | inr (none, more) ↦ inr (inr (more, stood, none, rose))
    ];
    idle = inr (inl idle);
    deaf_rises = λ other was none. elim deaf [ inl (some, again) ↦ absurd (some none) | inr (same, more) ↦ more ];
    idle_rises = λ other closed is_open silent. absurd (stood silent);
    wrote = λ live some. elim deaf [ inl (same, again) ↦ again | inr (none, more) ↦ absurd (some none) ];
    wrote_all = λ live some all. absurd (left (no_rest put new.session.outgoing (all ∙ split)));
    took = λ live more. absurd (omega (arith, more));
    stuck = λ rests. idle;
  }

  stuck-counts : (answer : Turned) → new.idle ≡ old.idle → StuckSo old new wrote answer
      → CountsTurns before after moved answer
  stuck-counts Worked idle so = counts-stuck Worked idle (inl (some_written so.1, so.2))
  stuck-counts Quiet idle so = counts-stuck Quiet idle (inr (none_written so.1, so.2))
  stuck-counts (Ended reason) idle so = counts-stuck (Ended reason) idle (inr (none_written so.3, so.4))

-- what the stuck part says of the gateway before the flush, and of its end
stuck-so : (old : Front) (session : Standing) (new : Front) (wrote : Bool) (answer : Turned)
    (idle : ℕ) → Stuck (record old { session = session; idle = idle }) new wrote answer →
    StuckSo old (record old { session = session; deaf = new.deaf; idle = idle; live = new.live }) wrote answer
stuck-so old session new wrote Worked idle stuck = stuck.so
stuck-so old session new wrote Quiet idle stuck = stuck.so
stuck-so old session new wrote (Ended reason) idle stuck = stuck.so

-- so does the whole turn
pub turn-stuck : (old : Front) (session : Standing) (new : Front) (wire wire' : Told) (desk : Ledger) (wrote : Bool)
    (answer : Turned) →
    session ≡ record old.session { outgoing = session.outgoing } → old.live ≡ true →
    Flushes old.session.outgoing session.outgoing wire wire' flushed.Full →
    wrote ≡ nat_lt (length session.outgoing) (length old.session.outgoing) →
    (idle : ℕ) → Stuck (record old { session = session; idle = idle }) new wrote answer → idle ≡ old.idle →
    Turn (world old wire desk) (world new wire' desk) answer
turn-stuck old session new wire wire' desk wrote answer session_is live (put, split, (left, rose, tells)) wrote_is
    idle stuck stays =
    let end = record old { session = session; deaf = new.deaf; idle = idle; live = new.live } in
    let so = stuck-so old session new wrote answer idle stuck in
    let unwritten = λ (all : put ≡ old.session.outgoing). left (no_rest put session.outgoing (all ∙ split)) in
    rw stuck.others (flushed-turn old session wire wire' desk put split session_is (ap (λ (t : Told). t.gave) tells)
    (ap (λ (t : Told). t.took) tells) (ap (λ (t : Told). t.ends) tells)
    new.deaf idle new.live answer (λ more. absurd (more (ap (λ (t : Told). t.failures) tells)))
    (record {
      writes = λ lives. inr (rose, refl, refl);
      listens = λ lives all. absurd (unwritten all);
      looks = λ lives all. absurd (unwritten all);
    })
    (stuck-means old end wire wire' desk put wrote split left wrote_is rose answer live so)
    (stuck-counts old end wire wire' desk put wrote split left wrote_is rose answer stays so))

-- the session was closing, and all is written
closed-by : (old new : World) (reason : Reason) → ClosesItself reason → new.front.session.closing ≡ Some reason
    → new.front.session.outgoing ≡ [] →
    EndedBy old new reason
closed-by old new LoggedOut own closing none = (closing, none)
closed-by old new Refused own closing none = (closing, none)
closed-by old new Exhausted own closing none = (closing, none)
closed-by old new Closed own closing none = absurd own
closed-by old new WireFailed own closing none = absurd own
closed-by old new Stalled own closing none = absurd own

pub turn-closed : (old : Front) (session : Standing) (wire wire' : Told) (desk : Ledger) (reason : Reason) →
    session ≡ record old.session { outgoing = session.outgoing } →
    Flushes old.session.outgoing session.outgoing wire wire' flushed.All →
    ClosesItself reason → session.closing ≡ Some reason →
    Turn (world old wire desk) (world (record old { session = session; deaf = 0; live = false }) wire' desk)
    (Ended reason)
turn-closed old session wire wire' desk reason session_is (put, split, (none, tells)) own closing =
    flushed-turn old session wire wire' desk put split session_is (ap (λ (t : Told). t.gave) tells)
    (ap (λ (t : Told). t.took) tells) (ap (λ (t : Told). t.ends) tells)
    0 old.idle false (Ended reason) (λ more. absurd (more (ap (λ (t : Told). t.failures) tells)))
    (over-attends _ _ _ refl) (
      closed-by (world old wire desk) (world (record old { session = session; deaf = 0; live = false }) wire' desk)
          reason own closing none,
      refl,
    )
    (over-counts _ _ _ _ refl (inl refl) refl (λ _ stood unput. stood (rw (split, unput) none)) (λ _ is_open. cc))
