-- What the turns of a member's gateway and the end of the venue come to, as it can be seen from outside.
use Rattle.std.proofs.Common.{◌≡◌, ℕ, List, ◌++◌, length}
use Rattle.std.specs.Prelude.{option_to_list}
use Rattle.std.specs.List.{flat_map}
use Rattle.venue_model.specs.History.{History}
use Rattle.venue_model.specs.Requests.{Limits}
use Rattle.book.specs.Histories.{outputs_of}
use Rattle.ring_words.specs.At.{Opened}
use Rattle.ring_words.specs.Ending.{IsBeginning}
use Rattle.ring_words.specs.Log.{sent_at, published_at}
use Rattle.wires.specs.Wires.{Told}
use Rattle.venue.specs.Accepting.{Accepting, without_client, AttendsClients}
use Rattle.gateway.specs.Visits.{DayPart, acts_in, came_in, gone_in, reports_by, reports_for}
use Rattle.gateway.specs.Visits.{IsFirstOf, StillThere, WasServed}
use Rattle.venue.proofs.LifeLemmas.{life-begins}
use Rattle.venue.proofs.WholeLives.{lives, life-serves, life-kept, life-gone, life-stays}

-- A gateway at rings that count the outputs of the history at the start took turns and let clients in, from the start
-- on. One log begins with what the gateway has seen, and has what it published just at its places. Then the
-- member was served so by that log, and its clients are those whose wires came, and then are gone or still there. And
-- so were the reports that were taken, by each history that begins with what the gateway has seen.
pub serves : (n : ℕ) (rings : Opened Limits) (k : ℕ) (end : Accepting) (came gone : List Told)
    → rings.base_outputs ≡ length (outputs_of rings.logic rings.base)
    → AttendsClients n (without_client rings k) end came gone
    → (log : History)
    → ((s : ℕ) → sent_at s end.gateway.seat.who.mine ≡ published_at (length rings.base) k log s)
    → IsBeginning end.gateway.seat.who.seen log
    → (parts : List DayPart) × WasServed k rings.logic rings.base log parts
    × (came_in parts ≡ came) × (gone_in parts ≡ gone ++ option_to_list end.wire)
    × StillThere end.wire parts
    × ((h : History) → IsBeginning end.gateway.seat.who.seen h
    → IsFirstOf (flat_map reports_by (flat_map acts_in parts)) (reports_for k rings.logic rings.base h))
serves n rings k end came gone counted attends log mine seen =
    let life = lives rings k n attends.0 (without_client rings k) end came gone
    (life-begins rings k counted) attends.1 in (
      life.done ++ life.running,
      life-serves rings k n end came gone life log mine seen,
      life.came_are,
      life-gone rings k n end came gone life log mine seen,
      life-stays rings k n end came gone life log mine seen,
      λ h begins. life-kept rings k n end came gone life h begins,
    )
