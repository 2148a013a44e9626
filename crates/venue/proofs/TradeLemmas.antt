-- A member that traded from its start on, and whose port was given back the wire that was left, has come back.
use Rattle.std.proofs.Common.{◌≡◌, ℕ, true, List, [], ◌++◌, Option, None, ap, sym, subst, ◌∙◌}
use Rattle.std.proofs.Common.{append_assoc}
use Rattle.std.specs.Prelude.{option_to_list}
use Rattle.venue_model.specs.Requests.{Limits}
use Rattle.venue.specs.Accepting.{Accepting, AttendsClients, without_client}
use Rattle.ring_words.specs.At.{Opened, At, IsAt}
use Rattle.venue.specs.Leaving.{LeaveOn}
use Rattle.venue.specs.Trading.{TradesOn, GivesBack, IsBack}
use Rattle.venue.specs.TradingLaws.{all_stay, all_both, more-append}
use Rattle.venue.proofs.MemberTurns.{at_door}
use Rattle.wires.specs.Ports.{Register, with_more}
use Rattle.wires.specs.Wires.{Told}

module _ (rings rings_after : Opened Limits) (k : ℕ) (start end : Accepting) (none leaving wire : Option Told)
    (old between after : Register) where
  pub comes_back : start ≡ without_client rings k → none ≡ None
      → TradesOn rings (at_door start none old) rings_after (at_door end leaving between)
      → (seat : At Limits) → seat ≡ end.gateway.seat → IsAt rings_after end.gateway.seat → wire ≡ end.wire
      → seat.who.claims ≡ []
      → GivesBack between after leaving wire → old.is_open ≡ true → IsBack rings k seat old after
  comes_back begun nobody goes seat seat_is fits wire_is spent gives opened =
      let left : List Told = option_to_list leaving ++ option_to_list wire in
      let first : LeaveOn (option_to_list none ++ goes.ended) (goes.gone ++ option_to_list leaving) = goes.leave in
      let ended : LeaveOn goes.ended (goes.gone ++ option_to_list leaving) =
      subst (λ (l : Option Told). LeaveOn (option_to_list l ++ goes.ended)
      (goes.gone ++ option_to_list leaving)) nobody first in
      let all : LeaveOn (goes.ended ++ option_to_list wire)
      ((goes.gone ++ option_to_list leaving) ++ option_to_list wire) =
      all_both goes.ended (goes.gone ++ option_to_list leaving) (option_to_list wire)
      (option_to_list wire) ended (all_stay (option_to_list wire)) in
      record {
        end = end;
        came = goes.came;
        ended = goes.ended;
        gone = goes.gone ++ left;
        attends = subst (λ (a : Accepting). AttendsClients 1024 a end goes.came goes.ended) begun goes.attends;
        number = ap (λ (r : Register). r.number) gives ∙ goes.number;
        is_open = ap (λ (r : Register). r.is_open) gives ∙ goes.is_open ∙ opened;
        handed_out = ap (λ (r : Register). r.came) gives ∙ goes.handed_out;
        given_back = ap (λ (r : Register). r.gone) gives ∙ ap (λ known. with_more known left) goes.given_back
            ∙ more-append old.gone goes.gone left;
        leave = subst (λ (w : Option Told). LeaveOn (goes.ended ++ option_to_list w) (goes.gone ++ left)) wire_is
            (subst (λ (l : List Told). LeaveOn (goes.ended ++ option_to_list wire) l)
            (append_assoc goes.gone (option_to_list leaving) (option_to_list wire)) all);
        seat_is = seat_is;
        at = subst (λ (s : At Limits). IsAt rings s) (sym seat_is)
            (subst (λ (r : Opened Limits). IsAt r end.gateway.seat) goes.rings_are fits);
        role = ap (λ (s : At Limits). s.who.role) seat_is ∙ goes.role
            ∙ ap (λ (a : Accepting). a.gateway.seat.who.role) begun;
        spent = spent;
        free = ap (λ (r : Register). r.out) gives;
      }
