-- The order stands amended at its place, or it left and came in again.
use Rattle.std.proofs.Common.{◌+◌, sym, ◌∙◌, rules, arith}
use Rattle.book.proofs.AmendLemmas.{comes-again, named-again}
use Rattle.book.proofs.StandingLemmas.{below_more}
use Rattle.book.proofs.book.Book.amend.Goals as goal

pub admit-requires : goal.admit-requires
admit-requires c =
    let its = c.requires.can_replace in let is = rw c.amended-amended.ensures at c.restamped-order.ensures in record {
      name = rw (is, c.take_out.ensures.takes.book) (named-again its _);
      known = rw (is, c.take_out.ensures.takes.book) its.stands.belongs.symbol;
      may_come_in = rw is (comes-again c.args.cause its
          (c.take_out.ensures.below c.args.cause.sequence c.requires.next.behind) c.take_out.ensures.room);
      room = search rules;
      reads = search rules;
    }

pub returns-then-keeps_place-clause-state : goal.returns-then-keeps_place-clause-state
returns-then-keeps_place-clause-state c = record {
  book = search rules;
  below = c.amend_in_place.ensures.below (c.args.cause.sequence + 1) (rw c.accept.ensures.value
      (below_more c.args.self.now.state.orders c.args.cause.sequence c.requires.next.behind));
}

pub returns-else-keeps_place : goal.returns-else-keeps_place
returns-else-keeps_place c =
    let is = rw c.amended-amended.ensures at c.restamped-order.ensures in let there = c.take_out.ensures.takes.book in
    let moves = sym c.keeps_place.ensures ∙ c.if-keeps_place.false in let reads = c.admit.ensures.reads.matched in
    let most = rw (is, there) at reads.most in record {
      state = record {
        book = rw (c.admit.ensures.state.book, is, there, c.requires.can_replace.stands.its_client, moves);
        below = rw is at c.admit.ensures.state.below;
      };
      told = rw moves (rw (is, there) at c.admit.ensures.told);
      reads = (omega (arith, reads.least, c.requires.reads), omega (arith, most, c.requires.reads));
      stays = λ keeps. let no = sym keeps ∙ moves in cc;
    }
