-- The order that has the old name stands amended, and the others as they were.
use Rattle.std.proofs.Common.{◌-◌, ap, subst, sym, ◌∙◌}
use Rattle.std.specs.Prelude.{slice_index, MatchOption}
use Rattle.venue_model.specs.Requests.{named, amended_in_place}
use Rattle.book.specs.Books.{Book, NoneNamed, StaysInPlace}
use Rattle.book.proofs.AmendLemmas.{list-amended, book-amended, below-amended}
use Rattle.book.proofs.book.Book.amend_in_place.Goals as goal

pub invariant_of-self : goal.invariant_of-self
invariant_of-self c =
    let r = c.args.request.now in
    book-amended c.self.inside.logic.symbols c.self.inside.greatest c.args.client r c.self.inside.orders
    c.amend.new.self c.self.invariant c.amend.ensures
    (subst (λ (b : Book). MatchOption (named b.state c.args.client r.orig_cl_ord_id) ⊥ (StaysInPlace r))
    (sym c.self.view_is) c.requires.named)
    (rw (ap (λ (b : Book). slice_index b.state.greatest (c.args.client - 1)) c.self.view_is) c.requires.name)
    (subst (λ (b : Book). NoneNamed c.args.client r.cl_ord_id b.state.orders) (sym c.self.view_is) c.requires.fresh)

pub returns-clause-orders : goal.returns-clause-orders
returns-clause-orders c =
    let r = c.args.request.now in
    ap (λ (b : Book). record b { state = record b.state { orders = c.amend.new.self } }) c.self.view_is
    ∙ ap (λ os. record c.args.self.now { state = record c.args.self.now.state { orders = os } })
    (list-amended c.self.inside.logic.symbols c.self.inside.greatest c.args.client r c.self.inside.orders
    c.amend.new.self c.self.invariant c.amend.ensures
    (subst (λ (b : Book). MatchOption (named b.state c.args.client r.orig_cl_ord_id) ⊥ (StaysInPlace r))
    (sym c.self.view_is) c.requires.named)
    ∙ ap (λ (b : Book). amended_in_place b.state c.args.client r) c.self.view_is)

pub returns-clause-below : goal.returns-clause-below
returns-clause-below c = λ sequence below.
    let r = c.args.request.now in
    rw c.amend.ensures (below-amended c.args.client r.orig_cl_ord_id r.cl_ord_id r.quantity sequence
    c.self.inside.orders
    (rw (ap (λ (b : Book). b.state.orders) c.self.view_is) below))
