-- A member's worker that went on twice has gone on.
use Rattle.std.specs.Prelude.{◌≡◌, List, [], ◌∷◌, ◌++◌, Option, Some, None, option_to_list}
use Rattle.std.proofs.Common.{refl, ap, sym, subst, ◌∙◌, append_assoc, append-nil}
use Rattle.venue_model.specs.Requests.{Limits}
use Rattle.venue.specs.AcceptingLaws.{still, further}
use Rattle.ring_words.specs.At.{Opened}
use Rattle.venue.specs.Leaving.{LeavesOn, LeaveOn}
use Rattle.venue.specs.Trading.{AtPort, TradesOn}
use Rattle.wires.specs.Ports.{with_more}
use Rattle.wires.specs.WireLaws.{grown-append, grown-nil}
use Rattle.wires.specs.Wires.{Told, grown}

-- nothing is done with a wire
pub stays : (told : Told) → LeavesOn told told
stays told = record { over = []; gave = sym (grown-nil told.gave); took = refl }

-- and it is gone on with twice
pub leaves_further : (a b c : Told) → LeavesOn a b → LeavesOn b c → LeavesOn a c
leaves_further a b c first second = record {
  over = first.over ++ second.over;
  gave = second.gave ∙ ap (λ t. grown t second.over) first.gave ∙ grown-append a.gave first.over second.over;
  took = second.took ∙ first.took;
}

-- nothing is done with any of them
pub all_stay : (tolds : List Told) → LeaveOn tolds tolds
all_stay [] = tt
all_stay (told ∷ tolds) = (stays told, all_stay tolds)

pub all_further : (a b c : List Told) → LeaveOn a b → LeaveOn b c → LeaveOn a c
all_further [] [] c first second = second
all_further [] (y ∷ ys) c first second = absurd first
all_further (x ∷ xs) [] c first second = absurd first
all_further (x ∷ xs) (y ∷ ys) [] first second = absurd second
all_further (x ∷ xs) (y ∷ ys) (z ∷ zs) first second = (leaves_further x y z first.0 second.0, all_further xs ys zs first.1 second.1)

-- and with those of two lists
pub all_both : (a b c d : List Told) → LeaveOn a b → LeaveOn c d → LeaveOn (a ++ c) (b ++ d)
all_both [] [] c d first second = second
all_both [] (y ∷ ys) c d first second = absurd first
all_both (x ∷ xs) [] c d first second = absurd first
all_both (x ∷ xs) (y ∷ ys) c d first second = (first.0, all_both xs ys c d first.1 second)

-- what is told of more wires, and then of more
pub more-append : (known : Option (List Told)) (a b : List Told) → with_more (with_more known a) b ≡ with_more known (a ++ b)
more-append None a b = refl
more-append (Some tolds) a b = ap Some (append_assoc tolds a b)

pub more-nil : (known : Option (List Told)) → with_more known [] ≡ known
more-nil None = refl
more-nil (Some tolds) = ap Some (append-nil tolds)

-- before the first turn
pub no_turn : (rings : Opened Limits) (a : AtPort) → TradesOn rings a rings a
no_turn rings a = record {
  rings_are = refl;
  role = refl;
  came = [];
  ended = [];
  gone = [];
  attends = still 1024 a.served;
  number = refl;
  is_open = refl;
  handed_out = sym (more-nil a.register.came);
  given_back = sym (more-nil a.register.gone);
  leave = subst (λ (l : List Told). LeaveOn l (option_to_list a.leaving)) (sym (append-nil (option_to_list a.leaving)))
      (all_stay (option_to_list a.leaving));
}

-- and behind one more
pub more_turns : (r s t : Opened Limits) (a b c : AtPort) → TradesOn r a s b → TradesOn s b t c → TradesOn r a t c
more_turns r s t a b c first second =
    let la = option_to_list a.leaving in let lb = option_to_list b.leaving in let lc = option_to_list c.leaving in
    let both : LeaveOn ((la ++ first.ended) ++ second.ended) ((first.gone ++ lb) ++ second.ended) =
    all_both (la ++ first.ended) (first.gone ++ lb) second.ended second.ended first.leave (all_stay second.ended) in
    let then : LeaveOn (first.gone ++ (lb ++ second.ended)) (first.gone ++ (second.gone ++ lc)) =
    all_both first.gone first.gone (lb ++ second.ended) (second.gone ++ lc) (all_stay first.gone) second.leave in
    record {
      rings_are = second.rings_are ∙ first.rings_are;
      role = second.role ∙ first.role;
      came = first.came ++ second.came;
      ended = first.ended ++ second.ended;
      gone = first.gone ++ second.gone;
      attends = further 1024 a.served b.served c.served first.came first.ended second.came second.ended first.attends
          second.attends;
      number = second.number ∙ first.number;
      is_open = second.is_open ∙ first.is_open;
      handed_out = second.handed_out ∙ ap (λ k. with_more k second.came) first.handed_out
          ∙ more-append a.register.came first.came second.came;
      given_back = second.given_back ∙ ap (λ k. with_more k second.gone) first.given_back
          ∙ more-append a.register.gone first.gone second.gone;
      leave = subst (λ (l : List Told). LeaveOn l ((first.gone ++ second.gone) ++ lc)) (append_assoc la first.ended second.ended)
          (subst (λ (l : List Told). LeaveOn ((la ++ first.ended) ++ second.ended) l) (sym (append_assoc first.gone second.gone lc))
          (all_further _ _ _ both (subst (λ (l : List Told). LeaveOn l (first.gone ++ (second.gone ++ lc)))
          (sym (append_assoc first.gone lb second.ended)) then)));
    }
