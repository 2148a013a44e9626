-- A gateway that went on twice with its clients has gone on.
use Rattle.std.specs.Prelude.{◌≡◌, ℕ, zero, suc, List, [], ◌++◌}
use Rattle.std.proofs.Common.{refl, sym, subst, append_assoc, append-nil}
use Rattle.venue.specs.Accepting.{Accepting, Goes, AttendsFor, AttendsClients}
use Rattle.wires.specs.Wires.{Told}

module _ (n : ℕ) where
  pub still : (a : Accepting) → AttendsClients n a a [] []
  still a = (zero, (refl, refl, refl))

  pub one_more : (a b c : Accepting) (came gone came' gone' : List Told) → AttendsClients n a b came gone → Goes n b c came' gone'
      → AttendsClients n a c (came ++ came') (gone ++ gone')
  one_more a b c came gone came' gone' so_far step =
      (suc so_far.0, (b, came, came', gone, gone', so_far.1, step, refl, refl))

  pub one_step : (a b : Accepting) (came gone : List Told) → Goes n a b came gone → AttendsClients n a b came gone
  one_step a b came gone step = one_more a a b [] [] came gone (still a) step

  -- where more came and went behind those of the front
  with_front : (a c : Accepting) (came gone came' gone' more less : List Told) → AttendsClients n a c (came ++ came') (gone ++ gone')
      → more ≡ came' → less ≡ gone' → AttendsClients n a c (came ++ more) (gone ++ less)
  with_front a c came gone came' gone' more less is same_came same_gone =
      subst (λ (l : List Told). AttendsClients n a c (came ++ more) (gone ++ l)) (sym same_gone)
      (subst (λ (l : List Told). AttendsClients n a c (came ++ l) (gone ++ gone')) (sym same_came) is)

  more_steps : (a b c : Accepting) (k : ℕ) (came gone came' gone' : List Told) → AttendsClients n a b came gone
      → AttendsFor n k b c came' gone' → AttendsClients n a c (came ++ came') (gone ++ gone')
  more_steps a b c zero came gone came' gone' so_far (is, none_came, none_gone) =
      with_front a c came gone [] [] came' gone'
      (subst (λ (x : Accepting). AttendsClients n a x (came ++ []) (gone ++ [])) (sym is)
      (subst (λ (l : List Told). AttendsClients n a b l (gone ++ [])) (sym (append-nil came))
      (subst (λ (l : List Told). AttendsClients n a b came l) (sym (append-nil gone)) so_far)))
      none_came none_gone
  more_steps a b c (suc k) came gone came' gone' so_far (mid, c1, c2, g1, g2, before, step, is_came, is_gone) =
      with_front a c came gone (c1 ++ c2) (g1 ++ g2) came' gone'
      (subst (λ (l : List Told). AttendsClients n a c l (gone ++ (g1 ++ g2))) (append_assoc came c1 c2)
      (subst (λ (l : List Told). AttendsClients n a c ((came ++ c1) ++ c2) l) (append_assoc gone g1 g2)
      (one_more a mid c (came ++ c1) (gone ++ g1) c2 g2 (more_steps a b mid k came gone c1 g1 so_far before) step)))
      is_came is_gone

  pub further : (a b c : Accepting) (came gone came' gone' : List Told) → AttendsClients n a b came gone → AttendsClients n b c came' gone'
      → AttendsClients n a c (came ++ came') (gone ++ gone')
  further a b c came gone came' gone' first second = more_steps a b c second.0 came gone came' gone' first second.1
