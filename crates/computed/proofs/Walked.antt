-- A walk of next and twin that passes every half-edge shows that all are reached. The test h9 is too long to compute where H is 256. Assumes nothing.
use mathlib.Core.Path.{◌≡◌, subst}
use mathlib.Core.Bool.{Bool, true, false, cond, false≢true}
use mathlib.Core.List.{List, [], ◌∷◌, ◌++◌}
use Prim.Native.Nat.{ℕ, zero, suc, ◌+◌, ◌/◌}
use lib.Dec.{eqb}
use borrow.Author.Tests.{eqb-true}
use Rattle.hull_links.specs.declared.HullSize.{HullSize}
use Rattle.hull_links.specs.Tests.{all}
use Rattle.hull_links.specs.Walks.{has}
use Rattle.hull_links.specs.Links.{next, twin, LinksFit}
use Rattle.hull_links.specs.Rules.{h2}
use Rattle.hull_links.proofs.Tests.{cases, all_at}
use Rattle.hull_shell.specs.Shell.{Reached, first, by_next, by_twin, h9}
use Rattle.hull_shell.proofs.Theorem.{shell_tested}

-- the same steps k times
unfoldable pub repeated : ℕ → List Bool → List Bool
repeated zero steps = []
repeated (suc k) steps = steps ++ repeated k steps

module _ (s : HullSize) (l : List ℕ) where
  -- the half-edges on the way from e: next where the step is true, else twin
  unfoldable pub passed : List Bool → ℕ → List ℕ
  passed [] e = e ∷ []
  passed (step ∷ walk) e = e ∷ passed walk (cond step (next s l e) (twin s l e))

  one_step : (step : Bool) (e : ℕ) → Reached s l e → Reached s l (cond step (next s l e) (twin s l e))
  one_step true e r = by_next e r
  one_step false e r = by_twin e r

  on_the_way : (walk : List Bool) (e x : ℕ) → Reached s l e → has x (passed walk e) ≡ true → Reached s l x
  unfolding passed has
  on_the_way [] e x r q = cases (eqb e x) (λ t. subst (Reached s l) (eqb-true e x t) r) (λ t. absurd (false≢true (rw t at q)))
  on_the_way (step ∷ walk) e x r q =
      cases (eqb e x) (λ t. subst (Reached s l) (eqb-true e x t) r) (λ t. on_the_way walk _ x (one_step step e r) (rw t at q))

  pub one_shell_walked : (walk : List Bool) → LinksFit s l → h2 s l ≡ true → all (λ x. has x (passed walk 0)) s.half_edges ≡ true
      → s.vertices + s.faces ≡ s.half_edges / 2 + 2 → h9 s l ≡ true
  one_shell_walked walk fits r2 q euler =
      shell_tested s l fits r2 (record { reached = λ e h. on_the_way walk 0 e first (all_at _ _ q e h); euler = euler })
