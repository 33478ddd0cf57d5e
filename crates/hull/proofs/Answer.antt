-- From the answers of the parts of the validator to the first broken rule. Assumes nothing.
use mathlib.Core.Path.{◌≡◌, ◌∙◌}
use mathlib.Core.Bool.{Bool, true, false}
use mathlib.Core.List.{List, [], ◌∷◌}
use Prim.Native.Nat.{ℕ}
use native.Mathlib.Omega.{arith}
use lib.ListN.{get_or}
use lib.Ieee.{Float}
use Rattle.hull_links.specs.declared.HullSize.{HullSize}
use Rattle.hull_links.specs.Tests.{first_broken}
use Rattle.hull_links.specs.Links.{LinksFit}
use Rattle.hull_links.specs.Rules.{h1, h2, h3, h4, h5, h6, h7, broken_links, Linked}
use Rattle.hull_links.proofs.Tests.{breaks, passes, none_broken, unbroken, broken_early, broken_late}
use Rattle.hull_shell.specs.Shell.{h9}
use Rattle.hull.specs.Rule8.{h8, broken_rule}

module _ (s : HullSize) (l : List ℕ) where
  abbrev link_tests : List Bool
  link_tests = h2 s l ∷ h3 s l ∷ h4 s l ∷ h5 s l ∷ h6 s l ∷ h7 s l ∷ []

  -- the first of them, H2, has number 0
  links_hold : broken_links s l ≡ 0 → (i : ℕ) → get_or link_tests i true ≡ true
  unfolding broken_links
  links_hold z = unbroken 2 _ (omega arith) z

  -- H2 is asked for before the numbers are read by way of the links, H2 to H6 before the shell is looked at
  pub in_range : broken_links s l ≡ 0 → h2 s l ≡ true
  in_range z = links_hold z 0

  pub ringed : LinksFit s l → broken_links s l ≡ 0 → Linked s l × (h6 s l ≡ true)
  ringed f z =
      let r = links_hold z in
      (record { fits = f; r2 = r 0; r3 = r 1; r4 = r 2; r5 = r 3 }, r 4)

module _ (s : HullSize) (n : List Float) (l : List ℕ) where
  pub sizes_broken : h1 s n l ≡ false → 1 ≡ broken_rule s n l
  unfolding broken_rule
  sizes_broken q = breaks 1 _ _ q

  module _ (q1 : h1 s n l ≡ true) where
    pub links_broken : (broken_links s l ≡ 0 → ⊥) → broken_links s l ≡ broken_rule s n l
    unfolding broken_links broken_rule
    links_broken nay = passes 1 _ _ _ q1 (broken_early 2 (link_tests s l) (h8 s n l ∷ h9 s l ∷ []) nay)

    module _ (z : broken_links s l ≡ 0) where
      last_decide : first_broken 8 (h8 s n l ∷ h9 s l ∷ []) ≡ broken_rule s n l
      unfolding broken_links broken_rule
      last_decide = passes 1 _ _ _ q1 (broken_late 2 (link_tests s l) (h8 s n l ∷ h9 s l ∷ []) (omega arith) z)

      pub numbers_broken : h8 s n l ≡ false → 8 ≡ broken_rule s n l
      numbers_broken q8 = breaks 8 _ _ q8 ∙ last_decide

      pub shell_broken : h8 s n l ≡ true → h9 s l ≡ false → 9 ≡ broken_rule s n l
      shell_broken q8 q9 = passes 8 9 _ _ q8 (breaks 9 _ _ q9) ∙ last_decide

      pub nothing_broken : h8 s n l ≡ true → h9 s l ≡ true → 0 ≡ broken_rule s n l
      nothing_broken q8 q9 = passes 8 0 _ _ q8 (passes 9 0 _ _ q9 (none_broken 10)) ∙ last_decide
