-- Request c: one closed shell. "Refusals: none new; 1 and 2 are given for H9 also." Assumes nothing.
use mathlib.Core.Bool.{Bool, true, false, false≢true}
use mathlib.Core.List.{List, [], ◌∷◌}
use mathlib.Core.Path.{◌≡◌, sym, ◌∙◌}
use Prim.Native.Nat.{ℕ}
use native.Mathlib.Omega.{arith}
use lib.Dec.{eqb}
use lib.IntN.{ℤ, pos}
use lib.Signed.{lt_z}
use lib.Ieee.{Float}
use borrow.Author.Tests.{eqb-true, eqb-false}
use Rattle.vector.specs.declared.Transform.{Transform}
use Rattle.manifold.specs.declared.SatCache.{SatCache}
use Rattle.manifold.specs.declared.Outcome.{Outcome}
use Rattle.hull_links.specs.declared.HullSize.{HullSize}
use Rattle.hull_links.specs.Tests.{first_broken}
use Rattle.hull_links.specs.Links.{LinksFit}
use Rattle.hull_links.specs.Rules.{h1, h2, h3, h4, h5, h6, h7}
use Rattle.hull_links.proofs.Tests.{cases, breaks, passes, none_broken, unbroken, broken_early, broken_late}
use Rattle.hull_links.proofs.Facts.{links_fit}
use Rattle.hull_shell.specs.Shell.{OneShell, h9}
use Rattle.hull_shell.proofs.Theorem.{shell_tested, not_one_shell}
use Rattle.hull.specs.Rule8.{h8, broken_rule}
use Rattle.hull.proofs.Accepted.{accepted}
use Rattle.collide.specs.Call.{collide_of}
use Rattle.contactlib.specs.Lent.{Called}
use Rattle.collide_refusals.proofs.Cases.{unrefused}
use Rattle.promises.specs.Numbers.{Exactly}
use Rattle.promises.specs.Shells.{broken_of_eight}
use Rattle.promises.proofs.Later.{broken_at}
use Rattle.promises.proofs.Refusals.{none_given, hull_a, hull_b}

-- ---- a hull
module _ (s : HullSize) (n : List Float) (l : List ℕ) where
  abbrev Eight : Type 0
  Eight = broken_of_eight s n l ≡ 0

  abbrev eight : List Bool
  eight = h1 s n l ∷ h2 s l ∷ h3 s l ∷ h4 s l ∷ h5 s l ∷ h6 s l ∷ h7 s l ∷ h8 s n l ∷ []

  -- where one of H1 to H8 is broken, the answer is as it was before the request
  pub as_before : (Eight → ⊥) → broken_rule s n l ≡ broken_of_eight s n l
  unfolding broken_rule broken_of_eight
  as_before nay = sym (broken_early 1 eight (h9 s l ∷ []) nay)

  module _ (z : Eight) where
    fits : LinksFit s l
    unfolding broken_of_eight
    fits = links_fit s n l (unbroken 1 eight (omega arith) z 0)

    in_range : h2 s l ≡ true
    unfolding broken_of_eight
    in_range = unbroken 1 eight (omega arith) z 1

    last_decides : first_broken 9 (h9 s l ∷ []) ≡ broken_rule s n l
    unfolding broken_rule broken_of_eight
    last_decides = broken_late 1 eight (h9 s l ∷ []) (omega arith) z

    refused : (OneShell s l → ⊥) → broken_rule s n l ≡ 9
    refused nay = sym (breaks 9 _ _ (not_one_shell s l fits in_range nay) ∙ last_decides)

    taken : OneShell s l → broken_rule s n l ≡ 0
    taken one = sym (passes 9 0 _ _ (shell_tested s l fits in_range one) (none_broken 10) ∙ last_decides)

  -- the answer is no other: an answer of 0 or 9 comes only where H1 to H8 hold
  not_of_eight : broken_of_eight s n l ≡ 9 → ⊥
  unfolding broken_of_eight
  not_of_eight q = false≢true (sym (broken_at 1 8 eight (omega arith) q).0)

  hold_at : (i : ℕ) → (broken_of_eight s n l ≡ i → Eight) → broken_rule s n l ≡ i → Eight
  hold_at i only q =
      cases (eqb (broken_of_eight s n l) 0) (λ t. eqb-true _ _ t)
      (λ t. let nay = eqb-false _ _ t in absurd (nay (only (sym (as_before nay) ∙ q))))

  -- "Add H9, tested last": 9 is the answer exactly where H1 to H8 hold and the hull is not one shell
  pub rule_9 : Exactly (Eight × (OneShell s l → ⊥)) 9 (broken_rule s n l)
  rule_9 = record {
    given = λ h. refused h.0 h.1;
    only = λ q. let z = hold_at 9 (λ e. absurd (not_of_eight e)) q in (z, λ one. omega (arith, q, taken z one));
  }

  -- "the smaller set of hulls": accepted is what keeps H1 to H8 and is one shell
  pub smaller_set : Exactly (Eight × OneShell s l) 0 (broken_rule s n l)
  smaller_set = record {
    given = λ h. taken h.0 h.1;
    only = λ q. (hold_at 0 (λ e. e) q, (accepted s n l q).one_shell);
  }

-- ---- a call: hull A is (s, n, l), hull B is (t, m, k), and x places B in A's frame; was is the cache at entry, is at exit
module _ (s : HullSize) (n : List Float) (l : List ℕ) (t : HullSize) (m : List Float) (k : List ℕ) (x : Transform) (capacity : ℤ)
    (was : SatCache) (r : Outcome) (is : SatCache) (called : Called (collide_of s n l t m k x capacity was) was r is)
    (wide : lt_z capacity (pos 4) ≡ false) where
  -- both hulls of a call that looks at them and accepts are one shell
  pub both_one_shell : r.status ≡ 0 → OneShell s l × OneShell t k
  both_one_shell fine =
      let u = unrefused s n l t m k x was (none_given s n l t m k x capacity was r is called wide fine) in
      (u.0.one_shell, u.1.one_shell)

  -- "1 and 2 are given for H9 also"
  pub refused_for_a : (OneShell s l → ⊥) → r.status ≡ 1
  refused_for_a nay = (hull_a s n l t m k x capacity was r is called).given (wide, λ q. nay (accepted s n l q).one_shell)

  pub refused_for_b : broken_rule s n l ≡ 0 → (OneShell t k → ⊥) → r.status ≡ 2
  refused_for_b right nay = (hull_b s n l t m k x capacity was r is called).given (wide, right, λ q. nay (accepted t m k q).one_shell)
