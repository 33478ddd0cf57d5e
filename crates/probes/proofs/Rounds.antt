-- The same answer so many times: the sum of what it counts. Assumes nothing.
use Prim.Native.Nat.{ℕ, ◌+◌, ◌*◌, ◌≤◌}
use mathlib.Core.Path.{◌≡◌, refl, sym, ap, ◌∙◌, subst}
use mathlib.Core.List.{List}
use native.Mathlib.Nat.{zero-mul, suc-mul}
use native.Mathlib.Numerals.{add-one}
use native.Mathlib.Omega.{arith}
use Rattle.vector.specs.declared.Vec3.{Vec3}
use Rattle.units.specs.Limits.{speculative}
use Rattle.units.proofs.Laws.{tolerance_positive}
use Rattle.manifold.specs.declared.ClipVertex.{ClipVertex}
use Rattle.manifold.specs.declared.Contact.{Contact}
use Rattle.reduce_points.specs.Points.{contact_of}
use Rattle.reduce.specs.Reduce.{first_picks, points_of}
use Rattle.reduce.proofs.Chosen.{chosen}

-- i rounds are done
pub record Summed (k total i : ℕ) : Type 0 where
  pub sum : total ≡ i * k
  pub most : total ≤ 256 * i

pub none_summed : (k : ℕ) → Summed k 0 0
none_summed k = record { sum = sym (zero-mul k); most = omega arith }

pub one_more : (k x total i : ℕ) → Summed k total i → x ≡ k → x ≤ 256 → Summed k (total + x) (i + 1)
one_more k x total i s q h = record {
  sum = ap (λ (t : ℕ). t + x) s.sum ∙ ap (λ (y : ℕ). i * k + y) q ∙ sym (rw (add-one i) (suc-mul i k));
  most = omega (arith, s.most, h);
}

pub all_summed : (k total i n : ℕ) → Summed k total i → i ≤ n → n ≤ i → total ≡ n * k
all_summed k total i n s h l =
    let e : i ≡ n = omega arith in
    s.sum ∙ ap (λ (x : ℕ). x * k) e

-- a contact has four points at most
pub four_most : (unit : ℕ) (direction normal : Vec3) (l : List ClipVertex) (c : Contact)
    → c ≡ contact_of normal (points_of (first_picks (speculative unit) direction normal l) l) → c.count ≤ 4
unfolding contact_of
four_most unit direction normal l c q =
    subst (λ (x : Contact). x.count ≤ 4) (sym q) (chosen (speculative unit) (tolerance_positive unit) direction normal l l refl).few
