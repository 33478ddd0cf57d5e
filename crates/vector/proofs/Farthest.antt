-- Turns of the search for the farthest vertex, and that it finds one of the vertices it looked at. Assumes nothing.
use mathlib.Core.Path.{◌≡◌, refl, ◌∙◌}
use mathlib.Core.Bool.{true, false}
use mathlib.Core.List.{List}
use Prim.Native.Nat.{ℕ, zero, suc, ◌+◌, ◌*◌, ◌<◌}
use native.Mathlib.Nat.{lt_irrefl}
use native.Mathlib.Numerals.{add-one}
use native.Mathlib.Omega.{arith}
use lib.Dec.{ltb, ltb→lt, not_T}
use lib.Ieee.{Float, nan, inf, fin, up, down, lt}
use lib.Ieee.Bits.{is_false}
use Rattle.bounds.proofs.Laws.{picked}
use Rattle.vector.specs.declared.Vec3.{Vec3}
use Rattle.vector.specs.declared.shape.Farthest.{Farthest}
use Rattle.vector.specs.Arithmetic.{dot_of}
use Rattle.vector.specs.Shape.{vertex_in, farther_of, farthest_of, support_vertex_of}

-- nothing is below itself
not_below_itself : (n : ℕ) → ltb n n ≡ false
not_below_itself n = is_false (ltb n n) (not_T (ltb n n) (λ t. lt_irrefl n (ltb→lt n n t)))

not_less : (x : Float) → lt x x ≡ false
unfolding lt
not_less nan = refl
not_less (inf true) = refl
not_less (inf false) = refl
not_less (fin true m e) = not_below_itself (m * up e * down e)
not_less (fin false m e) = not_below_itself (m * up e * down e)

module _ (xs ys zs : List Float) (d : Vec3) where
  -- the first turn looks at vertex 0, and leaves it
  pub first_turn_lem : (value : Float) → value ≡ dot_of d (vertex_in xs ys zs 0) → ◌≡◌ {A = Farthest} (record { vertex = 0; value = value })
      (farthest_of xs ys zs d 1)
  unfolding farthest_of farther_of
  first_turn_lem value e = rw (e, not_less)

  pub turn : (i : ℕ) (best next : Farthest) (value : Float) → best ≡ farthest_of xs ys zs d i → value ≡ dot_of d (vertex_in xs ys zs i)
      → next ≡ farther_of best i value
      → next ≡ farthest_of xs ys zs d (i + 1)
  unfolding farthest_of
  turn i best next value b v n = n ∙ rw (b, v, add-one)

  next_below : (n : ℕ) → (farthest_of xs ys zs d (suc n)).vertex < suc n
  unfolding farthest_of farther_of
  next_below zero = picked (λ (best : Farthest). best.vertex < 1) (lt (dot_of d (vertex_in xs ys zs 0)) (dot_of d (vertex_in xs ys zs 0)))
      (omega arith) (omega arith)
  next_below (suc n) =
      picked (λ (best : Farthest). best.vertex < suc (suc n)) (lt (farthest_of xs ys zs d (suc n)).value (dot_of d (vertex_in xs ys zs (suc n))))
      (omega arith) (omega (arith, next_below n))

  -- the support vertex is one of the n
  pub support_below : (n : ℕ) → 0 < n → support_vertex_of xs ys zs n d < n
  unfolding support_vertex_of
  support_below zero h = absurd (omega (arith, h))
  support_below (suc n) h = next_below n
