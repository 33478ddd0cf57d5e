-- A cut that is left out, and one that goes from one half of the lists to the other. Assumes nothing.
use Prim.Native.Nat.{ℕ, ◌+◌, ◌-◌, ◌≤◌}
use mathlib.Core.Path.{◌≡◌, refl, sym, subst}
use mathlib.Core.Bool.{true}
use mathlib.Core.List.{List}
use mathlib.Core.Logic.{◌⊎◌, inl, inr}
use native.Mathlib.Omega.{arith}
use lib.ListN.{length}
use lib.Ieee.{Float}
use Rattle.vector.specs.declared.Plane.{Plane}
use Rattle.manifold.specs.declared.ClipVertex.{ClipVertex}
use Rattle.clip_corners.specs.Places.{Roomy, SideBySide, Half, corners_in, Laid}
use Rattle.clip_corners.specs.Standing.{Standing}
use Rattle.clip_corners.proofs.Reading.{length_in, stands}
use Rattle.clip_cut.specs.Cut.{cut_of, all_kept}
use Rattle.clip_cut.proofs.Keeping.{cut_keeps_all}

other_half : (p : ℕ) → Half p → Half (64 - p)
other_half p (inl h) = inr (omega arith)
other_half p (inr h) = inl (omega arith)

pub half_most : (p : ℕ) → Half p → p ≤ 64
half_most p (inl h) = omega arith
half_most p (inr h) = omega arith

pub halves : (p : ℕ) → Half p → SideBySide p (64 - p)
halves p h = record { low = (half_most p h, omega arith); apart = by h }
  where
    by : Half p → (p + 64 ≤ 64 - p) ⊎ (64 - p + 64 ≤ p)
    by (inl h) = inl (omega arith)
    by (inr h) = inr (omega arith)

module _ (n : List Float) (t : List ℕ) (p m : ℕ) (plane : Plane) (edge : ℕ) (reference : Plane) (room : Roomy n t) (half : Half p) where
  abbrev these : List ClipVertex
  these = corners_in n t p m

  pub left_out : all_kept plane these ≡ true
      → Standing n t (cut_of plane edge reference these) (record { from = p; count = m }) × Half p
  left_out k =
      let stand : Standing n t these (record { from = p; count = m }) = record {
        roomy = room;
        low = half_most p half;
        counted = sym (length_in n t p m);
        corners = λ (h : length these ≤ 64). refl;
      } in
      (subst (λ (l : List ClipVertex). Standing n t l (record { from = p; count = m })) (sym (cut_keeps_all plane edge reference these k)) stand, half)

  pub gone_over : (n' : List Float) (t' : List ℕ) (r : ℕ) → Laid n t (64 - p) 0 (cut_of plane edge reference these) n' t' r
      → Standing n' t' (cut_of plane edge reference these) (record { from = 64 - p; count = r }) × Half (64 - p)
  gone_over n' t' r x = (stands n t (64 - p) (cut_of plane edge reference these) n' t' r room (omega arith) x, other_half p half)
