-- Which type of a cache names an axis of each kind; and the pair of a flip, told by a status. Assumes nothing.
use Prim.Native.Nat.{ℕ}
use mathlib.Core.Path.{◌≡◌, refl}
use native.Mathlib.Omega.{arith}
use Rattle.std.specs.Prelude.{Option, Some, None}
use Rattle.std.specs.Option.{unwrap_or}
use Rattle.std.proofs.lemmas.Grind.{common_steps}
use Rattle.manifold.specs.declared.FeaturePair.{FeaturePair}
use Rattle.manifold.specs.declared.kinds.AxisKind.{AxisKind}
use Rattle.manifold.specs.Kinds.{axis_kind_of}
use Rattle.manifold.specs.Records.{zero_pair}
use Rattle.manifold.specs.Pairs.{flipped_of}

pub names_face_a : (kind : ℕ) → axis_kind_of kind ≡ Some AxisKind.FaceA → kind ≡ 2
names_face_a kind e = grind (arith, common_steps)

pub names_face_b : (kind : ℕ) → axis_kind_of kind ≡ Some AxisKind.FaceB → kind ≡ 3
names_face_b kind e = grind (arith, common_steps)

pub names_edges : (kind : ℕ) → axis_kind_of kind ≡ Some AxisKind.Edges → kind ≡ 4
names_edges kind e = grind (arith, common_steps)

pub names_none : (kind : ℕ) → axis_kind_of kind ≡ None → (kind ≡ 2 → ⊥) × (kind ≡ 3 → ⊥) × (kind ≡ 4 → ⊥)
names_none kind e = grind (arith, common_steps)

-- the pair of a flip, or four zeros
pub flipped_pair : (r : Option FeaturePair) → unwrap_or r zero_pair ≡ (flipped_of r).pair
flipped_pair (Some p) = refl
flipped_pair None = refl
