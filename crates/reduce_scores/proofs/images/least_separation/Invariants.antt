-- The loop's invariant: `least` is the least of the first i separations, by the definition.
use Prim.Native.Nat.{ℕ}
use mathlib.Core.Path.{◌≡◌}
use lib.Ieee.{Float}
use Rattle.vector.specs.Scalar.{min_of}
use Rattle.manifold.specs.declared.ClipVertex.{ClipVertex}
use Rattle.clip_corners.specs.Places.{corners_in}
use Rattle.reduce_scores.specs.Images.{largest}
use Rattle.reduce_scores.proofs.Over.{over}
use Rattle.reduce_scores.proofs.images.least_separation.Given as goal

-- one turn
abbrev pub least_turn : Float → ℕ → ClipVertex → Float
least_turn least i v = min_of least v.separation

abbrev pub invariant-loop-i : goal.invariant-loop-i
invariant-loop-i l = l.least ≡ over least_turn largest (corners_in l.corners.numbers l.corners.tags l.from l.n) l.i
