-- Demand 3, the rounds. "In every accepted hull, going round the faces lists each half-edge exactly once, and so does going round the corners."
-- Assumes nothing.
use Prim.Native.Nat.{ℕ, ◌<◌}
use mathlib.Core.Bool.{false}
use mathlib.Core.List.{List}
use mathlib.Core.Path.{◌≡◌}
use lib.IntN.{ℤ, pos}
use lib.Signed.{lt_z}
use lib.Ieee.{Float}
use Rattle.vector.specs.declared.Transform.{Transform}
use Rattle.manifold.specs.declared.SatCache.{SatCache}
use Rattle.manifold.specs.declared.Outcome.{Outcome}
use Rattle.hull_links.specs.declared.HullSize.{HullSize}
use Rattle.hull_links.specs.Walks.{Once, Closes}
use Rattle.hull_links.specs.Links.{next, turn, round_faces, round_corners}
use Rattle.hull_links.specs.Rounds.{Rounds}
use Rattle.hull.specs.Rule8.{broken_rule}
use Rattle.hull.proofs.Accepted.{accepted}
use Rattle.collide.specs.Call.{collide_of}
use Rattle.contactlib.specs.Lent.{Called}
use Rattle.collide_refusals.proofs.Cases.{unrefused}
use Rattle.promises.proofs.Refusals.{none_given}

-- ---- a hull that the validator accepts
module _ (s : HullSize) (n : List Float) (l : List ℕ) (right : broken_rule s n l ≡ 0) where
  pub faces_once : Once s.half_edges (round_faces s l)
  faces_once = (accepted s n l right).rounds.faces

  pub corners_once : Once s.half_edges (round_corners s l)
  corners_once = (accepted s n l right).rounds.corners

  -- no walk outlasts the half-edges
  pub rings_close : (e : ℕ) → e < s.half_edges → Closes (next s l) s.half_edges e
  rings_close = (accepted s n l right).rounds.rings

  pub fans_close : (e : ℕ) → e < s.half_edges → Closes (turn s l) s.half_edges e
  fans_close = (accepted s n l right).rounds.fans

-- ---- both hulls of a call that looks at them and accepts
pub both : (s : HullSize) (n : List Float) (l : List ℕ) (t : HullSize) (m : List Float) (k : List ℕ) (x : Transform) (capacity : ℤ)
    (was : SatCache) (r : Outcome) (is : SatCache)
    → Called (collide_of s n l t m k x capacity was) was r is → lt_z capacity (pos 4) ≡ false → r.status ≡ 0 → Rounds s l × Rounds t k
both s n l t m k x capacity was r is called wide fine =
    let u = unrefused s n l t m k x was (none_given s n l t m k x capacity was r is called wide fine) in
    (u.0.rounds, u.1.rounds)
