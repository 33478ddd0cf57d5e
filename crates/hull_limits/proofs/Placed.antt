-- A transform that is right is `Placed`, and it is right exactly where it passes the tests of the code: that all of it is finite needs no test of its own.
-- Assumes nothing.
use mathlib.Core.Path.{◌≡◌, ◌∙◌}
use mathlib.Core.Bool.{Bool, true, ◌&&◌}
use Prim.Native.Nat.{ℕ}
use lib.Ieee.{Float}
use Rattle.bounds.specs.Squares.{squares4}
use Rattle.hull_links.specs.Tests.{◌&◌}
use Rattle.hull_links.proofs.Tests.{and_left, and_right, and_intro, same_test}
use Rattle.vector.specs.declared.Transform.{Transform}
use Rattle.units.specs.Limits.{coordinate_limit}
use Rattle.units.proofs.Laws.{coordinate_below}
use Rattle.hull_limits.specs.Measures.{within_limit, near_one}
use Rattle.hull_limits.specs.Transform.{transform_right, Placed}
use Rattle.hull_limits.proofs.Limits.{limit_below, turn_below, finite_is}
use Rattle.hull_limits.proofs.Joined.{and2, and3}

module _ (unit : ℕ) (t : Transform) where
  abbrev near_zero : Float → Bool
  near_zero = within_limit (coordinate_limit unit)

  abbrev tests : Bool
  tests = near_zero t.p.x & near_zero t.p.y & near_zero t.p.z & near_one (squares4 t.q.v.x t.q.v.y t.q.v.z t.q.s)

  tested_placed : tests ≡ true → Placed t
  tested_placed r =
      let p = and_left _ _ r in
      let u = turn_below _ _ _ _ (and_right _ _ r) in
      record {
        turn_unit = and_right _ _ r;
        position_below = record {
          on_x = limit_below (coordinate_below unit) (and_left _ _ (and_left _ _ p));
          on_y = limit_below (coordinate_below unit) (and_right _ _ (and_left _ _ p));
          on_z = limit_below (coordinate_below unit) (and_right _ _ p);
        };
        turn_below = record { on_x = u.0; on_y = u.1; on_z = u.2 };
        scalar_below = u.3;
      }

  tested_right : tests ≡ true → transform_right unit t ≡ true
  unfolding transform_right
  tested_right r =
      let b = tested_placed r in
      let p = b.position_below in
      let v = b.turn_below in
      let position = and_intro _ _ (and_intro _ _ (finite_is p.on_x) (finite_is p.on_y)) (finite_is p.on_z) in
      let turn = and_intro _ _ (and_intro _ _ (and_intro _ _ position (finite_is v.on_x)) (finite_is v.on_y)) (finite_is v.on_z) in
      and_intro _ _ (and_intro _ _ (and_intro _ _ turn (finite_is b.scalar_below)) (and_left _ _ r)) (and_right _ _ r)

  right_tested : transform_right unit t ≡ true → tests ≡ true
  unfolding transform_right
  right_tested r = and_intro _ _ (and_right _ _ (and_left _ _ r)) (and_right _ _ r)

  -- the answers of the code's four tests, joined
  pub transform_is : {a b d e : Bool} → a ≡ near_zero t.p.x → b ≡ near_zero t.p.y → d ≡ near_zero t.p.z
      → e ≡ near_one (squares4 t.q.v.x t.q.v.y t.q.v.z t.q.s) → (a && b && d && e) ≡ transform_right unit t
  transform_is x y z u = and2 (and3 x y z) u ∙ same_test _ _ tested_right right_tested

  pub placed : transform_right unit t ≡ true → Placed t
  placed r = tested_placed (right_tested r)
