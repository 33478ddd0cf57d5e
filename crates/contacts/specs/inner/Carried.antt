-- Inner: a contact carried from B's frame into A's, point by point, as the code does it; crates/contacts/proofs/Turned.antt shows that this is
-- `contact_on_b`.
-- Definitions only.
use Rattle.std.specs.Prelude.{ℕ, cond, [], ◌∷◌, get_or, ltb, eqb}
use Rattle.vector.specs.declared.Vec3.{Vec3}
use Rattle.vector.specs.declared.Transform.{Transform}
use Rattle.vector.specs.Arithmetic.{add_of, neg_of}
use Rattle.rotation.specs.Rotation.{Rows, matrix_of, mul_mv_of}
use Rattle.manifold.specs.declared.Point.{Point}
use Rattle.manifold.specs.declared.Contact.{Contact}
use Rattle.manifold.specs.Records.{past_point}
use Rattle.manifold.specs.Pairs.{flip_of}

unfoldable pub carried_point : Rows → Vec3 → Point → Point
carried_point matrix p point = record {
  position = add_of (mul_mv_of matrix point.position) p;
  separation = point.separation;
  pair = (flip_of point.pair).pair;
  place = point.place;
}

-- point i of a contact: those at and above the count are unused, and stay so
unfoldable pub carried_if_used : Rows → Vec3 → ℕ → ℕ → Point → Point
carried_if_used matrix p count i point = cond (ltb i count) (carried_point matrix p point) point

unfoldable pub carried_contact : Transform → Contact → Contact
carried_contact x contact =
    let at : ℕ → Point = λ i. carried_if_used (matrix_of x.q) x.p contact.count i (get_or contact.points i past_point) in
    cond (eqb contact.count 0) contact
    (record { points = at 0 ∷ at 1 ∷ at 2 ∷ at 3 ∷ []; normal = neg_of (mul_mv_of (matrix_of x.q) contact.normal); count = contact.count })
