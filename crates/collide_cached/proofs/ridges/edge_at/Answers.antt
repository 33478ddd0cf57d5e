-- `edge_at`: vertices and faces of two half-edges are in range, and the calls are the definition.
use native.Mathlib.Omega.{arith}
use Rattle.hull.proofs.Hulls.{at_origin, at_face}
use Rattle.collide_cached.specs.Ridges.{edge_at}
use Rattle.collide_cached.proofs.ridges.edge_at.Goals as goal

pub vertex_at-from-requires : goal.vertex_at-from-requires
vertex_at-from-requires c = let p = c.requires in
    at_origin _ _ _ p.0 _ (omega (arith, p.1)) _ c.origin_of.ensures

pub vertex_at-to-requires : goal.vertex_at-to-requires
vertex_at-to-requires c = let p = c.requires in
    at_origin _ _ _ p.0 _ p.1 _ c.origin_of-2.ensures

pub plane_at-plane0-requires : goal.plane_at-plane0-requires
plane_at-plane0-requires c = let p = c.requires in
    at_face _ _ _ p.0 _ (omega (arith, p.1)) _ c.face_of.ensures

pub plane_at-plane1-requires : goal.plane_at-plane1-requires
plane_at-plane1-requires c = let p = c.requires in
    at_face _ _ _ p.0 _ p.1 _ c.face_of-2.ensures

pub returns : goal.returns
unfolding edge_at
returns c =
    simp (
      c.plane_at-plane1.ensures,
      c.face_of-2.ensures,
      c.plane_at-plane0.ensures,
      c.face_of.ensures,
      c.vertex_at-to.ensures,
      c.origin_of-2.ensures,
      c.vertex_at-from.ensures,
      c.origin_of.ensures,
    )
