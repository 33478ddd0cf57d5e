-- Direction and bias are bounded, so the support search is given what it asks for; the parts together are the face.
use mathlib.Core.Path.{◌∙◌}
use Rattle.axis_faces.proofs.Facing.{dot_exact, support_ready, face_made}
use Rattle.axis_faces.proofs.View.face_at.Goals as goal

pub get_support_wide-vertex-requires : goal.get_support_wide-vertex-requires
get_support_wide-vertex-requires c =
    let p = c.requires in
    support_ready p.0 _ p.1 _ _ _ c.plane_at-plane.ensures c.direction-d.ensures c.bias.ensures

pub returns : goal.returns
returns c =
    let v = c.args.self.now in
    let h = c.args.hull.now in
    let o = c.args.other.now in
    let R = c.requires.0 in
    let vertex = c.get_support_wide-vertex.ensures in (
      face_made v.side v.turn v.position h.size h.numbers.now o.size o.numbers.now _ _ _ _ _ _ _ _ _ _ _
          R.center_is R.extents_is
          c.plane_at-plane.ensures
          c.direction-d.ensures c.bias.ensures vertex.0
          c.vertex_at.ensures (c.dot-support.ensures ∙ dot_exact _ _) c.axis-normal.ensures c.separation.ensures,
      vertex.1,
    )
