-- The values of four vertices are finite, so numbers may be embedded in them.
use native.Mathlib.Omega.{arith}
use Rattle.axis_faces.specs.Support.{group_of}
use Rattle.axis_faces.proofs.Lanes.{value_finite}
use Rattle.axis_faces.proofs.support.group.Goals as goal

pub embed_index_w-requires : goal.embed_index_w-requires
embed_index_w-requires c =
    let p = c.requires in
    let R = p.0 in (
      record {
        on_x = value_finite R _ _ _ (omega (arith, p.1)) c.vertex_at.ensures
            c.value.ensures;
        on_y = value_finite R _ _ _ (omega (arith, p.1)) c.vertex_at-2.ensures
            c.value-2.ensures;
        on_z = value_finite R _ _ _ (omega (arith, p.1)) c.vertex_at-3.ensures c.value-3.ensures;
        on_w = value_finite R _ _ _ p.1 c.vertex_at-4.ensures c.value-4.ensures;
      },
      omega (arith, p.1, R.fit.v_high),
    )

pub returns : goal.returns
unfolding group_of
returns c = simp (
  c.embed_index_w.ensures,
  c.value-4.ensures,
  c.vertex_at-4.ensures,
  c.value-3.ensures,
  c.vertex_at-3.ensures,
  c.value-2.ensures,
  c.vertex_at-2.ensures,
  c.value.ensures,
  c.vertex_at.ensures,
)
