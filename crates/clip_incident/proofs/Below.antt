-- On an accepted hull, against a normal whose numbers are at most 2 ^ 43, every half-edge has a projection below the largest float: so the search of a
-- fan, which begins from that float, always finds an edge, and finds what it would from the projection of the stored edge. Assumes nothing.
use Prim.Native.Nat.{ℕ, ◌<◌}
use mathlib.Core.Bool.{Bool, true, false, cond}
use mathlib.Core.List.{List}
use mathlib.Core.Path.{◌≡◌, refl, ap, sym, ◌∙◌}
use native.Mathlib.Omega.{arith}
use lib.Dec.{lit≤}
use lib.Ieee as Ieee
use lib.Ieee.{Float}
use Rattle.bounds.specs.Bound.{Below}
use Rattle.bounds.proofs.Laws.{below_largest}
use Rattle.vector.specs.declared.Vec3.{Vec3}
use Rattle.vector.specs.Rounded.{float}
use Rattle.vector.specs.Bounded.{VecBelow}
use Rattle.vector.proofs.Bounded.{abs_float_below, sub_below, dot_below, normalize_below}
use Rattle.vector.proofs.Within.{vec_below}
use Rattle.hull_links.specs.declared.HullSize.{HullSize}
use Rattle.hull_links.specs.Links.{turn, vertex_edge, fan}
use Rattle.hull_links.specs.Walks.{ring, until}
use Rattle.hull.specs.Numbers.{vertex_at}
use Rattle.hull.specs.Accepted.{Accepted}
use Rattle.clip_incident.specs.declared.Flattest.{Flattest}
use Rattle.clip_incident.specs.Incident.{projection_of, flatter_of, flattest_from, flattest_of}

module _ {s : HullSize} {n : List Float} {l : List ℕ} (ok : Accepted s n l) (normal : Vec3) (p : VecBelow 43 normal) (v : ℕ) (h : v < s.vertices) where
  vertex : (i : ℕ) → i < s.vertices → VecBelow 22 (vertex_at s n i)
  vertex i j = vec_below 22 (lit≤ tt) (ok.vertices_within i (omega arith))

  module _ (e : ℕ) (j : e < s.half_edges) where
    projection_below : Below 127 (projection_of s n l normal (vertex_at s n v) e)
    unfolding projection_of
    projection_below =
        abs_float_below (dot_below tt (normalize_below tt (sub_below tt (vertex _ (ok.origin_in _ (ok.twin_in e j))) (vertex v h))) p)

    pub projection_found : Ieee.lt (projection_of s n l normal (vertex_at s n v) e) (float 0x7f7f_ffff) ≡ true
    projection_found = below_largest projection_below

  pub flattest_begins : flattest_of s n l normal v
      ≡ (flattest_from s n l normal (vertex_at s n v)
      (record { edge = vertex_edge s l v; projection = projection_of s n l normal (vertex_at s n v) (vertex_edge s l v) }) (fan s l v)).edge
  unfolding flattest_of flattest_from flatter_of ring
  flattest_begins =
      let start = vertex_edge s l v in
      let x = projection_of s n l normal (vertex_at s n v) start in
      let found : Flattest = record { edge = start; projection = x } in
      ap (λ (b : Flattest). (flattest_from s n l normal (vertex_at s n v) b (until (turn s l) start s.half_edges (turn s l start))).edge)
      (ap (λ (t : Bool). cond t found (record { edge = start; projection = float 0x7f7f_ffff })) (projection_found start (ok.vertex_edge_in v h))
      ∙ sym (either (Ieee.lt x x) found))
    where
      either : (t : Bool) (b : Flattest) → cond t b b ≡ b
      either true b = refl
      either false b = refl
