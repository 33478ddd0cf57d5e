-- What the validator's answer gives: a hull that breaks no rule is `Accepted`. Assumes nothing.
use mathlib.Core.Path.{◌≡◌}
use mathlib.Core.Bool.{true}
use mathlib.Core.List.{List, [], ◌∷◌}
use Prim.Native.Nat.{ℕ, ◌+◌, ◌*◌, ◌/◌, ◌<◌}
use native.Mathlib.Omega.{arith}
use lib.ListN.{get_or}
use lib.Ieee.{Float}
use Rattle.bounds.specs.Within.{Within}
use Rattle.bounds.specs.Squares.{squares3}
use Rattle.units.specs.Limits.{edge_limit}
use Rattle.hull_links.specs.declared.HullSize.{HullSize}
use Rattle.hull_links.specs.Links.{padded, planes_from, origin}
use Rattle.hull_links.specs.Rules.{h1, h2, h3, h4, h5, h6, h7, Linked}
use Rattle.hull_links.proofs.Tests.{and_left, all_at, unbroken}
use Rattle.hull_links.proofs.Facts.{unit_known, links_fit, numbers_fit, edge_in, vertex_edge_lt, face_edge_lt, face_edge_face, vertex_edge_origin}
use Rattle.hull_links.proofs.Facts.{twin_even, twin_odd}
use Rattle.hull_links.proofs.Rounds.{rounds}
use Rattle.hull_shell.specs.Shell.{h9}
use Rattle.hull_shell.proofs.Theorem.{one_shell}
use Rattle.vector.specs.Within.{VecWithin}
use Rattle.hull.specs.Numbers.{number_at, box_of, vertex_at, plane_at}
use Rattle.hull_limits.specs.Measures.{near_one, plane_right, ends_apart}
use Rattle.hull.specs.Rule8.{edge_long, h8, broken_rule}
use Rattle.hull.specs.Accepted.{Accepted}
use Rattle.hull.proofs.Laws.{Passed, passed, coordinates_within, plane_passed, plane_normal, plane_offset}

-- what bounds the numbers before the planes bounds every vertex, the padding and the box
module _ (s : HullSize) (n : List Float) (within : (i : ℕ) → i < planes_from s → Within 4000 26 (number_at n i)) where
  numbers_within : (i j k : ℕ) → i < planes_from s → j < planes_from s → k < planes_from s
      → VecWithin 4000 26 (record { x = number_at n i; y = number_at n j; z = number_at n k })
  numbers_within i j k a b d = record { on_x = within i a; on_y = within j b; on_z = within k d }

  vertex_within : (v : ℕ) → v < padded s → VecWithin 4000 26 (vertex_at s n v)
  unfolding vertex_at
  vertex_within v h = numbers_within _ _ _ (omega arith) (omega arith) (omega arith)

  box_within : VecWithin 4000 26 (box_of n).lower × VecWithin 4000 26 (box_of n).upper
  unfolding box_of
  box_within = (numbers_within 0 1 2 (omega arith) (omega arith) (omega arith), numbers_within 3 4 5 (omega arith) (omega arith) (omega arith))

module _ (s : HullSize) (n : List Float) (l : List ℕ) (p : Passed s n l) where
  normal_unit : (f : ℕ) → f < s.faces → near_one (squares3 (plane_at s n f).normal.x (plane_at s n f).normal.y (plane_at s n f).normal.z) ≡ true
  unfolding plane_right
  normal_unit f h = and_left _ _ (plane_passed s n l p f h)

  edge_long_lem : (k : ℕ) → k < s.half_edges / 2
      → ends_apart (edge_limit s.unit) (vertex_at s n (origin s l (2 * k))) (vertex_at s n (origin s l (2 * k + 1))) ≡ true
  unfolding edge_long
  edge_long_lem k h = all_at (edge_long s n l) _ p.edged k h

-- ---- where no rule is broken, each of them holds; the first of them, H1, has number 0
module _ (s : HullSize) (n : List Float) (l : List ℕ) (q : broken_rule s n l ≡ 0) where
  rules_hold : (i : ℕ) → get_or (h1 s n l ∷ h2 s l ∷ h3 s l ∷ h4 s l ∷ h5 s l ∷ h6 s l ∷ h7 s l ∷ h8 s n l ∷ h9 s l ∷ []) i true ≡ true
  unfolding broken_rule
  rules_hold = unbroken 1 _ (omega arith) q

  pub numbers_passed : Passed s n l
  numbers_passed = passed s n l (rules_hold 7)

pub accepted : (s : HullSize) (n : List Float) (l : List ℕ) → broken_rule s n l ≡ 0 → Accepted s n l
accepted s n l q =
    let r = rules_hold s n l q in
    let ok : Linked s l = record { fits = links_fit s n l (r 0); r2 = r 1; r3 = r 2; r4 = r 3; r5 = r 4 } in
    let p = numbers_passed s n l q in
    let within = coordinates_within s n l p in
    record {
      unit_known = unit_known s n l (r 0);
      links_fit = links_fit s n l (r 0);
      numbers_fit = numbers_fit s n l (r 0);
      next_in = λ e h. (edge_in s l (r 1) e h).next_in;
      twin_in = λ e h. (edge_in s l (r 1) e h).twin_in;
      origin_in = λ e h. (edge_in s l (r 1) e h).origin_in;
      face_in = λ e h. (edge_in s l (r 1) e h).face_in;
      vertex_edge_in = vertex_edge_lt s l (r 1);
      face_edge_in = face_edge_lt s l (r 1);
      twin_even = twin_even s l ok;
      twin_odd = twin_odd s l ok;
      vertex_edge_starts = vertex_edge_origin s l (r 6);
      face_edge_starts = face_edge_face s l (r 5);
      rounds = rounds s l ok (r 5) (r 6);
      one_shell = one_shell s l ok.fits (r 1) (r 8);
      vertices_within = vertex_within s n within;
      lower_within = (box_within s n within).0;
      upper_within = (box_within s n within).1;
      normals_below = λ f h. plane_normal s _ (plane_passed s n l p f h);
      normals_unit = normal_unit s n l p;
      offsets_below = λ f h. plane_offset s _ (plane_passed s n l p f h);
      edges_long = edge_long_lem s n l p;
    }
