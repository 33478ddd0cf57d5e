-- Stopping at the first axis above the speculative distance changes no yes: the search of a call ends apart exactly where the largest separation of every
-- axis is above it. The hulls have one unit. Assumes nothing.
use mathlib.Core.Path.{◌≡◌, refl, sym, ap, ◌∙◌}
use mathlib.Core.Bool.{Bool, true, false, cond}
use mathlib.Core.List.{List}
use Prim.Native.Nat.{ℕ, ◌/◌}
use lib.Ieee.{Float}
use Rattle.vector.specs.declared.Vec3.{Vec3}
use Rattle.vector.specs.declared.Transform.{Transform}
use Rattle.rotation.specs.Rotation.{Rows, matrix_of, transpose_of}
use Rattle.hull_links.specs.declared.HullSize.{HullSize}
use Rattle.hull_links.specs.Tests.{◌or◌, any}
use Rattle.hull.specs.Numbers.{plane_at}
use Rattle.manifold.specs.declared.kinds.AxisKind.{AxisKind}
use Rattle.axis_best.specs.declared.Lead.{Lead}
use Rattle.axis_best.specs.Leads.{none_of, lead_after}
use Rattle.axis_faces.specs.declared.Face.{Face}
use Rattle.axis_faces.specs.declared.Side.{Side}
use Rattle.axis_faces.specs.Faces.{face_of, face_taken_of, face_search_of}
use Rattle.axis_edges.specs.declared.Edge.{Edge}
use Rattle.axis_edges.specs.Edges.{dot_right, passes_of, parallel_of, edge_of_a, edge_of_b, tried_of, edge_pair_of, row_pairs}
use Rattle.axis_pairs.specs.All.{all_pairs}
use Rattle.axis.specs.declared.AxisApart.{AxisApart}
use Rattle.axis.specs.declared.Search.{Search}
use Rattle.axis.specs.Search.{apart_of, found_of, search_answer_of, side_of_a, side_of_b, pairs_of, search_of}
use Rattle.apart.specs.Every.{is_far, best_through, through_faces, through_pairs, best_of_all, largest_separation, apart_by_every}
use Rattle.apart.specs.Axes.{face_far, pair_far}
use Rattle.apart.specs.inner.Ends.{ends_apart}
use Rattle.apart.proofs.Through.{Stops, Tries, in_unit, none_stops, tries_none, tries_axis, tries_picked, tries_in_turn}

-- ---- the faces of one side
module _ (side : Side) (turn : Rows) (position : Vec3) (s : HullSize) (n : List Float) (t : HullSize) (m : List Float) where
  abbrev face : ℕ → Face
  face f = face_of side turn position t m (plane_at s n f)

  abbrev taken : ℕ → Lead → Lead
  taken f = face_taken_of side s.unit (face f) f

  -- some face of the side is that far
  abbrev some_face_far : Bool
  some_face_far = any (face_far side turn position s n t m) s.faces

  tries_faces : Tries s.unit some_face_far (λ lead. lead_after taken lead s.faces) (through_faces side turn position s n t m)
  unfolding through_faces face_taken_of face_far is_far
  tries_faces = tries_in_turn s.unit taken taken (face_far side turn position s n t m) s.faces (λ f h. tries_face side f)
    where
      tries_face : (of : Side) (f : ℕ) → Tries s.unit (face_far side turn position s n t m f) (face_taken_of of s.unit (face f) f)
          (face_taken_of of s.unit (face f) f)
      tries_face Side.A f = tries_axis s.unit (face f).normal (face f).separation f (face f).vertex
      tries_face Side.B f = tries_axis s.unit (face f).normal (face f).separation (face f).vertex f

-- ---- the pairs of edges
module _ (unit : ℕ) where
  tries_pair : (a : Edge) (b : Edge) (i j : ℕ) → Tries unit (pair_far unit a b) (edge_pair_of unit a b i j) (edge_pair_of unit a b i j)
  unfolding edge_pair_of tried_of pair_far is_far
  tries_pair a b i j =
      tries_picked unit
      (passes_of (dot_right b.normal0 a.direction) (dot_right b.normal1 a.direction) (dot_right a.normal0 b.direction)
      (dot_right a.normal1 b.direction))
      (tries_picked unit (parallel_of (dot_right b.normal0 a.direction) (dot_right b.normal1 a.direction) a.direction)
      (tries_none unit) (tries_axis unit _ _ _ _))
      (tries_none unit)

  module _ (a : ℕ → Edge) (n : ℕ) (b : ℕ → Edge) where
    -- one edge of B against those of A
    abbrev row_far : ℕ → Bool
    row_far j = any (λ i. pair_far unit (a i) (b j)) n

    abbrev through_row : ℕ → Lead → Lead
    through_row j = best_through (λ i. edge_pair_of unit (a i) (b j) i j) n

    tries_row : (j : ℕ) → Tries unit (row_far j) (row_pairs unit a n (b j) j) (through_row j)
    unfolding row_pairs
    tries_row j = tries_in_turn unit _ _ _ n (λ i h. tries_pair (a i) (b j) i j)

    tries_pairs : (m : ℕ) → Tries unit (any row_far m) (λ lead. lead_after (λ j. row_pairs unit a n (b j) j) lead m) (through_pairs unit a n b m)
    unfolding through_pairs
    tries_pairs m = tries_in_turn unit (λ j. row_pairs unit a n (b j) j) through_row row_far m (λ j h. tries_row j)

-- ---- the answer of the search that stops
answer_is : (a b e : Lead) → ends_apart (search_answer_of a b e) ≡ (a.apart or b.apart or e.apart)
unfolding search_answer_of ends_apart apart_of found_of ◌or◌
answer_is a b e = case a.apart b.apart e.apart
  where
    case : (x y z : Bool) → ends_apart (cond x (apart_of AxisKind.FaceA a) (cond y (apart_of AxisKind.FaceB b)
        (cond z (apart_of AxisKind.Edges e) (found_of a b e)))) ≡ (x or y or z)
    case true y z = refl
    case false true z = refl
    case false false true = refl
    case false false false = refl

-- an axis at which a search stops is that far
unfoldable far_if_apart : (Float → Bool) → Search → Bool
far_if_apart far (Search.Apart axis) = far axis.separation
far_if_apart far (Search.Found f) = true

answer_far : (far : Float → Bool) (a b e : Lead) → far a.separation ≡ a.apart → far b.separation ≡ b.apart → far e.separation ≡ e.apart
    → far_if_apart far (search_answer_of a b e) ≡ true
unfolding search_answer_of far_if_apart apart_of found_of
answer_far far a b e = case a.apart b.apart e.apart
  where
    case : (x y z : Bool) → far a.separation ≡ x → far b.separation ≡ y → far e.separation ≡ z
        → far_if_apart far (cond x (apart_of AxisKind.FaceA a) (cond y (apart_of AxisKind.FaceB b) (cond z (apart_of AxisKind.Edges e) (found_of a b e)))) ≡
        true
    case true y z p q r = p
    case false true z p q r = q
    case false false true p q r = r
    case false false false p q r = refl

-- ---- both searches, of hull A, which is (s, n, l), and hull B, which is (t, m, k), placed by x
module _ (s : HullSize) (n : List Float) (l : List ℕ) (t : HullSize) (m : List Float) (k : List ℕ) (x : Transform) where
  abbrev r : Rows
  r = matrix_of x.q

  abbrev pub some_of_a : Bool
  some_of_a = some_face_far Side.A (transpose_of r) x.p s n t m

  abbrev pub some_of_b : Bool
  some_of_b = some_face_far Side.B r x.p t m s n

  abbrev pub some_of_edges : Bool
  some_of_edges = any (row_far s.unit (edge_of_a s n l) (s.half_edges / 2) (edge_of_b r x.p t m k)) (t.half_edges / 2)

  stops_a : Stops s.unit some_of_a (side_of_a s n t m x)
  unfolding side_of_a face_search_of
  stops_a = (tries_faces Side.A (transpose_of r) x.p s n t m).stops none_of (none_stops s.unit)

  stops_b : Stops t.unit some_of_b (side_of_b s n t m x)
  unfolding side_of_b face_search_of
  stops_b = (tries_faces Side.B r x.p t m s n).stops none_of (none_stops t.unit)

  stops_edges : Stops s.unit some_of_edges (pairs_of s n l t m k x)
  unfolding pairs_of all_pairs
  stops_edges =
      (tries_pairs s.unit (edge_of_a s n l) (s.half_edges / 2) (edge_of_b r x.p t m k) (t.half_edges / 2)).stops none_of (none_stops s.unit)

  -- one of the three has stopped where one of its axes is that far
  pub search_is : ends_apart (search_of s n l t m k x) ≡ (some_of_a or some_of_b or some_of_edges)
  unfolding search_of
  search_is = answer_is (side_of_a s n t m x) (side_of_b s n t m x) (pairs_of s n l t m k x) ∙ rw (stops_a.stopped, stops_b.stopped, stops_edges.stopped)

  module _ (e : s.unit ≡ t.unit) where
    -- and the largest separation is that far where one of all axes is
    pub every_is : apart_by_every s n l t m k x ≡ (some_of_a or some_of_b or some_of_edges)
    unfolding apart_by_every largest_separation best_of_all is_far ◌or◌
    every_is =
        let past_a = (tries_faces Side.A (transpose_of r) x.p s n t m).goes false none_of (none_stops s.unit).best in
        let past_b = (tries_faces Side.B r x.p t m s n).goes some_of_a _ (in_unit e past_a) in
        ((tries_pairs s.unit (edge_of_a s n l) (s.half_edges / 2) (edge_of_b r x.p t m k) (t.half_edges / 2)).goes (some_of_a or some_of_b) _
        (in_unit (sym e) past_b)).reaches

    pub same_yes : ends_apart (search_of s n l t m k x) ≡ apart_by_every s n l t m k x
    same_yes = search_is ∙ sym every_is

    -- the separation of the axis at which the search ends
    pub axis_is_far : (a : AxisApart) → Search.Apart a ≡ search_of s n l t m k x → is_far s.unit a.separation ≡ true
    unfolding search_of is_far far_if_apart
    axis_is_far a p =
        ap (far_if_apart (is_far s.unit)) p
        ∙ answer_far (is_far s.unit) _ _ _ (stops_a.best.reaches ∙ sym stops_a.stopped)
        ((in_unit (sym e) stops_b.best).reaches ∙ sym stops_b.stopped) (stops_edges.best.reaches ∙ sym stops_edges.stopped)
