-- The cases of the answer: a stop among A's faces, among B's faces or among the pairs of edges, in this order, and what is found where nothing stops.
-- Assumes nothing.
use mathlib.Core.Bool.{Bool, true, false, cond}
use mathlib.Core.Path.{◌≡◌, sym, ap, ◌∙◌}
use Rattle.std.specs.Prelude.{Option}
use Rattle.manifold.specs.declared.kinds.AxisKind.{AxisKind}
use Rattle.axis_best.specs.declared.Lead.{Lead}
use Rattle.axis.specs.declared.Axis.{Axis}
use Rattle.axis.specs.declared.Search.{Search}
use Rattle.axis.specs.Search.{apart_of, found_of, search_answer_of}

-- a test whose outcome is known picks its side
yes : {A : Type 0} {b : Bool} (x y : A) → b ≡ true → x ≡ cond b x y
yes x y h = ap (λ (z : Bool). cond z x y) (sym h)

no : {A : Type 0} {b : Bool} (x y : A) → b ≡ false → y ≡ cond b x y
no x y h = ap (λ (z : Bool). cond z x y) (sym h)

module _ (a b e : Lead) where
  -- the answer from B's faces on, and from the pairs of edges on
  abbrev from_edges : Search
  from_edges = cond e.apart (apart_of AxisKind.Edges e) (found_of a b e)

  abbrev from_b : Search
  from_b = cond b.apart (apart_of AxisKind.FaceB b) from_edges

  pub stops_at_a : a.apart ≡ true → apart_of AxisKind.FaceA a ≡ search_answer_of a b e
  unfolding search_answer_of
  stops_at_a h = yes (apart_of AxisKind.FaceA a) from_b h

  pub stops_at_b : a.apart ≡ false → b.apart ≡ true → apart_of AxisKind.FaceB b ≡ search_answer_of a b e
  unfolding search_answer_of
  stops_at_b k h = yes (apart_of AxisKind.FaceB b) from_edges h ∙ no (apart_of AxisKind.FaceA a) from_b k

  pub stops_at_edge : a.apart ≡ false → b.apart ≡ false → e.apart ≡ true → apart_of AxisKind.Edges e ≡ search_answer_of a b e
  unfolding search_answer_of
  stops_at_edge k l h = yes (apart_of AxisKind.Edges e) (found_of a b e) h ∙ no (apart_of AxisKind.FaceB b) from_edges l
      ∙ no (apart_of AxisKind.FaceA a) from_b k

  pub goes_through : a.apart ≡ false → b.apart ≡ false → e.apart ≡ false → found_of a b e ≡ search_answer_of a b e
  unfolding search_answer_of
  goes_through k l h = no (apart_of AxisKind.Edges e) (found_of a b e) h ∙ no (apart_of AxisKind.FaceB b) from_edges l ∙ no (apart_of AxisKind.FaceA a) from_b k

-- leads that go by other names
pub same_answer : {a a' b b' e e' : Lead} → a ≡ a' → b ≡ b' → e ≡ e' → search_answer_of a b e ≡ search_answer_of a' b' e'
same_answer {a} {a'} {b} {b'} {e} {e'} p q r =
    ap (λ (z : Lead). search_answer_of z b e) p ∙ ap (λ (z : Lead). search_answer_of a' z e) q ∙ ap (λ (z : Lead). search_answer_of a' b' z) r

-- the record of what was found, its parts by other names
pub same_found : {x x' y y' : Axis} {d d' : Option Axis} → x ≡ x' → y ≡ y' → d ≡ d'
    → Search.Found (record { face_a = x; face_b = y; edge = d }) ≡ Search.Found (record { face_a = x'; face_b = y'; edge = d' })
same_found p q r = rw (p, q, r)
