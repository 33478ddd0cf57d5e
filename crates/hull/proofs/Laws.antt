-- H8 is what the code tests: what is inside a small box is small, and what passes the other tests is finite. Assumes nothing.
use mathlib.Core.Path.{◌≡◌, refl, sym, ap, ◌∙◌, subst}
use mathlib.Core.Bool.{Bool, true, false, not, false≢true}
use mathlib.Core.List.{List}
use Prim.Native.Nat.{ℕ, zero, suc, ◌+◌, ◌-◌, ◌*◌, ◌/◌, ◌%◌, ◌≤◌, ◌<◌}
use native.Mathlib.Omega.{arith}
use denote.Floats.{is_true}
use lib.Dec.{ltb}
use lib.ListN.{length}
use lib.Ieee.{Float}
use borrow.Author.Tests.{ltb-true, ltb-false, not-true}
use Rattle.bounds.specs.Bound.{Below}
use Rattle.bounds.specs.Within.{Within}
use Rattle.bounds.proofs.Laws.{more}
use Rattle.bounds.proofs.Within as finer
use Rattle.units.specs.Limits.{coordinate_limit, offset_limit}
use Rattle.units.proofs.Laws.{coordinate_within, coordinate_sized, offset_below}
use Rattle.hull_links.specs.declared.HullSize.{HullSize}
use Rattle.hull_links.specs.Tests.{all}
use Rattle.hull_links.specs.Links.{padded, planes_from, origin, NumbersFit}
use Rattle.hull_links.specs.Rules.{h2}
use Rattle.hull_links.proofs.Facts.{edge_in}
use Rattle.hull_links.proofs.Tests.{cases, and_left, and_right, and_intro, all_at, all_intro, same_test}
use Rattle.vector.specs.declared.Plane.{Plane}
use Rattle.vector.specs.Bounded.{VecBelow}
use Rattle.hull.specs.Numbers.{number_at, box_of, vertex_at, plane_at}
use Rattle.hull_limits.specs.Measures.{inside, in_box, plane_right}
use Rattle.hull.specs.Rule8.{finite_at, small_at, vertex_in_box, plane_right_at, edge_long, h8}
use Rattle.hull.specs.inner.Passes.{small_from, padding_small}
use Rattle.hull_limits.proofs.Limits.{limit_below, limit_within, inside_within, normal_below, finite_is}

-- ---- by H2 the origin of a half-edge is in the lists of vertices
pub origin_in_list : (s : HullSize) (l : List ℕ) → h2 s l ≡ true → (e v : ℕ) → e < s.half_edges → v ≡ origin s l e → v < padded s
origin_in_list s l r2 e v h q = let k = (edge_in s l r2 e h).origin_in in omega (arith, q, k)

-- ---- a plane that passes
abbrev right : HullSize → Plane → Type 0
right s p = plane_right (offset_limit s.unit) p ≡ true

pub plane_normal : (s : HullSize) (p : Plane) → right s p → VecBelow 1 p.normal
unfolding plane_right
plane_normal s p q = normal_below _ (and_left _ _ q)

pub plane_offset : (s : HullSize) (p : Plane) → right s p → Below 23 p.offset
unfolding plane_right
plane_offset s p q = limit_below (offset_below s.unit) (and_right _ _ q)

-- number j of the four of a plane
abbrev part : Plane → ℕ → Float
part p zero = p.normal.x
part p (suc zero) = p.normal.y
part p (suc (suc zero)) = p.normal.z
part p (suc (suc (suc j))) = p.offset

part_below : (s : HullSize) (p : Plane) → right s p → (j : ℕ) → Below 23 (part p j)
part_below s p q zero = more 23 tt (plane_normal s p q).on_x
part_below s p q (suc zero) = more 23 tt (plane_normal s p q).on_y
part_below s p q (suc (suc zero)) = more 23 tt (plane_normal s p q).on_z
part_below s p q (suc (suc (suc j))) = plane_offset s p q

module _ (s : HullSize) (n : List Float) where
  part_at : (f j : ℕ) → j < 4 → number_at n (planes_from s + 4 * f + j) ≡ part (plane_at s n f) j
  unfolding plane_at
  part_at f zero h = ap (number_at n) (omega arith)
  part_at f (suc zero) h = refl
  part_at f (suc (suc zero)) h = refl
  part_at f (suc (suc (suc zero))) h = refl
  part_at f (suc (suc (suc (suc j)))) h = absurd (omega arith)

  -- ---- a part of the numbers that is small
  at_from : (b c i : ℕ) → all (small_from (coordinate_limit s.unit) n b) c ≡ true → b ≤ i → i < b + c → small_at s n i ≡ true
  unfolding small_from small_at
  at_from b c i h l u = subst (λ (x : ℕ). small_at s n x ≡ true) (omega arith) (all_at (small_from (coordinate_limit s.unit) n b) c h (i - b) (omega arith))

  pub part_small : (b c : ℕ) → all (small_at s n) (planes_from s) ≡ true → b + c ≤ planes_from s → all (small_from (coordinate_limit s.unit) n b) c ≡ true
  unfolding small_from small_at
  part_small b c h l = all_intro (small_from (coordinate_limit s.unit) n b) c (λ i u. all_at (small_at s n) _ h (b + i) (omega arith))

  -- where the box is small, so is what is inside it: the list of one coordinate, which starts at b, and whose box ends are numbers lo and hi
  module _ (box : all (small_from (coordinate_limit s.unit) n 0) 6 ≡ true) where
    box_small : (i : ℕ) → i < 6 → small_at s n i ≡ true
    box_small i h = at_from 0 6 i box (omega arith) h

    list_small : (b lo hi : ℕ) → lo < 6 → hi < 6 → all (small_from (coordinate_limit s.unit) n (b + s.vertices)) (padded s - s.vertices) ≡ true
        → ((v : ℕ) → v < s.vertices → inside (number_at n lo) (number_at n hi) (number_at n (b + v)) ≡ true)
        → (i : ℕ) → b ≤ i → i < b + padded s → small_at s n i ≡ true
    unfolding small_at
    list_small b lo hi a d pads boxed i l u =
        cases (ltb i (b + s.vertices))
        (λ t.
        let k = ltb-true i (b + s.vertices) t in
        let e : b + (i - b) ≡ i = omega arith in
        inside_within _ _ _ _ (coordinate_sized s.unit) (box_small lo a) (box_small hi d) (rw e at (boxed (i - b) (omega arith))))
        (λ t. at_from (b + s.vertices) (padded s - s.vertices) i pads (ltb-false i (b + s.vertices) t) (omega arith))

    pub all_smalls : padding_small s n ≡ true → all (vertex_in_box s n) s.vertices ≡ true → all (small_at s n) (planes_from s) ≡ true
    unfolding padding_small vertex_in_box in_box box_of vertex_at
    all_smalls pads boxed =
        let at = all_at (vertex_in_box s n) _ boxed in
        all_intro (small_at s n) _ (λ i u.
        cases (ltb i 6) (λ t. at_from 0 6 i box (omega arith) (ltb-true i 6 t)) (λ t0.
        cases (ltb i (6 + padded s))
        (λ t.
        list_small 6 0 3 (omega arith) (omega arith) (and_left _ _ (and_left _ _ pads)) (λ v h. and_left _ _ (and_left _ _ (at v h))) i
        (ltb-false i 6 t0) (ltb-true i (6 + padded s) t)) (λ t1.
        cases (ltb i (6 + padded s + padded s))
        (λ t.
        list_small (6 + padded s) 1 4 (omega arith) (omega arith) (and_right _ _ (and_left _ _ pads)) (λ v h. and_right _ _ (and_left _ _ (at v h))) i
        (ltb-false i (6 + padded s) t1) (ltb-true i (6 + padded s + padded s) t))
        (λ t2.
        let l = ltb-false i (6 + padded s + padded s) t2 in
        list_small (6 + 2 * padded s) 2 5 (omega arith) (omega arith) (and_right _ _ pads) (λ v h. and_right _ _ (at v h)) i (omega arith) (omega arith)))))

module _ (s : HullSize) (n : List Float) (l : List ℕ) where
  -- ---- the tests besides finiteness
  pub record Passed : Type 0 where
    pub smalls : all (small_at s n) (planes_from s) ≡ true
    pub boxed : all (vertex_in_box s n) s.vertices ≡ true
    pub planed : all (plane_right_at s n) s.faces ≡ true
    pub edged : all (edge_long s n l) (s.half_edges / 2) ≡ true

  pub plane_passed : Passed → (f : ℕ) → f < s.faces → right s (plane_at s n f)
  unfolding plane_right_at
  plane_passed p f h = all_at (plane_right_at s n) _ p.planed f h

  pub coordinates_within : Passed → (i : ℕ) → i < planes_from s → Within 4000 26 (number_at n i)
  unfolding small_at
  coordinates_within p i h = limit_within (coordinate_within s.unit) (all_at (small_at s n) _ p.smalls i h)

  -- the padding, as the code tests it
  pub padding_passes : Passed → padding_small s n ≡ true
  unfolding padding_small
  padding_passes p = and_intro _ _ (and_intro _ _ (padding (6 + s.vertices) (omega arith)) (padding (6 + padded s + s.vertices) (omega arith)))
      (padding (6 + 2 * padded s + s.vertices) (omega arith))
    where
      padding : (b : ℕ) → b + (padded s - s.vertices) ≤ planes_from s → all (small_from (coordinate_limit s.unit) n b) (padded s - s.vertices) ≡ true
      padding b = part_small s n b (padded s - s.vertices) p.smalls

  -- finiteness needs no test of its own
  all_finite : NumbersFit s n → Passed → all (finite_at n) (length n) ≡ true
  unfolding finite_at
  all_finite z p =
      all_intro (finite_at n) _ (λ i h.
      let w = z.long in
      cases (ltb i (planes_from s)) (λ t. is_true _ (finer.is_finite (coordinates_within p i (ltb-true i (planes_from s) t))))
      (λ t.
      let g = ltb-false i (planes_from s) t in
      let f = (i - planes_from s) / 4 in
      let j = (i - planes_from s) % 4 in
      let e : i ≡ planes_from s + 4 * f + j = omega arith in
      finite_is (subst (Below 23) (sym (ap (number_at n) e ∙ part_at s n f j (omega arith)))
      (part_below s (plane_at s n f) (plane_passed p f (omega arith)) j))))

  passes : NumbersFit s n → Passed → h8 s n l ≡ true
  unfolding h8
  passes z p = and_intro _ _ (and_intro _ _ (and_intro _ _ (and_intro _ _ (all_finite z p) p.smalls) p.boxed) p.planed) p.edged

  pub passed : h8 s n l ≡ true → Passed
  unfolding h8
  passed q = record {
    smalls = and_right _ _ (and_left _ _ (and_left _ _ (and_left _ _ q)));
    boxed = and_right _ _ (and_left _ _ (and_left _ _ q));
    planed = and_right _ _ (and_left _ _ q);
    edged = and_right _ _ q;
  }

  -- a test r that H8 asks for fails
  pub refuses : (r : Bool) {t : Bool} → not r ≡ true → r ≡ t → (Passed → t ≡ true) → false ≡ h8 s n l
  refuses r q e h = sym (cases (h8 s n l) (λ t. absurd (false≢true (sym (not-true r q) ∙ e ∙ h (passed t)))) (λ t. t))

  -- where the others pass, the last of them decides
  pub decides : NumbersFit s n → (r : Bool) → all (small_from (coordinate_limit s.unit) n 0) 6 ≡ true → padding_small s n ≡ true → all (vertex_in_box s n)
      s.vertices ≡ true
      → all (plane_right_at s n) s.faces ≡ true → r ≡ all (edge_long s n l) (s.half_edges / 2) → r ≡ h8 s n l
  decides z r a b d f q =
      q ∙ same_test _ _ (λ t. passes z (record { smalls = all_smalls s n a b d; boxed = d; planed = f; edged = t })) (λ t. (passed t).edged)
