-- What the rules H1 to H7 say of the links, as facts. Assumes nothing.
use mathlib.Core.Path.{◌≡◌, sym, ap, ◌∙◌}
use mathlib.Core.Bool.{true, false, false≢true}
use mathlib.Core.List.{List}
use Prim.Native.Nat.{ℕ, ◌+◌, ◌*◌, ◌/◌, ◌%◌, ◌≤◌, ◌<◌}
use native.Mathlib.Omega.{arith}
use lib.Dec.{eqb, ltb}
use lib.ListN.{length}
use lib.Ieee.{Float}
use borrow.Author.Tests.{eqb-true, eqb-false, eq-eqb, ltb-true, ltb-false, lt-ltb, leb-true, le-leb, not-true}
use Rattle.units.specs.Units.{known_unit}
use Rattle.hull_links.specs.declared.HullSize.{HullSize}
use Rattle.hull_links.specs.Walks.{has, firsts}
use Rattle.hull_links.specs.Links.{number_count, next, twin, origin, face, vertex_edge, face_edge, face_ring, fan, turn, LinksFit, NumbersFit}
use Rattle.hull_links.specs.Rules.{vertex_in_range, edge_in_range, face_in_range, twins_at, linked_at, new_next, ring_holds, ring_right, fan_holds}
use Rattle.hull_links.specs.Rules.{fan_right, h1, h2, h3, h4, h5, h6, h7, Linked}
use Rattle.hull_links.proofs.Tests.{cases, same_test, and_left, and_right, and_intro, all_at, implies_use}
use Rattle.hull_links.proofs.Counting.{has_first}

-- ---- H1: both lists fit
module _ (s : HullSize) (n : List Float) (l : List ℕ) where
  pub links_fit : h1 s n l ≡ true → LinksFit s l
  unfolding h1
  links_fit r =
      let a = and_left _ _ r in
      let v = and_right _ _ (and_left _ _ (and_left _ _ a)) in
      let h = and_right _ _ (and_left _ _ a) in
      let f = and_right _ _ a in
      record {
        v_low = leb-true _ _ (and_left _ _ v);
        v_high = leb-true _ _ (and_right _ _ v);
        h_even = eqb-true _ _ (and_left _ _ (and_left _ _ h));
        h_low = leb-true _ _ (and_right _ _ (and_left _ _ h));
        h_high = leb-true _ _ (and_right _ _ h);
        f_low = leb-true _ _ (and_left _ _ f);
        f_high = leb-true _ _ (and_right _ _ f);
        long = eqb-true _ _ (and_left _ _ (and_right _ _ r));
      }

  pub numbers_fit : h1 s n l ≡ true → NumbersFit s n
  unfolding h1
  numbers_fit r =
      let z = links_fit r in
      record { v_low = z.v_low; v_high = z.v_high; f_low = z.f_low; f_high = z.f_high; long = eqb-true _ _ (and_right _ _ (and_right _ _ r)) }

  pub unit_known : h1 s n l ≡ true → known_unit s.unit ≡ true
  unfolding h1
  unit_known r = and_left _ _ (and_left _ _ (and_left _ _ (and_left _ _ r)))

  pub fit : known_unit s.unit ≡ true → LinksFit s l → NumbersFit s n → h1 s n l ≡ true
  unfolding h1
  fit k r w =
      and_intro _ _
      (and_intro _ _
      (and_intro _ _ (and_intro _ _ k (and_intro _ _ (le-leb _ _ r.v_low) (le-leb _ _ r.v_high)))
      (and_intro _ _ (and_intro _ _ (eq-eqb _ _ r.h_even) (le-leb _ _ r.h_low)) (le-leb _ _ r.h_high)))
      (and_intro _ _ (le-leb _ _ r.f_low) (le-leb _ _ r.f_high)))
      (and_intro _ _ (eq-eqb _ _ r.long) (eq-eqb _ _ w.long))

  -- where the unit is known and the links fit, the length of the numbers decides
  pub fit_last : known_unit s.unit ≡ true → LinksFit s l → eqb (length n) (number_count s) ≡ h1 s n l
  fit_last k r =
      same_test _ _ (λ t. fit k r (record { v_low = r.v_low; v_high = r.v_high; f_low = r.f_low; f_high = r.f_high; long = eqb-true _ _ t }))
      (λ t. eq-eqb _ _ (numbers_fit t).long)

  pub unfit : (LinksFit s l → NumbersFit s n → ⊥) → h1 s n l ≡ false
  unfit q = cases (h1 s n l) (λ t. absurd (q (links_fit t) (numbers_fit t))) (λ t. t)

  pub no_unit : known_unit s.unit ≡ false → h1 s n l ≡ false
  no_unit q = cases (h1 s n l) (λ t. absurd (false≢true (sym q ∙ unit_known t))) (λ t. t)

module _ (s : HullSize) (l : List ℕ) where
  abbrev H : ℕ
  H = s.half_edges

  -- ---- H2: of one half-edge, and of all
  pub record EdgeFits (e : ℕ) : Type 0 where
    pub next_in : next s l e < H
    pub twin_in : twin s l e < H
    pub origin_in : origin s l e < s.vertices
    pub face_in : face s l e < s.faces

  pub edge_fits : (e : ℕ) → edge_in_range s l e ≡ true → EdgeFits e
  unfolding edge_in_range
  edge_fits e r = record {
    next_in = ltb-true _ _ (and_left _ _ (and_left _ _ (and_left _ _ r)));
    twin_in = ltb-true _ _ (and_right _ _ (and_left _ _ (and_left _ _ r)));
    origin_in = ltb-true _ _ (and_right _ _ (and_left _ _ r));
    face_in = ltb-true _ _ (and_right _ _ r);
  }

  pub edge_fit : (e : ℕ) → EdgeFits e → edge_in_range s l e ≡ true
  unfolding edge_in_range
  edge_fit e r =
      and_intro _ _ (and_intro _ _ (and_intro _ _ (lt-ltb _ _ r.next_in) (lt-ltb _ _ r.twin_in)) (lt-ltb _ _ r.origin_in))
      (lt-ltb _ _ r.face_in)

  pub edge_unfit : (e : ℕ) → (EdgeFits e → ⊥) → edge_in_range s l e ≡ false
  edge_unfit e q = cases (edge_in_range s l e) (λ t. absurd (q (edge_fits e t))) (λ t. t)

  module _ (r2 : h2 s l ≡ true) where
    pub edge_in : (e : ℕ) → e < H → EdgeFits e
    unfolding h2
    edge_in e h = edge_fits e (all_at _ _ (and_right _ _ (and_left _ _ r2)) e h)

    pub next_lt : (e : ℕ) → e < H → next s l e < H
    next_lt e h = (edge_in e h).next_in

    pub twin_lt : (e : ℕ) → e < H → twin s l e < H
    twin_lt e h = (edge_in e h).twin_in

    pub turn_lt : (e : ℕ) → e < H → turn s l e < H
    turn_lt e h = next_lt (twin s l e) (twin_lt e h)

    pub vertex_edge_lt : (v : ℕ) → v < s.vertices → vertex_edge s l v < H
    unfolding h2 vertex_in_range
    vertex_edge_lt v h = ltb-true _ _ (all_at (vertex_in_range s l) _ (and_left _ _ (and_left _ _ r2)) v h)

    pub face_edge_lt : (f : ℕ) → f < s.faces → face_edge s l f < H
    unfolding h2 face_in_range
    face_edge_lt f h = ltb-true _ _ (all_at (face_in_range s l) _ (and_right _ _ r2) f h)

  -- ---- H6, H7: the stored edge is of that face, of that vertex; the ring is long enough; ring and fan hold all that they should
  module _ (r6 : h6 s l ≡ true) where
    pub face_edge_face : (f : ℕ) → f < s.faces → face s l (face_edge s l f) ≡ f
    unfolding h6 ring_right
    face_edge_face f h = eqb-true _ _ (and_left _ _ (and_left _ _ (all_at (ring_right s l) _ r6 f h)))

    pub ring_long : (f : ℕ) → f < s.faces → 3 ≤ length (face_ring s l f)
    unfolding h6 ring_right
    ring_long f h = leb-true _ _ (and_right _ _ (and_left _ _ (all_at (ring_right s l) _ r6 f h)))

    pub ring_full : (f e : ℕ) → f < s.faces → e < H → face s l e ≡ f → has e (face_ring s l f) ≡ true
    unfolding h6 ring_right ring_holds
    ring_full f e hf he q = implies_use _ _ (all_at (ring_holds s l f) H (and_right _ _ (all_at (ring_right s l) _ r6 f hf)) e he) (eq-eqb _ _ q)

  module _ (r7 : h7 s l ≡ true) where
    pub vertex_edge_origin : (v : ℕ) → v < s.vertices → origin s l (vertex_edge s l v) ≡ v
    unfolding h7 fan_right
    vertex_edge_origin v h = eqb-true _ _ (and_left _ _ (all_at (fan_right s l) _ r7 v h))

    pub fan_full : (v e : ℕ) → v < s.vertices → e < H → origin s l e ≡ v → has e (fan s l v) ≡ true
    unfolding h7 fan_right fan_holds
    fan_full v e hv he q = implies_use _ _ (all_at (fan_holds s l v) H (and_right _ _ (all_at (fan_right s l) _ r7 v hv)) e he) (eq-eqb _ _ q)

-- ---- a pair of half-edges: where the twins of 2k and 2k + 1 are each other, the twin's twin is the half-edge itself
pub twin_of_twin : (s : HullSize) (l : List ℕ) → s.half_edges % 2 ≡ 0 → ((k : ℕ) → k < s.half_edges / 2 → twin s l (2 * k) ≡ 2 * k + 1)
    → ((k : ℕ) → k < s.half_edges / 2 → twin s l (2 * k + 1) ≡ 2 * k) → (e : ℕ) → e < s.half_edges → twin s l (twin s l e) ≡ e
twin_of_twin s l z even odd e h =
    let k : e / 2 < s.half_edges / 2 = omega arith in
    cases (eqb (e % 2) 0)
    (λ t.
    let q : 2 * (e / 2) ≡ e = omega (arith, eqb-true (e % 2) 0 t) in
    ap (twin s l) (ap (twin s l) (sym q) ∙ even (e / 2) k) ∙ odd (e / 2) k ∙ q)
    (λ t.
    let q : 2 * (e / 2) + 1 ≡ e = omega (arith, eqb-false (e % 2) 0 t) in
    ap (twin s l) (ap (twin s l) (sym q) ∙ odd (e / 2) k) ∙ even (e / 2) k ∙ q)

module _ (s : HullSize) (l : List ℕ) (ok : Linked s l) where
  -- ---- H3
  pub twin_even : (k : ℕ) → k < s.half_edges / 2 → twin s l (2 * k) ≡ 2 * k + 1
  unfolding h3 twins_at
  twin_even k h = eqb-true _ _ (and_left _ _ (all_at (twins_at s l) _ ok.r3 k h))

  pub twin_odd : (k : ℕ) → k < s.half_edges / 2 → twin s l (2 * k + 1) ≡ 2 * k
  unfolding h3 twins_at
  twin_odd k h = eqb-true _ _ (and_right _ _ (all_at (twins_at s l) _ ok.r3 k h))

  pub twin_twin : (e : ℕ) → e < s.half_edges → twin s l (twin s l e) ≡ e
  twin_twin = twin_of_twin s l ok.fits.h_even twin_even twin_odd

  -- ---- H4: what next and turn keep
  pub next_face : (e : ℕ) → e < s.half_edges → face s l (next s l e) ≡ face s l e
  unfolding h4 linked_at
  next_face e h = eqb-true _ _ (and_left _ _ (all_at (linked_at s l) _ ok.r4 e h))

  next_origin : (e : ℕ) → e < s.half_edges → origin s l (next s l e) ≡ origin s l (twin s l e)
  unfolding h4 linked_at
  next_origin e h = eqb-true _ _ (and_right _ _ (all_at (linked_at s l) _ ok.r4 e h))

  pub turn_origin : (e : ℕ) → e < s.half_edges → origin s l (turn s l e) ≡ origin s l e
  turn_origin e h = next_origin (twin s l e) (twin_lt s l ok.r2 e h) ∙ ap (origin s l) (twin_twin e h)

  -- ---- H5: next and turn are one-to-one
  next_apart : (a b : ℕ) → a < s.half_edges → b < a → next s l b ≡ next s l a → ⊥
  unfolding h5 new_next
  next_apart a b la lb q =
      let z : has (next s l a) (firsts (next s l) a) ≡ false = not-true _ (all_at (new_next s l) _ ok.r5 a la) in
      false≢true (sym z ∙ rw q at (has_first (next s l) a b lb))

  pub next_inj : (a b : ℕ) → a < s.half_edges → b < s.half_edges → next s l a ≡ next s l b → a ≡ b
  next_inj a b la lb q =
      cases (ltb a b) (λ t. absurd (next_apart b a lb (ltb-true a b t) q))
      (λ t. cases (ltb b a) (λ u. absurd (next_apart a b la (ltb-true b a u) (sym q))) (λ u. omega (arith, ltb-false a b t, ltb-false b a u)))

  pub turn_inj : (a b : ℕ) → a < s.half_edges → b < s.half_edges → turn s l a ≡ turn s l b → a ≡ b
  turn_inj a b la lb q =
      sym (twin_twin a la) ∙ ap (twin s l) (next_inj (twin s l a) (twin s l b) (twin_lt s l ok.r2 a la) (twin_lt s l ok.r2 b lb) q) ∙ twin_twin b lb
