-- A hull whose rings and fans were toured breaks no rule of H2 to H7; and one that breaks none of H2 to H5 is toured by its rings where H6 holds, by
-- its fans where H7 does. Assumes nothing.
use mathlib.Core.Path.{◌≡◌, sym, ap, ap₂, ◌∙◌, subst}
use mathlib.Core.Bool.{true, not}
use mathlib.Core.List.{List}
use Prim.Native.Nat.{ℕ, ◌+◌, ◌*◌, ◌/◌, ◌%◌, ◌<◌}
use native.Mathlib.Omega.{arith}
use lib.Bits.{bit_xor, xor_step, xor_zero_r, differ}
use lib.Dec.{eqb, ltb}
use borrow.Author.Tests.{eqb-true, eqb-false, eq-eqb, ltb-true, ltb-false, lt-ltb, le-leb}
use Rattle.hull_links.specs.declared.HullSize.{HullSize}
use Rattle.hull_links.specs.Walks.{has, firsts}
use Rattle.hull_links.specs.Links.{next, twin, origin, face, vertex_edge, face_edge, turn, face_ring, fan, LinksFit}
use Rattle.hull_links.specs.Rules.{vertex_in_range, edge_in_range, face_in_range, twins_at, linked_at, new_next, ring_holds, ring_right, fan_holds, fan_right}
use Rattle.hull_links.specs.Rules.{h2}
use Rattle.hull_links.specs.Rules.{h3, h4, h5, h6, h7, broken_links, Linked}
use Rattle.hull_links.proofs.Tests.{cases, and_intro, implies_intro, all_intro, passes, none_broken}
use Rattle.hull_links.proofs.Counting.{has_firsts, onto_once}
use Rattle.hull_links.proofs.Orbits.{Going, comes_back, same_way}
use Rattle.hull_links.proofs.Tours.{start_has, home, at_home, keeps, from}
use Rattle.hull_links.proofs.Facts.{edge_fit, next_lt, twin_of_twin, twin_even, twin_odd}
use Rattle.hull_links.proofs.Rounds.{rings_walked, faces_once, fans_walked, corners_once}
use Rattle.hull_tours.specs.inner.Found.{OnFace, OnVertex, Ringed, Fanned}

-- ---- the other of a pair of half-edges
mate_even : (k : ℕ) → bit_xor (2 * k) 1 ≡ 2 * k + 1
mate_even k =
    let a : 2 * k / 2 ≡ k = omega arith in
    let b : 2 * k % 2 ≡ 0 = omega arith in
    xor_step (2 * k) 1 ∙ ap₂ (λ (x y : ℕ). x * 2 + differ y 1) (xor_zero_r (2 * k / 2) ∙ a) b ∙ omega arith

mate_odd : (k : ℕ) → bit_xor (2 * k + 1) 1 ≡ 2 * k
mate_odd k =
    let a : (2 * k + 1) / 2 ≡ k = omega arith in
    let b : (2 * k + 1) % 2 ≡ 1 = omega arith in
    xor_step (2 * k + 1) 1 ∙ ap₂ (λ (x y : ℕ). x * 2 + differ y 1) (xor_zero_r ((2 * k + 1) / 2) ∙ a) b ∙ omega arith

-- what holds of 2k and of 2k + 1, where they are below an even number, holds of all below it
both_mates : (P : ℕ → Type 0) (h : ℕ) → h % 2 ≡ 0 → ((k : ℕ) → k < h / 2 → P (2 * k)) → ((k : ℕ) → k < h / 2 → P (2 * k + 1)) → (e : ℕ) → e < h → P e
both_mates P h z even odd e l =
    cases (eqb (e % 2) 0)
    (λ t. let q : 2 * (e / 2) ≡ e = omega (arith, eqb-true (e % 2) 0 t) in subst P q (even (e / 2) (omega arith)))
    (λ t. let q : 2 * (e / 2) + 1 ≡ e = omega (arith, eqb-false (e % 2) 0 t) in subst P q (odd (e / 2) (omega arith)))

pub mate_lt : (h : ℕ) → h % 2 ≡ 0 → (e : ℕ) → e < h → bit_xor e 1 < h
mate_lt h z =
    both_mates (λ e. bit_xor e 1 < h) h z (λ k l. subst (λ (x : ℕ). x < h) (sym (mate_even k)) (omega arith))
    (λ k l. subst (λ (x : ℕ). x < h) (sym (mate_odd k)) (omega arith))

mate_mate : (e : ℕ) → bit_xor (bit_xor e 1) 1 ≡ e
mate_mate e =
    both_mates (λ x. bit_xor (bit_xor x 1) 1 ≡ x) (2 * (e / 2) + 2) (omega arith) (λ k l. ap (λ (x : ℕ). bit_xor x 1) (mate_even k) ∙ mate_odd k)
    (λ k l. ap (λ (x : ℕ). bit_xor x 1) (mate_odd k) ∙ mate_even k) e (omega arith)

-- ---- from the rules to the tours
module _ (s : HullSize) (l : List ℕ) (ok : Linked s l) where
  pub ringed : h6 s l ≡ true → Ringed s l
  ringed r6 = record {
    walked = rings_walked s l ok r6 (OnFace s l) (λ f e h q. record { on = q; low = h; next_in = next_lt s l ok.r2 e h });
    whole = (faces_once s l ok r6).size;
  }

  twin_is_mate : (e : ℕ) → e < s.half_edges → twin s l e ≡ bit_xor e 1
  twin_is_mate =
      both_mates (λ e. twin s l e ≡ bit_xor e 1) s.half_edges ok.fits.h_even (λ k h. twin_even s l ok k h ∙ sym (mate_even k))
      (λ k h. twin_odd s l ok k h ∙ sym (mate_odd k))

  pub fanned : h7 s l ≡ true → Fanned s l
  fanned r7 = record {
    walked = fans_walked s l ok r7 (OnVertex s l) (λ v e h q. record { on = q; low = h; mate = twin_is_mate e h });
    whole = (corners_once s l ok r7).size;
  }

-- ---- from the tours to the rules
-- what the rings alone give: every half-edge's next is in range, H5 and H6
module _ (s : HullSize) (l : List ℕ) (r : Ringed s l) where
  abbrev H : ℕ
  H = s.half_edges

  pub ringed_next : (e : ℕ) → e < H → next s l e < H
  ringed_next e h =
      (at_home (next s l) (face s l) (face_edge s l) (OnFace s l) 3 H s.faces (λ f e p. p.on) (λ f e p. p.low) r e h).next_in

  face_home : (e : ℕ) → e < H → (face s l e < s.faces) × (has e (face_ring s l (face s l e)) ≡ true)
  face_home = home (next s l) (face s l) (face_edge s l) (OnFace s l) 3 H s.faces (λ f e p. p.on) (λ f e p. p.low) r

  face_start : (f : ℕ) → f < s.faces → OnFace s l f (face_edge s l f)
  face_start = start_has (next s l) (face s l) (face_edge s l) (OnFace s l) 3 H s.faces (λ f e p. p.on) (λ f e p. p.low) r.walked

  face_keeps : (e : ℕ) → e < H → face s l (next s l e) ≡ face s l e
  face_keeps = keeps (next s l) (face s l) (face_edge s l) (OnFace s l) 3 H s.faces (λ f e p. p.on) (λ f e p. p.low) r

  next_from : (e : ℕ) → e < H → (a : ℕ) × (a < H) × (next s l a ≡ e)
  next_from = from (next s l) (face s l) (face_edge s l) (OnFace s l) 3 H s.faces (λ f e p. p.on) (λ f e p. p.low) r

  pub ringed_inj : (a b : ℕ) → a < H → b < H → next s l a ≡ next s l b → a ≡ b
  ringed_inj a b la lb q =
      cases (ltb a b) (λ t. absurd (onto_once (next s l) H ringed_next next_from a b (ltb-true a b t) lb q))
      (λ t. cases (ltb b a) (λ u. absurd (onto_once (next s l) H ringed_next next_from b a (ltb-true b a u) la (sym q)))
      (λ u. omega (arith, ltb-false a b t, ltb-false b a u)))

  rule_5 : h5 s l ≡ true
  unfolding h5 new_next
  rule_5 = all_intro (new_next s l) _ (λ e h.
      cases (has (next s l e) (firsts (next s l) e))
      (λ u. let p = has_firsts (next s l) e (next s l e) u in absurd (onto_once (next s l) H ringed_next next_from p.0 e p.1 h p.2))
      (λ u. ap not u))

  pub rule_6 : h6 s l ≡ true
  unfolding h6 ring_right ring_holds
  rule_6 = all_intro (ring_right s l) _ (λ f h.
      and_intro _ _ (and_intro _ _ (eq-eqb _ _ (face_start f h).on) (le-leb _ _ (r.walked.long f h)))
      (all_intro (ring_holds s l f) _ (λ e le.
      implies_intro _ _ (λ q. subst (λ (x : ℕ). has e (face_ring s l x) ≡ true) (eqb-true _ _ q) (face_home e le).1))))

-- ---- where the rings were toured, next of the other of a pair is one-to-one, so that a fan comes back within H steps
module _ (s : HullSize) (l : List ℕ) (fi : LinksFit s l) (r : Ringed s l) where
  abbrev by_mate : ℕ → ℕ
  by_mate e = next s l (bit_xor e 1)

  by_mate_lt : (e : ℕ) → e < s.half_edges → by_mate e < s.half_edges
  by_mate_lt e h = ringed_next s l r (bit_xor e 1) (mate_lt s.half_edges fi.h_even e h)

  by_mate_inj : (a b : ℕ) → a < s.half_edges → b < s.half_edges → by_mate a ≡ by_mate b → a ≡ b
  by_mate_inj a b la lb q =
      sym (mate_mate a) ∙ ap (λ (x : ℕ). bit_xor x 1) (ringed_inj s l r (bit_xor a 1) (bit_xor b 1) (mate_lt _ fi.h_even a la)
      (mate_lt _ fi.h_even b lb) q)
      ∙ mate_mate b

  pub under_way : (v start k e : ℕ) → start < s.half_edges → Going (turn s l) (OnVertex s l v) start k e → k < s.half_edges
  under_way v start k e h g =
      let m = comes_back by_mate s.half_edges by_mate_lt by_mate_inj start h in
      let z = m.1 in
      cases (ltb k m.0) (λ t. omega (arith, ltb-true k m.0 t))
      (λ t.
      let d = ltb-false k m.0 t in
      absurd (g.apart m.0 m.2.some d
      (same_way (turn s l) by_mate start k (λ i u. ap (next s l) (g.each i u).mate) m.0 d ∙ m.2.back)))

module _ (s : HullSize) (l : List ℕ) (fi : LinksFit s l) (r : Ringed s l) (w : Fanned s l) where
  abbrev N : ℕ
  N = s.half_edges

  on_vertex : (e : ℕ) → e < N → OnVertex s l (origin s l e) e
  on_vertex = at_home (turn s l) (origin s l) (vertex_edge s l) (OnVertex s l) 1 N s.vertices (λ v e p. p.on) (λ v e p. p.low) w

  corner_home : (e : ℕ) → e < N → (origin s l e < s.vertices) × (has e (fan s l (origin s l e)) ≡ true)
  corner_home = home (turn s l) (origin s l) (vertex_edge s l) (OnVertex s l) 1 N s.vertices (λ v e p. p.on) (λ v e p. p.low) w

  corner_start : (v : ℕ) → v < s.vertices → OnVertex s l v (vertex_edge s l v)
  corner_start = start_has (turn s l) (origin s l) (vertex_edge s l) (OnVertex s l) 1 N s.vertices (λ v e p. p.on) (λ v e p. p.low) w.walked

  corner_keeps : (e : ℕ) → e < N → origin s l (turn s l e) ≡ origin s l e
  corner_keeps = keeps (turn s l) (origin s l) (vertex_edge s l) (OnVertex s l) 1 N s.vertices (λ v e p. p.on) (λ v e p. p.low) w

  twin_in : (e : ℕ) → e < N → twin s l e < N
  twin_in e h = subst (λ (x : ℕ). x < N) (sym (on_vertex e h).mate) (mate_lt N fi.h_even e h)

  even_twin : (k : ℕ) → k < N / 2 → twin s l (2 * k) ≡ 2 * k + 1
  even_twin k h = (on_vertex (2 * k) (omega arith)).mate ∙ mate_even k

  odd_twin : (k : ℕ) → k < N / 2 → twin s l (2 * k + 1) ≡ 2 * k
  odd_twin k h = (on_vertex (2 * k + 1) (omega arith)).mate ∙ mate_odd k

  twin_twin : (e : ℕ) → e < N → twin s l (twin s l e) ≡ e
  twin_twin = twin_of_twin s l fi.h_even even_twin odd_twin

  rule_2 : h2 s l ≡ true
  unfolding h2 vertex_in_range face_in_range
  rule_2 =
      and_intro _ _ (and_intro _ _ (all_intro (vertex_in_range s l) _ (λ v h. lt-ltb _ _ (corner_start v h).low))
      (all_intro (edge_in_range s l) _ (λ e h.
      edge_fit s l e (record { next_in = ringed_next s l r e h; twin_in = twin_in e h; origin_in = (corner_home e h).0; face_in = (face_home s l r e h).0 }))))
      (all_intro (face_in_range s l) _ (λ f h. lt-ltb _ _ (face_start s l r f h).low))

  rule_3 : h3 s l ≡ true
  unfolding h3 twins_at
  rule_3 = all_intro (twins_at s l) _ (λ k h. and_intro _ _ (eq-eqb _ _ (even_twin k h)) (eq-eqb _ _ (odd_twin k h)))

  rule_4 : h4 s l ≡ true
  unfolding h4 linked_at
  rule_4 = all_intro (linked_at s l) _ (λ e h.
      and_intro _ _ (eq-eqb _ _ (face_keeps s l r e h))
      (eq-eqb _ _ (ap (λ (x : ℕ). origin s l (next s l x)) (sym (twin_twin e h)) ∙ corner_keeps (twin s l e) (twin_in e h))))

  rule_7 : h7 s l ≡ true
  unfolding h7 fan_right fan_holds
  rule_7 = all_intro (fan_right s l) _ (λ v h.
      and_intro _ _ (eq-eqb _ _ (corner_start v h).on)
      (all_intro (fan_holds s l v) _ (λ e le.
      implies_intro _ _ (λ q. subst (λ (x : ℕ). has e (fan s l x) ≡ true) (eqb-true _ _ q) (corner_home e le).1))))

  pub toured_right : 0 ≡ broken_links s l
  unfolding broken_links
  toured_right =
      passes 2 0 _ _ rule_2 (passes 3 0 _ _ rule_3
      (passes 4 0 _ _ rule_4 (passes 5 0 _ _ (rule_5 s l r) (passes 6 0 _ _ (rule_6 s l r) (passes 7 0 _ _ rule_7 (none_broken 8))))))
