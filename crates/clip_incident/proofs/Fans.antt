-- The loop round a fan: the flattest so far, and the half-edges that are left, make the flattest of all. Assumes nothing.
use Prim.Native.Nat.{ℕ, ◌<◌}
use mathlib.Core.Path.{◌≡◌, refl, sym, ap, ◌∙◌, subst}
use mathlib.Core.Bool.{Bool, true, false, cond}
use mathlib.Core.List.{List, [], ◌∷◌}
use lib.ListN.{length}
use lib.Ieee as Ieee
use lib.Ieee.{Float}
use Rattle.vector.specs.declared.Vec3.{Vec3}
use Rattle.vector.specs.Rounded.{float}
use Rattle.vector.specs.Arithmetic.{dot_of}
use Rattle.hull_links.specs.declared.HullSize.{HullSize}
use Rattle.hull_links.specs.Links.{next, twin, turn, face, vertex_edge}
use Rattle.hull_links.specs.Walks.{ring}
use Rattle.hull_links.proofs.Along.{Each, Along, along, rest, ring_rest, no_more, goes_along, rest_more, rest_shorter, rest_each}
use Rattle.hull.specs.Numbers.{vertex_at, plane_at}
use Rattle.hull.specs.Accepted.{Accepted}
use Rattle.clip_incident.specs.declared.Flattest.{Flattest}
use Rattle.clip_incident.specs.Incident.{projection_of, flatter_of, flattest_from, flattest_of, lower_face_of, incident_face_of}

module _ (s : HullSize) (n : List Float) (l : List ℕ) (normal origin : Vec3) where
  picked : (t : Bool) (P : ℕ → Type 0) (best : Flattest) (e : ℕ) (x : Float) → P e → P best.edge
      → P (cond t (record { edge = e; projection = x }) best).edge
  picked true P best e x p b = p
  picked false P best e x p b = b

  -- the flattest is one of them, or what it set out from
  flat_one : (P : ℕ → Type 0) (best : Flattest) (es : List ℕ) → Each P es → P best.edge → P (flattest_from s n l normal origin best es).edge
  unfolding flattest_from flatter_of
  flat_one P best [] each b = b
  flat_one P best (e ∷ es) each b =
      let x = projection_of s n l normal origin e in
      flat_one P (cond (Ieee.lt x best.projection) (record { edge = e; projection = x }) best) es each.1
      (picked (Ieee.lt x best.projection) P best e x each.0 b)

-- ---- the loop is at half-edge e, with the best so far
pub record Fanning (s : HullSize) (n : List Float) (l : List ℕ) (normal origin : Vec3) (start : ℕ) (first best : Flattest) (e : ℕ) : Type 0 where
  pub here : Along (turn s l) s.half_edges start e
  pub whole : flattest_from s n l normal origin best (e ∷ rest (turn s l) s.half_edges start e)
      ≡ flattest_from s n l normal origin first (start ∷ rest (turn s l) s.half_edges start start)

module _ (s : HullSize) (n : List Float) (l : List ℕ) (ok : Accepted s n l) where
  turn_in : (e : ℕ) → e < s.half_edges → turn s l e < s.half_edges
  turn_in e h = ok.next_in _ (ok.twin_in e h)

  module _ (normal : Vec3) (v : ℕ) (h : v < s.vertices) where
    -- the fan of v sets out from its stored edge
    module _ (start : ℕ) (q : start ≡ vertex_edge s l v) (origin : Vec3) (first : Flattest) where
      pub fan_begins : Fanning s n l normal origin start first first start
      fan_begins =
          let low : start < s.half_edges = subst (λ (x : ℕ). x < s.half_edges) (sym q) (ok.vertex_edge_in v h) in
          record { here = along _ _ _ low (ok.rounds.fans start low); whole = refl }

      module _ (best now : Flattest) (e mate t : ℕ) (x : Float) (f : Fanning s n l normal origin start first best e)
          (p : x ≡ projection_of s n l normal origin e)
          (r : now ≡ flatter_of best e x) (m : mate ≡ twin s l e) (w : t ≡ next s l mate) where
        ahead : t ≡ turn s l e
        ahead = w ∙ ap (next s l) m

        onward : flattest_from s n l normal origin now (rest (turn s l) s.half_edges start e)
            ≡ flattest_from s n l normal origin first (start ∷ rest (turn s l) s.half_edges start start)
        unfolding flattest_from
        onward =
            ap (λ (b : Flattest). flattest_from s n l normal origin b (rest (turn s l) s.half_edges start e)) (r ∙ ap (flatter_of best e) p) ∙ f.whole

        -- a step that does not lead back
        pub fan_goes : (t ≡ start → ⊥) → Fanning s n l normal origin start first now t
        fan_goes nay = record {
          here = goes_along _ _ _ e t f.here ahead nay turn_in;
          whole = ap (flattest_from s n l normal origin now) (sym (rest_more _ _ _ e t f.here ahead nay)) ∙ onward;
        }

        pub fan_shorter : (t ≡ start → ⊥) → length (rest (turn s l) s.half_edges start t) < length (rest (turn s l) s.half_edges start e)
        fan_shorter nay = rest_shorter _ _ _ e t f.here ahead nay

        -- and the one that does
        pub fan_ends : t ≡ start → origin ≡ vertex_at s n v → first ≡ record { edge = start; projection = float 0x7f7f_ffff }
            → now.edge ≡ flattest_of s n l normal v
        unfolding flattest_from flattest_of
        fan_ends back o b =
            let all = ap (flattest_from s n l normal origin now) (sym (no_more _ _ _ e t ahead back)) ∙ onward
            ∙ ap (flattest_from s n l normal origin first) (sym (ring_rest (turn s l) s.half_edges start)) in
            ap (λ (z : Flattest). z.edge) (all ∙ of_the_fan origin first start o b q)
          where
            of_the_fan : (p : Vec3) (b : Flattest) (z : ℕ) → p ≡ vertex_at s n v → b ≡ record { edge = z; projection = float 0x7f7f_ffff }
                → z ≡ vertex_edge s l v
                → flattest_from s n l normal p b (ring (turn s l) s.half_edges z)
                ≡ flattest_from s n l normal (vertex_at s n v) (record { edge = vertex_edge s l v; projection = float 0x7f7f_ffff })
                (ring (turn s l) s.half_edges (vertex_edge s l v))
            of_the_fan p b z hp hb hz = rw (hp, hb, hz)

    -- the flattest half-edge, and the incident face, are in range
    pub flattest_in : flattest_of s n l normal v < s.half_edges
    unfolding flattest_of
    flattest_in =
        let z = ok.vertex_edge_in v h in
        subst (λ (es : List ℕ). (flattest_from s n l normal (vertex_at s n v) (record { edge = vertex_edge s l v; projection = float 0x7f7f_ffff })
        es).edge < s.half_edges)
        (sym (ring_rest (turn s l) s.half_edges (vertex_edge s l v)))
        (flat_one s n l normal (vertex_at s n v) (λ (e : ℕ). e < s.half_edges) _ (vertex_edge s l v
        ∷ rest (turn s l) s.half_edges (vertex_edge s l v) (vertex_edge s l v))
        (z, rest_each (turn s l) s.half_edges (vertex_edge s l v) (λ (e : ℕ). e < s.half_edges) turn_in (vertex_edge s l v) z) z)

    pub incident_in : incident_face_of s n l normal v < s.faces
    unfolding incident_face_of lower_face_of
    incident_in =
        let e = flattest_of s n l normal v in
        let z = flattest_in in
        either (Ieee.lt (dot_of (plane_at s n (face s l e)).normal normal) (dot_of (plane_at s n (face s l (twin s l e))).normal normal))
        (face s l e) (face s l (twin s l e)) (ok.face_in e z) (ok.face_in (twin s l e) (ok.twin_in e z))
      where
        either : (t : Bool) (f g : ℕ) → f < s.faces → g < s.faces → cond t f g < s.faces
        either true f g p q = p
        either false f g p q = q
