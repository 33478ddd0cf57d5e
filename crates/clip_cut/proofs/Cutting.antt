-- The loop of a cut: what was put out so far, and what the edges that are left will put out, together make the whole cut. Assumes nothing.
use Prim.Native.Nat.{ℕ, ◌+◌, ◌-◌, ◌*◌, ◌≤◌, ◌<◌}
use mathlib.Core.Path.{◌≡◌, refl, sym, ap, ◌∙◌, subst}
use mathlib.Core.Bool.{Bool, true, false, cond}
use mathlib.Core.List.{List, [], ◌∷◌, ◌++◌, append_assoc, append-nil}
use mathlib.Core.Logic.{◌⊎◌, inl, inr}
use native.Mathlib.Omega.{arith}
use native.Mathlib.Numerals.{add-one}
use lib.ListN.{length, get_or, drop, drop_of_length-le}
use lib.Seq.{drop-cons}
use lib.Ieee.{Float}
use Rattle.vector.specs.declared.Plane.{Plane}
use Rattle.vector.specs.Shape.{plane_separation_of}
use Rattle.manifold.specs.declared.ClipVertex.{ClipVertex}
use Rattle.manifold.specs.Records.{zero_vertex, past_vertex}
use Rattle.clip_cut.specs.Cut.{kept, beyond, leaving_of, entering_of, put_out_of, cut_from, last_of, cut_of}
use Rattle.clip_corners.specs.Places.{SideBySide, corner_in, corners_in, Laid}
use Rattle.clip_corners.proofs.Laying.{lays_none, lays_on, beside_stays}
use Rattle.clip_corners.proofs.Reading.{length_in, corner_in_lem}

-- ---- what an edge puts out, by the arms of the definition
module _ (n : List Float) (t : List ℕ) (p k : ℕ) (edge : ℕ) (reference : Plane) (v1 : ClipVertex) (d1 : Float) (v2 : ClipVertex) (d2 : Float) where
  abbrev Out : List Float → List ℕ → ℕ → Type 0
  Out n' t' r = Laid n t p k (put_out_of edge reference v1 d1 v2 d2) n' t' r

  module _ (n' : List Float) (t' : List ℕ) (r : ℕ) where
    pub out_kept : kept d1 ≡ true → kept d2 ≡ true → Laid n t p k (v2 ∷ []) n' t' r → Out n' t' r
    unfolding put_out_of
    out_kept a b x = rw (a, b) x

    pub out_leaving : kept d1 ≡ true → kept d2 ≡ false → beyond d2 ≡ true → (v : ClipVertex) → v ≡ leaving_of edge reference v1 d1 v2 d2
        → Laid n t p k (v ∷ []) n' t' r → Out n' t' r
    unfolding put_out_of
    out_leaving a b c v q x = rw (a, b, c, ← q) x

    pub out_entering : kept d1 ≡ false → beyond d1 ≡ true → kept d2 ≡ true → (v : ClipVertex) → v ≡ entering_of edge reference v1 d1 v2 d2
        → (n'' : List Float) (t'' : List ℕ) (m : ℕ)
        → Laid n t p k (v ∷ []) n'' t'' m → Laid n'' t'' p m (v2 ∷ []) n' t' r → Out n' t' r
    unfolding put_out_of
    out_entering a b c v q n'' t'' m x y = rw (a, b, c, ← q) (lays_on n t p k (v ∷ []) n'' t'' m x (v2 ∷ []) n' t' r y)

  -- no corner: to a NaN, from beyond to beyond, from a NaN
  pub out_none_1 : kept d1 ≡ true → kept d2 ≡ false → beyond d2 ≡ false → Out n t k
  unfolding put_out_of
  out_none_1 a b c = rw (a, b, c) (lays_none n t p k)

  pub out_none_2 : kept d1 ≡ false → beyond d1 ≡ true → kept d2 ≡ false → Out n t k
  unfolding put_out_of
  out_none_2 a b c = rw (a, b, c) (lays_none n t p k)

  pub out_none_3 : kept d1 ≡ false → beyond d1 ≡ false → Out n t k
  unfolding put_out_of
  out_none_3 a b = rw (a, b) (lays_none n t p k)

-- two corners at most
short : (p q r s : Bool) (v l e : ClipVertex) → length (cond p (cond q (v ∷ []) (cond r (l ∷ []) [])) (cond s (cond q (e ∷ v ∷ []) []) [])) ≤ 2
short true true r s v l e = omega arith
short true false true s v l e = omega arith
short true false false s v l e = omega arith
short false true r true v l e = omega arith
short false false r true v l e = omega arith
short false q r false v l e = omega arith

put_out_short : (edge : ℕ) (reference : Plane) (v1 : ClipVertex) (d1 : Float) (v2 : ClipVertex) (d2 : Float)
    → length (put_out_of edge reference v1 d1 v2 d2) ≤ 2
unfolding put_out_of
put_out_short edge reference v1 d1 v2 d2 =
    short (kept d1) (kept d2) (beyond d2) (beyond d1) v2 (leaving_of edge reference v1 d1 v2 d2) (entering_of edge reference v1 d1 v2 d2)

-- ---- the corner that the first edge comes from
last_cons : (w : ClipVertex) (vs : List ClipVertex) → last_of w vs ≡ get_or (w ∷ vs) (length vs) past_vertex
unfolding last_of
last_cons w [] = refl
last_cons w (x ∷ vs) = last_cons x vs

last_at : (vs : List ClipVertex) → 0 < length vs → last_of zero_vertex vs ≡ get_or vs (length vs - 1) past_vertex
unfolding last_of
last_at [] h = absurd (omega arith)
last_at (w ∷ vs) h =
    let e : length (w ∷ vs) - 1 ≡ length vs = omega arith in
    last_cons w vs ∙ ap (λ (i : ℕ). get_or (w ∷ vs) i past_vertex) (sym e)

-- ---- the loop: i edges are done, k corners were put out, and the next edge comes from v1
module _ (n : List Float) (t : List ℕ) (p m : ℕ) (plane : Plane) (edge : ℕ) (reference : Plane) (q : ℕ) where
  abbrev polygon : List ClipVertex
  polygon = corners_in n t p m

  pub record Cutting (n' : List Float) (t' : List ℕ) (v1 : ClipVertex) (d1 : Float) (k i : ℕ) : Type 0 where
    pub done : List ClipVertex
    pub stored : Laid n t q 0 done n' t' k
    pub few : k ≤ 2 * i
    pub distance : d1 ≡ plane_separation_of plane v1.position
    pub whole : done ++ cut_from plane edge reference v1 (drop i polygon) ≡ cut_of plane edge reference polygon

  pub begins : (v1 : ClipVertex) (d1 : Float) → 0 < m → v1 ≡ corner_in n t (p + (m - 1)) → d1 ≡ plane_separation_of plane v1.position → Cutting n t v1 d1 0 0
  unfolding cut_of
  begins v1 d1 h e d =
      let long = length_in n t p m in
      let z : length polygon - 1 ≡ m - 1 = omega (arith, long) in
      let last : v1 ≡ last_of zero_vertex polygon =
      e ∙ sym (corner_in_lem n t p m (m - 1) past_vertex (omega arith)) ∙ ap (λ (i : ℕ). get_or polygon i past_vertex) (sym z)
      ∙ sym (last_at polygon (omega (arith, long))) in
      record {
        done = [];
        stored = lays_none n t q 0;
        few = omega arith;
        distance = d;
        whole = ap (λ (v : ClipVertex). cut_from plane edge reference v polygon) last;
      }

  module _ (sides : SideBySide p q) (most : m ≤ 64) (n' : List Float) (t' : List ℕ) (v1 : ClipVertex) (d1 : Float) (k i : ℕ) (c : Cutting n' t' v1 d1 k i) where
    module _ (inside : i < m) where
      -- the polygon that is cut stands as it stood
      stays : corner_in n' t' (p + i) ≡ corner_in n t (p + i)
      stays = beside_stays n t q 0 c.done n' t' k c.stored (p + i) (by sides.apart)
        where
          by : (p + 64 ≤ q) ⊎ (q + 64 ≤ p) → (p + i < q + 0) ⊎ (q + 64 ≤ p + i)
          by (inl h) = inl (omega arith)
          by (inr h) = inr (omega arith)

      pub goes_on : (v2 : ClipVertex) (d2 : Float) → v2 ≡ corner_in n' t' (p + i) → d2 ≡ plane_separation_of plane v2.position
          → (n'' : List Float) (t'' : List ℕ) (k' : ℕ)
          → Laid n' t' q k (put_out_of edge reference v1 d1 v2 d2) n'' t'' k' → Cutting n'' t'' v2 d2 k' (i + 1)
      unfolding cut_from
      goes_on v2 d2 e d n'' t'' k' x =
          let ws = put_out_of edge reference v1 d1 v2 d2 in
          let here : v2 ≡ get_or polygon i past_vertex = e ∙ stays ∙ sym (corner_in_lem n t p m i past_vertex inside) in
          let r : drop i polygon ≡ v2 ∷ drop (i + 1) polygon = rw (here, add-one i) (drop-cons polygon i past_vertex (omega (arith, length_in n t p m))) in
          record {
            done = c.done ++ ws;
            stored = lays_on n t q 0 c.done n' t' k c.stored ws n'' t'' k' x;
            few = omega (arith, c.few, x.counted, put_out_short edge reference v1 d1 v2 d2);
            distance = d;
            whole = append_assoc c.done ws (cut_from plane edge reference v2 (drop (i + 1) polygon))
                ∙ ap (λ (x : List ClipVertex). c.done ++ x) (rw (r, ← c.distance, ← d) refl)
                ∙ c.whole;
          }

    -- at the end all was put out
    pub cut_is : m ≤ i → Laid n t q 0 (cut_of plane edge reference polygon) n' t' k
    unfolding cut_from
    cut_is h =
        let all : c.done ≡ cut_of plane edge reference polygon =
        sym (append-nil c.done) ∙ rw (drop_of_length-le polygon {i = i} (omega (arith, length_in n t p m))) at c.whole in
        subst (λ (l : List ClipVertex). Laid n t q 0 l n' t' k) all c.stored
