-- Request i, units. "At unit 1 demands 1 to 3 read as before": every limit is document 01's number, the rules of a hull and of a transform and the first
-- refusals are those without a unit, and so is each step that names a length. Assumes nothing.
use Prim.Native.Nat.{ℕ, ◌+◌, ◌*◌, ◌/◌}
use mathlib.Core.Bool.{Bool, true, false, cond}
use mathlib.Core.List.{List, [], ◌∷◌}
use mathlib.Core.Path.{◌≡◌, refl, sym, ap, ◌∙◌}
use lib.Dec.{eqb, ltb}
use lib.IntN.{ℤ, pos}
use lib.Signed.{lt_z}
use lib.ListN.{length}
use lib.Ieee as Ieee
use lib.Ieee.{Float}
use borrow.Author.Tests.{eq-eqb}
use Rattle.vector.specs.declared.Vec3.{Vec3}
use Rattle.vector.specs.declared.Transform.{Transform}
use Rattle.vector.specs.Rounded.{◌⊕◌, ◌⊖◌, float}
use Rattle.vector.specs.Scalar.{abs_of}
use Rattle.units.specs.Units.{known_unit}
use Rattle.units.specs.Limits.{slop, speculative, huge, coordinate_limit, offset_limit, edge_limit}
use Rattle.units.proofs.Metres.{slop_1, speculative_1, huge_1, coordinate_1, offset_1, edge_1}
use Rattle.manifold.specs.declared.ClipVertex.{ClipVertex}
use Rattle.manifold.specs.declared.SatCache.{SatCache}
use Rattle.manifold.specs.declared.Outcome.{Outcome}
use Rattle.hull_links.specs.declared.HullSize.{HullSize}
use Rattle.hull_links.specs.Tests.{◌&◌, all, first_broken}
use Rattle.hull_links.specs.Links.{planes_from, origin}
use Rattle.hull_links.specs.Rules.{h1}
use Rattle.hull_limits.specs.Measures.{within_limit, plane_right, ends_apart}
use Rattle.hull_limits.specs.Transform.{transform_right}
use Rattle.hull.specs.Numbers.{number_at, vertex_at, plane_at}
use Rattle.hull.specs.Rule8.{finite_at, small_at, vertex_in_box, plane_right_at, edge_long, h8, broken_rule}
use Rattle.axis_best.specs.Leads.{stops_of}
use Rattle.axis_faces.specs.Support.{splat_of, least_lanes}
use Rattle.axis.specs.declared.Axis.{Axis}
use Rattle.reduce_scores.specs.Images.{touching_of}
use Rattle.reduce.specs.Reduce.{first_picks}
use Rattle.collide_outcome.specs.Builds.{Built}
use Rattle.collide_outcome.specs.Served.{near_of}
use Rattle.collide_full.specs.Full.{tries_edge}
use Rattle.collide_refusals.specs.Refusals.{cache_right, unless, refusal_of}
use Rattle.collide_refusals.proofs.Cases.{means_none}
use Rattle.collide.specs.Call.{collide_of}
use Rattle.contactlib.specs.Lent.{Called}
use Rattle.promises.specs.Units.{h1_in_metres, h8_in_metres, broken_in_metres, transform_in_metres, refusal_in_metres}
use Rattle.promises.proofs.Refusals.{none_given, units_differ}

-- ---- the numbers of document 01
pub record Metres : Type 0 where
  -- "Slop is binary32 0.005 (3ba3d70a), speculative distance four times that (3ca3d70a), starting support value 100000 (47c35000)"
  pub slop_is : slop 1 ≡ float 0x3ba3_d70a
  pub speculative_is : speculative 1 ≡ float 0x3ca3_d70a
  pub starting_value_is : huge 1 ≡ float 0x47c3_5000
  -- 4096, 8192 and 1/1024
  pub coordinate_is : coordinate_limit 1 ≡ float 0x4580_0000
  pub offset_is : offset_limit 1 ≡ float 0x4600_0000
  pub edge_is : edge_limit 1 ≡ float 0x3a80_0000

pub limits_at_1 : Metres
limits_at_1 = record {
  slop_is = slop_1;
  speculative_is = speculative_1;
  starting_value_is = huge_1;
  coordinate_is = coordinate_1;
  offset_is = offset_1;
  edge_is = edge_1;
}

-- ---- the rules of a hull at unit 1
module _ (s : HullSize) (n : List Float) (l : List ℕ) (metres : s.unit ≡ 1) where
  pub h1_at_1 : h1 s n l ≡ h1_in_metres s n l
  unfolding h1 h1_in_metres known_unit ◌&◌
  h1_at_1 = rw metres

  -- H8 at these three limits
  abbrev h8_at : Float → Float → Float → Bool
  h8_at coordinate offset edge =
      all (finite_at n) (length n)
      & all (λ (i : ℕ). within_limit coordinate (number_at n i)) (planes_from s)
      & all (vertex_in_box s n) s.vertices
      & all (λ (f : ℕ). plane_right offset (plane_at s n f)) s.faces
      & all (λ (k : ℕ). ends_apart edge (vertex_at s n (origin s l (2 * k))) (vertex_at s n (origin s l (2 * k + 1)))) (s.half_edges / 2)

  pub h8_at_1 : h8 s n l ≡ h8_in_metres s n l
  unfolding h8 h8_in_metres small_at plane_right_at edge_long within_limit
  h8_at_1 =
      ap (λ (u : ℕ). h8_at (coordinate_limit u) (offset_limit u) (edge_limit u)) metres
      ∙ ap (λ (c : Float). h8_at c (offset_limit 1) (edge_limit 1)) coordinate_1
      ∙ ap (λ (o : Float). h8_at (float 0x4580_0000) o (edge_limit 1)) offset_1
      ∙ ap (λ (e : Float). h8_at (float 0x4580_0000) (float 0x4600_0000) e) edge_1

  pub rules_at_1 : broken_rule s n l ≡ broken_in_metres s n l
  unfolding broken_rule broken_in_metres
  rules_at_1 = rw (h1_at_1, h8_at_1)

-- ---- the rule of a transform
pub transform_at_1 : (x : Transform) → transform_right 1 x ≡ transform_in_metres x
unfolding transform_right transform_in_metres within_limit
transform_at_1 x = rw coordinate_1

-- ---- the steps: every test that names slop, speculative distance or the starting support value
-- "It stops at the first new best strictly above speculative"
pub stops_at_1 : (separation : Float) → stops_of 1 separation ≡ Ieee.lt (float 0x3ca3_d70a) separation
unfolding stops_of
stops_at_1 separation = rw speculative_1

-- "starting support value 100000"
pub start_at_1 : (bias : Float) (d : Vec3) (s : HullSize) (n : List Float) → s.unit ≡ 1 → least_lanes bias d s n 0 ≡ splat_of (float 0x47c3_5000)
unfolding least_lanes
start_at_1 bias d s n metres = ap (λ (u : ℕ). splat_of (huge u)) metres ∙ ap splat_of huge_1

-- "Fewer than 3 left, or least separation at or above speculative: not touching"
pub touching_at_1 : (count : ℕ) (least : Float)
    → touching_of (speculative 1) count least ≡ cond (ltb count 3) false (cond (Ieee.le (float 0x3ca3_d70a) least) false true)
unfolding touching_of
touching_at_1 count least = rw speculative_1

-- "up to four picks by the scores": the first passes over what is above speculative, the others ask for its square
pub picks_at_1 : (direction normal : Vec3) (images : List ClipVertex)
    → first_picks (speculative 1) direction normal images ≡ first_picks (float 0x3ca3_d70a) direction normal images
picks_at_1 direction normal images = ap (λ (far : Float). first_picks far direction normal images) speculative_1

-- "the two separations differ by less than slop"
pub near_at_1 : (cache fresh : SatCache)
    → near_of 1 cache fresh ≡ Ieee.lt (abs_of (float cache.separation ⊖ float fresh.separation)) (float 0x3ba3_d70a)
unfolding near_of
near_at_1 cache fresh = rw slop_1

-- "the edge separation is strictly above the cache's plus slop"
pub tries_edge_at_1 : (built : Built) (e : Axis)
    → tries_edge 1 built e
    ≡ cond (eqb built.contact.count 0) true (Ieee.lt (float built.cache.separation ⊕ float 0x3ba3_d70a) e.separation)
unfolding tries_edge
tries_edge_at_1 built e = rw slop_1

-- "At or above speculative: hit 1, no points", of a cached face; "Strictly above speculative", of cached edges
pub cached_at_1 : (separation : Float) → (Ieee.le (speculative 1) separation ≡ Ieee.le (float 0x3ca3_d70a) separation)
    × (Ieee.lt (speculative 1) separation ≡ Ieee.lt (float 0x3ca3_d70a) separation)
cached_at_1 separation = (rw speculative_1, rw speculative_1)

-- ---- the refusals: with both hulls in metres 17 is never given, and the others are as they were
abbrev given : Bool → Bool → Bool → Bool → Bool → ℕ
given a b u x c = unless 1 a (unless 2 b (unless 17 u (unless 3 x (unless 4 c 0))))

in_order : (a b x c : Bool) → given a b true x c ≡ first_broken 1 (a ∷ b ∷ x ∷ c ∷ [])
unfolding first_broken
in_order false b x c = refl
in_order true false x c = refl
in_order true true false c = refl
in_order true true true false = refl
in_order true true true true = refl

module _ (s : HullSize) (n : List Float) (l : List ℕ) (t : HullSize) (m : List Float) (k : List ℕ) (x : Transform) where
  pub refusals_at_1 : (cache : SatCache) → s.unit ≡ 1 → t.unit ≡ 1 → refusal_of s n l t m k x cache ≡ refusal_in_metres s n l t m k x cache
  unfolding refusal_of refusal_in_metres
  refusals_at_1 cache a b =
      let right_a = eqb (broken_in_metres s n l) 0 in
      let right_b = eqb (broken_in_metres t m k) 0 in
      let named = cache_right s t cache in
      ap (λ (z : ℕ). given (eqb z 0) (eqb (broken_rule t m k) 0) (eqb s.unit t.unit) (transform_right s.unit x) named) (rules_at_1 s n l a)
      ∙ ap (λ (z : ℕ). given right_a (eqb z 0) (eqb s.unit t.unit) (transform_right s.unit x) named) (rules_at_1 t m k b)
      ∙ ap (λ (z : Bool). given right_a right_b z (transform_right s.unit x) named) (eq-eqb s.unit t.unit (a ∙ sym b))
      ∙ ap (λ (u : ℕ). given right_a right_b true (transform_right u x) named) a
      ∙ ap (λ (z : Bool). given right_a right_b true z named) (transform_at_1 x)
      ∙ in_order right_a right_b (transform_in_metres x) named

  -- ---- of what the lent call gives: was is the cache at entry, is at exit
  module _ (capacity : ℤ) (was : SatCache) (r : Outcome) (is : SatCache) (called : Called (collide_of s n l t m k x capacity was) was r is) where
    -- "Both hulls of a call must agree": where input is looked at and accepted, they do
    pub units_agree : lt_z capacity (pos 4) ≡ false → r.status ≡ 0 → s.unit ≡ t.unit
    units_agree wide fine = (means_none s n l t m k x was (none_given s n l t m k x capacity was r is called wide fine)).2

    -- and where they agree, 17 is not given
    pub not_17 : s.unit ≡ t.unit → r.status ≡ 17 → ⊥
    not_17 same q = ((units_differ s n l t m k x capacity was r is called).only q).3 same
