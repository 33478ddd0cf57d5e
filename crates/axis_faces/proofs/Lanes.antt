-- The lanes of the support search: each is finite, and after the first group each carries the number of a vertex or of padding; so the search answers
-- such a number. Assumes nothing.
use mathlib.Core.Path.{◌≡◌, refl, sym, ap, ◌∙◌, subst}
use mathlib.Core.Logic.{⊎_elim}
use mathlib.Core.Bool.{true}
use mathlib.Core.List.{List}
use Prim.Native.Nat.{ℕ, zero, suc, ◌+◌, ◌-◌, ◌*◌, ◌/◌, ◌<◌, ◌≤◌}
use native.Mathlib.Nat.{lt_of_lt_of_le}
use native.Mathlib.Numerals.{add-one}
use native.Mathlib.Omega.{arith}
use lib.Dec.{T}
use lib.Ieee as Ieee
use lib.Ieee.{Float, binary32, fits}
use lib.Ieee.Scale.{finite}
use Rattle.bounds.specs.LowBits.{embed_of, index_of}
use Rattle.bounds.proofs.Laws as coarser
use Rattle.bounds.proofs.Laws.{picked}
use Rattle.bounds.proofs.Within.{is_finite}
use Rattle.bounds.proofs.LowBits.{embed_finite, embed_index}
use Rattle.vector.specs.declared.Vec3.{Vec3}
use Rattle.vector.specs.Rounded.{float}
use Rattle.vector.specs.Within.{VecWithin}
use Rattle.units.specs.Limits.{huge}
use Rattle.units.proofs.Laws.{huge_below, start_number}
use Rattle.lanes.specs.declared.FloatW.{FloatW}
use Rattle.lanes.specs.Lanes.{FiniteW, embed_w_of, least_of, least_w_of, lesser_of, min_index_of}
use Rattle.hull_links.specs.declared.HullSize.{HullSize}
use Rattle.hull_links.specs.Links.{padded}
use Rattle.hull.specs.Numbers.{vertex_at}
use Rattle.axis_faces.specs.Support.{support_value_of, group_of, splat_of, least_lanes, support_of}
use Rattle.axis_faces.specs.inner.Ready.{SupportReady}
use Rattle.axis_faces.proofs.Starts.{value_within, value_fits, under_start, start_gives_way}

-- x is finite, and carries a number below n
record Lane (n : ℕ) (x : Float) : Type 0 where
  bounded : T (finite x)
  numbered : index_of x < n

record FourLanes (n : ℕ) (v : FloatW) : Type 0 where
  on_x : Lane n v.x
  on_y : Lane n v.y
  on_z : Lane n v.z
  on_w : Lane n v.w

least_lane : {n : ℕ} {a b : Float} → Lane n a → Lane n b → Lane n (least_of a b)
unfolding least_of
least_lane {n} {a} {b} p q = picked (Lane n) (Ieee.le a b) p q

lesser_lane : {n : ℕ} {a b : Float} → Lane n a → Lane n b → Lane n (lesser_of a b)
unfolding lesser_of
lesser_lane {n} {a} {b} p q = picked (Lane n) (Ieee.lt b a) q p

least_lanes_lem : {n : ℕ} {a b : FloatW} → FourLanes n a → FourLanes n b → FourLanes n (least_w_of a b)
unfolding least_w_of
least_lanes_lem p q =
    record {
      on_x = least_lane p.on_x q.on_x;
      on_y = least_lane p.on_y q.on_y;
      on_z = least_lane p.on_z q.on_z;
      on_w = least_lane p.on_w q.on_w;
    }

index_in : {n : ℕ} {a : FloatW} → FourLanes n a → min_index_of a < n
unfolding min_index_of
index_in p = (lesser_lane (lesser_lane (lesser_lane p.on_x p.on_y) p.on_z) p.on_w).numbered

embedded : (x : Float) (i n : ℕ) → T (fits binary32 x) → T (finite x) → i < n → n ≤ 128 → Lane n (embed_of x i)
embedded x i n F p h k =
    let l : i < 128 = lt_of_lt_of_le h k in
    record { bounded = embed_finite x i F p l; numbered = subst (λ (j : ℕ). j < n) (sym (embed_index x i F p l)) h }

module _ {bias : Float} {d : Vec3} {s : HullSize} {n : List Float} (R : SupportReady bias d s n) where
  -- the value that is worked out for vertex v
  pub value_finite : (v : ℕ) (at : Vec3) (x : Float) → v < padded s → at ≡ vertex_at s n v → x ≡ support_value_of bias d at → T (finite x)
  value_finite v at x h p q =
      subst (λ (y : Float). T (finite y)) (sym q)
      (is_finite (value_within R.bias_within R.direction_within (subst (VecWithin 4000 26) (sym p) (R.vertices_within v h))))

  value_lane : (v : ℕ) → v < padded s → Lane (padded s) (embed_of (support_value_of bias d (vertex_at s n v)) v)
  value_lane v h =
      embedded (support_value_of bias d (vertex_at s n v)) v (padded s) (value_fits bias d (vertex_at s n v)) (value_finite v _ _ h refl refl) h
      (omega (arith, R.fit.v_high))

  group_lanes : (base : ℕ) → base + 3 < padded s → FourLanes (padded s) (group_of bias d s n base)
  unfolding group_of embed_w_of
  group_lanes base h =
      record {
        on_x = value_lane base (omega (arith, h));
        on_y = value_lane (base + 1) (omega (arith, h));
        on_z = value_lane (base + 2) (omega (arith, h));
        on_w = value_lane (base + 3) h;
      }

  -- ---- the first group: the starting value carries number 0, or it is above every value and gives way
  start_finite : T (finite (huge s.unit))
  start_finite = coarser.is_finite (huge_below s.unit)

  start_lanes : index_of (huge s.unit) ≡ 0 → FourLanes (padded s) (splat_of (huge s.unit))
  unfolding splat_of
  start_lanes e =
      let l : Lane (padded s) (huge s.unit) = record { bounded = start_finite; numbered = omega (arith, e, R.fit.v_low) } in
      record { on_x = l; on_y = l; on_z = l; on_w = l }

  value_under : huge s.unit ≡ float 0x4cbe_bc20 → (v : ℕ) → v < padded s
      → Ieee.lt (embed_of (support_value_of bias d (vertex_at s n v)) v) (huge s.unit) ≡ true
  value_under e v h =
      ap (Ieee.lt (embed_of (support_value_of bias d (vertex_at s n v)) v)) e
      ∙ under_start v (omega (arith, h, R.fit.v_high)) R.bias_within R.direction_within (R.vertices_within v h)

  first_instead : huge s.unit ≡ float 0x4cbe_bc20 → least_w_of (splat_of (huge s.unit)) (group_of bias d s n 0) ≡ group_of bias d s n 0
  unfolding splat_of group_of embed_w_of
  first_instead e =
      let under : (v : ℕ) → v < 4 → Ieee.lt (embed_of (support_value_of bias d (vertex_at s n v)) v) (huge s.unit) ≡ true =
      λ v h. value_under e v (omega (arith, h, R.fit.v_low)) in
      start_gives_way _ _ (under 0 (omega arith)) (under 1 (omega arith)) (under 2 (omega arith)) (under 3 (omega arith))

  first_lanes : FourLanes (padded s) (least_w_of (splat_of (huge s.unit)) (group_of bias d s n 0))
  first_lanes =
      let first = group_lanes 0 (omega (arith, R.fit.v_low)) in
      ⊎_elim (λ zero_bits. least_lanes_lem (start_lanes zero_bits) first) (λ largest. subst (FourLanes (padded s)) (sym (first_instead largest)) first)
      (start_number s.unit)

  -- ---- all groups
  lanes_after : (g : ℕ) → suc g ≤ (s.vertices + 3) / 4 → FourLanes (padded s) (least_lanes bias d s n (suc g))
  unfolding least_lanes
  lanes_after zero h = first_lanes
  lanes_after (suc g) h = least_lanes_lem (lanes_after g (omega (arith, h))) (group_lanes (4 * suc g) (omega (arith, h)))

  finite_lanes : {v : FloatW} (a : FloatW) → FourLanes (padded s) v → a ≡ v → FiniteW a
  finite_lanes a l e =
      subst FiniteW (sym e) (record { on_x = l.on_x.bounded; on_y = l.on_y.bounded; on_z = l.on_z.bounded; on_w = l.on_w.bounded })

  pub group_finite : (base : ℕ) (a : FloatW) → base + 3 < padded s → a ≡ group_of bias d s n base → FiniteW a
  group_finite base a h e = finite_lanes a (group_lanes base h) e

  pub lanes_finite : (g : ℕ) (a : FloatW) → g ≤ (s.vertices + 3) / 4 → a ≡ least_lanes bias d s n g → FiniteW a
  unfolding least_lanes splat_of
  lanes_finite zero a h e = subst FiniteW (sym e) (record { on_x = start_finite; on_y = start_finite; on_z = start_finite; on_w = start_finite })
  lanes_finite (suc g) a h e = finite_lanes a (lanes_after g h) e

  pub support_in : support_of bias d s n < padded s
  unfolding support_of
  support_in =
      let some : suc ((s.vertices + 3) / 4 - 1) ≡ (s.vertices + 3) / 4 = omega (arith, R.fit.v_low) in
      subst (λ (g : ℕ). min_index_of (least_lanes bias d s n g) < padded s) some (index_in (lanes_after ((s.vertices + 3) / 4 - 1) (omega (arith, some))))

-- ---- the loop over the groups of four
module _ (bias : Float) (d : Vec3) (s : HullSize) (n : List Float) where
  pub no_group : (start : Float) → start ≡ huge s.unit → splat_of start ≡ least_lanes bias d s n 0
  unfolding least_lanes
  no_group start e = ap splat_of e

  pub one_group : (g : ℕ) (a v r : FloatW) → a ≡ least_lanes bias d s n g → v ≡ group_of bias d s n (4 * g) → r ≡ least_w_of a v
      → r ≡ least_lanes bias d s n (g + 1)
  unfolding least_lanes
  one_group g a v r p q e =
      e ∙ ap (λ (x : FloatW). least_w_of x v) p ∙ ap (least_w_of (least_lanes bias d s n g)) q ∙ ap (least_lanes bias d s n) (sym (add-one g))

  pub all_groups : (g i : ℕ) (a : FloatW) → g ≡ (s.vertices + 3) / 4 → a ≡ least_lanes bias d s n g → i ≡ min_index_of a → i ≡ support_of bias d s n
  unfolding support_of
  all_groups g i a h p e = e ∙ ap min_index_of (p ∙ ap (least_lanes bias d s n) h)
