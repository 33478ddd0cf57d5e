-- Demand 2, the steps. "On accepted input each answer .. is proved equal to the steps in document 01; the square root is proved against IEEE 754."
-- The steps are the definition `collide_of`; here is what it comes to at each of them. Assumes nothing.
use Prim.Native.Nat.{ℕ}
use mathlib.Core.Bool.{true, false}
use mathlib.Core.List.{List}
use mathlib.Core.Path.{◌≡◌, sym, ap, ◌∙◌}
use lib.Dec.{T}
use lib.IntN.{ℤ, pos}
use lib.Signed.{lt_z}
use lib.Ieee as Ieee
use lib.Ieee.{Float, binary32, fits}
use Rattle.root.specs.Root.{is_root, root_of}
use Rattle.root.proofs.Worked.{root_of_lem, is_root_of}
use Rattle.vector.specs.declared.Transform.{Transform}
use Rattle.vector.specs.Arithmetic.{sub_of, dot_of}
use Rattle.manifold.specs.declared.SatCache.{SatCache}
use Rattle.manifold.specs.declared.Outcome.{Outcome}
use Rattle.manifold.specs.declared.Answer.{Answer}
use Rattle.units.specs.Limits.{speculative}
use Rattle.manifold.specs.Records.{empty_contact, hit_set}
use Rattle.hull_links.specs.declared.HullSize.{HullSize}
use Rattle.axis.specs.declared.AxisApart.{AxisApart}
use Rattle.axis.specs.declared.Search.{Search}
use Rattle.axis.specs.Search.{search_of}
use Rattle.axis.specs.Meaning.{cache_of}
use Rattle.collide_outcome.specs.Served.{Cached}
use Rattle.collide_cached.specs.Ridges.{ridge_of, carried_ridge, crosses_of, axis_between}
use Rattle.collide_cached.specs.Again.{separation_from_a, separation_from_b, cached_face_a_of, cached_face_b_of, cached_edge_of}
use Rattle.collide_full.specs.Full.{apart_built, after_search, full_of}
use Rattle.collide_refusals.specs.Refusals.{refusal_of}
use Rattle.collide_outcome.specs.Answers.{retired_of, accepted, answer_of}
use Rattle.collide.specs.Call.{after_cached, collide_of}
use Rattle.contactlib.specs.Lent.{Called}
use Rattle.promises.specs.Retired.{NoAxis}
use Rattle.collide.proofs.Steps.{call_worked, cached_hit, at_2, at_3, at_4, at_rest}

-- ---- the lent call gives the definition's outcome and cache, and nothing else
module _ (a : Answer) (was : SatCache) (r : Outcome) (is : SatCache) (called : Called a was r is) where
  pub outcome_is : r ≡ a.outcome
  outcome_is = called.answers

  pub next_cache_is : is ≡ a.cache
  next_cache_is = called.updates

  -- two results that the contract admits are the same
  pub one_answer : (r' : Outcome) (is' : SatCache) → Called a was r' is' → (r ≡ r') × (is ≡ is')
  one_answer r' is' other = (called.answers ∙ sym other.answers, called.updates ∙ sym other.updates)

-- ---- the steps, where the capacity is 4 or more and 1 to 4 are passed: hull A is (s, n, l), hull B is (t, m, k), and x places B in A's frame
module _ (s : HullSize) (n : List Float) (l : List ℕ) (t : HullSize) (m : List Float) (k : List ℕ) (x : Transform) (capacity : ℤ) (cache : SatCache)
    (wide : lt_z capacity (pos 4) ≡ false) (right : refusal_of s n l t m k x cache ≡ 0) where
  -- types 1 and 5 to 255 act as type 0: full search
  pub full_search : NoAxis cache.kind → collide_of s n l t m k x capacity cache ≡ answer_of cache (full_of s n l t m k x)
  full_search none =
      sym (call_worked s n l t m k x cache capacity wide right) ∙ sym (at_rest s n l t m k x cache none.not_2 none.not_3 none.not_4)

  -- an axis apart: no points, and the axis in the cache
  pub apart_left : (a : AxisApart) → Search.Apart a ≡ search_of s n l t m k x → answer_of cache (full_of s n l t m k x)
      ≡ accepted (retired_of cache.kind) empty_contact (cache_of a)
  unfolding full_of after_search apart_built answer_of
  apart_left a e = ap (λ (z : Search). answer_of cache (after_search s n l t m k x z)) (sym e)

  -- a cached axis that serves again: "hit 1, done, other cache fields kept"
  pub served : (cached : Cached) → cached.status ≡ 0 → cached.hit ≡ true → after_cached s n l t m k x cache cached ≡ accepted 0 cached.contact
      (hit_set 1 cache)
  served cached p q = sym (cached_hit s n l t m k x cache cached p q)

  -- "Type 2 or 3: .. At or above speculative: hit 1, no points."
  pub face_a_apart : cache.kind ≡ 2 → Ieee.le (speculative s.unit) (separation_from_a s n t m x cache.index_a) ≡ true
      → collide_of s n l t m k x capacity cache ≡ accepted 0 empty_contact (hit_set 1 cache)
  unfolding cached_face_a_of after_cached
  face_a_apart q h = sym (call_worked s n l t m k x cache capacity wide right) ∙ sym (at_2 s n l t m k x cache q) ∙ rw h

  pub face_b_apart : cache.kind ≡ 3 → Ieee.le (speculative s.unit) (separation_from_b s n t m x cache.index_b) ≡ true
      → collide_of s n l t m k x capacity cache ≡ accepted 0 empty_contact (hit_set 1 cache)
  unfolding cached_face_b_of after_cached
  face_b_apart q h = sym (call_worked s n l t m k x cache capacity wide right) ∙ sym (at_3 s n l t m k x cache q) ∙ rw h

  -- "Type 4: .. Strictly above speculative: hit 1, no points."
  pub edge_apart : cache.kind ≡ 4
      → let a = ridge_of s n l cache.index_a in let b = carried_ridge x t m k cache.index_b in
      crosses_of a b ≡ true → Ieee.lt (speculative s.unit) (dot_of (axis_between a b) (sub_of a.end b.end)) ≡ true
      → collide_of s n l t m k x capacity cache ≡ accepted 0 empty_contact (hit_set 1 cache)
  unfolding cached_edge_of after_cached
  edge_apart q c h = sym (call_worked s n l t m k x cache capacity wide right) ∙ sym (at_4 s n l t m k x cache q) ∙ rw (c, h)

-- ---- the square root: the nearest binary32, and no other number is
pub root_right : (x : Float) → T (fits binary32 x) → T (is_root x (root_of x))
root_right = root_of_lem

pub root_only : (x r : Float) → T (fits binary32 x) → T (fits binary32 r) → T (is_root x r) → r ≡ root_of x
root_only = is_root_of
