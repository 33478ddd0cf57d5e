-- A source has no candidates only where it says why: one that touches has some. Assumes nothing.
use Prim.Native.Nat.{ℕ, ◌≤◌}
use mathlib.Core.Bool.{Bool, true, false≢true}
use mathlib.Core.List.{List}
use mathlib.Core.Path.{◌≡◌, refl}
use native.Mathlib.Omega.{arith}
use lib.ListN.{length}
use lib.Dec.{eqb, ltb}
use lib.IntN.{ℤ, pos}
use lib.Signed.{lt_z}
use lib.Ieee.{Float}
use borrow.Author.Tests.{ltb-false}
use Rattle.bounds.proofs.Laws.{picked}
use Rattle.vector.specs.declared.Transform.{Transform}
use Rattle.manifold.specs.declared.SatCache.{SatCache}
use Rattle.hull_links.specs.declared.HullSize.{HullSize}
use Rattle.hull_links.proofs.Tests.{cases}
use Rattle.reduce_scores.specs.Images.{touching_of}
use Rattle.axis.specs.declared.Axis.{Axis}
use Rattle.std.specs.Prelude.{Option, Some, None}
use Rattle.axis.specs.declared.Search.{Search}
use Rattle.collide_cached.specs.Ridges.{ridge_of, carried_ridge, crosses_of}
use Rattle.promises.specs.Numbers.{number_of}
use Rattle.promises.specs.Sources.{Source, NoCandidates, from_face_a, from_face_b, edges, none, candidates_from, touches, if_touching}
use Rattle.promises.specs.OneCall.{tried_over, or_pair, search_source, full_source, serves, cached_source, cached_edges, work_source, source_of}

-- "Fewer than 3 left .. not touching"
touching_some : (far : Float) (count : ℕ) (least : Float) → touching_of far count least ≡ true → 3 ≤ count
unfolding touching_of
touching_some far count least h =
    cases (ltb count 3) (λ few. absurd (false≢true (rw few at h))) (λ some. ltb-false count 3 some)

module _ (s : HullSize) (n : List Float) (l : List ℕ) (t : HullSize) (m : List Float) (k : List ℕ) (x : Transform) where
  -- where there are none, the source says why
  abbrev Told : Source → Type 0
  Told source = length (candidates_from s n l t m k x source) ≡ 0 → NoCandidates source

  told_touching : (source : Source) → touches s n l t m k x source ≡ true → Told source
  unfolding touches candidates_from
  told_touching (from_face_a f v) h q = let some = touching_some _ _ _ h in absurd (omega (arith, some, q))
  told_touching (from_face_b f v) h q = let some = touching_some _ _ _ h in absurd (omega (arith, some, q))
  told_touching (edges normal a b) h q = absurd (omega (arith, q))
  told_touching (none why) h q = record { why = why; is = refl }

  told_if : (source : Source) → Told (if_touching s n l t m k x source)
  unfolding if_touching
  told_if source =
      cases (touches s n l t m k x source) (λ p. rw p (told_touching source p)) (λ p. rw p (λ q. record { why = _; is = refl }))

  told_pair : (face : Source) (edge : Option Axis) → Told face → Told (or_pair s n l t m k x face edge)
  unfolding or_pair
  told_pair face None h = h
  told_pair face (Some e) h =
      let pair = edges e.normal e.index_a e.index_b in
      picked Told (tried_over s n l t m k x face e)
      (cases (touches s n l t m k x pair) (λ p. rw p (told_touching pair p)) (λ p. rw p h)) h

  told_search : (search : Search) → Told (search_source s n l t m k x search)
  unfolding search_source
  told_search (Search.Apart a) = λ q. record { why = _; is = refl }
  told_search (Search.Found f) = told_pair _ f.edge (told_if _)

  told_full : Told (full_source s n l t m k x)
  unfolding full_source
  told_full = told_search _

  told_cached : (cache : SatCache) (is_apart : Bool) (source : Source) → Told (cached_source s n l t m k x cache is_apart source)
  unfolding cached_source serves
  told_cached cache is_apart source =
      picked Told is_apart (λ q. record { why = _; is = refl })
      (cases (touches s n l t m k x source) (λ p. picked Told (serves s n l t m k x cache source) (told_touching source p) told_full) (λ p. rw p told_full))

  told_work : (cache : SatCache) → Told (work_source s n l t m k x cache)
  unfolding work_source cached_edges
  told_work cache =
      let a = ridge_of s n l cache.index_a in
      let b = carried_ridge x t m k cache.index_b in
      picked Told (eqb cache.kind 2) (told_cached cache _ _)
      (picked Told (eqb cache.kind 3) (told_cached cache _ _)
      (picked Told (eqb cache.kind 4) (picked Told (crosses_of a b) (told_cached cache _ _) told_full) told_full))

  pub told_call : (capacity : ℤ) (cache : SatCache) → Told (source_of s n l t m k x capacity cache)
  unfolding source_of
  told_call capacity cache =
      picked Told (lt_z capacity (pos 4)) (λ q. record { why = _; is = refl })
      (picked Told (eqb (number_of s n l t m k x capacity cache) 0) (told_work cache) (λ q. record { why = _; is = refl }))
