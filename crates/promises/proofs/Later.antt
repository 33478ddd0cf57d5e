-- The numbers that the work can meet: 5 and 6 alone, and 5 from a full search alone. Assumes nothing.
use Prim.Native.Nat.{ℕ, zero, suc, ◌+◌, ◌≤◌, ◌<◌}
use mathlib.Core.Bool.{Bool, true, false, not, false≢true}
use mathlib.Core.List.{List, [], ◌∷◌}
use mathlib.Core.Path.{◌≡◌, refl}
use native.Mathlib.Omega.{arith}
use lib.ListN.{length, get_or}
use lib.Dec.{eqb, ltb}
use lib.Ieee as Ieee
use lib.Ieee.{Float}
use Rattle.bounds.proofs.Laws.{picked}
use Rattle.vector.specs.declared.Transform.{Transform}
use Rattle.manifold.specs.declared.ClipVertex.{ClipVertex}
use Rattle.manifold.specs.declared.SatCache.{SatCache}
use Rattle.units.specs.Limits.{speculative}
use Rattle.hull_links.specs.declared.HullSize.{HullSize}
use Rattle.hull_links.specs.Tests.{first_broken}
use Rattle.hull_links.proofs.Tests.{cases}
use Rattle.axis.specs.declared.Search.{Search}
use Rattle.axis.specs.Search.{search_of}
use Rattle.collide_cached.specs.Again.{separation_from_a, separation_from_b}
use Rattle.promises.specs.Numbers.{Exactly, first_given, cut_meets, face_meets, winner_meets, full_meets, padding_won, cached_meets, hits, work_meets}
use Rattle.promises.proofs.Choices.{choice}

-- ---- tests in their order: which one the number of the first that fails names
at_least : (k : ℕ) (tests : List Bool) → (first_broken k tests ≡ 0 → ⊥) → k ≤ first_broken k tests
unfolding first_broken
at_least k [] h = absurd (h refl)
at_least k (true ∷ tests) h = let later : suc k ≤ first_broken (suc k) tests = at_least (suc k) tests h in omega (arith, later)
at_least k (false ∷ tests) h = omega arith

pub at_most_lem : (k : ℕ) (tests : List Bool) → first_broken k tests ≤ k + length tests
unfolding first_broken
at_most_lem k [] = omega arith
at_most_lem k (true ∷ tests) = let later : first_broken (suc k) tests ≤ suc k + length tests = at_most_lem (suc k) tests in omega (arith, later)
at_most_lem k (false ∷ tests) = omega arith

-- the test at i fails, and those before it do not
pub broken_at : (k i : ℕ) (tests : List Bool) → 0 < k → first_broken k tests ≡ k + i → (get_or tests i true ≡ false)
    × ((j : ℕ) → j < i → get_or tests j true ≡ true)
unfolding first_broken
broken_at k i [] p q = absurd (omega (arith, p, q))
broken_at k zero (false ∷ tests) p q = (refl, λ j h. absurd (omega (arith, h)))
broken_at k (suc i) (false ∷ tests) p q = absurd (omega (arith, q))
broken_at k zero (true ∷ tests) p q =
    let some : first_broken (suc k) tests ≡ 0 → ⊥ = λ z. absurd (omega (arith, p, q, z)) in
    absurd (omega (arith, q, at_least (suc k) tests some))
broken_at k (suc i) (true ∷ tests) p q =
    let later = broken_at (suc k) i tests (omega arith) (omega (arith, q)) in
    (later.0, before later.1)
  where
    before : ((j : ℕ) → j < i → get_or tests j true ≡ true) → (j : ℕ) → j < suc i → get_or (true ∷ tests) j true ≡ true
    before all zero h = refl
    before all (suc j) h = all j (omega (arith, h))

-- ---- what holds of 0 and 6 holds of what a cut meets, and so of what a cached axis does; with 5, of what the work does
module _ (P : ℕ → Type 0) (at_0 : P 0) (at_6 : P 6) where
  cut_has : (candidates : List ClipVertex) → P (cut_meets candidates)
  unfolding cut_meets
  cut_has candidates = picked P (ltb 64 (length candidates)) at_6 at_0

  module _ (s : HullSize) (n : List Float) (l : List ℕ) (t : HullSize) (m : List Float) (k : List ℕ) (x : Transform) where
    pub cached_has : (cache : SatCache) → P (cached_meets s n l t m k x cache)
    unfolding cached_meets
    cached_has cache =
        picked P (eqb cache.kind 2) (picked P (Ieee.le (speculative s.unit) (separation_from_a s n t m x cache.index_a)) at_0 (cut_has _))
        (picked P (eqb cache.kind 3) (picked P (Ieee.le (speculative s.unit) (separation_from_b s n t m x cache.index_b)) at_0 (cut_has _)) at_0)

    module _ (at_5 : P 5) where
      face_has : (other : HullSize) (v : ℕ) (candidates : List ClipVertex) → P (face_meets other v candidates)
      unfolding face_meets
      face_has other v candidates = picked P (ltb v other.vertices) (cut_has candidates) at_5

      winner_has : (search : Search) → P (winner_meets s n l t m k x search)
      unfolding winner_meets
      winner_has (Search.Apart a) = at_0
      winner_has (Search.Found f) =
          picked P (Ieee.lt f.face_b.separation f.face_a.separation) (face_has t _ _) (face_has s _ _)

      full_has : P (full_meets s n l t m k x)
      unfolding full_meets
      full_has = winner_has _

      work_has : (cache : SatCache) → P (work_meets s n l t m k x cache)
      unfolding work_meets first_given
      work_has cache =
          picked P (eqb (cached_meets s n l t m k x cache) 0) (picked P (hits s n l t m k x cache) at_0 full_has) (cached_has cache)

-- ---- above 4 where not 0, and at most 6
abbrev Late : ℕ → Type 0
Late number = (number ≡ 0 → ⊥) → 4 < number

-- a face meets 5 exactly where its support vertex is not below V
abbrev Padding : ℕ → Bool → Type 0
Padding number won = Exactly (won ≡ true) 5 number

module _ (s : HullSize) (n : List Float) (l : List ℕ) (t : HullSize) (m : List Float) (k : List ℕ) (x : Transform) where
  pub work_late : (cache : SatCache) → Late (work_meets s n l t m k x cache)
  work_late = work_has Late (λ h. absurd (h refl)) (λ h. omega arith) s n l t m k x (λ h. omega arith)

  pub work_up_to_6 : (cache : SatCache) → work_meets s n l t m k x cache ≤ 6
  work_up_to_6 = work_has (λ number. number ≤ 6) (omega arith) (omega arith) s n l t m k x (omega arith)

  -- no cached axis meets 5
  pub cached_never_5 : (cache : SatCache) → cached_meets s n l t m k x cache ≡ 5 → ⊥
  cached_never_5 = cached_has (λ number. number ≡ 5 → ⊥) (λ q. omega (arith, q)) (λ q. omega (arith, q)) s n l t m k x

  face_5 : (other : HullSize) (v : ℕ) (candidates : List ClipVertex) → Padding (face_meets other v candidates) (not (ltb v other.vertices))
  unfolding face_meets
  face_5 other v candidates =
      cases (ltb v other.vertices)
      (λ p. rw p (record {
        given = λ q. absurd (false≢true q);
        only = λ q. absurd (cut_has (λ number. number ≡ 5 → ⊥) (λ z. omega (arith, z)) (λ z. omega (arith, z)) candidates q);
      }))
      (λ p. rw p (record { given = λ q. refl; only = λ q. refl }))

  winner_5 : (search : Search) → Padding (winner_meets s n l t m k x search) (padding_won s n l t m k x search)
  unfolding winner_meets padding_won
  winner_5 (Search.Apart a) = record { given = λ q. absurd (false≢true q); only = λ q. absurd (omega (arith, q)) }
  winner_5 (Search.Found f) =
      choice Padding (Ieee.lt f.face_b.separation f.face_a.separation) _ refl (λ h. face_5 t _ _) (λ h. face_5 s _ _)

  pub full_5 : Padding (full_meets s n l t m k x) (padding_won s n l t m k x (search_of s n l t m k x))
  unfolding full_meets
  full_5 = winner_5 _
