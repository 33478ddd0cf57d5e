-- The turns of a loop over pairs. Assumes nothing.
use Prim.Native.Nat.{ℕ, ◌+◌, ◌*◌, ◌/◌, ◌≤◌, ◌<◌}
use mathlib.Core.List.{List}
use mathlib.Core.Path.{◌≡◌, refl, ap, subst, ◌∙◌}
use native.Mathlib.Omega.{arith}
use lib.ListN.{length, get_or}
use lib.Ieee.{Float}
use Rattle.lists.specs.Parts.{Parts}
use Rattle.lists.proofs.Parts.{begins, goes_on, still, sum_none, sum_more, sum_most}
use Rattle.manifold.specs.declared.SatCache.{SatCache}
use Rattle.manifold.specs.declared.Answer.{Answer}
use Rattle.pools_rows.specs.Rows.{cache_from, cache_in, cache_words, contact_floats, Answered}
use Rattle.pools_rows.specs.inner.Entered.{Entered}

-- the cache of a pair that has not come yet is the one at entry
pub cache_still : {k : ℕ} {g : ℕ → List ℕ} {was is : List ℕ} → Parts 2 g k was is → cache_in is k ≡ cache_in was k
unfolding cache_in
cache_still {k} {g} {was} {is} p =
    let e : 2 * k + 0 ≡ 2 * k = omega arith in
    let a : get_or is (2 * k) 0 ≡ get_or was (2 * k) 0 = subst (λ i. get_or is i 0 ≡ get_or was i 0) e (still 0 0 p) in
    let b : get_or is (2 * k + 1) 0 ≡ get_or was (2 * k + 1) 0 = still 1 0 p in
    ap (λ x. cache_from x (get_or is (2 * k + 1) 0)) a ∙ ap (cache_from (get_or was (2 * k) 0)) b

module _ (answer : ℕ → SatCache → Answer) (cs : List ℕ) (fs : List Float) where
  pub begun : Answered answer 0 cs fs 0 cs fs
  begun = record { caches = begins 2 _ cs; floats = begins 19 _ fs; points = sum_none _ }

  -- what was answered with the cache that stood there was answered with the one at entry
  pub at_entry : {k r : ℕ} {c : SatCache} {a : Answer} {cs₁ : List ℕ} {fs₁ : List Float}
      → Answered answer k cs fs r cs₁ fs₁ → c ≡ cache_in cs₁ k → a ≡ answer k c → a ≡ answer k (cache_in cs k)
  at_entry {k} w ec ea = ea ∙ ap (answer k) (ec ∙ cache_still w.caches)

  pub turned : {k r v : ℕ} {a : Answer} {cs₁ cs₂ : List ℕ} {fs₁ fs₂ : List Float}
      → Answered answer k cs fs r cs₁ fs₁ → a ≡ answer k (cache_in cs k) → Entered k a cs₁ fs₁ v cs₂ fs₂
      → k < length cs₁ / 2 → k < length fs₁ / 19 → Answered answer (k + 1) cs fs (r + v) cs₂ fs₂
  turned {k} w e p rc rf =
      record {
        caches = goes_on w.caches p.cache (ap (λ y. cache_words y.cache) e) refl (omega arith);
        floats = goes_on w.floats p.floats (ap (λ y. contact_floats y.outcome.contact) e) refl (omega arith);
        points = sum_more _ k w.points (p.count ∙ ap (λ y. y.outcome.contact.count) e);
      }

  pub ended : {k m r : ℕ} {cs₁ : List ℕ} {fs₁ : List Float} → Answered answer k cs fs r cs₁ fs₁ → k ≡ m → Answered answer m cs fs r cs₁ fs₁
  ended {r = r} {cs₁ = cs₁} {fs₁} w e = subst (λ i. Answered answer i cs fs r cs₁ fs₁) e w

  -- the sum of the points fits: at most four a pair
  pub at_most_lem : {k r : ℕ} {cs₁ : List ℕ} {fs₁ : List Float} → ((k : ℕ) (c : SatCache) → (answer k c).outcome.contact.count ≤ 4)
      → Answered answer k cs fs r cs₁ fs₁ → r ≤ 4 * k
  at_most_lem {k} few w = let e = w.points in let s = sum_most 4 _ (λ i. few i (cache_in cs i)) k in omega arith

-- one pair's points
pub count_most : {v : ℕ} {a b : Answer} → v ≡ a.outcome.contact.count → a ≡ b → b.outcome.contact.count ≤ 4 → v ≤ 4
count_most {v} {a} {b} f e h = let g : v ≡ b.outcome.contact.count = f ∙ ap (λ y. y.outcome.contact.count) e in omega arith
