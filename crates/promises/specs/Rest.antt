-- Request l of document 02, "a stack at rest": one question asked again and again, each time with the cache that the last answer left. Definitions only.
use Rattle.std.specs.Prelude.{ℕ, zero, suc, ◌≡◌}
use Rattle.manifold.specs.declared.SatCache.{SatCache}
use Rattle.manifold.specs.declared.Outcome.{Outcome}
use Rattle.manifold.specs.declared.Answer.{Answer}
use Rattle.manifold.specs.Records.{hit_set}

-- what a call answers to a cache; its hulls, transform and capacity stay
abbrev pub Asked : Type 0
Asked = SatCache → Answer

-- the cache after so many calls in a row, from this one on
unfoldable pub cache_after : Asked → SatCache → ℕ → SatCache
cache_after ask c zero = c
cache_after ask c (suc n) = (ask (cache_after ask c n)).cache

-- what the call after those answers
unfoldable pub outcome_after : Asked → SatCache → ℕ → Outcome
outcome_after ask c n = (ask (cache_after ask c n)).outcome

-- the answer does not read `hit`: whatever stands there, status, contact and mark are the same, and so is the next cache but for its `hit`
pub record HitUnread (ask : Asked) : Type 0 where
  pub outcome : (hit : ℕ) (c : SatCache) → (ask (hit_set hit c)).outcome ≡ (ask c).outcome
  pub next : (hit : ℕ) (c : SatCache) → hit_set 0 (ask (hit_set hit c)).cache ≡ hit_set 0 (ask c).cache
