-- What the call that is lent the cache says. Definitions only.
use Rattle.std.specs.Prelude.{◌≡◌}
use Rattle.manifold.specs.declared.SatCache.{SatCache}
use Rattle.manifold.specs.declared.Outcome.{Outcome}
use Rattle.manifold.specs.declared.Answer.{Answer}

-- a is the answer by value, was the cache at entry, r the result and is the cache at exit
pub record Called (a : Answer) (was : SatCache) (r : Outcome) (is : SatCache) : Type 0 where
  pub answers : r ≡ a.outcome
  pub updates : is ≡ a.cache
  -- a refusal leaves every bit of the cache
  pub keeps : (r.status ≡ 0 → ⊥) → is ≡ was
