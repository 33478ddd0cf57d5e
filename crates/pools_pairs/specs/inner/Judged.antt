-- Inner: a list of rules that this call wrote, and what it says of a hull number. Definitions only.
use Rattle.std.specs.Prelude.{ℕ, ◌≤◌, ◌<◌, cond, List, ◌≡◌, ltb, length, get_or, Float}
use Rattle.pools.specs.Pools.{hulls_in, rule_of}

-- what may be believed of a list of rules: this call wrote them
pub record Judged (n : List Float) (l hs js : List ℕ) : Type 0 where
  pub long : hulls_in hs ≤ length js
  pub each : (h : ℕ) → h < hulls_in hs → get_or js h 0 ≡ rule_of n l hs h

-- what a list of m hulls' rules says of hull h: "a hull number that is none" counts as broken
unfoldable pub hull_rule : List ℕ → ℕ → ℕ → ℕ
hull_rule judged m h = cond (ltb h m) (get_or judged h 0) 1
