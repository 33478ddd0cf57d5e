-- `every`: before each turn, ok tells of any test that the calls so far answer whether it is true of all numbers so far.
use Rattle.std.specs.Prelude.{◌≡◌, ℕ, Bool, ◌<◌}
use Rattle.hull_links.specs.Tests.{all}
use Rattle.hull.proofs.rule8.every.Given as goal

abbrev pub invariant-loop-i : goal.invariant-loop-i
invariant-loop-i g l =
    (p : ℕ → Bool) → ((k : ℕ) (b : Bool) → k < l.i → goal.F-post g l.test k b → b ≡ p k) → l.ok ≡ all p l.i
