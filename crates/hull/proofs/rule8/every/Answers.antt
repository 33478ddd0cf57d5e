-- `every`: before each turn, ok tells of any test that the calls so far answer whether it is true of all numbers so far.
use mathlib.Core.Path.{sym}
use native.Mathlib.Omega.{arith}
use Rattle.hull_links.proofs.Tests.{all_none, all_and, all_end}
use Rattle.hull.proofs.rule8.every.Goals as goal

pub loop-i-init : goal.loop-i-init
loop-i-init g c = λ p _. sym (all_none p)

pub loop-i-preserved : goal.loop-i-preserved
loop-i-preserved g c = λ p told. all_and _ _ _ _ (c.loop-i.invariant p (λ k b h q. told k b (omega (arith, h)) q)) (told _ _ (omega arith) c.test-ok.ensures)

pub returns : goal.returns
returns g c = λ p told. all_end _ _ _ _ (omega arith) (omega arith) (c.loop-i.invariant p (λ k b h q. told k b (omega (arith, h)) q))
