-- `collide_judged`: what is left to be refused picks the definition's case; where nothing is, the work may begin.
use Prim.Native.Nat.{ℕ}
use mathlib.Core.Path.{refl, ap, ◌∙◌}
use Rattle.collide_outcome.specs.Answers.{refused_of}
use Rattle.collide_outcome.proofs.Told.{refusal_is_told}
use Rattle.collide.proofs.Steps.{judged_refused, judged_may, judged_worked}
use Rattle.collide.proofs.collide_judged.Goals as goal

pub returns-in-Err : goal.returns-in-Err
returns-in-Err c = let g = c.args in let a = g.a.now in let b = g.b.now in
    let later = rw c.in-Err.is at c.later_refusal.ensures in
    c.refused.ensures ∙ ap (λ (n : ℕ). refused_of n g.cache) c.from.ensures
    ∙ judged_refused a.size a.numbers.now a.links.now b.size b.numbers.now b.links.now g.transform g.cache c.requires.0 c.requires.1 later
    (refusal_is_told c.in-Err.refusal)

pub worked-requires : goal.worked-requires
worked-requires c = let g = c.args in let a = g.a.now in let b = g.b.now in
    let later = rw c.in-Ok.is at c.later_refusal.ensures in
    judged_may a.size a.numbers.now a.links.now b.size b.numbers.now b.links.now g.transform g.cache c.requires.0 c.requires.1 later refl

pub returns-in-Ok : goal.returns-in-Ok
returns-in-Ok c = let g = c.args in let a = g.a.now in let b = g.b.now in
    let later = rw c.in-Ok.is at c.later_refusal.ensures in
    c.worked.ensures ∙ judged_worked a.size a.numbers.now a.links.now b.size b.numbers.now b.links.now g.transform g.cache c.requires.0 c.requires.1 later refl
