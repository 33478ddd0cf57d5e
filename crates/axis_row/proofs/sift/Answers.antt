-- Where nothing is marked nothing passes; else those that are marked are those that pass.
use mathlib.Core.Path.{◌∙◌}
use native.Mathlib.Omega.{arith}
use Rattle.axis_row.proofs.Marking.{told, none_marked, same_passing}
use Rattle.axis_row.proofs.sift.Goals as goal

pub returns-then-mark-eq0 : goal.returns-then-mark-eq0
returns-then-mark-eq0 c =
    let p = c.requires in
    (omega arith, p.1, c.mark.ensures.long, none_marked _ _ _ _ _ c.mark.ensures p.0.enough c.if-mark-eq0.true)

pub returns : goal.returns
returns c =
    let p = c.requires in (
      c.gather.ensures.0,
      c.gather.ensures.1,
      c.mark.ensures.long,
      c.gather.ensures.2 ∙ same_passing _ _ _ (λ k h. told _ _ _ _ c.mark.ensures k (omega (arith, h, p.0.enough))),
    )
