-- Each test that fails breaks H1; where all but the last pass, the last decides.
use mathlib.Core.Path.{sym, ◌∙◌}
use native.Mathlib.Omega.{arith}
use Rattle.hull_links.proofs.Facts.{no_unit, unfit, fit_last}
use Rattle.hull_rules.proofs.sizes_right.Goals as goal

pub returns-then-not-is_known : goal.returns-then-not-is_known
returns-then-not-is_known c = sym (no_unit _ _ _ (sym c.is_known.ensures ∙ c.if-not-is_known.true))

pub returns-then-size-lt4 : goal.returns-then-size-lt4
returns-then-size-lt4 c = sym (unfit _ _ _ (λ r w. omega arith))

pub returns-then-size-gt128 : goal.returns-then-size-gt128
returns-then-size-gt128 c = sym (unfit _ _ _ (λ r w. omega arith))

pub returns-then-size-ne0 : goal.returns-then-size-ne0
returns-then-size-ne0 c = sym (unfit _ _ _ (λ r w. omega arith))

pub returns-then-size-lt12 : goal.returns-then-size-lt12
returns-then-size-lt12 c = sym (unfit _ _ _ (λ r w. omega arith))

pub returns-then-size-gt256 : goal.returns-then-size-gt256
returns-then-size-gt256 c = sym (unfit _ _ _ (λ r w. omega arith))

pub returns-then-size-lt4-2 : goal.returns-then-size-lt4-2
returns-then-size-lt4-2 c = sym (unfit _ _ _ (λ r w. omega arith))

pub returns-then-size-gt128-2 : goal.returns-then-size-gt128-2
returns-then-size-gt128-2 c = sym (unfit _ _ _ (λ r w. omega arith))

pub returns-then-hull-size : goal.returns-then-hull-size
returns-then-hull-size c = sym (unfit _ _ _ (λ r w. omega arith))

pub returns : goal.returns
returns c =
    let late = c.before.before.before.before.before.before.before.before.before in
    let first = late.before.before.before.before.before.before.before.before.before.before.before in
    let known = sym first.is_known.ensures ∙ first.if-not-is_known.false in
    rw c.planes_from.ensures (fit_last _ _ _ known (omega arith))
