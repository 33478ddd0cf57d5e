-- `tried`: the test picks the definition's case.
use Rattle.axis_edges.specs.Edges.{parallel_of, tried_of}
use mathlib.Core.Path.{◌≡◌, sym, ◌∙◌}
use mathlib.Core.Bool.{true, false}
use Rattle.axis_edges.proofs.tried.Goals as goal

pub returns-then-parallel : goal.returns-then-parallel
unfolding tried_of
returns-then-parallel c = let a = c.args in
    let near : parallel_of a.cba a.dba a.a.direction ≡ true = sym c.parallel.ensures ∙ c.if-parallel.true in
    simp near

pub returns : goal.returns
unfolding tried_of
returns c = let a = c.args in
    let wide : parallel_of a.cba a.dba a.a.direction ≡ false = sym c.parallel.ensures ∙ c.if-parallel.false in
    simp (wide, c.better.ensures, c.separation-apart.ensures, c.axis-normal.ensures)
