-- What is left and what is held have their room at each turn; what was read is told, held or left.
use Rattle.std.proofs.Common.{true, ◌≡◌}
use Rattle.contact.proofs.Runs.{Stands}
use Rattle.contact.proofs.run.Given as goal

abbrev pub invariant-loop : goal.invariant-loop
invariant-loop g l =
    Stands (g.R.Read.remaining l.fn.input) (g.W.Write.contents l.fn.output) (g.R.Read.remaining l.input) (g.W.Write.contents l.output) l.fn.chunk l.fn.out
    l.chunk l.line l.out l.s × (l.s.ok ≡ true)
