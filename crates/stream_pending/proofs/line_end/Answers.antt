-- The first line end.
use borrow.Author.Rules.{rules}
use Rattle.stream_pending.proofs.Scans.{first_end}
use Rattle.stream_pending.proofs.line_end.Goals as goal

pub returns : goal.returns
returns c = first_end c.args.rest.now _ (search rules) (search rules) (search rules)
