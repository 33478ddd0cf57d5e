-- `told`: the case of the search's answer.
use borrow.Author.Rules.{rules}
use Rattle.apart.specs.Question.{answered_question}
use Rattle.apart.specs.inner.Ends.{ends_apart}
use Rattle.apart.proofs.told.Goals as goal

pub returns-in-Apart : goal.returns-in-Apart
unfolding answered_question ends_apart
returns-in-Apart c = search rules

pub returns-in-Found : goal.returns-in-Found
unfolding answered_question ends_apart
returns-in-Found c = search rules
