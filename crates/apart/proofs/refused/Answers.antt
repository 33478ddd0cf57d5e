-- `refused`: the record of a refusal.
use Rattle.apart.specs.Question.{refused_question}
use Rattle.apart.proofs.refused.Goals as goal

pub returns : goal.returns
unfolding refused_question
returns c = simp c.from.ensures
