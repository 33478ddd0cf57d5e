-- What was read is what stands there for pair k, and the rules that were noted are the hulls'.
use mathlib.Core.Path.{◌∙◌}
use Rattle.pools_pairs.proofs.Pairs.{rules_same}
use Rattle.step.proofs.Steps.{at_pair}
use Rattle.step.proofs.answer_at.Goals as goal

pub pair_answer-requires : goal.pair_answer-requires
pair_answer-requires c = (
  c.rule_of-rule_a.ensures ∙ rules_same _ _ _ _ _ c.requires.0,
  c.rule_of-rule_b.ensures ∙ rules_same _ _ _ _ _ c.requires.0,
)

pub returns : goal.returns
returns c = at_pair _ _ _ _ _ _ _ c.from_word-a.ensures.0 c.from_word-b.ensures.0 c.transform_at-transform.ensures c.pair_answer.ensures
