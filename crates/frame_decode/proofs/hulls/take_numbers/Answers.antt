-- None, or the numbers before the links and the planes behind them.
use Rattle.frame_decode.proofs.Takes.{taken_length, takes_none, takes_all}
use borrow.Author.Rules.{rules}
use Rattle.frame_decode.proofs.hulls.take_numbers.Goals as goal

pub returns-then-before-planes-gt902 : goal.returns-then-before-planes-gt902
returns-then-before-planes-gt902 c = takes_none _ _ _ _ (search rules)

pub take_floats-requires : goal.take_floats-requires
take_floats-requires c = let asked = c.args in
    let long = taken_length asked.frame.now asked.at asked.s (search rules) in search rules

pub take_floats-requires-2 : goal.take_floats-requires-2
take_floats-requires-2 c = let asked = c.args in
    let long = taken_length asked.frame.now asked.at asked.s (search rules) in search rules

pub returns : goal.returns
returns c = takes_all _ _ _ (search rules)
    c.planes_from-before.ensures
    c.planes_at.ensures c.take_floats.ensures
    c.take_floats-2.ensures
