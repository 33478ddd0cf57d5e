-- Pairs below k are answered, and all at or above k is as at entry. Facts that stand too far back for the search are bound by `let`.
use borrow.Author.Rules.{rules}
use mathlib.Core.Path.{refl}
use Rattle.pools_rows.proofs.Turns.{at_most_lem, count_most}
use Rattle.step.proofs.Steps.{begun, turned, ended, few_in}
use Rattle.step.proofs.answer_pairs.Goals as goal

pub loop-k-init : goal.loop-k-init
loop-k-init c = begun _ _ _ _

pub cache_at-cache-requires : goal.cache_at-cache-requires
cache_at-cache-requires c = let room = c.requires.1 in
    let inv = c.loop-k.invariant in let test = c.loop-k-test.true in let cs = inv.answered.caches.long in search rules

pub answer_at-answer-requires : goal.answer_at-answer-requires
answer_at-answer-requires c = let room = c.requires.1 in let test = c.loop-k-test.true in (
  c.requires.0,
  search rules,
  search rules,
)

pub put_record-requires : goal.put_record-requires
put_record-requires c = let room = c.requires.1 in let inv = c.loop-k.invariant in let test = c.loop-k-test.true in
    let bs = inv.records.long in search rules

pub put_answer-points-requires : goal.put_answer-points-requires
put_answer-points-requires c = let room = c.requires.1 in
    let inv = c.loop-k.invariant in
    let test = c.loop-k-test.true in
    let cs = inv.answered.caches.long in let fs = inv.answered.floats.long in search rules

pub overflow_add-points : goal.overflow_add-points
overflow_add-points c = let inv = c.loop-k.invariant in let most = at_most_lem _ _ _ (few_in _ _ _ _ _) inv.answered in
    let few = count_most c.put_answer-points.ensures.count
    c.answer_at-answer.ensures
    (few_in _ _ _ _ _ _ _) in
    let room = c.requires.1 in
    let test = c.loop-k-test.true in search rules

pub loop-k-preserved : goal.loop-k-preserved
loop-k-preserved c = let room = c.requires.1 in
    let inv = c.loop-k.invariant in let test = c.loop-k-test.true in
    let cs = inv.answered.caches.long in let fs = inv.answered.floats.long in let bs = inv.records.long in
    turned _ _ _ _ inv c.cache_at-cache.ensures
    c.answer_at-answer.ensures refl
    c.put_record.ensures
    c.put_answer-points.ensures (search rules) (search rules)
    (search rules)

pub returns : goal.returns
returns c = ended _ _ _ _ c.loop-k.invariant (search rules)
