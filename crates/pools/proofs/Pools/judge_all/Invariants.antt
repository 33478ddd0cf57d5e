-- Each turn writes one hull's rule behind those that stand.
use Rattle.lists.specs.Written.{Wrote, table}
use Rattle.pools.specs.Pools.{rule_of}
use Rattle.pools.proofs.Pools.judge_all.Given as goal

abbrev pub invariant-loop-h : goal.invariant-loop-h
invariant-loop-h l = Wrote l.initial.judged 0 (table (rule_of l.self.numbers.now l.self.links.now l.self.hulls.now) l.h) l.judged
