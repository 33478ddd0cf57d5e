-- The answer to two hulls of the pools. Definitions only.
use Rattle.std.specs.Prelude.{ℕ, cond, List, eqb, ltb, pos, Float}
use Rattle.vector.specs.declared.Transform.{Transform}
use Rattle.manifold.specs.declared.SatCache.{SatCache}
use Rattle.manifold.specs.declared.Answer.{Answer}
use Rattle.collide_outcome.specs.Answers.{refused_of}
use Rattle.collide.specs.Call.{collide_of}
use Rattle.pools.specs.declared.Place.{Place}
use Rattle.pools.specs.Pools.{hulls_in, place_of, numbers_at, links_at, rule_of}

module _ (n : List Float) (l hs : List ℕ) where
  -- the rule of a hull number, 0 if it is a hull's that breaks none
  unfoldable pub number_rule : ℕ → ℕ
  number_rule h = cond (ltb h (hulls_in hs)) (rule_of n l hs h) 1

  -- the single call with capacity 4 on the hulls at two places, each lent its own lists
  unfoldable pub call_at : Place → Place → Transform → SatCache → Answer
  call_at p q x c = collide_of p.size (numbers_at n p) (links_at l p) q.size (numbers_at n q) (links_at l q) x (pos 4) c

  -- hulls a and b: 1, 2 where the number is none or the hull's rule is not 0, else the single call's answer
  unfoldable pub pair_answer : ℕ → ℕ → Transform → SatCache → Answer
  pair_answer a b x c =
      cond (eqb (number_rule a) 0)
      (cond (eqb (number_rule b) 0) (call_at (place_of hs a) (place_of hs b) x c) (refused_of 2 c))
      (refused_of 1 c)
