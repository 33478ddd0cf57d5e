-- `u8::from` of an owner: the code is the definition's own expression.
use Rattle.std.proofs.Common.{rules}
use Rattle.manifold.specs.Pairs.{owner_of}
use Rattle.manifold.proofs.pairs.U8FromFeatureOwner.from.Goals as goal

pub returns-in-ShapeA : goal.returns-in-ShapeA
unfolding owner_of
returns-in-ShapeA c = search rules

pub returns-in-ShapeB : goal.returns-in-ShapeB
unfolding owner_of
returns-in-ShapeB c = search rules
