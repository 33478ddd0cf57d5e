-- `carried_point`: each call answers its own definition, and together they are this one.
use mathlib.Core.Path.{◌≡◌, ap, ◌∙◌}
use Rattle.std.specs.Option.{unwrap_or}
use Rattle.manifold.specs.declared.Point.{Point}
use Rattle.manifold.specs.Pairs.{Flipped, flip_of}
use Rattle.manifold.proofs.Types.{flipped_pair}
use Rattle.contacts.specs.inner.Carried.{carried_point}
use Rattle.contacts.proofs.carried.carried_point.Goals as goal

pub returns : goal.returns
unfolding carried_point
returns c =
    let pair : c.unwrap_or-pair.result ≡ (flip_of c.args.point.pair).pair = c.unwrap_or-pair.ensures
    ∙ ap (λ (p : Point). unwrap_or c.flip_pair.result p.pair) c.unused_point.ensures
    ∙ flipped_pair c.flip_pair.result ∙ ap (λ (f : Flipped). f.pair) c.flip_pair.ensures in
    simp (c.add.ensures, c.mul_mv.ensures, pair)
