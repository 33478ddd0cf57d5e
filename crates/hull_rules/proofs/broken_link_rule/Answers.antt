-- Two tours accept; where one fails, H2 to H5 are tried, and its own rule is the broken one if they hold.
use Rattle.hull_tours.proofs.Accept.{toured_right}
use Rattle.hull_rules.proofs.Named.{named, named_6, named_7}
use Rattle.hull_rules.proofs.broken_link_rule.Goals as goal

pub returns-then-not-rings_toured : goal.returns-then-not-rings_toured
returns-then-not-rings_toured c =
    named _ _ _ _ _ c.unwrap_or.ensures c.broken_before_walks.ensures
    (λ q. named_6 _ _ c.requires q _ c.if-not-rings_toured.true c.rings_toured.ensures.1)

pub returns-then-fans_toured : goal.returns-then-fans_toured
returns-then-fans_toured c =
    toured_right _ _ c.requires (c.rings_toured.ensures.0 c.if-not-rings_toured.false) (c.fans_toured.ensures.0 c.if-fans_toured.true)

pub returns : goal.returns
returns c =
    named _ _ _ _ _ c.unwrap_or-2.ensures c.broken_before_walks-2.ensures
    (λ q. named_7 _ _ c.requires q _ c.if-fans_toured.false (c.rings_toured.ensures.0 c.if-not-rings_toured.false) c.fans_toured.ensures.1)
