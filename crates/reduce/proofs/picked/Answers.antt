-- `picked`: what each search finds is read at its place, and is what the definition picks.
use mathlib.Core.Path.{ap, ◌∙◌}
use native.Mathlib.Omega.{arith}
use Rattle.reduce_points.specs.Points.{normal_of, contact_of}
use Rattle.reduce.proofs.Taking.{One, Two, Three, none_taken, low1, one, one_taken, only_one, low2, two, two_taken, low3, three, three_taken, low4}
use Rattle.reduce.proofs.Taking.{four_taken}
use Rattle.reduce.proofs.picked.Goals as goal
use Rattle.reduce.proofs.picked.Goals.{After-at-v1, After-at-v2, After-at-v3}

-- what is known once each image is read
abbrev One-at : After-at-v1 → Type 0
One-at c = One c.args.images.now c.args.far c.args.direction c.in-Some.j1 c.at-v1.result

abbrev Two-at : After-at-v2 → Type 0
Two-at c = Two c.args.images.now c.args.far c.args.direction c.in-Some.j1 c.at-v1.result c.in-Some-index.j2 c.standing1-place2.result c.at-v2.result

abbrev Three-at : After-at-v3 → Type 0
Three-at c = Three c.args.images.now c.args.far c.args.direction c.in-Some.j1 c.at-v1.result c.in-Some-index.j2 c.standing1-place2.result c.at-v2.result
    c.in-Some-index-2.j3 c.standing2-place3.result c.at-v3.result

first : (c : After-at-v1) → One-at c
first c =
    let low = low1 c.args.images.now _ _ _ c.first_search.ensures _ c.in-Some.is in
    one _ _ _ _ c.first_search.ensures _ c.in-Some.is _ (c.at-v1.ensures.image c.requires.0 low)

second : (c : After-at-v2) → One c.args.images.now c.args.far c.args.direction c.in-Some.j1 c.at-v1.result → Two-at c
second c a =
    let low = low2 _ _ _ _ _ a _ c.second_search-second.ensures _ c.in-Some-index.is _ c.standing1-place2.ensures in
    two _ _ _ _ _ a _ c.second_search-second.ensures _ c.in-Some-index.is _ c.standing1-place2.ensures c.if-second-far.false _
    (c.at-v2.ensures.image c.requires.0 low)

third : (c : After-at-v3)
    → Two c.args.images.now c.args.far c.args.direction c.in-Some.j1 c.at-v1.result c.in-Some-index.j2 c.standing1-place2.result c.at-v2.result
    → Three-at c
third c a =
    let low = low3 _ _ _ _ _ _ _ _ a _ c.third_search.ensures _ c.in-Some-index-2.is _ c.standing2-place3.ensures in
    three _ _ _ _ _ _ _ _ a _ c.third_search.ensures _ c.in-Some-index-2.is _ c.standing2-place3.ensures _ (c.at-v3.ensures.image c.requires.0 low)

pub returns-in_default : goal.returns-in_default
unfolding normal_of contact_of
returns-in_default c =
    c.empty_contact.ensures ∙ ap (contact_of c.args.images.now.normal) (none_taken c.args.images.now _ _ _ c.first_search.ensures c.in_default.is)

pub at-v1-requires : goal.at-v1-requires
at-v1-requires c = (c.requires.0.low, omega (arith, c.requires.0.few, low1 c.args.images.now _ _ _ c.first_search.ensures _ c.in-Some.is))

pub overflow_cast-j1 : goal.overflow_cast-j1
overflow_cast-j1 c = omega (arith, c.requires.0.few, low1 c.args.images.now _ _ _ c.first_search.ensures _ c.in-Some.is)

pub returns-in_default-index : goal.returns-in_default-index
returns-in_default-index c =
    rw (c.one_point.ensures, c.point_of-p1.ensures)
    (ap (contact_of c.args.images.now.normal)
    (only_one _ _ _ _ _ (first (goal.at.returns-in_default-index c).After-at-v1) _ c.second_search-second.ensures c.requires.2 c.in_default-index.is))

pub returns-then-second-far : goal.returns-then-second-far
returns-then-second-far c =
    rw (c.one_point-then-second-far.ensures, c.point_of-p1.ensures)
    (ap (contact_of c.args.images.now.normal)
    (one_taken _ _ _ _ _ (first (goal.at.returns-then-second-far c).After-at-v1) _ c.second_search-second.ensures c.if-second-far.true))

pub at-v2-requires : goal.at-v2-requires
at-v2-requires c =
    let a = first (goal.at.at-v2-requires c).After-at-v1 in
    let low = low2 _ _ _ _ _ a _ c.second_search-second.ensures _ c.in-Some-index.is _ c.standing1-place2.ensures in
    (c.requires.0.low, omega (arith, c.requires.0.few, low))

pub overflow_cast-place2 : goal.overflow_cast-place2
overflow_cast-place2 c =
    let a = first (goal.at.overflow_cast-place2 c).After-at-v1 in
    omega (arith, c.requires.0.few, low2 _ _ _ _ _ a _ c.second_search-second.ensures _ c.in-Some-index.is _ c.standing1-place2.ensures)

pub returns-in_default-index-2 : goal.returns-in_default-index-2
returns-in_default-index-2 c =
    let at = goal.at.returns-in_default-index-2 c in
    rw (c.two_points.ensures, c.point_of-p1.ensures, c.point_of-p2.ensures)
    (ap (contact_of c.args.images.now.normal)
    (two_taken _ _ _ _ _ _ _ _ (second at.After-at-v2 (first at.After-at-v1)) _ c.third_search.ensures c.in_default-index-2.is))

pub at-v3-requires : goal.at-v3-requires
at-v3-requires c =
    let at = goal.at.at-v3-requires c in
    let low = low3 _ _ _ _ _ _ _ _ (second at.After-at-v2 (first at.After-at-v1)) _ c.third_search.ensures _ c.in-Some-index-2.is _
    c.standing2-place3.ensures in
    (c.requires.0.low, omega (arith, c.requires.0.few, low))

pub overflow_cast-place3 : goal.overflow_cast-place3
overflow_cast-place3 c =
    let at = goal.at.overflow_cast-place3 c in
    omega (
      arith,
      c.requires.0.few,
      low3 _ _ _ _ _ _ _ _ (second at.After-at-v2 (first at.After-at-v1)) _ c.third_search.ensures _ c.in-Some-index-2.is _ c.standing2-place3.ensures,
    )

pub returns-in_default-index-3 : goal.returns-in_default-index-3
returns-in_default-index-3 c =
    let at = goal.at.returns-in_default-index-3 c in
    rw (c.three_points.ensures, c.point_of-p1.ensures, c.point_of-p2.ensures, c.point_of-p3.ensures)
    (ap (contact_of c.args.images.now.normal)
    (three_taken _ _ _ _ _ _ _ _ _ _ _ (third at.After-at-v3 (second at.After-at-v2 (first at.After-at-v1))) _
    (rw c.first_three-t.ensures at c.fourth_search.ensures) c.in_default-index-3.is))

pub at-v4-requires : goal.at-v4-requires
at-v4-requires c =
    let at = goal.at.at-v4-requires c in
    let low = low4 _ _ _ _ _ _ _ _ _ _ _ (third at.After-at-v3 (second at.After-at-v2 (first at.After-at-v1))) _
    (rw c.first_three-t.ensures at c.fourth_search.ensures) _ c.in-Some-index-3.is _ c.standing3-place4.ensures in
    (c.requires.0.low, omega (arith, c.requires.0.few, low))

pub overflow_cast-place4 : goal.overflow_cast-place4
overflow_cast-place4 c =
    let at = goal.at.overflow_cast-place4 c in
    omega (
      arith,
      c.requires.0.few,
      low4 _ _ _ _ _ _ _ _ _ _ _ (third at.After-at-v3 (second at.After-at-v2 (first at.After-at-v1))) _
          (rw c.first_three-t.ensures at c.fourth_search.ensures) _ c.in-Some-index-3.is _ c.standing3-place4.ensures,
    )

pub returns : goal.returns
returns c =
    let at = goal.at.returns c in
    let a = third at.After-at-v3 (second at.After-at-v2 (first at.After-at-v1)) in
    let best = rw c.first_three-t.ensures at c.fourth_search.ensures in
    let low = low4 _ _ _ _ _ _ _ _ _ _ _ a _ best _ c.in-Some-index-3.is _ c.standing3-place4.ensures in
    rw (c.four_points.ensures, c.point_of-p1.ensures, c.point_of-p2.ensures, c.point_of-p3.ensures, c.point_of-p4.ensures)
    (ap (contact_of c.args.images.now.normal)
    (four_taken _ _ _ _ _ _ _ _ _ _ _ a _ best _ c.in-Some-index-3.is _ c.standing3-place4.ensures _ (c.at-v4.ensures.image c.requires.0 low)))
