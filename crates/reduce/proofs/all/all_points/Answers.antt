-- `all_points`: the tests tell how many there are, and the first of them are written out, each at its place.
use mathlib.Core.Path.{◌≡◌, refl}
use native.Mathlib.Omega.{arith}
use native.Mathlib.Nat.{add-zero}
use Rattle.reduce_points.specs.Points.{placed_from, normal_of, contact_of}
use Rattle.reduce.proofs.Listed.{all_of}
use Rattle.reduce.proofs.all.all_points.Goals as goal

pub returns-then-n-eq0 : goal.returns-then-n-eq0
unfolding placed_from normal_of contact_of
returns-then-n-eq0 c =
    let a = c.args in
    all_of a.normal a.corners.now.numbers a.corners.now.tags a.from a.n 0 c.if-n-eq0.true _ refl _ c.empty_contact.ensures

pub returns-then-n-eq1 : goal.returns-then-n-eq1
unfolding placed_from
returns-then-n-eq1 c =
    let one = c.before.before in
    let a = one.args in
    all_of a.normal a.corners.now.numbers a.corners.now.tags a.from a.n 1 c.if-n-eq1.true _
    (rw (one.point_of-p1.ensures, one.image_at.ensures, add-zero a.from)) _ c.one_point.ensures

pub returns-then-n-eq2 : goal.returns-then-n-eq2
unfolding placed_from
returns-then-n-eq2 c =
    let two = c.before.before in
    let one = two.before.before.before in
    let a = one.args in
    all_of a.normal a.corners.now.numbers a.corners.now.tags a.from a.n 2 c.if-n-eq2.true _
    (rw (one.point_of-p1.ensures, one.image_at.ensures, add-zero a.from, two.point_of-p2.ensures, two.image_at-2.ensures)) _
    c.two_points.ensures

pub returns-then-n-eq3 : goal.returns-then-n-eq3
unfolding placed_from
returns-then-n-eq3 c =
    let three = c.before.before in
    let two = three.before.before.before in
    let one = two.before.before.before in
    let a = one.args in
    all_of a.normal a.corners.now.numbers a.corners.now.tags a.from a.n 3 c.if-n-eq3.true _
    (rw (
      one.point_of-p1.ensures,
      one.image_at.ensures,
      add-zero a.from,
      two.point_of-p2.ensures,
      two.image_at-2.ensures,
      three.point_of-p3.ensures,
      three.image_at-3.ensures,
    )) _ c.three_points.ensures

pub returns : goal.returns
unfolding placed_from
returns c =
    let four = c.before in
    let three = four.before.before.before in
    let two = three.before.before.before in
    let one = two.before.before.before in
    let a = one.args in
    let all : a.n ≡ 4 = omega (
      arith,
      c.requires.1,
      four.if-n-eq3.false,
      three.if-n-eq2.false,
      two.if-n-eq1.false,
      one.if-n-eq0.false,
    ) in
    all_of a.normal a.corners.now.numbers a.corners.now.tags a.from a.n 4 all _
    (rw (
      one.point_of-p1.ensures,
      one.image_at.ensures,
      add-zero a.from,
      two.point_of-p2.ensures,
      two.image_at-2.ensures,
      three.point_of-p3.ensures,
      three.image_at-3.ensures,
      four.point_of-p4.ensures,
      four.image_at-4.ensures,
    )) _
    c.four_points.ensures
