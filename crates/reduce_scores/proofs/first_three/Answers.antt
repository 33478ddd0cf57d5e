-- `first_three`: the sign of the area picks the definition's case.
use mathlib.Core.Path.{◌≡◌}
use mathlib.Core.Bool.{true, false}
use lib.Ieee.{lt}
use Rattle.vector.specs.Rounded.{float}
use Rattle.vector.specs.Arithmetic.{sub_of}
use Rattle.reduce_scores.specs.Scores.{signed_area_of, triangle_of}
use Rattle.reduce_scores.proofs.first_three.Goals as goal

pub returns-then-signed_area : goal.returns-then-signed_area
unfolding triangle_of
returns-then-signed_area c =
    let a = c.args in
    let turned : lt (signed_area_of a.normal a.a (sub_of a.b a.a) a.c) (float 0) ≡ true =
    rw (c.signed_area.ensures, c.sub.ensures) at c.if-signed_area.true in
    simp turned

pub returns : goal.returns
unfolding triangle_of
returns c =
    let a = c.args in
    let straight : lt (signed_area_of a.normal a.a (sub_of a.b a.a) a.c) (float 0) ≡ false =
    rw (c.signed_area.ensures, c.sub.ensures) at c.if-signed_area.false in
    simp straight
