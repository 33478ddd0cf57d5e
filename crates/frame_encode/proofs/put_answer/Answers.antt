-- The head, the points behind it, their candidates' places, and the mark.
use mathlib.Core.Path.{refl}
use Rattle.lists.proofs.Written.{then}
use Rattle.frame_encode.specs.Bytes.{answer_bytes}
use Rattle.frame_encode.proofs.put_answer.Goals as goal

pub returns : goal.returns
unfolding answer_bytes
returns c =
    let mark = c.before.before in
    let places = mark.before.before.before.before in
    let points = places.before.before.before.before in
    let head = points.before.before.before.before.before in
    then (then (then head.put_head.ensures points.put_points.ensures refl) places.put_places.ensures refl) mark.write.ensures refl
