-- No room, or every hull judged and every pair answered.
use mathlib.Core.Path.{refl, sym, ◌∙◌}
use Rattle.step.proofs.Rooms.{room_is}
use Rattle.step.proofs.Steps.{now_judged, too_short, all_done}
use borrow.Author.Rules.{rules}
use Rattle.step.proofs.step_over.Goals as goal

pub returns-then-not-room : goal.returns-then-not-room
returns-then-not-room c = too_short _ _ _ _ _ _ _ _ _ _ (sym c.room.ensures ∙ c.if-not-room.true) refl refl

pub judge_all-requires : goal.judge_all-requires
judge_all-requires c = (room_is _ _ _ _ _ _ _ (sym c.room.ensures ∙ c.if-not-room.false)).judged_room

pub answer_pairs-points-requires : goal.answer_pairs-points-requires
answer_pairs-points-requires c = let room = room_is _ _ _ _ _ _ _ (sym c.room.ensures ∙ c.if-not-room.false) in
    (now_judged _ _ _ c.judge_all.ensures room.judged_room, search rules)

pub returns : goal.returns
returns c = let fits = sym c.room.ensures ∙ c.if-not-room.false in
    all_done _ _ _ _ _ _ _ _ _ _ fits (room_is _ _ _ _ _ _ _ fits).judged_room refl
    c.judge_all.ensures
    c.answer_pairs-points.ensures
