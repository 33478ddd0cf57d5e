-- All is kept, or the cut goes to the other half.
use mathlib.Core.Path.{sym, ◌∙◌}
use Rattle.clip_cut.proofs.Halves.{left_out, gone_over}
use Rattle.clip_cut.proofs.cut_side.Goals as goal

pub returns-then-keeps_all : goal.returns-then-keeps_all
returns-then-keeps_all c = left_out _ _ _ _ _ _ _ c.args.corners.now.room c.requires.0 (sym (c.keeps_all.ensures _) ∙ c.if-keeps_all.true)

pub returns : goal.returns
returns c = gone_over _ _ _ _ _ _ _ c.args.corners.now.room c.requires.0 _ _ _ c.clip_polygon-m.ensures
