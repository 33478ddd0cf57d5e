-- `winner_contact`: face A only where it is strictly above face B.
use mathlib.Core.Path.{◌∙◌}
use Rattle.collide_full.proofs.Cases.{a_wins, b_wins}
use Rattle.collide_full.proofs.winner_contact.Goals as goal

pub returns-then-face_a-face_b : goal.returns-then-face_a-face_b
returns-then-face_a-face_b c = let g = c.args in let a = g.a.now in let b = g.b.now in
    c.contact_a.ensures ∙ a_wins a.size a.numbers.now a.links.now b.size b.numbers.now b.links.now g.transform g.face_a g.face_b c.if-face_a-face_b.true

pub returns-else-face_a-face_b : goal.returns-else-face_a-face_b
returns-else-face_a-face_b c = let g = c.args in let a = g.a.now in let b = g.b.now in
    c.contact_b.ensures ∙ b_wins a.size a.numbers.now a.links.now b.size b.numbers.now b.links.now g.transform g.face_a g.face_b c.if-face_a-face_b.false
