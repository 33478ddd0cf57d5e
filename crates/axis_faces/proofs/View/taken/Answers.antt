-- `taken`: the side says which number is A's.
use borrow.Author.Rules.{rules}
use Rattle.axis_faces.specs.Faces.{face_taken_of}
use Rattle.axis_faces.proofs.View.taken.Goals as goal

pub returns-in-A : goal.returns-in-A
unfolding face_taken_of
returns-in-A c = search rules

pub returns-in-B : goal.returns-in-B
unfolding face_taken_of
returns-in-B c = search rules
