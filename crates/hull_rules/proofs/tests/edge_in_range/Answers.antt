-- Each of the four numbers of a half-edge is tried in turn.
use mathlib.Core.Path.{sym}
use native.Mathlib.Omega.{arith}
use Rattle.hull_links.proofs.Facts.{edge_unfit, edge_fit}
use Rattle.hull_rules.proofs.tests.edge_in_range.Goals as goal

pub returns-then-next_of-hull : goal.returns-then-next_of-hull
returns-then-next_of-hull c = sym (edge_unfit _ _ _ (λ r. omega arith))

pub returns-then-twin_of-hull : goal.returns-then-twin_of-hull
returns-then-twin_of-hull c = sym (edge_unfit _ _ _ (λ r. omega arith))

pub returns-then-origin_of-hull : goal.returns-then-origin_of-hull
returns-then-origin_of-hull c = sym (edge_unfit _ _ _ (λ r. omega arith))

pub returns-then-face_of-hull : goal.returns-then-face_of-hull
returns-then-face_of-hull c = sym (edge_unfit _ _ _ (λ r. omega arith))

pub returns : goal.returns
returns c = sym (edge_fit _ _ _ (omega arith))
