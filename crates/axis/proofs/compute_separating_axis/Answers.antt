-- `compute_separating_axis`: a stop of one of the three searches, in their order, or what was found. That each side has a face is `found_a`, `found_b`.
use Rattle.axis.proofs.Always.{found_a, found_b}
use Rattle.axis.proofs.Answers.{stops_at_a, stops_at_b, stops_at_edge, goes_through, same_answer}
use Rattle.axis.specs.Search.{search_of}
use mathlib.Core.Path.{◌≡◌, refl, ap, ◌∙◌}
use Rattle.axis_best.specs.declared.Lead.{Lead}
use mathlib.Core.Bool.{true, false}
use Rattle.axis.proofs.compute_separating_axis.Goals as goal

pub returns-then-face_a : goal.returns-then-face_a
unfolding search_of
returns-then-face_a c = let stopped : c.side_a-face_a.result.apart ≡ true = c.if-face_a.true in
    c.apart_along.ensures ∙ stops_at_a _ _ _ stopped ∙ same_answer c.side_a-face_a.ensures refl refl

pub returns-then-face_b : goal.returns-then-face_b
unfolding search_of
returns-then-face_b c = let going : c.side_a-face_a.result.apart ≡ false = c.if-face_a.false in
    let stopped : c.side_b-face_b.result.apart ≡ true = c.if-face_b.true in
    c.apart_along-then-face_b.ensures ∙ stops_at_b _ _ _ going stopped ∙ same_answer c.side_a-face_a.ensures c.side_b-face_b.ensures refl

pub returns-then-edge : goal.returns-then-edge
unfolding search_of
returns-then-edge c = let going : c.side_a-face_a.result.apart ≡ false = c.if-face_a.false in
    let going_b : c.side_b-face_b.result.apart ≡ false = c.if-face_b.false in
    let stopped : c.edge_pairs-edge.result.apart ≡ true = c.if-edge.true in
    c.apart_along-then-edge.ensures ∙ stops_at_edge _ _ _ going going_b stopped
    ∙ same_answer c.side_a-face_a.ensures c.side_b-face_b.ensures c.edge_pairs-edge.ensures

pub found_along-requires : goal.found_along-requires
found_along-requires c = let is_found : Lead → _ = λ lead. lead.found in (
  ap is_found c.side_a-face_a.ensures ∙ found_a _ c.requires.0 c.requires.1 c.requires.2,
  ap is_found c.side_b-face_b.ensures ∙ found_b _ c.requires.0 c.requires.1 c.requires.2,
)

pub returns : goal.returns
unfolding search_of
returns c = let going : c.side_a-face_a.result.apart ≡ false = c.if-face_a.false in
    let going_b : c.side_b-face_b.result.apart ≡ false = c.if-face_b.false in
    let going_e : c.edge_pairs-edge.result.apart ≡ false = c.if-edge.false in
    c.found_along.ensures ∙ goes_through _ _ _ going going_b going_e
    ∙ same_answer c.side_a-face_a.ensures c.side_b-face_b.ensures c.edge_pairs-edge.ensures
