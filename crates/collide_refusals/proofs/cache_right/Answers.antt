-- `cache_right`: the axis that the cache names picks which part of the rule is asked.
use Prim.Native.Nat.{ℕ}
use mathlib.Core.Path.{◌≡◌, sym, ap, ◌∙◌}
use mathlib.Core.Bool.{true, false}
use lib.Dec.{ltb}
use Rattle.std.specs.Prelude.{Some, None}
use Rattle.manifold.specs.declared.kinds.AxisKind.{AxisKind}
use Rattle.manifold.specs.Kinds.{axis_kind_of}
use Rattle.manifold.proofs.Types as Types
use Rattle.hull_links.specs.Tests.{◌&◌}
use Rattle.collide_refusals.specs.Refusals.{first_half}
use Rattle.collide_refusals.proofs.Cases.{names_face_a, names_face_b, names_edges, names_none}
use Rattle.collide_refusals.proofs.cache_right.Goals as goal

pub returns-in-Some-FaceA : goal.returns-in-Some-FaceA
returns-in-Some-FaceA c = let a = c.args in let w = c.in-Some-FaceA in
    let named : axis_kind_of a.cache.kind ≡ Some AxisKind.FaceA = sym c.axis_kind.ensures ∙ w.is ∙ ap Some w.field-0-is in
    ap (λ (n : ℕ). ltb n a.size_a.faces) c.from.ensures ∙ names_face_a a.size_a a.size_b a.cache (Types.names_face_a _ named)

pub returns-in-Some-FaceB : goal.returns-in-Some-FaceB
returns-in-Some-FaceB c = let a = c.args in let w = c.in-Some-FaceB in
    let named : axis_kind_of a.cache.kind ≡ Some AxisKind.FaceB = sym c.axis_kind.ensures ∙ w.is ∙ ap Some w.field-0-is in
    ap (λ (n : ℕ). ltb n a.size_b.faces) c.from-in-Some-FaceB.ensures ∙ names_face_b a.size_a a.size_b a.cache (Types.names_face_b _ named)

pub returns-then-first_half : goal.returns-then-first_half
unfolding ◌&◌
returns-then-first_half c = let a = c.args in let w = c.in-Some-Edges in
    let named : axis_kind_of a.cache.kind ≡ Some AxisKind.Edges = sym c.axis_kind.ensures ∙ w.is ∙ ap Some w.field-0-is in
    let first : true ≡ first_half a.size_a a.cache.index_a = sym c.if-first_half.true ∙ c.first_half.ensures in
    c.first_half-then-first_half.ensures ∙ ap (λ z. z & first_half a.size_b a.cache.index_b) first
    ∙ names_edges a.size_a a.size_b a.cache (Types.names_edges _ named)

pub returns-else-first_half : goal.returns-else-first_half
unfolding ◌&◌
returns-else-first_half c = let a = c.args in let w = c.in-Some-Edges in
    let named : axis_kind_of a.cache.kind ≡ Some AxisKind.Edges = sym c.axis_kind.ensures ∙ w.is ∙ ap Some w.field-0-is in
    let first : false ≡ first_half a.size_a a.cache.index_a = sym c.if-first_half.false ∙ c.first_half.ensures in
    c.if-first_half.false ∙ ap (λ z. z & first_half a.size_b a.cache.index_b) first ∙ names_edges a.size_a a.size_b a.cache (Types.names_edges _ named)

pub returns-in-None : goal.returns-in-None
returns-in-None c = let a = c.args in
    let none : axis_kind_of a.cache.kind ≡ None = sym c.axis_kind.ensures ∙ c.in-None.is in
    let rest = Types.names_none a.cache.kind none in
    names_none a.size_a a.size_b a.cache rest.0 rest.1 rest.2
