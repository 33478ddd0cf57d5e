-- `after_cached`: a refusal, a hit or neither picks the definition's case.
use Prim.Native.Nat.{ℕ}
use mathlib.Core.Path.{refl, sym, ap, ◌∙◌}
use Rattle.std.specs.Prelude.{Err}
use Rattle.manifold.specs.declared.SatCache.{SatCache}
use Rattle.collide_outcome.specs.Builds.{Built}
use Rattle.collide_outcome.specs.Answers.{accepted, refused_of, answer_of}
use Rattle.collide_outcome.specs.Told.{cached_of}
use Rattle.collide_outcome.specs.Served.{hit_with, no_hit}
use Rattle.collide_outcome.proofs.Told.{refusal_is_told, hit_is, none_is, answer_is}
use Rattle.collide.specs.Call.{after_cached}
use Rattle.collide.proofs.Steps.{cached_refused, cached_hit, cached_missed}
use Rattle.collide.proofs.after_cached.Goals as goal

pub returns-in-Err : goal.returns-in-Err
returns-in-Err c = let g = c.args in let a = g.a.now in let b = g.b.now in
    rw c.in-Err.is (c.refused.ensures ∙ ap (λ (n : ℕ). refused_of n g.cache) c.from.ensures
    ∙ cached_refused a.size a.numbers.now a.links.now b.size b.numbers.now b.links.now g.transform g.cache (cached_of (Err c.in-Err.refusal))
    (refusal_is_told c.in-Err.refusal))

pub returns-in-Ok-Some : goal.returns-in-Ok-Some
returns-in-Ok-Some c = let g = c.args in let a = g.a.now in let b = g.b.now in let w = c.in-Ok-Some in
    c.accepted_with.ensures ∙ ap (λ (next : SatCache). accepted 0 w.contact next) c.hit_set.ensures
    ∙ cached_hit a.size a.numbers.now a.links.now b.size b.numbers.now b.links.now g.transform g.cache (hit_with w.contact) refl refl
    ∙ ap (after_cached a.size a.numbers.now a.links.now b.size b.numbers.now b.links.now g.transform g.cache)
    (sym (hit_is _ _ _ w.is (rw w.is at w.field-0-is)))

pub returns-in-Ok-None : goal.returns-in-Ok-None
returns-in-Ok-None c = let g = c.args in let a = g.a.now in let b = g.b.now in let w = c.in-Ok-None in
    c.answer_of.ensures ∙ answer_is g.cache c.full_search-built.result c.numbered.result c.numbered.ensures
    ∙ ap (λ (built : Built). answer_of g.cache built) c.full_search-built.ensures
    ∙ cached_missed a.size a.numbers.now a.links.now b.size b.numbers.now b.links.now g.transform g.cache (no_hit 0) refl refl
    ∙ ap (after_cached a.size a.numbers.now a.links.now b.size b.numbers.now b.links.now g.transform g.cache) (sym (none_is _ _ w.is (rw w.is at w.field-0-is)))
