-- `answer_of`: what was built, or the refusal, picks the definition's case.
use Prim.Native.Nat.{ℕ}
use mathlib.Core.Path.{ap₂, ◌∙◌}
use Rattle.manifold.specs.declared.Contact.{Contact}
use Rattle.collide_outcome.specs.Answers.{accepted}
use Rattle.collide_outcome.proofs.Told.{contact_is, accepted_built}
use Rattle.collide_outcome.proofs.answer_of.Goals as goal

pub returns-in-Ok : goal.returns-in-Ok
returns-in-Ok c =
    let contact = contact_is c.in-Ok.build.contact _ c.unwrap_or_else-contact.ensures in
    rw c.in-Ok.is (c.accepted_with.ensures
    ∙ ap₂ (λ (mark : ℕ) (contact : Contact). accepted mark contact c.in-Ok.build.cache) c.retired_mark.ensures contact
    ∙ accepted_built c.args.cache c.in-Ok.build)

pub returns-in-Err : goal.returns-in-Err
returns-in-Err c = rw c.in-Err.is c.refused.ensures
