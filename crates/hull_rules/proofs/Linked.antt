-- H4 of one half-edge e, from the numbers that were read: its next n, the faces f of n and g of e, its twin t, the origins o of n and p of t. Assumes
-- nothing.
use mathlib.Core.Path.{◌≡◌, sym, ap, ap₂, ◌∙◌}
use mathlib.Core.Bool.{false}
use mathlib.Core.List.{List}
use Prim.Native.Nat.{ℕ}
use lib.Dec.{eqb}
use borrow.Author.Tests.{eq-eqb, ne_eqb}
use Rattle.hull_links.specs.declared.HullSize.{HullSize}
use Rattle.hull_links.specs.Links.{next, twin, origin, face}
use Rattle.hull_links.specs.Rules.{linked_at}
use Rattle.hull_links.proofs.Tests.{and_last, and_false_left}

module _ (s : HullSize) (l : List ℕ) (e n f g : ℕ) (e₁ : n ≡ next s l e) (e₂ : f ≡ face s l n) (e₃ : g ≡ face s l e) where
  pub other_face : (f ≡ g → ⊥) → linked_at s l e ≡ false
  unfolding linked_at
  other_face q = and_false_left _ _ (ne_eqb _ _ (λ z. q (e₂ ∙ ap (face s l) e₁ ∙ z ∙ sym e₃)))

  pub origins_decide : f ≡ g → (t o p : ℕ) → t ≡ twin s l e → o ≡ origin s l n → p ≡ origin s l t → eqb o p ≡ linked_at s l e
  unfolding linked_at
  origins_decide q t o p e₄ e₅ e₆ =
      and_last _ _ _ (eq-eqb _ _ (sym (ap (face s l) e₁) ∙ sym e₂ ∙ q ∙ e₃)) (ap₂ eqb (e₅ ∙ ap (origin s l) e₁) (e₆ ∙ ap (origin s l) e₄))
