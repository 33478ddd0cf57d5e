-- Two and three tests that the code joins. Assumes nothing.
use mathlib.Core.Path.{◌≡◌, ◌∙◌, ap₂}
use mathlib.Core.Bool.{Bool, ◌&&◌, ◌||◌}
use Rattle.hull_links.specs.Tests.{◌&◌, ◌or◌}
use Rattle.hull_links.proofs.Tests.{and_is, or_is}

pub and2 : {a b x y : Bool} → a ≡ x → b ≡ y → (a && b) ≡ (x & y)
and2 {a} {b} p q = and_is a b ∙ ap₂ ◌&◌ p q

pub and3 : {a b d x y z : Bool} → a ≡ x → b ≡ y → d ≡ z → (a && b && d) ≡ (x & y & z)
and3 p q r = and2 (and2 p q) r

pub or3 : {a b d x y z : Bool} → a ≡ x → b ≡ y → d ≡ z → (a || b || d) ≡ (x or y or z)
or3 {a} {b} {d} p q r = or_is (a || b) d ∙ ap₂ ◌or◌ (or_is a b ∙ ap₂ ◌or◌ p q) r
