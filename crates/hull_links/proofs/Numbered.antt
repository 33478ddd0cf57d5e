-- The number of a broken rule is 0 just where there is none. Assumes nothing.
use mathlib.Core.Path.{◌≡◌, refl}
use mathlib.Core.Bool.{true, false}
use native.Mathlib.Omega.{arith}
use Rattle.std.specs.Prelude.{Option, Some, None}
use Rattle.std.specs.Option.{is_some}
use Rattle.hull_links.specs.declared.Rule.{Rule}
use Rattle.hull_links.specs.Numbers.{number_of, rule_number}

rule_has_number : (r : Rule) → number_of r ≡ 0 → ⊥
rule_has_number Rule.H1 e = omega (arith, e)
rule_has_number Rule.H2 e = omega (arith, e)
rule_has_number Rule.H3 e = omega (arith, e)
rule_has_number Rule.H4 e = omega (arith, e)
rule_has_number Rule.H5 e = omega (arith, e)
rule_has_number Rule.H6 e = omega (arith, e)
rule_has_number Rule.H7 e = omega (arith, e)
rule_has_number Rule.H8 e = omega (arith, e)
rule_has_number Rule.H9 e = omega (arith, e)

pub some_broken : (r : Option Rule) → is_some r ≡ true → rule_number r ≡ 0 → ⊥
some_broken (Some r) e = rule_has_number r
some_broken None e = grind arith

pub none_broken : (r : Option Rule) → is_some r ≡ false → rule_number r ≡ 0
none_broken (Some r) e = grind arith
none_broken None e = refl
