-- The number of a rule, as document 01 has it: H1 is 1, H9 is 9; 0 where no rule is broken. Definitions only.
use Rattle.std.specs.Prelude.{ℕ, Option, Some, None}
use Rattle.hull_links.specs.declared.Rule.{Rule}

abbrev pub number_of : Rule → ℕ
number_of Rule.H1 = 1
number_of Rule.H2 = 2
number_of Rule.H3 = 3
number_of Rule.H4 = 4
number_of Rule.H5 = 5
number_of Rule.H6 = 6
number_of Rule.H7 = 7
number_of Rule.H8 = 8
number_of Rule.H9 = 9

abbrev pub rule_number : Option Rule → ℕ
rule_number (Some rule) = number_of rule
rule_number None = 0
