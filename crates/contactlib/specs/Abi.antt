-- The number of what hosts link. Definitions only.
use Rattle.std.specs.Prelude.{ℕ}

-- It goes up by one with every function more, and with every change of a record, of a function's parameters, or of what a number in them means.
abbrev pub abi_number : ℕ
abi_number = 7
