-- Inner: faults and kinds by name, and a function that gives an answer or a fault. Definitions only.
use Rattle.std.specs.Prelude.{ℕ, ◌≡◌, ◌≢◌, List, Result, MatchResult}
use Rattle.frame.specs.declared.Fault.{Fault}
use Rattle.frame.specs.declared.Fault.TheVariants.{WrongOwner, NoHex, NoSuchKind, WrongLength, TooLong}
use Rattle.frame.specs.declared.Kind.{Kind}
use Rattle.frame.specs.declared.Kind.TheVariants.{Root, Flip, Call}
use Rattle.frame.specs.Answers.{Answers}
use Rattle.frame.specs.Frames.{fault_of}

-- the number that a fault is answered with, and the byte that asks for a kind
abbrev pub number_of : Fault → ℕ
number_of WrongOwner = 0x08
number_of NoHex = 0x21
number_of NoSuchKind = 0x22
number_of WrongLength = 0x23
number_of TooLong = 0x24

abbrev pub byte_of_kind : Kind → ℕ
byte_of_kind Root = 0x10
byte_of_kind Flip = 0x11
byte_of_kind Call = 0x12

-- the kind that the byte asks for, or the fault that there is none
abbrev pub Named : ℕ → Result Kind Fault → Type 0
Named byte r = MatchResult r (λ kind. byte ≡ byte_of_kind kind)
    (λ fault. (fault ≡ NoSuchKind) × (byte ≢ 0x10) × (byte ≢ 0x11) × (byte ≢ 0x12))

-- The values are put, or are those of the fault that is given: then the list stays as it was. As in record Answers, o is the list that was lent and
-- o' what it holds at the end.
abbrev pub Tried : List ℕ → List ℕ → Result ℕ Fault → List ℕ → Type 0
Tried vs o r o' = MatchResult r (λ n. Answers vs o n o') (λ fault. (vs ≡ fault_of (number_of fault)) × (o' ≡ o))

-- what was put before stays, with its count, or the fault is put
abbrev pub Told : Result ℕ Fault → List ℕ → ℕ → List ℕ → Type 0
Told tried o r o' = MatchResult tried (λ n. (r ≡ n) × (o' ≡ o)) (λ fault. Answers (fault_of (number_of fault)) o r o')
