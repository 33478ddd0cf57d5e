-- The square root of a binary32 number. The rule: for a finite positive number the nearest binary32, as a statement on squares of whole numbers; the
-- root of a subnormal begins from its leading zeros. Either zero gives itself; a number below zero and any NaN give 7fc00000; plus infinity gives
-- itself. The rule is said twice: `is_root x r` tests a result, and `root_of x` works it out. proofs/Worked.antt shows that they agree, and
-- proofs/Closest.antt that the tests find the nearest. Definitions only.
use Rattle.std.specs.Prelude.{ℕ, zero, suc, ◌+◌, ◌-◌, ◌*◌, ◌/◌, ◌%◌, ◌^◌, Bool, true, false, ◌&&◌, cond, leb, ltb, Float}
use Rattle.std.specs.Bool.{beq}
use Rattle.std.specs.Float.{nan, inf, fin, binary32}
use Rattle.std.specs.Float.Ieee.{up, down, size, is_nan, to_bits, of_bits}

abbrev pub sq : ℕ → ℕ
sq n = n * n

-- ---- patterns as whole numbers: every finite value of binary32 is a whole number of units of 2 ^ -149

-- A normal value above zero has a pattern b from 0x00800000 up to 0x7f7fffff, and is sig b * 2 ^ place b units: 24 binary digits, and the weight of the last.
abbrev pub sig : ℕ → ℕ
sig b = 8388608 + b % 8388608

abbrev pub place : ℕ → ℕ
place b = b / 8388608 - 1

-- so many units is the value of the pattern b, where it is finite and not negative; below 0x00800000 it is zero or subnormal
abbrev pub units : ℕ → ℕ
units b = cond (ltb b 8388608) b (sig b * 2 ^ place b)

-- ---- the tests

-- the least number of 24 binary digits with the last at the place k
abbrev pub smallest : ℕ → ℕ
smallest k = 8388608 * 2 ^ k

-- what lies half a digit below q, and half a digit above it, doubled to be whole
abbrev pub lower : ℕ → ℕ
lower q = 2 * q - 1

abbrev pub upper : ℕ → ℕ
upper q = 2 * q + 1

-- q * 2 ^ k is the root of a / c, rounded to 24 binary digits. With s for that root:
-- s is at least `smallest k`, so that k is the place of its last digit, and s lies between (q - 1/2) * 2 ^ k and (q + 1/2) * 2 ^ k.
-- Both sides are squared and multiplied by c. s is never on one of the last two bounds, so there is no tie to break.
abbrev pub rounds : (a c q k : ℕ) → Bool
rounds a c q k = leb (sq (smallest k) * c) a && ltb (sq (lower q * 2 ^ k) * c) (4 * a) && ltb (4 * a) (sq (upper q * 2 ^ k) * c)

-- r is the pattern of a normal value, and that is the rounded root of a / c, which counts squares of units
unfoldable pub root_bits : (a c r : ℕ) → Bool
root_bits a c r = leb 8388608 r && ltb r 2139095040 && rounds a c (sig r) (place r)

abbrev pub is_inf : Float → Bool
is_inf nan = false
is_inf (inf s) = beq s false
is_inf (fin s m e) = false

abbrev pub is_zero : Bool → Float → Bool
is_zero s nan = false
is_zero s (inf t) = false
is_zero s (fin t zero e) = beq s t
is_zero s (fin t (suc m) e) = false

-- r is the square root of x. A finite x is m * up e / down e, which is m * up e * 2 ^ 298 / down e squares of units. The pattern of NaN is 7fc00000.
unfoldable pub is_root : Float → Float → Bool
is_root nan r = is_nan r
is_root (inf true) r = is_nan r
is_root (inf false) r = is_inf r
is_root (fin s zero e) r = is_zero s r
is_root (fin true (suc m) e) r = is_nan r
is_root (fin false (suc m) e) r = root_bits (suc m * up e * 2 ^ 298) (down e) (to_bits binary32 r)

-- ---- the same value, worked out

-- the largest r with r * r ≤ n, for an n below 4 ^ k: each step takes two more binary digits of n and finds one more of r
abbrev pub grow : ℕ → ℕ → ℕ
grow n r = cond (leb (sq (r + 1)) n) (r + 1) r

unfoldable pub isqrt : ℕ → ℕ → ℕ
isqrt zero n = 0
isqrt (suc k) n = grow n (2 * isqrt k (n / 4))

-- the whole number nearest to √n, where t is the largest below it: t, unless n is above (t + 1/2) ^ 2
abbrev pub pick : ℕ → ℕ → ℕ
pick n t = cond (leb n (sq t + t)) t (t + 1)

-- The pattern of √n units. n ends in zeros but for its first 24 binary digits, and is cut by an even number of them to 47 or 48 digits, whose root has 24.
unfoldable pub pattern : ℕ → ℕ
unfolding isqrt size
pattern n = let k = (size n - 47) / 2 in k * 8388608 + pick (n / (2 ^ k * 2 ^ k)) (isqrt 24 (n / (2 ^ k * 2 ^ k)))

unfoldable pub root_of : Float → Float
unfolding pattern of_bits
root_of nan = nan
root_of (inf s) = cond s nan (inf false)
root_of (fin s zero e) = fin s zero e
root_of (fin true (suc m) e) = nan
root_of (fin false (suc m) e) = of_bits binary32 (pattern (suc m * up e * 2 ^ 298 / down e))
