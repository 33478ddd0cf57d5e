-- Every finite number above zero is m * 2 ^ (a - 126) units for an m of 24 digits: `Norm b m a` says so of the number whose pattern is b. Assumes nothing.
use mathlib.Core.Path.{◌≡◌, sym, ap, ◌∙◌, subst}
use mathlib.Core.Logic.{◌⊎◌, inl, inr}
use Prim.Native.Nat.{ℕ, ◌+◌, ◌-◌, ◌*◌, ◌/◌, ◌%◌, ◌^◌, ◌≤◌, ◌<◌, suc}
use native.Mathlib.Nat.{le_trans, le_of_eq, lt_of_lt_of_le, lt_of_le_of_lt, lt_of_not-le, lt_irrefl, mul_assoc, mul-le-mul_right}
use native.Mathlib.Omega.{arith}
use mathlib.Core.Bool.{Bool, true, false, not, cond}
use lib.Pow.{pow-add, pow_mono, shl_lt}
use lib.Count.{count_leading_zeros, leading_top}
use borrow.Author.Tests.{lt-ltb, le-ltb}
use lib.Dec.{T, ltb, ltb→lt, nltb→le}
use Rattle.root.specs.Root.{sig, place, units}

pub record Norm (b m a : ℕ) : Type 0 where
  pub lo : 8388608 ≤ m
  pub hi : m < 16777216
  pub first : 2 ≤ a
  pub last : a ≤ 379
  pub is : units b * 2 ^ 126 ≡ m * 2 ^ a

-- ---- a subnormal pattern is the number of its units, and a normal one holds the digits and their place
pub units_low : (b : ℕ) → b < 8388608 → units b ≡ b
units_low b h = ap (λ (t : Bool). cond t b (sig b * 2 ^ place b)) (lt-ltb b 8388608 h)

pub units_high : (b : ℕ) → 8388608 ≤ b → units b ≡ sig b * 2 ^ place b
units_high b h = ap (λ (t : Bool). cond t b (sig b * 2 ^ place b)) (le-ltb b 8388608 h)

pub split : (a b : ℕ) → (a < b) ⊎ (b ≤ a)
split a b = go (ltb a b) (ltb→lt a b) (nltb→le a b)
  where
    go : (t : Bool) → (T t → a < b) → (T (not t) → b ≤ a) → (a < b) ⊎ (b ≤ a)
    go true f g = inl (f tt)
    go false f g = inr (g tt)

-- ---- a subnormal number: its top digit has the weight 2 ^ top, and its leading zeros say which that is
pub record Lead (b zeros : ℕ) : Type 0 where
  pub top : ℕ
  pub sum : zeros + suc top ≡ 32
  pub few : top < 23
  pub lo : 2 ^ top ≤ b
  pub hi : b < 2 ^ suc top

pub lead : (b : ℕ) → 0 < b → b < 8388608 → Lead b (count_leading_zeros 32 b)
lead b p h =
    let t = leading_top 32 b p (omega arith) in
    record { top = t.0; sum = t.1; few = below t.0 23 (lt_of_le_of_lt t.2 h); lo = t.2; hi = t.3 }
  where
    below : (i j : ℕ) → 2 ^ i < 2 ^ j → i < j
    below i j h = lt_of_not-le (λ (g : j ≤ i). lt_irrefl (2 ^ i) (lt_of_lt_of_le h (pow_mono g)))

pub subnormal : (b s m a : ℕ) → 0 < b → b < 8388608 → s + 8 ≡ count_leading_zeros 32 b → m ≡ b * 2 ^ s % 2 ^ 32 → a ≡ 126 - s → Norm b m a
subnormal b s m a p h zeros e f =
    let l = lead b p h in
    let total : suc l.top + s ≡ 24 = omega arith in
    let total' : 23 ≡ l.top + s = omega arith in
    let below : b * 2 ^ s < 2 ^ 24 = subst (λ (x : ℕ). b * 2 ^ s < 2 ^ x) total (shl_lt (suc l.top) s l.hi) in
    let above : 2 ^ 23 ≤ b * 2 ^ s = le_trans (le_of_eq (ap (λ (x : ℕ). 2 ^ x) total' ∙ pow-add 2 l.top s)) (mul-le-mul_right (2 ^ s) l.lo) in
    let whole : b * 2 ^ s ≡ m = omega arith in
    let rest : 126 ≡ s + a = omega arith in
    record {
      lo = omega arith;
      hi = omega arith;
      first = omega arith;
      last = omega arith;
      is =
          ap (λ (x : ℕ). x * 2 ^ 126) (units_low b h)
          ∙ ap (λ (x : ℕ). b * 2 ^ x) rest
          ∙ ap (λ (x : ℕ). b * x) (pow-add 2 s a)
          ∙ sym (mul_assoc b (2 ^ s) (2 ^ a))
          ∙ ap (λ (x : ℕ). x * 2 ^ a) whole;
    }

-- ---- a normal number
pub normal : (b m a : ℕ) → 8388608 ≤ b → b < 2139095040 → m ≡ b % 8388608 + 8388608 → a ≡ b / 8388608 + 125 → Norm b m a
normal b m a h k e f = record {
  lo = omega arith;
  hi = omega arith;
  first = omega arith;
  last = omega arith;
  is =
      ap (λ (x : ℕ). x * 2 ^ 126) (units_high b h)
      ∙ mul_assoc (sig b) (2 ^ place b) (2 ^ 126)
      ∙ ap (λ (x : ℕ). sig b * x) (sym (pow-add 2 (place b) 126))
      ∙ ap (λ (x : ℕ). sig b * 2 ^ x) (omega arith)
      ∙ ap (λ (x : ℕ). x * 2 ^ a) (omega arith);
}
