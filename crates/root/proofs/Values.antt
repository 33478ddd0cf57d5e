-- What the patterns of binary32 stand for, and from there `is_root` of two values where `root_bits` holds of their patterns. Assumes nothing.
use mathlib.Core.Path.{◌≡◌, refl, sym, ap, ◌∙◌, subst, subst⁻¹}
use mathlib.Core.Logic.{inl, inr}
use Prim.Native.Nat.{ℕ, zero, suc, ◌+◌, ◌*◌, ◌/◌, ◌%◌, ◌^◌, ◌≤◌, ◌<◌}
use native.Mathlib.Nat.{le_trans, le_of_eq, lt_of_lt_of_le, lt_of_le_of_lt, mul_assoc, mul_right_comm, mul-one, mul-le-mul_right}
use native.Mathlib.Nat.{mul-lt-mul_of_pos_right, mod-eq_of_lt, mul-pos, zero-mul}
use native.Mathlib.Omega.{arith}
use mathlib.Core.Bool.{Bool, true, false, not, cond, true≢false}
use lib.IntN.{ℤ}
use lib.Dec.{T, leb, eqb, le→leb, eqb→eq, not_T}
use lib.Arith.{lt→nleb}
use lib.Pow.{pow_pos}
use lib.Ieee.{Float, nan, inf, fin, binary32, up, down, odd, of_fields, of_bits, to_bits, is_nan, nan_bits, fits}
use lib.Ieee.Fits.{down_pos}
use lib.Ieee.Bits.{is_false, is_true, cond_no, to_bits-of_bits, of_bits-to_bits, to_bits-lt, nan_bits_is}
use lib.Ieee.Exact.{HasValue, odd_sign}
use Rattle.root.specs.Root.{sig, place, units, root_bits, is_root}
use Rattle.root.proofs.Facts.{Rounded, facts, tests}
use Rattle.root.proofs.Normal.{units_low, units_high, split}

-- ---- a pattern's fields
of_bits_is : (b : ℕ) → of_bits binary32 b ≡ of_fields binary32 (leb 2147483648 b) (b % 2147483648 / 8388608) (b % 8388608)
unfolding of_bits
of_bits_is b = refl

positive_is : (b : ℕ) → b < 2147483648 → of_bits binary32 b ≡ of_fields binary32 false (b / 8388608) (b % 8388608)
positive_is b h =
    of_bits_is b
    ∙ ap (λ (s : Bool). of_fields binary32 s (b % 2147483648 / 8388608) (b % 8388608)) (is_false (leb 2147483648 b) (lt→nleb 2147483648 b h))
    ∙ ap (λ (x : ℕ). of_fields binary32 false (x / 8388608) (b % 8388608)) (mod-eq_of_lt h)

negative_is : (b : ℕ) → 2147483648 ≤ b → of_bits binary32 b ≡ of_fields binary32 true (b % 2147483648 / 8388608) (b % 8388608)
negative_is b h =
    of_bits_is b ∙ ap (λ (s : Bool). of_fields binary32 s (b % 2147483648 / 8388608) (b % 8388608)) (is_true (leb 2147483648 b) (le→leb 2147483648 b h))

-- ---- a pattern below the infinity's stands for its units
at_zero : (t : ℕ) → of_fields binary32 false 0 t ≡ odd 24 false t 0 149
unfolding of_fields
at_zero t = refl

under_ones : (t x : ℕ) → suc x < 255 → of_fields binary32 false (suc x) t ≡ odd 24 false (8388608 + t) x 149
unfolding of_fields
under_ones t x h =
    cond_no (eqb (suc x) 255) (cond (eqb t 0) (inf false) nan) (odd 24 false (8388608 + t) x 149)
    (not_T (eqb (suc x) 255) (λ (u : T (eqb (suc x) 255)). differ (eqb→eq (suc x) 255 u)))
  where
    differ : suc x ≡ 255 → ⊥
    differ e = omega arith

subnormal : (b : ℕ) → b < 8388608 → HasValue (of_bits binary32 b) false (units b) (2 ^ 149)
subnormal b h =
    let no_field : b / 8388608 ≡ 0 = omega arith in
    let whole : b % 8388608 ≡ b = omega arith in
    subst⁻¹ (λ (x : Float). HasValue x false (units b) (2 ^ 149))
    (positive_is b (omega arith) ∙ ap (λ (x : ℕ). of_fields binary32 false x (b % 8388608)) no_field
    ∙ ap (λ (t : ℕ). of_fields binary32 false 0 t) whole ∙ at_zero b)
    (subst (λ (u : ℕ). HasValue (odd 24 false b 0 149) false u (2 ^ 149)) (mul-one b ∙ sym (units_low b h)) (odd_sign 24 false b 0 149))

normal : (b : ℕ) → 8388608 ≤ b → b < 2139095040 → HasValue (of_bits binary32 b) false (units b) (2 ^ 149)
normal b h k =
    let field : b / 8388608 ≡ suc (place b) = omega arith in
    subst⁻¹ (λ (x : Float). HasValue x false (units b) (2 ^ 149))
    (positive_is b (omega arith) ∙ ap (λ (x : ℕ). of_fields binary32 false x (b % 8388608)) field ∙ under_ones (b % 8388608) (place b) (omega arith))
    (subst⁻¹ (λ (u : ℕ). HasValue (odd 24 false (sig b) (place b) 149) false u (2 ^ 149)) (units_high b h) (odd_sign 24 false (sig b) (place b) 149))

pub value : (b : ℕ) → b < 2139095040 → HasValue (of_bits binary32 b) false (units b) (2 ^ 149)
value b k = elim (split b 8388608) [ inl h ↦ subnormal b h | inr h ↦ normal b h k ]

no_nan : (b : ℕ) → b < 2139095040 → T (not (is_nan (of_bits binary32 b)))
unfolding is_nan
no_nan b h = go (of_bits binary32 b) (units b) (value b h)
  where
    go : (v : Float) (u : ℕ) → HasValue v false u (2 ^ 149) → T (not (is_nan v))
    go nan u w = absurd w
    go (inf s) u w = absurd w
    go (fin s m e) u w = tt

pub no_nan_bits : (b : ℕ) → b < 2139095040 → T (not (nan_bits binary32 b))
no_nan_bits b h = subst⁻¹ (λ (t : Bool). T (not t)) (nan_bits_is binary32 b) (no_nan b h)

-- ---- a finite value that is not negative has a pattern below the infinity's
abbrev pub plain : Float → Bool
plain nan = false
plain (inf s) = false
plain (fin s m e) = not s

odd_negative : (d q k l : ℕ) → plain (odd d true q k l) ≡ false
unfolding odd
odd_negative d zero k l = refl
odd_negative d (suc q) k l = refl

no_plain : (a b s : Bool) (v : Float) → plain v ≡ false → plain (cond a (cond b (inf s) nan) v) ≡ false
no_plain true true s v h = refl
no_plain true false s v h = refl
no_plain false b s v h = h

negative : (x t : ℕ) → plain (of_fields binary32 true x t) ≡ false
unfolding of_fields
negative zero t = odd_negative 24 t 0 149
negative (suc x) t = no_plain (eqb (suc x) 255) (eqb t 0) true (odd 24 true (8388608 + t) x 149) (odd_negative 24 (8388608 + t) x 149)

at_ones : (t : ℕ) → plain (of_fields binary32 false 255 t) ≡ false
unfolding of_fields
at_ones t = no_plain true (eqb t 0) false nan refl

not_plain : (b : ℕ) → 2139095040 ≤ b → b < 4294967296 → plain (of_bits binary32 b) ≡ false
not_plain b h k = elim (split b 2147483648) [
  | inl g ↦
      let field : b / 8388608 ≡ 255 = omega arith in
      ap plain (positive_is b g ∙ ap (λ (x : ℕ). of_fields binary32 false x (b % 8388608)) field) ∙ at_ones (b % 8388608)
  | inr g ↦ ap plain (negative_is b g) ∙ negative (b % 2147483648 / 8388608) (b % 8388608)
]

pub plain_bits : (v : Float) → T (fits binary32 v) → plain v ≡ true → to_bits binary32 v < 2139095040
plain_bits v f p = elim (split (to_bits binary32 v) 2139095040) [
  | inl h ↦ h
  | inr h ↦ absurd (true≢false (sym p ∙ ap plain (sym (of_bits-to_bits binary32 v f)) ∙ not_plain (to_bits binary32 v) h (to_bits-lt binary32 v f)))
]

pub unit_size : (n : ℕ) (d : ℤ) → T (fits binary32 (fin false n d)) → n * up d * 2 ^ 149 ≡ units (to_bits binary32 (fin false n d)) * down d
unit_size n d f =
    let v = fin false n d in
    (subst (λ (w : Float). HasValue w false (units (to_bits binary32 v)) (2 ^ 149)) (of_bits-to_bits binary32 v f)
    (value (to_bits binary32 v) (plain_bits v f refl))).1

-- ---- the tests with a denominator
pub same_size : (m d u : ℕ) → m * 2 ^ 149 ≡ u * d → u * 2 ^ 149 * d ≡ m * 2 ^ 298
same_size m d u h = mul_right_comm u (2 ^ 149) d ∙ ap (λ (x : ℕ). x * 2 ^ 149) (sym h) ∙ mul_assoc m (2 ^ 149) (2 ^ 149)

times : (a c q k : ℕ) → 0 < c → Rounded a 1 q k → Rounded (a * c) c q k
times a c q k p t = record {
  at = mul-le-mul_right c (le_trans (le_of_eq (sym (mul-one _))) t.at);
  over = lt_of_lt_of_le (mul-lt-mul_of_pos_right (lt_of_le_of_lt (le_of_eq (sym (mul-one _))) t.over) p) (le_of_eq (mul_assoc 4 a c));
  under = lt_of_le_of_lt (le_of_eq (sym (mul_assoc 4 a c))) (mul-lt-mul_of_pos_right (lt_of_lt_of_le t.under (le_of_eq (mul-one _))) p);
}

over_fraction : (m d u r : ℕ) → 0 < d → m * 2 ^ 149 ≡ u * d → T (root_bits (u * 2 ^ 149) 1 r) → T (root_bits (m * 2 ^ 298) d r)
over_fraction m d u r p h t =
    let f = facts (u * 2 ^ 149) 1 r t in
    tests (m * 2 ^ 298) d r
    (record {
      lo = f.lo;
      hi = f.hi;
      is = subst (λ (a : ℕ). Rounded a d (sig r) (place r)) (same_size m d u h) (times (u * 2 ^ 149) d (sig r) (place r) p f.is);
    })

of_value : (x y : Float) (u r : ℕ) → HasValue x false u (2 ^ 149) → 0 < u → to_bits binary32 y ≡ r → T (root_bits (u * 2 ^ 149) 1 r) → T (is_root x y)
unfolding is_root
of_value nan y u r h p e t = absurd h
of_value (inf s) y u r h p e t = absurd h
of_value (fin s zero e') y u r h p e t = absurd (none (mul-pos p (down_pos e')) (sym (ap (λ (z : ℕ). z * 2 ^ 149) (zero-mul (up e'))) ∙ h.1))
  where
    none : {n : ℕ} → 0 < n → 0 ≡ n → ⊥
    none h e = omega arith
of_value (fin true (suc m) e') y u r h p e t = absurd (true≢false h.0)
of_value (fin false (suc m) e') y u r h p e t =
    subst⁻¹ (λ (b : ℕ). T (root_bits (suc m * up e' * 2 ^ 298) (down e') b)) e (over_fraction (suc m * up e') (down e') u r (down_pos e') h.1 t)

units_pos : (b : ℕ) → 0 < b → 0 < units b
units_pos b p = elim (split b 8388608) [
  | inl h ↦ subst⁻¹ (λ (u : ℕ). 0 < u) (units_low b h) p
  | inr h ↦ subst⁻¹ (λ (u : ℕ). 0 < u) (units_high b h) (mul-pos (some (b % 8388608)) (pow_pos (place b)))
]
  where
    some : (t : ℕ) → 0 < 8388608 + t
    some t = omega arith

pub of_bits_lem : (x : Float) (b r : ℕ) → of_bits binary32 b ≡ x → 0 < b → b < 2139095040 → T (root_bits (units b * 2 ^ 149) 1 r) → T
    (is_root x (of_bits binary32 r))
of_bits_lem x b r e p h t =
    let below = (facts (units b * 2 ^ 149) 1 r t).hi in
    let written = to_bits-of_bits binary32 r (omega arith) (no_nan r below) in
    subst (λ (z : Float). T (is_root z (of_bits binary32 r))) e (of_value (of_bits binary32 b) (of_bits binary32 r) (units b) r (value b h)
    (units_pos b p) written t)
