-- Floats are in order: what lies between, what is less than what. A NaN is in no order. Assumes nothing.
use mathlib.Core.Path.{◌≡◌, refl, sym, ap, ◌∙◌, subst}
use mathlib.Core.Bool.{Bool, true, false, not, ◌||◌, true≢false}
use mathlib.Core.Logic.{◌⊎◌, inl, inr, ⊎_elim}
use Prim.Native.Nat.{ℕ, ◌+◌, ◌*◌, ◌<◌, ◌≤◌}
use native.Mathlib.Nat.{mul_right_comm, mul-lt-mul_of_pos_right, lt_of_mul-lt-mul_right, zero-mul, add-mul}
use native.Mathlib.Omega.{arith}
use lib.Dec.{T, ltb, ltb→lt, lt→ltb, nltb→le}
use lib.Ieee.{Float, nan, inf, fin, up, down, below, lt, le, is_nan}
use lib.Ieee.Bits.{is_true}
use lib.Ieee.Fits.{down_pos}
use Rattle.bounds.proofs.Strict.{passed, not_le_of_lt}

-- ---- sizes with signs
or_not : (x : Bool) → T x ⊎ T (not x)
or_not true = inl tt
or_not false = inr tt

less_or_not : (a b : ℕ) → (a < b) ⊎ (b ≤ a)
less_or_not a b = ⊎_elim (λ u. inl (ltb→lt a b u)) (λ u. inr (nltb→le a b u)) (or_not (ltb a b))

-- what is below another is below what lies between, or that is below the other
parted : (s : Bool) (a : ℕ) (t : Bool) (b : ℕ) (u : Bool) (c : ℕ) → T (below s a u c) → T (below s a t b) ⊎ T (below t b u c)
parted false a false b false c h = let l = ltb→lt a c h in ⊎_elim (λ v. inl (lt→ltb a b v)) (λ v. inr (lt→ltb b c (omega (arith, l, v)))) (less_or_not a b)
parted false a true b false c h = let l = ltb→lt a c h in inr (lt→ltb 0 (b + c) (omega (arith, l)))
parted false a t b true c h = absurd h
parted true a false b false c h =
    let l = ltb→lt 0 (a + c) h in ⊎_elim (λ v. inl (lt→ltb 0 (a + b) v)) (λ v. inr (lt→ltb b c (omega (arith, l, v)))) (less_or_not 0 (a + b))
parted true a true b false c h =
    let l = ltb→lt 0 (a + c) h in ⊎_elim (λ v. inl (lt→ltb b a v)) (λ v. inr (lt→ltb 0 (b + c) (omega (arith, l, v)))) (less_or_not b a)
parted true a false b true c h = let l = ltb→lt c a h in inl (lt→ltb 0 (a + b) (omega (arith, l)))
parted true a true b true c h = let l = ltb→lt c a h in ⊎_elim (λ v. inl (lt→ltb b a v)) (λ v. inr (lt→ltb c b (omega (arith, l, v)))) (less_or_not b a)

-- both sizes times one positive number
module _ (k : ℕ) (K : 0 < k) where
  times : (a b : ℕ) → T (ltb a b) → T (ltb (a * k) (b * k))
  times a b h = lt→ltb (a * k) (b * k) (mul-lt-mul_of_pos_right (ltb→lt a b h) K)

  over : (a b : ℕ) → T (ltb (a * k) (b * k)) → T (ltb a b)
  over a b h = lt→ltb a b (lt_of_mul-lt-mul_right k (ltb→lt (a * k) (b * k) h))

  -- 0 < a + b, and that of a * k and b * k
  summed : (a b : ℕ) → ltb (0 * k) ((a + b) * k) ≡ ltb 0 (a * k + b * k)
  summed a b = ap (λ (x : ℕ). ltb x ((a + b) * k)) (zero-mul k) ∙ ap (ltb 0) (add-mul a b k)

  scaled : (s : Bool) (a : ℕ) (t : Bool) (b : ℕ) → T (below s a t b) → T (below s (a * k) t (b * k))
  scaled false a false b h = times a b h
  scaled false a true b h = absurd h
  scaled true a false b h = subst T (summed a b) (times 0 (a + b) h)
  scaled true a true b h = times b a h

  unscaled : (s : Bool) (a : ℕ) (t : Bool) (b : ℕ) → T (below s (a * k) t (b * k)) → T (below s a t b)
  unscaled false a false b h = over a b h
  unscaled false a true b h = absurd h
  unscaled true a false b h = over 0 (a + b) (subst T (sym (summed a b)) h)
  unscaled true a true b h = over b a h

-- sizes a, b, c over the denominators d, e, f
over_one : (s : Bool) (a d : ℕ) (t : Bool) (b e : ℕ) (u : Bool) (c f : ℕ) → 0 < d → 0 < e → 0 < f → T (below s (a * f) u (c * d))
    → T (below s (a * e) t (b * d)) ⊎ T (below t (b * f) u (c * e))
over_one s a d t b e u c f D E F h =
    let wide : T (below s (a * e * f) u (c * e * d)) =
    subst (λ (x : ℕ). T (below s x u (c * e * d))) (mul_right_comm a f e)
    (subst (λ (x : ℕ). T (below s (a * f * e) u x)) (mul_right_comm c d e) (scaled e E s (a * f) u (c * d) h)) in
    ⊎_elim
    (λ v. inl (unscaled f F s (a * e) t (b * d) (subst (λ (x : ℕ). T (below s (a * e * f) t x)) (mul_right_comm b f d) v)))
    (λ v. inr (unscaled d D t (b * f) u (c * e) v))
    (parted s (a * e * f) t (b * f * d) u (c * e * d) wide)

-- ---- floats
-- nothing is above infinity, and nothing is below minus infinity
not_above_infinity : (x : Float) → lt (inf false) x ≡ false
unfolding lt
not_above_infinity nan = refl
not_above_infinity (inf s) = refl
not_above_infinity (fin s m e) = refl

pub not_below_minus_infinity : (x : Float) → lt x (inf true) ≡ false
unfolding lt
not_below_minus_infinity nan = refl
not_below_minus_infinity (inf true) = refl
not_below_minus_infinity (inf false) = refl
not_below_minus_infinity (fin s m e) = refl

-- a < c: then a < b or b < c, whatever number b is
pub one_way : (a b c : Float) → is_nan b ≡ false → lt a c ≡ true → (lt a b ≡ true) ⊎ (lt b c ≡ true)
unfolding lt is_nan
one_way nan b c n h = absurd (true≢false (sym h))
one_way (inf false) b c n h = absurd (true≢false (sym h ∙ not_above_infinity c))
one_way (inf true) nan c n h = absurd (true≢false n)
one_way (inf true) (inf true) c n h = inr h
one_way (inf true) (inf false) c n h = inl refl
one_way (inf true) (fin t k d) c n h = inl refl
one_way (fin s m e) nan c n h = absurd (true≢false n)
one_way (fin s m e) (inf true) nan n h = absurd (true≢false (sym h))
one_way (fin s m e) (inf true) (inf true) n h = absurd (true≢false (sym h))
one_way (fin s m e) (inf true) (inf false) n h = inr refl
one_way (fin s m e) (inf true) (fin u o g) n h = inr refl
one_way (fin s m e) (inf false) c n h = inl refl
one_way (fin s m e) (fin t k d) nan n h = absurd (true≢false (sym h))
one_way (fin s m e) (fin t k d) (inf true) n h = absurd (true≢false (sym h))
one_way (fin s m e) (fin t k d) (inf false) n h = inr refl
one_way (fin s m e) (fin t k d) (fin u o g) n h =
    ⊎_elim (λ v. inl (is_true _ v)) (λ v. inr (is_true _ v))
    (over_one s (m * up e) (down e) t (k * up d) (down d) u (o * up g) (down g) (down_pos e) (down_pos d) (down_pos g) (passed _ h))

-- one of them at most
pub not_back : (x y : Float) → lt x y ≡ true → lt y x ≡ false
unfolding le
not_back x y h = neither_first (lt y x) _ (not_le_of_lt x y h)
  where
    neither_first : (a b : Bool) → (a || b) ≡ false → a ≡ false
    neither_first true b e = absurd (true≢false e)
    neither_first false b e = refl

-- what is above another is a number
pub above_number : (x y : Float) → lt x y ≡ true → is_nan y ≡ false
unfolding lt is_nan
above_number nan nan h = absurd (true≢false (sym h))
above_number (inf s) nan h = absurd (true≢false (sym h))
above_number (fin s m e) nan h = absurd (true≢false (sym h))
above_number x (inf t) h = refl
above_number x (fin t n d) h = refl

pub farther : (a b c : Float) → lt a b ≡ true → lt b c ≡ true → lt a c ≡ true
farther a b c p q = ⊎_elim (λ h. h) (λ h. absurd (true≢false (sym h ∙ not_back b c q))) (one_way a c b (above_number b c q) p)
