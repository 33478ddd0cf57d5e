-- Bytes written as characters, one byte after another. Assumes nothing.
use Prim.Native.Nat.{ℕ, ◌+◌, ◌*◌, ◌/◌, ◌%◌, ◌<◌}
use mathlib.Core.Path.{◌≡◌, refl, sym, ap, ◌∙◌}
use mathlib.Core.List.{List, [], ◌∷◌, ◌++◌}
use native.Mathlib.Numerals.{add-one}
use native.Mathlib.Nat.{zero-add}
use native.Mathlib.Omega.{arith}
use lib.ListN.{length, get_or, take}
use lib.Seq.{take-suc, take-length, length-take-le}
use Rattle.lists.specs.Written.{Wrote}
use Rattle.lists.proofs.Written.{none, then, wrote_same}
use Rattle.frame_hex.specs.Hex.{digit_of, hex_of}

-- a byte is two characters
pub hex_length : (bs : List ℕ) → length (hex_of bs) ≡ 2 * length bs
unfolding hex_of
hex_length [] = refl
hex_length (b ∷ bs) = let tail = hex_length bs in omega arith

hex_append : (front bs : List ℕ) → hex_of (front ++ bs) ≡ hex_of front ++ hex_of bs
unfolding hex_of
hex_append [] bs = refl
hex_append (a ∷ front) bs = ap (λ t. digit_of (a / 16) ∷ digit_of (a % 16) ∷ t) (hex_append front bs)

module _ (bs : List ℕ) where
  -- before the first byte, one byte more, and the last
  pub hex_begun : (s : List ℕ) → Wrote s 0 (hex_of (take 0 bs)) s
  unfolding hex_of
  hex_begun s = none

  pub hex_turned : {s m m1 m2 : List ℕ} (i : ℕ) {high low : ℕ} → i < length bs → Wrote s 0 (hex_of (take i bs)) m → high ≡ digit_of (get_or bs i 0 / 16)
      → low ≡ digit_of (get_or bs i 0 % 16)
      → Wrote m (2 * i) (high ∷ []) m1 → Wrote m1 (2 * i + 1) (low ∷ []) m2 → Wrote s 0 (hex_of (take (i + 1) bs)) m2
  unfolding hex_of
  hex_turned {s} {m} {m1} {m2} i {high} {low} l w eh el first second =
      let long : length (hex_of (take i bs)) ≡ 2 * i = hex_length (take i bs) ∙ ap (λ k. 2 * k) (length-take-le i bs (omega arith)) in
      let one : 2 * i ≡ 0 + length (hex_of (take i bs)) = sym long ∙ sym (zero-add _) in
      let two : Wrote m (2 * i) (high ∷ low ∷ []) m2 = then first second refl in
      let same : hex_of (take i bs) ++ (high ∷ low ∷ []) ≡ hex_of (take (i + 1) bs) =
      ap (λ h. hex_of (take i bs) ++ (h ∷ low ∷ [])) eh
      ∙ (ap (λ v. hex_of (take i bs) ++ (digit_of (get_or bs i 0 / 16) ∷ v ∷ [])) el
      ∙ (sym (hex_append (take i bs) (get_or bs i 0 ∷ [])) ∙ (ap hex_of (sym (take-suc bs i 0 l)) ∙ ap (λ k. hex_of (take k bs)) (sym (add-one i))))) in
      wrote_same (then w two one) same

  pub hex_ended : {s m : List ℕ} {i : ℕ} → i ≡ length bs → Wrote s 0 (hex_of (take i bs)) m → Wrote s 0 (hex_of bs) m
  hex_ended e w = wrote_same w (ap (λ k. hex_of (take k bs)) e ∙ ap hex_of (take-length bs))
