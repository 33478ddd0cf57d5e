-- The marks after the numbers of a list were marked one after the other: i is marked exactly where i stands in the list. Assumes nothing.
use mathlib.Core.Path.{◌≡◌, refl, sym, ap, ◌∙◌}
use mathlib.Core.Bool.{Bool, true, false, ◌||◌}
use mathlib.Core.List.{List, [], ◌∷◌, ◌++◌}
use Prim.Native.Nat.{ℕ, ◌*◌, ◌/◌, ◌%◌, ◌^◌, ◌≤◌, ◌<◌}
use native.Mathlib.Nat.{div-eq_of_lt}
use native.Mathlib.Omega.{arith}
use lib.Bits.{bit_or}
use lib.Dec.{eqb, ltb}
use lib.ListN.{length, get_or, set, length-set, length-replicate, get_or-replicate, get_or-eq_default}
use lib.Pow.{pow_pos}
use lib.Seq.{get_or-set_same, get_or-set_other}
use borrow.Author.Tests.{eqb-true, eqb-false, eq-eqb, ne_eqb, ltb-true, ltb-false}
use Rattle.hull_links.specs.Walks.{has}
use Rattle.hull_links.proofs.Tests.{cases}
use Rattle.hull_links.proofs.Counting.{has_append}
use Rattle.hull_marks.specs.inner.Marks.{bit_of, mark_of, is_marked, no_marks, with_mark, Marks}
use Rattle.hull_marks.proofs.Bits.{one_bit, bit_set}

-- ---- the words as they are marked: `or` with a 1 shifted to its place
pub bit_shifted : (words : List ℕ) (i : ℕ) → set words (i / 64) (bit_or (get_or words (i / 64) 0) (1 * 2 ^ (i % 64) % 2 ^ 64)) ≡ with_mark words i
unfolding with_mark
bit_shifted words i = rw (one_bit (i % 64) (omega arith))

-- the same where word w and bit b are named; and the mark that is read there
pub in_word : (words : List ℕ) (i w b : ℕ) → i / 64 ≡ w → i % 64 ≡ b
    → (get_or words w 0 / 2 ^ b % 2 ≡ mark_of words i) × (set words w (bit_or (get_or words w 0) (1 * 2 ^ b % 2 ^ 64)) ≡ with_mark words i)
unfolding mark_of bit_of
in_word words i w b p q = rw (sym p, sym q) (refl, bit_shifted words i)

-- ---- nothing is marked
no_word : (k : ℕ) → get_or no_marks k 0 ≡ 0
unfolding no_marks
no_word k =
    let long : length no_marks ≡ 4 = length-replicate {A = ℕ} 4 0 in
    cases (ltb k 4) (λ t. get_or-replicate {A = ℕ} 4 k 0 0 (ltb-true k 4 t))
    (λ t. get_or-eq_default no_marks 0 {n = k} (omega (arith, long, ltb-false k 4 t)))

pub none_marked : Marks no_marks []
unfolding no_marks mark_of bit_of has
none_marked = record {
  long = length-replicate {A = ℕ} 4 0;
  tells = λ i. rw (no_word (i / 64), div-eq_of_lt (pow_pos (i % 64)));
}

-- ---- one more is marked
same_place : (e i : ℕ) → e / 64 ≡ i / 64 → eqb (e % 64) (i % 64) ≡ eqb e i
same_place e i q =
    cases (eqb e i) (λ t. rw t (eq-eqb (e % 64) (i % 64) (omega (arith, eqb-true e i t))))
    (λ t. rw t (ne_eqb (e % 64) (i % 64) (λ p. eqb-false e i t (omega arith))))

mark_set : (words : List ℕ) (e i : ℕ) → length words ≡ 4 → e < 256 → is_marked (with_mark words e) i ≡ (eqb e i || is_marked words i)
unfolding mark_of with_mark
mark_set words e i long low =
    cases (eqb (e / 64) (i / 64))
    (λ t.
    let q : e / 64 ≡ i / 64 = eqb-true _ _ t in
    let inside : i / 64 < length words = omega arith in
    rw (q, get_or-set_same words (i / 64) (bit_or (get_or words (i / 64) 0) (2 ^ (e % 64))) 0 inside)
    (bit_set (get_or words (i / 64) 0) (e % 64) (i % 64) ∙ ap (λ (b : Bool). b || eqb (bit_of (get_or words (i / 64) 0) (i % 64)) 1) (same_place e i q)))
    (λ t.
    let n = eqb-false _ _ t in
    rw (
      get_or-set_other words (e / 64) (i / 64) (bit_or (get_or words (e / 64) 0) (2 ^ (e % 64))) 0 (λ q. n (sym q)),
      ne_eqb e i (λ q. n (ap (λ (x : ℕ). x / 64) q)),
    ))

has_last : (i e : ℕ) (list : List ℕ) → (eqb e i || has i list) ≡ has i (list ++ (e ∷ []))
unfolding has
has_last i e list = rw (has_append i list (e ∷ [])) (turned (eqb e i) (has i list))
  where
    turned : (a b : Bool) → (a || b) ≡ (b || (a || false))
    turned true true = refl
    turned true false = refl
    turned false true = refl
    turned false false = refl

pub one_marked : (words list : List ℕ) (e : ℕ) → e < 256 → Marks words list → Marks (with_mark words e) (list ++ (e ∷ []))
unfolding with_mark
one_marked words list e low m = record {
  long = length-set words (e / 64) _ ∙ m.long;
  tells = λ i. mark_set words e i m.long low ∙ ap (λ (b : Bool). eqb e i || b) (m.tells i) ∙ has_last i e list;
}

-- ---- the same of marks as numbers
pub mark_low : (words : List ℕ) (i : ℕ) → mark_of words i ≤ 1
unfolding mark_of bit_of
mark_low words i = omega arith

pub not_marked : (i : ℕ) → mark_of no_marks i ≡ 0
unfolding no_marks mark_of bit_of
not_marked i = rw (no_word (i / 64), div-eq_of_lt (pow_pos (i % 64)))

pub mark_new : (words : List ℕ) (e : ℕ) → length words ≡ 4 → e < 256 → mark_of (with_mark words e) e ≡ 1
mark_new words e long low = eqb-true _ _ (mark_set words e e long low ∙ ap (λ (b : Bool). b || is_marked words e) (eq-eqb e e refl))

pub mark_kept : (words : List ℕ) (e i : ℕ) → length words ≡ 4 → e < 256 → (i ≡ e → ⊥) → mark_of (with_mark words e) i ≡ mark_of words i
mark_kept words e i long low nay =
    let q = mark_set words e i long low ∙ ap (λ (b : Bool). b || is_marked words i) (ne_eqb e i (λ p. nay (sym p))) in
    let a = mark_low (with_mark words e) i in
    let b = mark_low words i in
    let x = mark_of (with_mark words e) i in
    let y = mark_of words i in
    cases (eqb y 1) (λ t. omega (arith, eqb-true x 1 (q ∙ t), eqb-true y 1 t)) (λ t. omega (arith, eqb-false x 1 (q ∙ t), eqb-false y 1 t))
