-- The scan for a line end. Assumes nothing.
use Prim.Native.Nat.{ℕ, suc, ◌+◌, ◌≤◌, ◌<◌}
use mathlib.Core.Path.{◌≡◌, refl, sym, ap, ◌∙◌}
use mathlib.Core.Bool.{Bool, true, false, cond}
use mathlib.Core.List.{List, [], ◌∷◌, ◌++◌}
use native.Mathlib.Numerals.{add-one}
use native.Mathlib.Omega.{arith}
use borrow.Author.Tests.{eq-eqb, ne_eqb, eqb-true}
use lib.Dec.{eqb}
use lib.ListN.{length, get_or, take}
use lib.Seq.{take-suc}
use Rattle.std.specs.List.{position_or_len}
use Rattle.std.proofs.lemmas.List.Sums.{position_or_len_is}
use Rattle.std.proofs.lemmas.List.Recursion.{is_position_or_len}
use Rattle.stream_pending.specs.Ends.{line_end, to_end}

-- the first place whose character is a line end
pub to_end_position : (ys : List ℕ) → to_end ys ≡ position_or_len (λ c. eqb c line_end) ys
unfolding to_end
to_end_position ys = is_position_or_len to_end (λ c. eqb c line_end) refl more ys
  where
    more : (c : ℕ) (cs : List ℕ) → to_end (c ∷ cs) ≡ cond (eqb c line_end) 0 (1 + to_end cs)
    more c cs = let e : suc (to_end cs) ≡ 1 + to_end cs = omega arith in ap (λ n. cond (eqb c line_end) 0 n) e

-- no line end before i, and one at i unless it is the end
pub first_end : (rest : List ℕ) (i : ℕ) → i ≤ length rest → ((k : ℕ) → k < i → get_or rest k 0 ≡ line_end → ⊥)
    → (i < length rest → get_or rest i 0 ≡ line_end) → i ≡ to_end rest
first_end rest i m before at =
    sym (to_end_position rest ∙ position_or_len_is (λ c. eqb c line_end) rest i 0 m (λ k l. ne_eqb (get_or rest k 0) line_end (before k l))
    (λ l. eq-eqb (get_or rest i 0) line_end (at l)))

pub to_end_most : (ys : List ℕ) → to_end ys ≤ length ys
unfolding to_end
to_end_most [] = omega arith
to_end_most (c ∷ cs) = pick (eqb c line_end) (to_end_most cs)
  where
    pick : (t : Bool) → to_end cs ≤ length cs → cond t 0 (suc (to_end cs)) ≤ suc (length cs)
    pick true h = omega arith
    pick false h = omega arith

-- a line end stands there, unless it is the end
at_end : (ys : List ℕ) → to_end ys < length ys → get_or ys (to_end ys) 0 ≡ line_end
unfolding to_end
at_end [] h = absurd (omega arith)
at_end (c ∷ cs) h = pick (eqb c line_end) refl (at_end cs) h
  where
    pick : (t : Bool) → eqb c line_end ≡ t → (to_end cs < length cs → get_or cs (to_end cs) 0 ≡ line_end)
        → cond t 0 (suc (to_end cs)) < suc (length cs) → get_or (c ∷ cs) (cond t 0 (suc (to_end cs))) 0 ≡ line_end
    pick true e next l = eqb-true c line_end e
    pick false e next l = next (omega arith)

pub ended : (ys : List ℕ) → to_end ys < length ys → take (to_end ys + 1) ys ≡ take (to_end ys) ys ++ (line_end ∷ [])
ended ys h = ap (λ k. take k ys) (add-one (to_end ys)) ∙ (take-suc ys (to_end ys) 0 h ∙ ap (λ c. take (to_end ys) ys ++ (c ∷ [])) (at_end ys h))
