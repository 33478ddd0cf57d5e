-- What is told of the input does not depend on how it is cut into parts. Assumes nothing.
use Prim.Native.Nat.{ℕ, suc, ◌+◌, ◌<◌}
use mathlib.Core.Path.{◌≡◌, refl, sym, ap, ◌∙◌}
use mathlib.Core.Bool.{Bool, true, false, cond}
use mathlib.Core.List.{List, [], ◌∷◌, ◌++◌, append_assoc, append-nil}
use lib.Dec.{eqb}
use lib.ListN.{length, take}
use lib.Seq.{append_snoc}
use Rattle.stream_pending.specs.Ends.{line_end, to_end}
use Rattle.stream.specs.Told.{line_told, told, held_after}
use Rattle.stream_pending.proofs.Scans.{ended}

told_first : (t : Bool) (l p q p' q' h h' b : List ℕ) → p ≡ p' ++ told h b → q ≡ q' ++ told h' b
    → cond t (l ++ p) q ≡ cond t (l ++ p') q' ++ told (cond t h h') b
told_first true l p q p' q' h h' b e f = ap (λ z. l ++ z) e ∙ sym (append_assoc l p' (told h b))
told_first false l p q p' q' h h' b e f = f

pub told_append : (xs a b : List ℕ) → told xs (a ++ b) ≡ told xs a ++ told (held_after xs a) b
unfolding told held_after
told_append xs [] b = refl
told_append xs (c ∷ a) b =
    told_first (eqb c line_end) (line_told xs) _ _ (told [] a) (told (xs ++ (c ∷ [])) a) (held_after [] a) (held_after (xs ++ (c ∷ [])) a) b
    (told_append [] a b) (told_append (xs ++ (c ∷ [])) a b)

held_first : (t : Bool) (p q h h' b : List ℕ) → p ≡ held_after h b → q ≡ held_after h' b → cond t p q ≡ held_after (cond t h h') b
held_first true p q h h' b e f = e
held_first false p q h h' b e f = f

pub held_append : (xs a b : List ℕ) → held_after xs (a ++ b) ≡ held_after (held_after xs a) b
unfolding held_after
held_append xs [] b = refl
held_append xs (c ∷ a) b =
    held_first (eqb c line_end) _ _ (held_after [] a) (held_after (xs ++ (c ∷ [])) a) b (held_append [] a b) (held_append (xs ++ (c ∷ [])) a b)

-- up to the first line end nothing is told, and everything is held
pub quiet_told : (xs ys : List ℕ) → told xs (take (to_end ys) ys) ≡ []
unfolding told to_end
quiet_told xs [] = refl
quiet_told xs (c ∷ cs) = pick (eqb c line_end) refl (quiet_told (xs ++ (c ∷ [])) cs)
  where
    pick : (t : Bool) → eqb c line_end ≡ t → told (xs ++ (c ∷ [])) (take (to_end cs) cs) ≡ [] → told xs (take (cond t 0 (suc (to_end cs))) (c ∷ cs)) ≡ []
    pick true e next = refl
    pick false e next = rw e next

pub quiet_held : (xs ys : List ℕ) → held_after xs (take (to_end ys) ys) ≡ xs ++ take (to_end ys) ys
unfolding held_after to_end
quiet_held xs [] = sym (append-nil xs)
quiet_held xs (c ∷ cs) = pick (eqb c line_end) refl (quiet_held (xs ++ (c ∷ [])) cs)
  where
    pick : (t : Bool) → eqb c line_end ≡ t → held_after (xs ++ (c ∷ [])) (take (to_end cs) cs) ≡ xs ++ (c ∷ []) ++ take (to_end cs) cs
        → held_after xs (take (cond t 0 (suc (to_end cs))) (c ∷ cs)) ≡ xs ++ take (cond t 0 (suc (to_end cs))) (c ∷ cs)
    pick true e next = sym (append-nil xs)
    pick false e next = rw e (next ∙ append_snoc xs c (take (to_end cs) cs))

-- with the line end the line is told, and nothing is held
pub line_told_lem : (xs ys : List ℕ) → to_end ys < length ys → told xs (take (to_end ys + 1) ys) ≡ line_told (xs ++ take (to_end ys) ys)
unfolding told
line_told_lem xs ys h =
    let part = take (to_end ys) ys in
    ap (told xs) (ended ys h)
    ∙ (told_append xs part (line_end ∷ [])
    ∙ (ap (λ l. l ++ told (held_after xs part) (line_end ∷ [])) (quiet_told xs ys)
    ∙ (ap (λ l. told l (line_end ∷ [])) (quiet_held xs ys) ∙ append-nil (line_told (xs ++ part)))))

pub line_held : (xs ys : List ℕ) → to_end ys < length ys → held_after xs (take (to_end ys + 1) ys) ≡ []
unfolding held_after
line_held xs ys h = ap (held_after xs) (ended ys h) ∙ held_append xs (take (to_end ys) ys) (line_end ∷ [])
