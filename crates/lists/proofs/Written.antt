-- Runs of values that are written over a list, one behind the other. Assumes nothing.
use Prim.Native.Nat.{ℕ, suc, ◌+◌, ◌≤◌}
use mathlib.Core.Path.{◌≡◌, refl, sym, ap, ◌∙◌}
use mathlib.Core.List.{List, [], ◌∷◌, ◌++◌}
use native.Mathlib.Omega.{arith}
use lib.ListN.{length, set, drop}
use lib.Seq.{sets, sets-eq, length-sets}
use Rattle.lists.specs.Written.{Wrote}

sets_app : {A : Type 0} (s : List A) (at : ℕ) (a b : List A) → sets s at (a ++ b) ≡ sets (sets s at a) (at + length a) b
sets_app s at [] b = let e : at ≡ at + 0 = omega arith in ap (λ k. sets s k b) e
sets_app s at (x ∷ a) b =
    let e : suc at + length a ≡ at + suc (length a) = omega arith in
    sets_app (set s at x) (suc at) a b ∙ ap (λ k. sets (sets (set s at x) (suc at) a) k b) e

-- nothing written
pub none : {A : Type 0} {s : List A} {at : ℕ} → Wrote s at [] s
none = record { by = refl }

-- one value written
pub once : {A : Type 0} (s : List A) (at : ℕ) (v : A) → Wrote s at (v ∷ []) (set s at v)
once s at v = record { by = refl }

-- one run behind another
pub then : {A : Type 0} {s m1 m2 : List A} {at k : ℕ} {a b : List A} → Wrote s at a m1 → Wrote m1 k b m2 → k ≡ at + length a → Wrote s at (a ++ b) m2
then {s = s} {m1} {m2} {at} {k} {a} {b} e f n =
    record { by = f.by ∙ (ap (λ m. sets m k b) e.by ∙ (ap (λ j. sets (sets s at a) j b) n ∙ sym (sets_app s at a b))) }

pub wrote_same : {A : Type 0} {s m vs ws : List A} {at : ℕ} → Wrote s at vs m → vs ≡ ws → Wrote s at ws m
wrote_same {s = s} {at = at} w e = record { by = w.by ∙ ap (sets s at) e }

-- four values, one behind the other
pub four : {A : Type 0} {s m1 m2 m3 m4 : List A} {at : ℕ} {a b c d : A} → Wrote s at (a ∷ []) m1 → Wrote m1 (at + 1) (b ∷ []) m2
    → Wrote m2 (at + 2) (c ∷ []) m3 → Wrote m3 (at + 3) (d ∷ []) m4 → Wrote s at (a ∷ b ∷ c ∷ d ∷ []) m4
four w x y z = then (then (then w x refl) y refl) z refl

-- the list stays as long as it was
pub wrote_length : {A : Type 0} {s m vs : List A} {at : ℕ} → Wrote s at vs m → length m ≡ length s
wrote_length {s = s} {vs = vs} {at = at} w = ap length w.by ∙ length-sets s at vs

-- what was written from the first place on stands in front of what was there
pub front : {A : Type 0} {s m vs : List A} → Wrote s 0 vs m → length vs ≤ length s → m ≡ vs ++ drop (length vs) s
front {s = s} {vs = vs} w l =
    let e : 0 + length vs ≡ length vs = omega arith in
    w.by ∙ (sets-eq vs s 0 (omega arith) ∙ ap (λ k. vs ++ drop k s) e)
