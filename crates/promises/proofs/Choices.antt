-- Two choices by one test are related where both outcomes are. Assumes nothing.
use mathlib.Core.Bool.{Bool, true, false, cond}
use mathlib.Core.Path.{◌≡◌, refl, subst}

pub choice : {A B : Type 0} (R : A → B → Type 0) (b c : Bool) {y z : A} {p q : B} → b ≡ c → (b ≡ true → R y p) → (b ≡ false → R z q)
    → R (cond b y z) (cond c p q)
choice R true c {y} {z} {p} {q} e f g = subst (λ (d : Bool). R y (cond d p q)) e (f refl)
choice R false c {y} {z} {p} {q} e f g = subst (λ (d : Bool). R z (cond d p q)) e (g refl)
