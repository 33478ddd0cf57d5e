-- How what is held grows, and when it is nothing. Assumes nothing.
use Prim.Native.Nat.{ℕ, ◌+◌, ◌-◌, ◌≤◌, ◌<◌}
use mathlib.Core.Path.{◌≡◌, refl, sym, ap, subst, ◌∙◌}
use mathlib.Core.Bool.{Bool, true, false, cond}
use mathlib.Core.List.{List, [], ◌++◌}
use native.Mathlib.Omega.{arith}
use borrow.Author.Tests.{eqb-true, eqb-false}
use lib.ListN.{length, take, length-append, length-take}
use lib.Seq.{paste, take-paste, take-length}
use Rattle.std.specs.Prelude.{Option, None, Some, IfSome, IfNone}
use Rattle.stream_pending.specs.declared.Pending.{Pending}
use Rattle.stream_pending.specs.Held.{Ready, Held, none_kept, nothing}

pub differ : {A : Type 0} {t : Bool} → t ≡ true → t ≡ false → A
differ e f = let z : ◌≡◌ {A = Bool} true false = sym e ∙ f in let n : ◌≡◌ {A = ℕ} 0 1 = ap (λ t. cond t 0 1) z in absurd (omega arith)

pub held_none : (line : List ℕ) → Held [] line (record { kept = Some 0 })
held_none line = record { kept = refl; long = tt }

-- as many characters as `len` says, where there are not too many
held_length : {xs line : List ℕ} {p : Pending} {len : ℕ} → Ready line p → Held xs line p → p.kept ≡ Some len → length xs ≡ len
held_length {xs} {line} {p} {len} r h e =
    let m : len ≤ 20000 = subst (λ o. IfSome o (λ n. n ≤ 20000)) e r.most in
    let k : xs ≡ take len line = subst (λ o. IfSome o (λ n. xs ≡ take n line)) e h.kept in
    let room = r.room in
    ap length k ∙ simp length-take (omega arith)

-- characters come to too many, or to so many that there are too many then, or are copied behind the others
pub held_over : (part : List ℕ) {xs line : List ℕ} {p : Pending} → p.kept ≡ None → Held xs line p → Held (xs ++ part) line p
held_over part {xs} {line} {p} e h =
    let l : 20000 < length xs = subst (λ o. IfNone o (20000 < length xs)) e h.long in
    record {
      kept = subst (λ o. IfSome o (λ n. xs ++ part ≡ take n line)) (sym e) tt;
      long = subst (λ o. IfNone o (20000 < length (xs ++ part))) (sym e) (simp length-append (omega arith));
    }

pub held_long : (part : List ℕ) {xs line : List ℕ} {p : Pending} {len : ℕ} → Ready line p → p.kept ≡ Some len → 20000 - len < length part → Held xs line p
    → Held (xs ++ part) line (record { kept = None })
held_long part r e l h = record { kept = tt; long = let n = held_length r h e in simp length-append (omega arith) }

pub held_copied : (part : List ℕ) {xs line line' : List ℕ} {p : Pending} {len : ℕ} → Ready line p → p.kept ≡ Some len → len + length part ≤ 20000
    → line' ≡ paste line len part (length part) → Held xs line p → Held (xs ++ part) line' (record { kept = Some (len + length part) })
held_copied part {xs} {line} {line'} {p} {len} r e l w h =
    let room = r.room in
    let k : xs ≡ take len line = subst (λ o. IfSome o (λ n. xs ≡ take n line)) e h.kept in
    let t : take (len + length part) line' ≡ take len line ++ part =
    ap (take (len + length part)) w
    ∙ (take-paste line len part (length part) (omega arith) (omega arith) ∙ ap (λ ys. take len line ++ ys) (take-length part)) in
    record { kept = ap (λ ys. ys ++ part) k ∙ sym t; long = tt }

pub nothing_held : {xs line : List ℕ} {p : Pending} → nothing p ≡ true → Held xs line p → xs ≡ []
nothing_held {xs} {line} {p} e h = pick p.kept e h.kept
  where
    pick : (kept : Option ℕ) → none_kept kept ≡ true → IfSome kept (λ len. xs ≡ take len line) → xs ≡ []
    pick None f k = differ f refl
    pick (Some len) f k = k ∙ ap (λ n. take n line) (eqb-true len 0 f)

pub something_held : {xs line : List ℕ} {p : Pending} → nothing p ≡ false → Ready line p → Held xs line p → 0 < length xs
something_held {xs} {line} {p} e r h = pick p.kept refl e
  where
    pick : (kept : Option ℕ) → p.kept ≡ kept → none_kept kept ≡ false → 0 < length xs
    pick None k f = let l : 20000 < length xs = subst (λ o. IfNone o (20000 < length xs)) k h.long in omega arith
    pick (Some len) k f = let n = held_length r h k in let z = eqb-false len 0 f in omega arith
