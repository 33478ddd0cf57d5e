-- What was read up to a turn is told, held or left; at the end of the input all of it is told. Assumes nothing.
use Rattle.std.proofs.Common.{None, Some, IfSome, subst}
use Prim.Native.Nat.{ℕ, ◌+◌, ◌-◌, ◌≤◌, ◌<◌}
use mathlib.Core.Path.{◌≡◌, refl, sym, ap, ◌∙◌}
use mathlib.Core.Bool.{Bool, true, false, cond}
use mathlib.Core.List.{List, [], ◌++◌, append_assoc, append-nil}
use native.Mathlib.Omega.{arith}
use borrow.Author.Tests.{ltb-true, ltb-false}
use lib.Dec.{ltb}
use lib.ListN.{length, take, drop}
use Rattle.std.proofs.lemmas.List.{take-append-drop, drop-take, drop-drop}
use Rattle.std.proofs.KnownBytes.{Consumes-nil, Consumes-trans, Consumes-kept, Appends-nil, Appends-trans}
use Rattle.std.specs.declared.option.Option.{Option}
use Rattle.std.specs.Io.KnownBytes.{Consumes, Appends, IsAtEnd}
use Rattle.frame.specs.Answers.{Answers}
use Rattle.frame.proofs.Puts.{answer_first}
use Rattle.stream_pending.specs.Held.{Held}
use Rattle.stream_pending.proofs.Holds.{differ}
use Rattle.stream.specs.Tells.{Tells}
use Rattle.stream.specs.Told.{told, held_after, told_last}
use Rattle.stream.proofs.Parts.{told_append, held_append}
use Rattle.contact.specs.declared.State.{State}
use Rattle.contact.specs.Turns.{Fits, begins, unread, Arrives, Turned, told_of}

pub sure : (b : Bool) → (b ≡ false → ⊥) → b ≡ true
sure true f = refl
sure false f = absurd (f refl)

-- what was read is `done`, which is told or held, and what is left of the chunk
pub record Sofar (before now was is : Option (List ℕ)) (chunk line : List ℕ) (s : State) : Type 0 where
  pub done : List ℕ
  pub came : Consumes before now (done ++ take (s.to - s.from) (drop s.from chunk))
  pub held : Held (held_after [] done) line s.part.held
  pub leaves : s.ok ≡ true → Appends was is (told [] done)
  pub last : s.to ≡ 0 → s.read ≡ true → 0 < length chunk → IsAtEnd now

-- what a turn finds is what it tells and what it leaves
told_left : (n m k : ℕ) (xs : List ℕ) → m ≤ n → take m (take n (drop k xs)) ++ take (n - m) (drop (k + m) xs) ≡ take n (drop k xs)
told_left n m k xs l =
    let ys = drop k xs in
    let e : m + (n - m) ≡ n = omega arith in
    let d : drop m (take n ys) ≡ take (n - m) (drop (k + m) xs) =
    ap (λ (i : ℕ). drop m (take i ys)) (sym e) ∙ (drop-take m (n - m) ys ∙ ap (λ (zs : List ℕ). take (n - m) zs) (drop-drop m k xs)) in
    ap (λ (zs : List ℕ). take m (take n ys) ++ zs) (sym d) ∙ take-append-drop m (take n ys)

-- what a turn finds has come, behind what came before it
comes : (s s' : State) (before now now' : Option (List ℕ)) (done chunk chunk' : List ℕ) → Turned s chunk s' chunk'
    → Arrives now now' s.from s.to s'.to s'.read chunk' → Consumes before now (done ++ take (s.to - s.from) (drop s.from chunk))
    → Consumes before now' (done ++ unread s s' chunk')
comes s s' before now now' done chunk chunk' t a c = pick (ltb s.from s.to) refl
  where
    pick : (b : Bool) → ltb s.from s.to ≡ b → Consumes before now' (done ++ unread s s' chunk')
    pick true e =
        let l : s.from < s.to = ltb-true s.from s.to e in
        let b : begins s ≡ s.from = ap (λ (x : Bool). cond x s.from 0) e in
        let u : unread s s' chunk' ≡ take (s.to - s.from) (drop s.from chunk) =
        ap (λ (i : ℕ). take (s'.to - i) (drop i chunk')) b
        ∙ (ap (λ (i : ℕ). take (i - s.from) (drop s.from chunk')) (t.same l)
        ∙ ap (λ (xs : List ℕ). take (s.to - s.from) (drop s.from xs)) (t.kept l)) in
        subst (λ (z : List ℕ). Consumes before now' (done ++ z)) (sym u) (Consumes-kept before now now' _ c (a.left l))
    pick false e =
        let l : s.to ≤ s.from = ltb-false s.from s.to e in
        let none : s.to - s.from ≡ 0 = omega arith in
        let b : begins s ≡ 0 = ap (λ (x : Bool). cond x s.from 0) e in
        let was : Consumes before now done =
        subst (Consumes before now) (ap (λ (i : ℕ). done ++ take i (drop s.from chunk)) none ∙ append-nil done) c in
        let w : s'.to - 0 ≡ s'.to = omega arith in
        let u : unread s s' chunk' ≡ take s'.to chunk' =
        ap (λ (i : ℕ). take (s'.to - i) (drop i chunk')) b ∙ ap (λ (i : ℕ). take i chunk') w in
        subst (λ (z : List ℕ). Consumes before now' (done ++ z)) (sym u) (Consumes-trans before now now' done (take s'.to chunk') was (a.came l))

at_end : (s s' : State) (now now' : Option (List ℕ)) (chunk chunk' : List ℕ) → Turned s chunk s' chunk'
    → Arrives now now' s.from s.to s'.to s'.read chunk' → s'.to ≡ 0 → s'.read ≡ true → 0 < length chunk' → IsAtEnd now'
at_end s s' now now' chunk chunk' t a z r c = pick (ltb s.from s.to) refl
  where
    pick : (b : Bool) → ltb s.from s.to ≡ b → IsAtEnd now'
    pick true e = let l : s.from < s.to = ltb-true s.from s.to e in absurd (omega (arith, z, t.same l, l))
    pick false e = a.last (ltb-false s.from s.to e) z r c

-- before the first turn
pub nothing_yet : (before was : Option (List ℕ)) (chunk line : List ℕ) (s : State) → s.from ≡ 0 → s.to ≡ 0 → s.read ≡ false → Held [] line s.part.held
    → Sofar before before was was chunk line s
unfolding told held_after
nothing_yet before was chunk line s f t r h =
    let none : s.to - s.from ≡ 0 = omega (arith, f, t) in
    record {
      done = [];
      came = subst (Consumes before before) (sym (ap (λ (i : ℕ). take i (drop s.from chunk)) none)) (Consumes-nil before);
      held = h;
      leaves = λ o. Appends-nil was;
      last = λ z q c. differ q r;
    }

-- after a turn
pub one_more : (s s' : State) (before now now' was is is' : Option (List ℕ)) (chunk chunk' line line' out out' : List ℕ) → Sofar before now was is chunk line s
    → s.ok ≡ true → s'.from ≤ s'.to → Turned s chunk s' chunk' → Arrives now now' s.from s.to s'.to s'.read chunk'
    → ((xs : List ℕ) → Held xs line s.part.held → Tells xs (unread s s' chunk') out s'.part line' out')
    → (s'.ok ≡ true → Appends is is' (take s'.part.count out')) → Sofar before now' was is' chunk' line' s'
one_more s s' before now now' was is is' chunk chunk' line line' out out' p ok f t a tells leaves =
    let m = s'.part.taken in
    let u = unread s s' chunk' in
    let g = tells (held_after [] p.done) p.held in
    let n : (s'.to - begins s) - m ≡ s'.to - s'.from = omega (arith, t.next, f) in
    let cut : take m u ++ take (s'.to - s'.from) (drop s'.from chunk') ≡ u =
    ap (λ (i : ℕ). take m u ++ take (s'.to - s'.from) (drop i chunk')) t.next
    ∙ (ap (λ (i : ℕ). take m u ++ take i (drop (begins s + m) chunk')) (sym n) ∙ told_left (s'.to - begins s) m (begins s) chunk' (omega (arith, t.next, f))) in
    record {
      done = p.done ++ take m u;
      came = subst (Consumes before now')
          (sym (append_assoc p.done (take m u) (take (s'.to - s'.from) (drop s'.from chunk')) ∙ ap (λ (z : List ℕ). p.done ++ z) cut))
          (comes s s' before now now' p.done chunk chunk' t a p.came);
      held = subst (λ (z : List ℕ). Held z line' s'.part.held) (sym (held_append [] p.done (take m u))) g.held;
      leaves = λ o. subst (Appends was is') (sym (told_append [] p.done (take m u)))
          (Appends-trans was is is' _ _ (p.leaves ok) (subst (Appends is is') (answer_first g.puts) (leaves o)));
      last = at_end s s' now now' chunk chunk' t a;
    }

-- where the program stands: what was read so far, and the room
pub record Stands (before was now is : Option (List ℕ)) (chunk0 out0 chunk line out : List ℕ) (s : State) : Type 0 where
  pub chunk_room : length chunk ≡ length chunk0
  pub out_room : length out ≡ length out0
  pub fits : Fits chunk line s
  pub sofar : Sofar before now was is chunk line s

pub stands_more : {before was now now' is is' : Option (List ℕ)} {chunk0 out0 chunk chunk' line line' out out' : List ℕ} (s s' : State)
    → Stands before was now is chunk0 out0 chunk line out s → s.ok ≡ true
    → Fits chunk' line' s' × Turned s chunk s' chunk' × ((xs : List ℕ) → Held xs line s.part.held → Tells xs (unread s s' chunk') out s'.part line' out')
    → Arrives now now' s.from s.to s'.to s'.read chunk' → (s'.ok ≡ true → Appends is is' (take s'.part.count out'))
    → length chunk' ≡ length chunk → length out' ≡ length out → Stands before was now' is' chunk0 out0 chunk' line' out' s'
stands_more s s' i ok t a leaves c o = record {
  chunk_room = c ∙ i.chunk_room;
  out_room = o ∙ i.out_room;
  fits = t.0;
  sofar = one_more _ _ _ _ _ _ _ _ _ _ _ _ _ _ i.sofar ok t.0.left t.1 a t.2 leaves;
}

all_of : (before now : Option (List ℕ)) (done rest : List ℕ) (P : List ℕ → Type 0) → Consumes before now (done ++ rest) → rest ≡ [] → IsAtEnd now → P done
    → IfSome before P
all_of None now done rest P c r e p = tt
all_of (Some xs) None done rest P c r e p = absurd c
all_of (Some xs) (Some ys) done rest P c r e p =
    subst P (sym (c ∙ (ap (λ (z : List ℕ). (done ++ z) ++ ys) r ∙ (ap (λ (z : List ℕ). (done ++ []) ++ z) e ∙ (append-nil (done ++ []) ∙ append-nil done))))) p

-- at the end
pub whole : (s : State) (before now was is is' : Option (List ℕ)) (chunk line out out' : List ℕ) (count : ℕ) → Sofar before now was is chunk line s
    → s.ok ≡ true → s.to ≡ 0 → s.read ≡ true → 0 < length chunk
    → ((xs : List ℕ) → Held xs line s.part.held → Answers (told_last xs) out count out') → Appends is is' (take count out')
    → IfSome before (λ xs. Appends was is' (told_of xs))
whole s before now was is is' chunk line out out' count p ok z r c answers leaves =
    let none : s.to - s.from ≡ 0 = omega (arith, z) in
    all_of before now p.done (take (s.to - s.from) (drop s.from chunk)) (λ xs. Appends was is' (told_of xs)) p.came
    (ap (λ (i : ℕ). take i (drop s.from chunk)) none) (p.last z r c)
    (Appends-trans was is is' _ _ (p.leaves ok) (subst (Appends is is') (answer_first (answers (held_after [] p.done) p.held)) leaves))
