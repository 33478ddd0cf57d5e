-- Answers that are put, and the answer to a frame case by case. Assumes nothing.
use Prim.Native.Nat.{ℕ, ◌/◌, ◌<◌, ◌≤◌}
use mathlib.Core.Path.{◌≡◌, refl, sym, ap, subst, ◌∙◌}
use mathlib.Core.Bool.{true, false}
use mathlib.Core.List.{List, [], ◌∷◌, ◌++◌}
use native.Mathlib.Omega.{arith}
use lib.ListN.{length, get_or, take, drop}
use lib.Seq.{take_at}
use borrow.Author.Tests.{lt-ltb, le-ltb, eq-eqb, ne_eqb}
use Rattle.root.specs.Root.{root_of}
use Rattle.manifold.specs.Pairs.{Flipped, flip_of}
use Rattle.lists.specs.Written.{Wrote}
use Rattle.frame_encode.specs.Bytes.{float_bytes, pair_bytes, answer_bytes}
use Rattle.lists.proofs.Written.{front}
use Rattle.frame_decode.specs.Fields.{float_at, pair_at}
use Rattle.lists.proofs.Tables.{table_length}
use Rattle.frame_hex.specs.Hex.{hex_line, byte_of, bytes_of, hex_of}
use Rattle.frame_call.specs.Requests.{call_length, call_of}
use Rattle.std.specs.Prelude.{Result, Ok, Err, IsErrAnd}
use Rattle.frame.specs.declared.Fault.{Fault}
use Rattle.frame.specs.Answers.{Answers}
use Rattle.frame.specs.Frames.{fault_of, root_answer, flipped_answer, flip_answer, call_answer, frame_answer}
use Rattle.frame.specs.Lines.{answered_of, line_answer}
use Rattle.frame.specs.inner.Faults.{number_of, Tried, Told}

-- what was written from the first place on is put
pub put : {vs o m : List ℕ} {r : ℕ} → Wrote o 0 vs m → length vs ≤ length o → r ≡ length vs → Answers vs o r m
put w l e = record { count = e; bytes = front w l }

pub answers_same : {vs ws o m : List ℕ} {r : ℕ} → Answers vs o r m → vs ≡ ws → Answers ws o r m
answers_same {o = o} a e = record { count = a.count ∙ ap length e; bytes = a.bytes ∙ ap (λ v. v ++ drop (length v) o) e }

pub tried_same : {vs ws : List ℕ} (o m : List ℕ) (r : Result ℕ Fault) → Tried vs o r m → vs ≡ ws → Tried ws o r m
tried_same o m (Ok n) t e = answers_same t e
tried_same o m (Err fault) t e = (sym e ∙ t.0, t.1)

-- a fault that is passed on
pub tried_err : {vs : List ℕ} (o : List ℕ) (r : Result ℕ Fault) (fault : Fault) → IsErrAnd r (λ e. e ≡ fault) → vs ≡ fault_of (number_of fault)
    → Tried vs o r o
tried_err o (Ok n) _ h e = absurd h
tried_err o (Err fault) _ h e = (e ∙ ap (λ x. fault_of (number_of x)) (sym h), refl)

-- an answer, or the fault in its place
pub told : {vs o m2 : List ℕ} (m : List ℕ) {n : ℕ} (r : Result ℕ Fault) → Tried vs o r m → Told r m n m2 → Answers vs o n m2
told m (Ok k) t u = record { count = u.0 ∙ t.count; bytes = u.1 ∙ t.bytes }
told {vs} {m2 = m2} m {n} (Err fault) t u = subst (λ l. Answers vs l n m2) t.1 (answers_same u (sym t.0))

module _ (f : List ℕ) where
  -- ---- kinds 10, 11 and 12: the wrong length, and the right one
  pub root_short : (length f ≡ 5 → ⊥) → fault_of 0x23 ≡ root_answer f
  unfolding root_answer
  root_short n = rw (ne_eqb (length f) 5 n)

  pub root_whole : length f ≡ 5 → 0x90 ∷ float_bytes (root_of (float_at f 1)) ≡ root_answer f
  unfolding root_answer
  root_whole e = rw (eq-eqb (length f) 5 e)

  pub flip_short : (length f ≡ 5 → ⊥) → fault_of 0x23 ≡ flip_answer f
  unfolding flip_answer
  flip_short n = rw (ne_eqb (length f) 5 n)

  pub flip_whole : length f ≡ 5 → flipped_answer (flip_of (pair_at f 1)) ≡ flip_answer f
  unfolding flip_answer
  flip_whole e = rw (eq-eqb (length f) 5 e)

  pub call_short : (length f ≡ call_length f → ⊥) → fault_of 0x23 ≡ call_answer f
  unfolding call_answer
  call_short n = rw (ne_eqb (length f) (call_length f) n)

  pub call_whole : length f ≡ call_length f → answer_bytes (call_of f) ≡ call_answer f
  unfolding call_answer
  call_whole e = rw (eq-eqb (length f) (call_length f) e)

  -- ---- a line: too long, no hexadecimal, a frame
  pub line_over : 20000 < length f → fault_of 0x24 ≡ answered_of f
  unfolding answered_of
  line_over h = rw (lt-ltb 20000 (length f) h)

  pub line_no_hex : length f ≤ 20000 → hex_line f ≡ false → fault_of 0x21 ≡ answered_of f
  unfolding answered_of
  line_no_hex l h = rw (le-ltb 20000 (length f) l, h)

  pub line_framed : length f ≤ 20000 → hex_line f ≡ true → frame_answer (bytes_of f) ≡ answered_of f
  unfolding answered_of
  line_framed l h = rw (le-ltb 20000 (length f) l, h)

  pub line_put : hex_of (answered_of f) ≡ line_answer f
  unfolding line_answer
  line_put = refl

-- refusal 8, and a pair that was flipped
pub flip_refused : (r : Flipped) → (r.status ≡ 0 → ⊥) → fault_of 0x08 ≡ flipped_answer r
unfolding flipped_answer
flip_refused r n = rw (ne_eqb r.status 0 n)

pub flip_done : (r : Flipped) → r.status ≡ 0 → 0x91 ∷ pair_bytes r.pair ≡ flipped_answer r
unfolding flipped_answer
flip_done r e = rw (eq-eqb r.status 0 e)

-- ---- kinds
pub frame_none : (f : List ℕ) → length f ≡ 0 → fault_of 0x22 ≡ frame_answer f
unfolding frame_answer
frame_none [] e = refl
frame_none (k ∷ f) e = absurd (omega arith)

pub frame_root : (f : List ℕ) → (length f ≡ 0 → ⊥) → get_or f 0 0 ≡ 0x10 → root_answer f ≡ frame_answer f
unfolding frame_answer
frame_root [] n e = absurd (n refl)
frame_root (k ∷ f) n e = rw (eq-eqb k 0x10 e)

pub frame_flip : (f : List ℕ) → (length f ≡ 0 → ⊥) → get_or f 0 0 ≡ 0x11 → flip_answer f ≡ frame_answer f
unfolding frame_answer
frame_flip [] n e = absurd (n refl)
frame_flip (k ∷ f) n e = rw (ne_eqb k 0x10 (λ z. let same : 16 ≡ 17 = sym z ∙ e in absurd (omega arith)), eq-eqb k 0x11 e)

pub frame_call_lem : (f : List ℕ) → (length f ≡ 0 → ⊥) → get_or f 0 0 ≡ 0x12 → call_answer f ≡ frame_answer f
unfolding frame_answer
frame_call_lem [] n e = absurd (n refl)
frame_call_lem (k ∷ f) n e =
    rw (
      ne_eqb k 0x10 (λ z. let same : 16 ≡ 18 = sym z ∙ e in absurd (omega arith)),
      ne_eqb k 0x11 (λ z. let same : 17 ≡ 18 = sym z ∙ e in absurd (omega arith)),
      eq-eqb k 0x12 e,
    )

pub frame_other : (f : List ℕ) → (length f ≡ 0 → ⊥) → (get_or f 0 0 ≡ 0x10 → ⊥) → (get_or f 0 0 ≡ 0x11 → ⊥) → (get_or f 0 0 ≡ 0x12 → ⊥)
    → fault_of 0x22 ≡ frame_answer f
unfolding frame_answer
frame_other [] n a b c = absurd (n refl)
frame_other (k ∷ f) n a b c = rw (ne_eqb k 0x10 a, ne_eqb k 0x11 b, ne_eqb k 0x12 c)

-- ---- a line's bytes, and its answer's characters

-- the bytes that were taken of a line stand first
pub bytes_first : (line : List ℕ) {s m : List ℕ} → Wrote s 0 (bytes_of line) m → length line / 2 ≤ length s → take (length line / 2) m ≡ bytes_of line
bytes_first line {s} {m} w l =
    let long : length (bytes_of line) ≡ length line / 2 = table_length (byte_of line) (length line / 2) in
    ap (take (length line / 2)) (front w (omega arith)) ∙ take_at (bytes_of line) (drop (length (bytes_of line)) s) (length line / 2) long

-- the values of an answer stand first
pub answer_first : {vs o m : List ℕ} {r : ℕ} → Answers vs o r m → take r m ≡ vs
answer_first {vs} {o} {m} {r} a = ap (take r) a.bytes ∙ take_at vs (drop (length vs) o) r (sym a.count)

pub bytes_long : (line : List ℕ) {s m : List ℕ} → Wrote s 0 (bytes_of line) m → length line / 2 ≤ length s
    → length line / 2 ≡ length (take (length line / 2) m)
bytes_long line w l = sym (ap length (bytes_first line w l) ∙ table_length (byte_of line) (length line / 2))

pub answer_long : {vs o m : List ℕ} {r : ℕ} → Answers vs o r m → r ≡ length (take r m)
answer_long a = a.count ∙ sym (ap length (answer_first a))
