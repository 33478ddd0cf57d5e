-- How long an answer is at the most, in bytes and in characters. Assumes nothing.
use Prim.Native.Nat.{ℕ, ◌*◌, ◌<◌, ◌≤◌}
use mathlib.Core.Path.{◌≡◌, refl, sym, ap}
use mathlib.Core.Bool.{Bool, true, false, cond}
use mathlib.Core.List.{List, [], ◌∷◌}
use native.Mathlib.Omega.{arith}
use lib.Dec.{eqb, ltb}
use lib.ListN.{length, take}
use Rattle.root.specs.Root.{root_of}
use Rattle.manifold.specs.declared.Answer.{Answer}
use Rattle.manifold.specs.Pairs.{Flipped, flip_of}
use Rattle.lists.specs.Written.{Wrote}
use Rattle.frame_encode.specs.Bytes.{float_bytes, pair_bytes, answer_bytes, longest_answer}
use Rattle.lists.proofs.Written.{wrote_same}
use Rattle.frame_decode.specs.Fields.{float_at, pair_at}
use Rattle.frame_hex.specs.Hex.{hex_line, bytes_of, hex_of}
use Rattle.frame_hex.proofs.Bytes.{hex_length}
use Rattle.frame_call.specs.Requests.{call_length, call_of}
use Rattle.frame.specs.Answers.{Answers}
use Rattle.frame.specs.Frames.{fault_of, root_answer, flipped_answer, flip_answer, call_answer, frame_answer}
use Rattle.frame.specs.Lines.{answered_of, line_answer, longest_line_answer}
use Rattle.frame.proofs.Puts.{put, line_over, answer_first}

either : (b : Bool) (vs ws : List ℕ) → length vs ≤ longest_answer → length ws ≤ longest_answer → length (cond b vs ws) ≤ longest_answer
either true vs ws l m = l
either false vs ws l m = m

fault_short : (number : ℕ) → length (fault_of number) ≤ longest_answer
fault_short number = omega arith

pub answer_length : (a : Answer) → length (answer_bytes a) ≡ longest_answer
unfolding answer_bytes
answer_length a = refl

root_short : (f : List ℕ) → length (root_answer f) ≤ longest_answer
unfolding root_answer
root_short f = either (eqb (length f) 5) (0x90 ∷ float_bytes (root_of (float_at f 1))) (fault_of 0x23) (omega arith) (fault_short 0x23)

flipped_short : (r : Flipped) → length (flipped_answer r) ≤ longest_answer
unfolding flipped_answer
flipped_short r = either (eqb r.status 0) (0x91 ∷ pair_bytes r.pair) (fault_of 0x08) (omega arith) (fault_short 0x08)

flip_short : (f : List ℕ) → length (flip_answer f) ≤ longest_answer
unfolding flip_answer
flip_short f = either (eqb (length f) 5) (flipped_answer (flip_of (pair_at f 1))) (fault_of 0x23) (flipped_short (flip_of (pair_at f 1))) (fault_short 0x23)

call_short : (f : List ℕ) → length (call_answer f) ≤ longest_answer
unfolding call_answer
call_short f =
    let whole = answer_length (call_of f) in
    either (eqb (length f) (call_length f)) (answer_bytes (call_of f)) (fault_of 0x23) (omega arith) (fault_short 0x23)

pub frame_length : (f : List ℕ) → length (frame_answer f) ≤ longest_answer
unfolding frame_answer
frame_length [] = fault_short 0x22
frame_length (k ∷ f) =
    either (eqb k 0x10) (root_answer (k ∷ f)) _ (root_short (k ∷ f))
    (either (eqb k 0x11) (flip_answer (k ∷ f)) _ (flip_short (k ∷ f)) (either (eqb k 0x12) (call_answer (k ∷ f)) (fault_of 0x22) (call_short (k ∷ f))
    (fault_short 0x22)))

pub answered_length : (line : List ℕ) → length (answered_of line) ≤ longest_answer
unfolding answered_of
answered_length line =
    either (ltb 20000 (length line)) (fault_of 0x24) _ (fault_short 0x24)
    (either (hex_line line) (frame_answer (bytes_of line)) (fault_of 0x21) (frame_length (bytes_of line)) (fault_short 0x21))

pub line_length : (line : List ℕ) → length (line_answer line) ≤ longest_line_answer
unfolding line_answer
line_length line = let chars = hex_length (answered_of line) in let bytes = answered_length line in omega arith

-- a line that is too long is answered ff24, whatever it says
pub line_long : (line : List ℕ) → 20000 < length line → line_answer line ≡ hex_of (fault_of 0x24)
unfolding line_answer
line_long line h = ap hex_of (sym (line_over line h))

-- the characters of an answer's bytes are the line's answer
pub line_answers : (line : List ℕ) {o m s t : List ℕ} {n : ℕ} → Answers (answered_of line) o n m → Wrote s 0 (hex_of (take n m)) t → longest_line_answer ≤
    length s
    → Answers (line_answer line) s (2 * n) t
unfolding line_answer
line_answers line {n = n} a w l =
    let chars : length (hex_of (answered_of line)) ≡ 2 * length (answered_of line) = hex_length (answered_of line) in
    let bytes = answered_length line in
    let count = a.count in
    put (wrote_same w (ap hex_of (answer_first a))) (omega arith) (omega arith)
