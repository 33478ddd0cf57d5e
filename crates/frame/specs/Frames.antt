-- The answer to one frame of bytes, its kind first: document 01's section "The hex program". Definitions only.
use Rattle.std.specs.Prelude.{ℕ, cond, List, [], ◌∷◌, eqb, length}
use Rattle.root.specs.Root.{root_of}
use Rattle.manifold.specs.Pairs.{Flipped, flip_of}
use Rattle.frame_encode.specs.Bytes.{float_bytes, pair_bytes, answer_bytes}
use Rattle.frame_decode.specs.Fields.{float_at, pair_at}
use Rattle.frame_call.specs.Requests.{call_length, call_of}

-- ff and the fault's number
abbrev pub fault_of : ℕ → List ℕ
fault_of number = 0xff ∷ number ∷ []

-- "10 + four bytes: root, answered 90 + four bytes."; "ff23 length"
unfoldable pub root_answer : List ℕ → List ℕ
root_answer f = cond (eqb (length f) 5) (0x90 ∷ float_bytes (root_of (float_at f 1))) (fault_of 0x23)

-- "ff08 for refusal 8"
unfoldable pub flipped_answer : Flipped → List ℕ
flipped_answer flipped = cond (eqb flipped.status 0) (0x91 ∷ pair_bytes flipped.pair) (fault_of 0x08)

-- "11 + pair (owner1, index1, owner2, index2): flipped, answered 91 + pair."
unfoldable pub flip_answer : List ℕ → List ℕ
flip_answer f = cond (eqb (length f) 5) (flipped_answer (flip_of (pair_at f 1))) (fault_of 0x23)

-- kind 12: what the call answers; "ff23 length (a hull's by its V, H, F as sent)"
unfoldable pub call_answer : List ℕ → List ℕ
call_answer f = cond (eqb (length f) (call_length f)) (answer_bytes (call_of f)) (fault_of 0x23)

-- "ff22 no such kind": of no bytes too
unfoldable pub frame_answer : List ℕ → List ℕ
frame_answer [] = fault_of 0x22
frame_answer (kind ∷ rest) =
    cond (eqb kind 0x10) (root_answer (kind ∷ rest))
    (cond (eqb kind 0x11) (flip_answer (kind ∷ rest)) (cond (eqb kind 0x12) (call_answer (kind ∷ rest)) (fault_of 0x22)))
