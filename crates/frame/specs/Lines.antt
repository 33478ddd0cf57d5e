-- The answer to one line of characters: document 01's section "The hex program". Definitions only.
use Rattle.std.specs.Prelude.{ℕ, ◌*◌, cond, List, ltb, length}
use Rattle.frame_encode.specs.Bytes.{longest_answer}
use Rattle.frame_hex.specs.Hex.{hex_line, bytes_of, hex_of}
use Rattle.frame.specs.Frames.{fault_of, frame_answer}

-- "Faults, in order: ff24 over 20,000 characters, ff21 not lowercase hex or odd", then what the frame is answered
unfoldable pub answered_of : List ℕ → List ℕ
answered_of line = cond (ltb 20000 (length line)) (fault_of 0x24) (cond (hex_line line) (frame_answer (bytes_of line)) (fault_of 0x21))

unfoldable pub line_answer : List ℕ → List ℕ
line_answer line = hex_of (answered_of line)

-- how many characters it has at the most
abbrev pub longest_line_answer : ℕ
longest_line_answer = 2 * longest_answer
