-- What the answer to a frame of bytes says. Definitions only.
use Rattle.std.specs.Prelude.{ℕ, ◌<◌, ◌≤◌, ◌≡◌, List, length}
use Rattle.frame_encode.specs.Bytes.{longest_answer}
use Rattle.frame.specs.Answers.{Answers}
use Rattle.frame.specs.Frames.{frame_answer}

-- f is the frame, o what `answer` held at entry, r the result and o' what `answer` holds at exit
pub record Framed (f o : List ℕ) (r : ℕ) (o' : List ℕ) : Type 0 where
  -- no room: 0, and nothing written
  pub short : length o < longest_answer → (r ≡ 0) × (o' ≡ o)
  -- the answer's bytes stand first
  pub answers : longest_answer ≤ length o → Answers (frame_answer f) o r o'
