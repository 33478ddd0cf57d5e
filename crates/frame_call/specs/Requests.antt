-- The call that a frame of kind 12 asks for: document 01's section "The hex program". Definitions only.
use Rattle.std.specs.Prelude.{ℕ, ◌+◌, List, ◌≡◌, length}
use Rattle.manifold.specs.declared.Answer.{Answer}
use Rattle.hull_links.specs.declared.HullSize.{HullSize}
use Rattle.collide.specs.Call.{collide_of}
use Rattle.frame_decode.specs.Fields.{capacity_at, cache_at, transform_at, size_at}
use Rattle.frame_decode.specs.Hulls.{Sent, hull_length, numbers_of, links_of}

-- "12 + capacity (4), cache (8), position, quaternion with its scalar last, hull A, hull B": hull A begins at byte 41, hull B where A ends
abbrev pub hull_a : List ℕ → HullSize
hull_a f = size_at f 41

abbrev pub begins_b : List ℕ → ℕ
begins_b f = 41 + hull_length (hull_a f)

abbrev pub hull_b : List ℕ → HullSize
hull_b f = size_at f (begins_b f)

-- "length (a hull's by its V, H, F as sent)"
abbrev pub call_length : List ℕ → ℕ
call_length f = begins_b f + hull_length (hull_b f)

-- f has the length that the sizes a and b, as sent, ask for, and hull B begins at `at`
pub record Sized (f : List ℕ) (a : HullSize) (at : ℕ) (b : HullSize) : Type 0 where
  pub a_is : a ≡ hull_a f
  pub a_sent : Sent a
  pub at_is : at ≡ 41 + hull_length a
  pub b_is : b ≡ size_at f at
  pub b_sent : Sent b
  pub whole : length f ≡ at + hull_length b

-- the call with what stands in the frame
unfoldable pub call_of : List ℕ → Answer
call_of f =
    collide_of (hull_a f) (numbers_of f 41 (hull_a f)) (links_of f 41 (hull_a f)) (hull_b f) (numbers_of f (begins_b f) (hull_b f))
    (links_of f (begins_b f) (hull_b f))
    (transform_at f 13) (capacity_at f 1) (cache_at f 5)
