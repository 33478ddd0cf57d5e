-- Inner: the room that `room_of` found, one fact a list. Definitions only.
use Rattle.std.specs.Prelude.{ℕ, ◌/◌, ◌≤◌}

pub record Room (hulls pairs transforms judged caches floats bytes : ℕ) : Type 0 where
  pub judged_room : hulls / 6 ≤ judged
  pub transforms_room : pairs / 2 ≤ transforms / 7
  pub caches_room : pairs / 2 ≤ caches / 2
  pub floats_room : pairs / 2 ≤ floats / 19
  pub bytes_room : pairs / 2 ≤ bytes / 24
