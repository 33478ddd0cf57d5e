-- Document 02, request b, "just tell me if they are apart": what the client would say of the question. Definitions only.
use Rattle.std.specs.Prelude.{ℕ, List, ◌≡◌, Float}
use Rattle.vector.specs.declared.Transform.{Transform}
use Rattle.hull_links.specs.declared.HullSize.{HullSize}
use Rattle.axis.specs.declared.AxisApart.{AxisApart}
use Rattle.axis.specs.declared.Found.{Found}
use Rattle.axis.specs.declared.Search.{Search}
use Rattle.axis.specs.Search.{search_of}

-- hull A is (s, n, l), hull B is (t, m, k), and x places B in A's frame
module _ (s : HullSize) (n : List Float) (l : List ℕ) (t : HullSize) (m : List Float) (k : List ℕ) (x : Transform) where
  -- the full search of a call stops at an axis apart
  pub record StopsApart : Type 0 where
    pub axis : AxisApart
    pub is : Search.Apart axis ≡ search_of s n l t m k x

  -- it comes to its end: a face of each side, and the pair of edges
  pub record ComesToItsEnd : Type 0 where
    pub found : Found
    pub is : Search.Found found ≡ search_of s n l t m k x
