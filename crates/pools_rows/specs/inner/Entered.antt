-- Inner: one pair's answer put into the lists. Definitions only.
use Rattle.std.specs.Prelude.{ℕ, ◌*◌, List, ◌≡◌, Float}
use Rattle.lists.specs.Written.{Wrote}
use Rattle.manifold.specs.declared.Answer.{Answer}
use Rattle.pools_rows.specs.Rows.{cache_words, contact_floats}

-- pair k got this answer, with r points: caches and floats went from cs and fs to cs' and fs'
pub record Entered (k : ℕ) (a : Answer) (cs : List ℕ) (fs : List Float) (r : ℕ) (cs' : List ℕ) (fs' : List Float) : Type 0 where
  pub cache : Wrote cs (2 * k) (cache_words a.cache) cs'
  pub floats : Wrote fs (19 * k) (contact_floats a.outcome.contact) fs'
  pub count : r ≡ a.outcome.contact.count
