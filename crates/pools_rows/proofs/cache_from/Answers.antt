-- The four bytes of the word, the low one first.
use Prim.Native.Nat.{ℕ, ◌/◌, ◌%◌}
use mathlib.Core.List.{List}
use mathlib.Core.Path.{◌≡◌, ap, ◌∙◌}
use native.Mathlib.Omega.{arith}
use lib.ListN.{get_or}
use Rattle.manifold.specs.declared.SatCache.{SatCache}
use Rattle.pools_rows.specs.Rows.{cache_from}
use Rattle.pools_rows.proofs.cache_from.Goals as goal

bytes_in : ℕ → List ℕ → SatCache
bytes_in s bs = record { separation = s; kind = get_or bs 0 0; index_a = get_or bs 1 0; index_b = get_or bs 2 0; hit = get_or bs 3 0 }

with_hit : ℕ → ℕ → ℕ → SatCache
with_hit s w h = record { separation = s; kind = w % 256; index_a = w / 256 % 256; index_b = w / 65536 % 256; hit = h }

pub returns : goal.returns
unfolding cache_from bytes_in with_hit
returns c =
    let w = c.args.w in
    let top : w / 16777216 % 256 ≡ w / 16777216 = omega (arith, c.ranges.w.fits) in
    ap (bytes_in c.args.separation) c.to_le_bytes.ensures ∙ ap (with_hit c.args.separation w) top
