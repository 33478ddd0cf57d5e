-- Every pair of edges in the text's order: "B's edges outside, A's inside". Definitions only; what one edge of B makes of A's edges is in the specs
-- of `axis_edges`.
use Rattle.std.specs.Prelude.{ℕ}
use Rattle.axis_best.specs.declared.Lead.{Lead}
use Rattle.axis_best.specs.Leads.{none_of, lead_after}
use Rattle.axis_edges.specs.declared.Edge.{Edge}
use Rattle.axis_edges.specs.Edges.{row_pairs}

-- edges 0 to m - 1 of B, each against edges 0 to n - 1 of A
unfoldable pub all_pairs : ℕ → (ℕ → Edge) → ℕ → (ℕ → Edge) → ℕ → Lead
all_pairs unit a n b m = lead_after (λ j. row_pairs unit a n (b j) j) none_of m
