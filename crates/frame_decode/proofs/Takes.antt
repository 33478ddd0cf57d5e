-- The numbers of a hull as they are taken from a frame, case by case. Assumes nothing.
use Prim.Native.Nat.{ℕ, ◌+◌, ◌*◌, ◌<◌, ◌≤◌}
use mathlib.Core.Path.{◌≡◌, sym, ap, ◌∙◌}
use mathlib.Core.List.{List, [], ◌++◌}
use native.Mathlib.Nat.{zero-add}
use lib.ListN.{length, length-append}
use lib.Ieee.{Float}
use borrow.Author.Tests.{le-leb, lt-leb}
use Rattle.hull_links.specs.declared.HullSize.{HullSize}
use Rattle.hull_links.specs.Links.{planes_from, number_count}
use Rattle.lists.specs.Written.{Wrote}
use Rattle.lists.proofs.Written.{none, then, wrote_same}
use Rattle.frame_decode.specs.Fields.{float_at, floats_at}
use Rattle.frame_decode.specs.Hulls.{numbers_of, planes_at, numbers_taken, Taken}
use Rattle.lists.proofs.Tables.{table_length}

module _ (f : List ℕ) (at : ℕ) (s : HullSize) where
  pub numbers_length : length (numbers_of f at s) ≡ number_count s
  unfolding numbers_of
  numbers_length = simp (length-append, table_length)

  -- more than any accepted hull has: none
  pub taken_none : 902 < number_count s → numbers_taken f at s ≡ []
  unfolding numbers_taken
  taken_none h = rw (lt-leb (number_count s) 902 h)

  pub taken_all : number_count s ≤ 902 → numbers_taken f at s ≡ numbers_of f at s
  unfolding numbers_taken
  taken_all h = rw (le-leb (number_count s) 902 h)

  pub taken_length : number_count s ≤ 902 → length (numbers_taken f at s) ≡ number_count s
  taken_length h = ap length (taken_all h) ∙ numbers_length

  pub takes_none : (m : List Float) → 902 < number_count s → Taken f at s m 0 m
  takes_none m h = record { count = sym (ap length (taken_none h)); numbers = wrote_same none (sym (taken_none h)) }

  -- the numbers before the links, and the planes behind them
  pub takes_all : {m m1 m2 : List Float} {before behind : ℕ} → number_count s ≤ 902 → before ≡ planes_from s → behind ≡ planes_at s at
      → Wrote m 0 (floats_at f (at + 8) before) m1 → Wrote m1 before (floats_at f behind (4 * s.faces)) m2 → Taken f at s m (before + 4 * s.faces) m2
  unfolding numbers_of
  takes_all {m} {m1} {m2} {before} {behind} h eb ea first second =
      let whole : floats_at f (at + 8) before ++ floats_at f behind (4 * s.faces) ≡ numbers_of f at s =
      ap (λ n. floats_at f (at + 8) n ++ floats_at f behind (4 * s.faces)) eb
      ∙ ap (λ p. floats_at f (at + 8) (planes_from s) ++ floats_at f p (4 * s.faces)) ea in
      record {
        count = ap (λ n. n + 4 * s.faces) eb ∙ sym (taken_length h);
        numbers = wrote_same (then first second (sym (zero-add _ ∙ table_length (λ i. float_at f (at + 8 + 4 * i)) before))) (whole ∙ sym (taken_all h));
      }
