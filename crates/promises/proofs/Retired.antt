-- Request j, of every call, whatever is lent: "such a cache now acts as type 0, and the answer carries a mark that a retired type was read .. The mark .. is
-- set only on accepted calls with capacity 4 or more." Assumes nothing.
use Prim.Native.Nat.{ℕ, ◌≤◌}
use mathlib.Core.Bool.{true, false}
use mathlib.Core.List.{List}
use mathlib.Core.Path.{◌≡◌, sym, ap, ◌∙◌}
use native.Mathlib.Omega.{arith}
use lib.Dec.{eqb}
use lib.IntN.{ℤ, pos}
use lib.Signed.{lt_z}
use lib.Ieee.{Float}
use borrow.Author.Tests.{eqb-true, eqb-false}
use Rattle.vector.specs.declared.Transform.{Transform}
use Rattle.manifold.specs.declared.SatCache.{SatCache}
use Rattle.manifold.specs.declared.Outcome.{Outcome}
use Rattle.manifold.specs.declared.Answer.{Answer}
use Rattle.hull_links.specs.declared.HullSize.{HullSize}
use Rattle.hull_links.proofs.Tests.{cases}
use Rattle.collide_outcome.specs.Answers.{retired_of}
use Rattle.collide_outcome.proofs.Cases.{marked}
use Rattle.collide.specs.Call.{collide_of}
use Rattle.collide.proofs.Steps.{too_small}
use Rattle.contactlib.specs.Lent.{Called}
use Rattle.promises.specs.Numbers.{Exactly}
use Rattle.promises.specs.Retired.{Retired, NoAxis, of_type0, mark_aside}
use Rattle.promises.proofs.Marks.{mark_range, mark_low, marks_call, outcome_aside, next_same}

-- hull A is (s, n, l), hull B is (t, m, k), and x places B in A's frame; was is the lent cache at entry, is at exit
module _ (s : HullSize) (n : List Float) (l : List ℕ) (t : HullSize) (m : List Float) (k : List ℕ) (x : Transform) (capacity : ℤ)
    (was : SatCache) (r : Outcome) (is : SatCache)
    (called : Called (collide_of s n l t m k x capacity was) was r is) where
  -- the capacity is 4 or more, so that the call looks at anything else
  abbrev Wide : Type 0
  Wide = lt_z capacity (pos 4) ≡ false

  -- ---- the mark
  mark_is : r.retired ≡ (collide_of s n l t m k x capacity was).outcome.retired
  mark_is = ap (λ (o : Outcome). o.retired) called.answers

  status_is : (collide_of s n l t m k x capacity was).outcome.status ≡ r.status
  status_is = ap (λ (o : Outcome). o.status) (sym called.answers)

  unmarked_small : lt_z capacity (pos 4) ≡ true → r.retired ≡ 0
  unmarked_small small = mark_is ∙ ap (λ (a : Answer). a.outcome.retired) (sym (too_small s n l t m k x was capacity small))

  marked_by_type : Wide → r.status ≡ 0 → r.retired ≡ retired_of was.kind
  marked_by_type wide ok = mark_is ∙ (marks_call was s n l t m k x capacity wide).set (status_is ∙ ok)

  unmarked_refused : Wide → (r.status ≡ 0 → ⊥) → r.retired ≡ 0
  unmarked_refused wide refused = mark_is ∙ (marks_call was s n l t m k x capacity wide).unset (λ q. refused (sym status_is ∙ q))

  -- set exactly where the call was accepted, its capacity is 4 or more and the type that was read is retired
  pub mark : Exactly (Wide × (r.status ≡ 0) × Retired was.kind) 1 r.retired
  mark =
      record {
        given = λ h. marked_by_type h.0 h.1 ∙ sym (marked was.kind h.2.0 h.2.1);
        only = λ q.
            cases (lt_z capacity (pos 4))
            (λ small. absurd (omega (arith, q, unmarked_small small)))
            (λ wide. cases (eqb r.status 0)
            (λ p. let ok = eqb-true _ _ p in (wide, ok, mark_range was.kind (sym (marked_by_type wide ok) ∙ q)))
            (λ p. absurd (omega (arith, q, unmarked_refused wide (eqb-false _ _ p)))));
      }

  -- else it is 0
  pub mark_0_or_1 : r.retired ≤ 1
  mark_0_or_1 =
      cases (lt_z capacity (pos 4))
      (λ small. let none = unmarked_small small in omega (arith, none))
      (λ wide. cases (eqb r.status 0)
      (λ p. let that = marked_by_type wide (eqb-true _ _ p) in let low = mark_low was.kind in omega (arith, that, low))
      (λ p. let none = unmarked_refused wide (eqb-false _ _ p) in omega (arith, none)))

  -- ---- what a cache that names no axis is answered, beside the same cache with type 0
  module _ (no_axis : NoAxis was.kind) (r₀ : Outcome) (is₀ : SatCache)
      (called₀ : Called (collide_of s n l t m k x capacity (of_type0 was)) (of_type0 was) r₀ is₀) where
    -- status and contact are those of type 0, refusals and small capacities too
    pub outcome_as_0 : mark_aside r ≡ r₀
    outcome_as_0 = ap mark_aside called.answers ∙ outcome_aside s n l t m k x capacity was no_axis ∙ sym called₀.answers

    -- and so is the next cache of an accepted call with capacity 4 or more; every other call leaves the cache that it was lent
    pub next_cache_as_0 : Wide → r.status ≡ 0 → is ≡ is₀
    next_cache_as_0 wide ok = called.updates ∙ next_same s n l t m k x capacity was no_axis wide (status_is ∙ ok) ∙ sym called₀.updates

-- the retired types name no axis
pub retired_names_none : (kind : ℕ) → Retired kind → NoAxis kind
retired_names_none kind h =
    record { not_2 = λ q. absurd (omega (arith, q, h.0)); not_3 = λ q. absurd (omega (arith, q, h.0)); not_4 = λ q. absurd (omega (arith, q, h.0)) }
