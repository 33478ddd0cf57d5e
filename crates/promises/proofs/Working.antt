-- What a call makes of the cache that it is lent, in three sorts, and that the sort does not go by `hit`. From it alone follows that a question asked
-- three times is answered the third time as the second. Assumes nothing.
use Prim.Native.Nat.{ℕ}
use mathlib.Core.Bool.{Bool, cond}
use mathlib.Core.List.{List}
use mathlib.Core.Path.{◌≡◌, refl}
use lib.Dec.{eqb}
use lib.IntN.{ℤ, pos}
use lib.Signed.{lt_z}
use lib.Ieee.{Float}
use Rattle.vector.specs.declared.Transform.{Transform}
use Rattle.manifold.specs.declared.SatCache.{SatCache}
use Rattle.manifold.specs.declared.Contact.{Contact}
use Rattle.manifold.specs.declared.Outcome.{Outcome}
use Rattle.manifold.specs.declared.Answer.{Answer}
use Rattle.manifold.specs.Records.{empty_contact, hit_set}
use Rattle.hull_links.specs.declared.HullSize.{HullSize}
use Rattle.collide_refusals.specs.Refusals.{cache_right, refusal_of}
use Rattle.collide_outcome.specs.Served.{Cached, near_of, served_of}
use Rattle.collide_outcome.specs.Answers.{retired_of, refused_of, answer_of}
use Rattle.collide_cached.specs.Again.{cached_face_a_of, cached_face_b_of, cached_edge_of}
use Rattle.collide_full.specs.Full.{full_of}
use Rattle.collide.specs.Call.{after_cached, worked_of, collide_of}
use Rattle.promises.specs.Rest.{Asked}
use Rattle.promises.proofs.Choices.{choice}

-- what becomes of the cache: it stays as it is (a refusal, a capacity below 4); it serves, and hit becomes 1; it is that of the full search
pub data Work : Type 0 where
  stays : Outcome → Work
  serves : Outcome → Work
  anew : Outcome → Work

-- the answer; full is the cache that the full search leaves
unfoldable pub done : SatCache → SatCache → Work → Answer
done full c (stays o) = record { outcome = o; cache = c }
done full c (serves o) = record { outcome = o; cache = hit_set 1 c }
done full c (anew o) = record { outcome = o; cache = full }

-- every answer is of one of the three sorts, with one cache for all full searches; and the sort does not go by hit
pub record Works (ask : Asked) : Type 0 where
  pub full : SatCache
  pub work : SatCache → Work
  pub is : (c : SatCache) → ask c ≡ done full c (work c)
  pub hit_unread : (hit : ℕ) (c : SatCache) → work (hit_set hit c) ≡ work c

-- ---- the call: hull A is (s, n, l), hull B is (t, m, k), and x places B in A's frame
abbrev answered : ℕ → Contact → ℕ → Outcome
answered status contact retired = record { status = status; contact = contact; retired = retired }

module _ (s : HullSize) (n : List Float) (l : List ℕ) (t : HullSize) (m : List Float) (k : List ℕ) (x : Transform) where
  abbrev next : SatCache
  next = (full_of s n l t m k x).cache

  unfoldable full_work : ℕ → Work
  full_work kind =
      cond (eqb (full_of s n l t m k x).status 0) (anew (answered 0 (full_of s n l t m k x).contact (retired_of kind)))
      (stays (answered (full_of s n l t m k x).status empty_contact 0))

  unfoldable cached_work : ℕ → Cached → Work
  cached_work kind cached =
      cond (eqb cached.status 0) (cond cached.hit (serves (answered 0 cached.contact 0)) (full_work kind))
      (stays (answered cached.status empty_contact 0))

  unfoldable call_work : ℤ → SatCache → Work
  call_work capacity c =
      cond (lt_z capacity (pos 4)) (stays (answered 0 empty_contact 0))
      (cond (eqb (refusal_of s n l t m k x c) 0)
      (cond (eqb c.kind 2) (cached_work c.kind (cached_face_a_of s n l t m k x c))
      (cond (eqb c.kind 3) (cached_work c.kind (cached_face_b_of s n l t m k x c))
      (cond (eqb c.kind 4) (cached_work c.kind (cached_edge_of s n l t m k x c))
      (full_work c.kind))))
      (stays (answered (refusal_of s n l t m k x c) empty_contact 0)))

  module _ (c : SatCache) where
    -- an answer that is made in this way
    record Made (a : Answer) (w : Work) : Type 0 where
      by : a ≡ done next c w

    both : (b : Bool) {y z : Answer} {p q : Work} → Made y p → Made z q → Made (cond b y z) (cond b p q)
    both b p q = choice Made b b refl (λ e. p) (λ e. q)

    refused : (number : ℕ) → Made (refused_of number c) (stays (answered number empty_contact 0))
    unfolding done
    refused number = record { by = refl }

    full_made : Made (answer_of c (full_of s n l t m k x)) (full_work c.kind)
    unfolding answer_of full_work done
    full_made = both (eqb (full_of s n l t m k x).status 0) (record { by = refl }) (refused _)

    cached_made : (cached : Cached) → Made (after_cached s n l t m k x c cached) (cached_work c.kind cached)
    unfolding after_cached cached_work done
    cached_made cached = both (eqb cached.status 0) (both cached.hit (record { by = refl }) full_made) (refused _)

    call_made : (capacity : ℤ) → Made (collide_of s n l t m k x capacity c) (call_work capacity c)
    unfolding collide_of worked_of call_work done
    call_made capacity =
        both (lt_z capacity (pos 4)) (record { by = refl })
        (both (eqb (refusal_of s n l t m k x c) 0)
        (both (eqb c.kind 2) (cached_made _) (both (eqb c.kind 3) (cached_made _) (both (eqb c.kind 4) (cached_made _) full_made)))
        (refused _))

  -- the refusals, the three cached axes and the full search take type, numbers and separation of the cache at most
  call_unread : (capacity : ℤ) (hit : ℕ) (c : SatCache) → call_work capacity (hit_set hit c) ≡ call_work capacity c
  unfolding call_work refusal_of cache_right cached_face_a_of cached_face_b_of cached_edge_of served_of near_of
  call_unread capacity hit c = refl

  pub call_works : (capacity : ℤ) → Works (collide_of s n l t m k x capacity)
  call_works capacity =
      record { full = next; work = call_work capacity; is = λ c. (call_made c capacity).by; hit_unread = call_unread capacity }
