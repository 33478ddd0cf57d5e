-- The turns of the pairs, and the whole step. Assumes nothing.
use Prim.Native.Nat.{ℕ, ◌+◌, ◌*◌, ◌/◌, ◌≤◌, ◌<◌}
use mathlib.Core.Bool.{Bool, true, false, false≢true}
use mathlib.Core.List.{List, ◌++◌}
use mathlib.Core.Path.{◌≡◌, refl, sym, ap, subst, ◌∙◌}
use native.Mathlib.Omega.{arith}
use lib.ListN.{length, get_or, drop}
use lib.Ieee.{Float}
use Rattle.lists.specs.Written.{Wrote, table}
use Rattle.lists.proofs.Written.{wrote_length, front}
use Rattle.lists.proofs.Tables.{table_length, written_at}
use Rattle.lists.proofs.Parts.{begins, goes_on, ends}
use Rattle.vector.specs.declared.Transform.{Transform}
use Rattle.manifold.specs.declared.SatCache.{SatCache}
use Rattle.manifold.specs.declared.Outcome.{Outcome}
use Rattle.manifold.specs.declared.Answer.{Answer}
use Rattle.pools.specs.Pools.{hulls_in, rule_of}
use Rattle.pools_rows.specs.Rows.{transform_in, cache_in}
use Rattle.pools_rows.specs.inner.Entered.{Entered}
use Rattle.pools_rows.proofs.Turns as rows
use Rattle.pools_pairs.specs.Pairs.{pair_answer}
use Rattle.pools_pairs.specs.inner.Judged.{Judged}
use Rattle.pools_pairs.proofs.Pairs.{few}
use Rattle.step.specs.declared.Step.{Step}
use Rattle.step.specs.Step.{pairs_in, answer_in, record_bytes, room_in, PairsDone, Stepped}

-- ---- the pairs
module _ (answer : ℕ → SatCache → Answer) (cs : List ℕ) (fs : List Float) (bs : List ℕ) where
  pub begun : PairsDone answer 0 cs fs bs 0 cs fs bs
  begun = record { answered = rows.begun answer cs fs; records = begins 24 _ bs }

  pub turned : {k r v : ℕ} {c : SatCache} {a : Answer} {o : Outcome} {cs₁ cs₂ : List ℕ} {fs₁ fs₂ : List Float} {bs₁ bs₂ : List ℕ}
      → PairsDone answer k cs fs bs r cs₁ fs₁ bs₁ → c ≡ cache_in cs₁ k → a ≡ answer k c → o ≡ a.outcome → Wrote bs₁ (24 * k) (record_bytes o) bs₂
      → Entered k a cs₁ fs₁ v cs₂ fs₂ → k < length cs₁ / 2 → k < length fs₁ / 19 → k < length bs₁ / 24
      → PairsDone answer (k + 1) cs fs bs (r + v) cs₂ fs₂ bs₂
  turned w ec ea eo p q rc rf rb =
      let e = rows.at_entry answer cs fs w.answered ec ea in
      record {
        answered = rows.turned answer cs fs w.answered e q rc rf;
        records = goes_on w.records p (ap record_bytes (eo ∙ ap (λ (y : Answer). y.outcome) e)) refl (omega arith);
      }

  pub ended : {k m r : ℕ} {cs₁ : List ℕ} {fs₁ : List Float} {bs₁ : List ℕ} → PairsDone answer k cs fs bs r cs₁ fs₁ bs₁ → k ≡ m
      → PairsDone answer m cs fs bs r cs₁ fs₁ bs₁
  ended w e = record { answered = rows.ended answer cs fs w.answered e; records = ends w.records e }

-- the answer to pair k from what was read
pub at_pair : (n : List Float) (l hs ps : List ℕ) (xs : List Float) (k : ℕ) (c : SatCache) {a b : ℕ} {x : Transform} {r : Answer}
    → a ≡ get_or ps (2 * k) 0 → b ≡ get_or ps (2 * k + 1) 0 → x ≡ transform_in xs k → r ≡ pair_answer n l hs a b x c → r ≡ answer_in n l hs ps xs k c
unfolding answer_in
at_pair n l hs ps xs k c ea eb ex w = w ∙ rw (ea, eb, ex)

-- no pair has more than four points
pub few_in : (n : List Float) (l hs ps : List ℕ) (xs : List Float) (k : ℕ) (c : SatCache) → (answer_in n l hs ps xs k c).outcome.contact.count ≤ 4
unfolding answer_in
few_in n l hs ps xs k c = few n l hs (get_or ps (2 * k) 0) (get_or ps (2 * k + 1) 0) (transform_in xs k) c

-- ---- the rules that this call wrote
module _ (n : List Float) (l hs : List ℕ) {js js' : List ℕ} (w : Wrote js 0 (table (rule_of n l hs) (hulls_in hs)) js') (room : hulls_in hs ≤ length js) where
  pub now_judged : Judged n l hs js'
  now_judged =
      record { long = subst (λ m. hulls_in hs ≤ m) (sym (wrote_length w)) room; each = λ h k. written_at (rule_of n l hs) h 0 w room k }

  judged_list : js' ≡ table (rule_of n l hs) (hulls_in hs) ++ drop (hulls_in hs) js
  judged_list =
      let e : length (table (rule_of n l hs) (hulls_in hs)) ≡ hulls_in hs = table_length (rule_of n l hs) (hulls_in hs) in
      front w (omega arith) ∙ ap (λ m. table (rule_of n l hs) (hulls_in hs) ++ drop m js) e

-- ---- the whole step
never : {b : Bool} → b ≡ true → b ≡ false → ⊥
never h k = false≢true (sym k ∙ h)

module _ (n : List Float) (l hs ps : List ℕ) (xs : List Float) (js cs : List ℕ) (fs : List Float) (bs : List ℕ) where
  pub too_short : (r : Step) → room_in hs ps xs js cs fs bs ≡ false → r.status ≡ 21 → r.points ≡ 0 → Stepped n l hs ps xs js cs fs bs r js cs fs bs
  too_short r h s p =
      record {
        short = λ k. (s, p, refl, refl, refl, refl);
        status = λ k. absurd (never k h);
        judged = λ k. absurd (never k h);
        pairs = λ k. absurd (never k h);
      }

  pub all_done : {js' cs' : List ℕ} {fs' : List Float} {bs' : List ℕ} (r : Step) → room_in hs ps xs js cs fs bs ≡ true → hulls_in hs ≤ length js
      → r.status ≡ 0 → Wrote js 0 (table (rule_of n l hs) (hulls_in hs)) js'
      → PairsDone (answer_in n l hs ps xs) (pairs_in ps) cs fs bs r.points cs' fs' bs' → Stepped n l hs ps xs js cs fs bs r js' cs' fs' bs'
  all_done r h room s w a =
      record {
        short = λ k. absurd (never h k);
        status = λ k. s;
        judged = λ k. judged_list n l hs w room;
        pairs = λ k. a;
      }
