-- A step in one call. "Every pair's answer and next cache are those of `contact_collide` with capacity 4"; each hull's note is its first broken rule,
-- whatever stood there; the points are the sum of the pairs'; "room too small is 21 and nothing is written". Of every step. Assumes nothing.
use Prim.Native.Nat.{ℕ, ◌+◌, ◌*◌, ◌/◌, ◌%◌, ◌<◌}
use mathlib.Core.Bool.{true, false}
use mathlib.Core.List.{List, [], ◌∷◌}
use mathlib.Core.Logic.{⊎_elim}
use mathlib.Core.Path.{◌≡◌, refl, sym, ap, ◌∙◌}
use native.Mathlib.Omega.{arith}
use borrow.Author.Tests.{lt-ltb, le-ltb, eqb-true, eqb-false}
use lib.Dec.{eqb, ltb}
use lib.IntN.{pos}
use lib.ListN.{length, get_or, drop, get_or-append}
use lib.Ieee.{Float}
use Rattle.bounds.proofs.Laws.{picked}
use Rattle.lists.specs.Written.{table}
use Rattle.lists.specs.Parts.{sum_of}
use Rattle.lists.proofs.Tables.{table_length, table_at}
use Rattle.vector.specs.declared.Transform.{Transform}
use Rattle.manifold.specs.declared.SatCache.{SatCache}
use Rattle.manifold.specs.declared.Contact.{Contact}
use Rattle.manifold.specs.declared.Outcome.{Outcome}
use Rattle.manifold.specs.declared.Answer.{Answer}
use Rattle.manifold.specs.Records.{empty_contact}
use Rattle.hull_links.proofs.Tests.{cases}
use Rattle.collide_outcome.specs.Answers.{refused_of}
use Rattle.collide.proofs.Steps.{broken_a, broken_b}
use Rattle.contactlib.specs.Lent.{Called}
use Rattle.contactlib.proofs.Keeps.{keeps_call}
use Rattle.pools.specs.Pools.{hulls_in, place_of, inside_of, rule_of}
use Rattle.pools.proofs.Laws.{rule_inside, rule_outside}
use Rattle.pools_rows.specs.Rows.{transform_in, cache_from, cache_in, cache_words}
use Rattle.pools_pairs.specs.Pairs.{number_rule, call_at, pair_answer}
use Rattle.pools_pairs.proofs.Pairs.{calls, refuses_1, refuses_2}
use Rattle.step.specs.declared.Step.{Step}
use Rattle.step.specs.Step.{pairs_in, answer_in, room_in, Stepped}
use Rattle.promises.specs.Stepping.{There, Missing, own_rule, single_call, first_of, second_of, Holds, words_of}

-- a refusal has no points
abbrev Empties : Answer → Type 0
Empties answer = (answer.outcome.status ≡ 0 → ⊥) → answer.outcome.contact ≡ empty_contact

-- ---- two hulls of the pools
module _ (n : List Float) (l hs : List ℕ) where
  rule_there : (h : ℕ) → There n l hs h → number_rule n l hs h ≡ own_rule n l hs h
  unfolding number_rule rule_of
  rule_there h w = simp (lt-ltb h (hulls_in hs) w.hull) (rule_inside n l (place_of hs h) w.inside)

  rule_missing : (h : ℕ) → Missing n l hs h → number_rule n l hs h ≡ 1
  unfolding number_rule rule_of
  rule_missing h w =
      ⊎_elim (λ past. simp (le-ltb h (hulls_in hs) past))
      (λ outside. let one = sym (rule_outside n l (place_of hs h) outside) in cases (ltb h (hulls_in hs)) (λ p. simp p one) (λ p. simp p)) w

  not_right : (h : ℕ) → Missing n l hs h → number_rule n l hs h ≡ 0 → ⊥
  not_right h w z = let one = rule_missing h w in omega (arith, one, z)

  -- where both hulls are there, the pair's answer is the single call's: it gives 1 and 2 by the hulls' own rules
  pub pair_is_call : (a b : ℕ) (x : Transform) (c : SatCache) → There n l hs a → There n l hs b → pair_answer n l hs a b x c ≡ single_call n l hs a b x c
  unfolding call_at
  pair_is_call a b x c p q =
      let ea = rule_there a p in
      let eb = rule_there b q in
      cases (eqb (own_rule n l hs a) 0)
      (λ za. cases (eqb (own_rule n l hs b) 0)
      (λ zb. sym (calls n l hs a b x c (ea ∙ eqb-true _ _ za) (eb ∙ eqb-true _ _ zb)))
      (λ nb. sym (refuses_2 n l hs a b x c (ea ∙ eqb-true _ _ za) (λ z. eqb-false _ _ nb (sym eb ∙ z)))
      ∙ broken_b _ _ _ _ _ _ x c (pos 4) refl (eqb-true _ _ za) (eqb-false _ _ nb)))
      (λ na. sym (refuses_1 n l hs a b x c (λ z. eqb-false _ _ na (sym ea ∙ z))) ∙ broken_a _ _ _ _ _ _ x c (pos 4) refl (eqb-false _ _ na))

  refused_empty : (a b : ℕ) (x : Transform) (c : SatCache) → Empties (pair_answer n l hs a b x c)
  unfolding pair_answer call_at
  refused_empty a b x c =
      picked Empties (eqb (number_rule n l hs a) 0)
      (picked Empties (eqb (number_rule n l hs b) 0) (keeps_call c _ _ _ _ _ _ x (pos 4)).empty (λ h. refl)) (λ h. refl)

-- four bytes of a word
word_back : (w : ℕ) → w < 4294967296 → w / 16777216 * 16777216 + w / 65536 % 256 * 65536 + w / 256 % 256 * 256 + w % 256 ≡ w
word_back w h = omega (arith, h)

-- the words of a cache that was read are the words that it was read from
pub words_kept : (cs : List ℕ) (k : ℕ) → get_or cs (2 * k + 1) 0 < 4294967296 → cache_words (cache_in cs k) ≡ words_of cs k
unfolding cache_in cache_from
words_kept cs k h = ap (λ (w : ℕ). get_or cs (2 * k) 0 ∷ w ∷ []) (word_back (get_or cs (2 * k + 1) 0) h)

-- ---- a step with room: numbers n, links l, hulls hs, pairs ps and transforms xs; js, cs, fs and bs are judged, caches, floats and bytes at entry
module _ (n : List Float) (l hs ps : List ℕ) (xs : List Float) (js cs : List ℕ) (fs : List Float) (bs : List ℕ) (r : Step) (js' cs' : List ℕ)
    (fs' : List Float) (bs' : List ℕ) (stepped : Stepped n l hs ps xs js cs fs bs r js' cs' fs' bs') where
  -- "room too small is 21 and nothing is written"
  pub no_room : room_in hs ps xs js cs fs bs ≡ false → (r.status ≡ 21) × (r.points ≡ 0) × (js' ≡ js) × (cs' ≡ cs) × (fs' ≡ fs) × (bs' ≡ bs)
  no_room = stepped.short

  module _ (room : room_in hs ps xs js cs fs bs ≡ true) where
    pub no_other_status : r.status ≡ 0
    no_other_status = stepped.status room

    -- ---- each hull's note
    noted : (h : ℕ) → h < hulls_in hs → get_or js' h 0 ≡ rule_of n l hs h
    noted h low =
        let long : length (table (rule_of n l hs) (hulls_in hs)) ≡ hulls_in hs = table_length (rule_of n l hs) (hulls_in hs) in
        ap (λ (j : List ℕ). get_or j h 0) (stepped.judged room)
        ∙ (get_or-append (table (rule_of n l hs) (hulls_in hs)) (drop (hulls_in hs) js) 0 h (omega arith) ∙ table_at (rule_of n l hs) (hulls_in hs) h 0 low)

    -- is its first broken rule, whatever stood there
    pub note_is : (h : ℕ) → There n l hs h → get_or js' h 0 ≡ own_rule n l hs h
    unfolding rule_of
    note_is h w = noted h w.hull ∙ rule_inside n l (place_of hs h) w.inside

    -- "lists that do not lie inside: 1"
    pub note_outside : (h : ℕ) → h < hulls_in hs → inside_of (place_of hs h) (length n) (length l) ≡ false → get_or js' h 0 ≡ 1
    unfolding rule_of
    note_outside h low outside = noted h low ∙ sym (rule_outside n l (place_of hs h) outside)

    -- ---- each pair: what it is given, and what it then holds
    abbrev given : ℕ → SatCache
    given k = cache_in cs k

    abbrev answer : ℕ → Answer
    answer k = answer_in n l hs ps xs k (given k)

    holds : (k : ℕ) → k < pairs_in ps → Holds k (answer k).outcome (answer k).cache cs' fs' bs'
    holds k low =
        let done = stepped.pairs room in
        record { cache = done.answered.caches.made k low; contact = done.answered.floats.made k low; outcome = done.records.made k low }

    holds_as : (k : ℕ) → k < pairs_in ps → (a : Answer) → answer k ≡ a → (o : Outcome) (is : SatCache) → o ≡ a.outcome → is ≡ a.cache
        → Holds k o is cs' fs' bs'
    holds_as k low a e o is p q = rw (p, q, sym e) (holds k low)

    -- exactly what the single call gives on the two hulls' own lists, with this pair's transform and its cache at entry: o and is are its outcome and its
    -- next cache
    pub is_the_call : (k : ℕ) → k < pairs_in ps → There n l hs (first_of ps k) → There n l hs (second_of ps k) → (o : Outcome) (is : SatCache)
        → Called (single_call n l hs (first_of ps k) (second_of ps k) (transform_in xs k) (given k)) (given k) o is → Holds k o is cs' fs' bs'
    unfolding answer_in
    is_the_call k low p q o is called =
        holds_as k low _ (pair_is_call n l hs (first_of ps k) (second_of ps k) (transform_in xs k) (given k) p q) o is called.answers called.updates

    -- "A hull number that is none: 1 or 2", and so are lists that do not lie inside; the cache stays
    pub first_missing : (k : ℕ) → k < pairs_in ps → Missing n l hs (first_of ps k) → Holds k (refused_of 1 (given k)).outcome (given k) cs' fs' bs'
    unfolding answer_in
    first_missing k low w =
        holds_as k low (refused_of 1 (given k)) (sym (refuses_1 n l hs _ _ _ _ (not_right n l hs (first_of ps k) w))) _ _ refl refl

    pub second_missing : (k : ℕ) → k < pairs_in ps → There n l hs (first_of ps k) → own_rule n l hs (first_of ps k) ≡ 0 → Missing n l hs (second_of ps k)
        → Holds k (refused_of 2 (given k)).outcome (given k) cs' fs' bs'
    unfolding answer_in
    second_missing k low p right w =
        holds_as k low (refused_of 2 (given k))
        (sym (refuses_2 n l hs _ _ _ _ (rule_there n l hs (first_of ps k) p ∙ right) (not_right n l hs (second_of ps k) w))) _ _ refl refl

    -- what the pairs' places are not, stays
    pub behind_stays : (drop (2 * pairs_in ps) cs' ≡ drop (2 * pairs_in ps) cs) × (drop (19 * pairs_in ps) fs' ≡ drop (19 * pairs_in ps) fs)
        × (drop (24 * pairs_in ps) bs' ≡ drop (24 * pairs_in ps) bs)
    behind_stays = let done = stepped.pairs room in (done.answered.caches.kept, done.answered.floats.kept, done.records.kept)

    -- ---- the points: the sum of the pairs', and a refused pair has none
    pub points_sum : r.points ≡ sum_of (λ (k : ℕ). (answer k).outcome.contact.count) (pairs_in ps)
    points_sum = (stepped.pairs room).answered.points

    pub refused_none : (k : ℕ) → ((answer k).outcome.status ≡ 0 → ⊥) → (answer k).outcome.contact.count ≡ 0
    unfolding answer_in
    refused_none k h =
        ap (λ (c : Contact). c.count) (refused_empty n l hs (first_of ps k) (second_of ps k) (transform_in xs k) (given k) h)
