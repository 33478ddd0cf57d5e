-- A question that is asked again with the cache which its answer left: from the second time on it is answered alike. Of whatever answers in the three
-- sorts of Working.antt, and of caches that are carried from one call to the next as they are, or through two words of a list. Assumes nothing.
use Prim.Native.Nat.{ℕ}
use mathlib.Core.Path.{◌≡◌, refl, sym, ap, subst, ◌∙◌}
use Rattle.manifold.specs.declared.SatCache.{SatCache}
use Rattle.manifold.specs.declared.Outcome.{Outcome}
use Rattle.manifold.specs.declared.Answer.{Answer}
use Rattle.manifold.specs.Records.{hit_set}
use Rattle.promises.specs.Rest.{Asked, HitUnread}
use Rattle.promises.proofs.Working.{Work, stays, serves, anew, done, Works}

-- a cache that has been carried once is carried as it is, and still so where its hit is set
pub record Carries (carry : SatCache → SatCache) : Type 0 where
  pub once : (c : SatCache) → carry (carry c) ≡ carry c
  pub with_hit : (c : SatCache) → carry (hit_set 1 (carry c)) ≡ hit_set 1 (carry c)

module _ (ask : Asked) (works : Works ask) where
  answers : (c : SatCache) (w : Work) → works.work c ≡ w → ask c ≡ done works.full c w
  answers c w e = works.is c ∙ ap (done works.full c) e

  -- ---- the answer does not read hit
  alike : (hit : ℕ) (c : SatCache) (w : Work)
      → ((done works.full (hit_set hit c) w).outcome ≡ (done works.full c w).outcome)
      × (hit_set 0 (done works.full (hit_set hit c) w).cache ≡ hit_set 0 (done works.full c w).cache)
  unfolding done
  alike hit c (stays o) = (refl, refl)
  alike hit c (serves o) = (refl, refl)
  alike hit c (anew o) = (refl, refl)

  module _ (hit : ℕ) (c : SatCache) where
    -- both answers go by one sort of work
    as_c : {A : Type 0} (part : Answer → A) → part (done works.full (hit_set hit c) (works.work c)) ≡ part (done works.full c (works.work c))
        → part (ask (hit_set hit c)) ≡ part (ask c)
    as_c part same = ap part (answers (hit_set hit c) (works.work c) (works.hit_unread hit c)) ∙ (same ∙ sym (ap part (works.is c)))

    outcome_as_c : (ask (hit_set hit c)).outcome ≡ (ask c).outcome
    outcome_as_c = as_c (λ (a : Answer). a.outcome) (alike hit c (works.work c)).0

    next_as_c : hit_set 0 (ask (hit_set hit c)).cache ≡ hit_set 0 (ask c).cache
    next_as_c = as_c (λ (a : Answer). hit_set 0 a.cache) (alike hit c (works.work c)).1

  pub hit_unread : HitUnread ask
  hit_unread = record { outcome = outcome_as_c; next = next_as_c }

  module _ (carry : SatCache → SatCache) (carries : Carries carry) where
    -- the cache that the next call is lent
    abbrev pub lent : SatCache → SatCache
    lent c = carry (ask c).cache

    -- a call with c and the call after it are answered alike, and leave one cache
    pub record Settled (c : SatCache) : Type 0 where
      pub outcome : (ask (lent c)).outcome ≡ (ask c).outcome
      pub cache : lent (lent c) ≡ lent c

    again : (c : SatCache) → lent c ≡ c → Settled c
    again c e = record { outcome = ap (λ (d : SatCache). (ask d).outcome) e; cache = ap lent e }

    -- ---- the three sorts
    staying : (c : SatCache) (o : Outcome) → carry c ≡ c → works.work c ≡ stays o → lent c ≡ c
    unfolding done
    staying c o k e = ap (λ (a : Answer). carry a.cache) (answers c (stays o) e) ∙ k

    hit_carried : (c : SatCache) → carry c ≡ c → carry (hit_set 1 c) ≡ hit_set 1 c
    hit_carried c k = ap (λ (d : SatCache). carry (hit_set 1 d)) (sym k) ∙ (carries.with_hit c ∙ ap (hit_set 1) k)

    serving : (c : SatCache) (o : Outcome) → carry c ≡ c → works.work c ≡ serves o → lent c ≡ hit_set 1 c
    unfolding done
    serving c o k e = ap (λ (a : Answer). carry a.cache) (answers c (serves o) e) ∙ hit_carried c k

    serves_on : (c : SatCache) (o : Outcome) → works.work c ≡ serves o → works.work (hit_set 1 c) ≡ serves o
    serves_on c o e = works.hit_unread 1 c ∙ e

    served : (c : SatCache) (o : Outcome) → carry c ≡ c → works.work c ≡ serves o → Settled c
    unfolding done
    served c o k e =
        let next = answers (hit_set 1 c) (serves o) (serves_on c o e) in
        record {
          outcome =
              ap (λ (d : SatCache). (ask d).outcome) (serving c o k e)
              ∙ (ap (λ (a : Answer). a.outcome) next ∙ sym (ap (λ (a : Answer). a.outcome) (answers c (serves o) e)));
          cache = ap lent (serving c o k e) ∙ (serving (hit_set 1 c) o (hit_carried c k) (serves_on c o e) ∙ sym (serving c o k e));
        }

    searching : (c : SatCache) (o : Outcome) → works.work c ≡ anew o → lent c ≡ carry works.full
    unfolding done
    searching c o e = ap (λ (a : Answer). carry a.cache) (answers c (anew o) e)

    -- the cache of a full search: it stays, it serves, or it is made again
    after_full : (w : Work) → works.work (carry works.full) ≡ w → Settled (carry works.full)
    after_full (stays o) e = again _ (staying _ o (carries.once works.full) e)
    after_full (serves o) e = served _ o (carries.once works.full) e
    after_full (anew o) e = again _ (searching _ o e)

    -- whatever the first call was lent, the second has settled
    pub second_settled : (c : SatCache) → carry c ≡ c → Settled (lent c)
    second_settled c k = go (works.work c) refl
      where
        go : (w : Work) → works.work c ≡ w → Settled (lent c)
        go (stays o) e = let back = staying c o k e in subst Settled (sym back) (again c back)
        go (serves o) e = subst Settled (sym (serving c o k e)) (served (hit_set 1 c) o (hit_carried c k) (serves_on c o e))
        go (anew o) e = subst Settled (sym (searching c o e)) (after_full (works.work (carry works.full)) refl)

    -- and so has the first, where it was not searched in full: then the cache that it leaves is not the search's
    pub first_settled : (c : SatCache) → carry c ≡ c → ((o : Outcome) → works.work c ≡ anew o → ⊥) → Settled c
    first_settled c k no_search = go (works.work c) refl
      where
        go : (w : Work) → works.work c ≡ w → Settled c
        go (stays o) e = again c (staying c o k e)
        go (serves o) e = served c o k e
        go (anew o) e = absurd (no_search o e)
