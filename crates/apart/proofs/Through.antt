-- A search that stops at the first axis above a distance, beside one that goes through every axis: both say whether one of them is above it. For any
-- steps that try axes. Assumes nothing.
use mathlib.Core.Path.{◌≡◌, refl, sym, ap, ◌∙◌, subst}
use mathlib.Core.Bool.{Bool, true, false, cond, true≢false}
use mathlib.Core.Logic.{⊎_elim}
use Prim.Native.Nat.{ℕ, zero, suc, ◌<◌}
use native.Mathlib.Omega.{arith}
use lib.Ieee.{Float, lt, is_nan}
use Rattle.vector.specs.declared.Vec3.{Vec3}
use Rattle.units.specs.Limits.{speculative}
use Rattle.hull_links.specs.Tests.{◌or◌, any}
use Rattle.axis_best.specs.declared.Lead.{Lead}
use Rattle.axis_best.specs.Leads.{none_of, new_best, better_of, stops_of, lead_after}
use Rattle.bounds.proofs.Order.{one_way, farther, above_number, not_below_minus_infinity}
use Rattle.axis_best.proofs.Searches.{lowest_is}
use Rattle.apart.specs.Every.{best_through}

-- ---- what a lead says of the axes that it has met, where `above` is whether one of them is farther than the speculative distance
module _ (unit : ℕ) where
  abbrev far : Float
  far = speculative unit

  pub record Reaches (above : Bool) (best : Lead) : Type 0 where
    pub reaches : lt far best.separation ≡ above
    pub number : is_nan best.separation ≡ false

  pub record Stops (above : Bool) (lead : Lead) : Type 0 where
    pub stopped : lead.apart ≡ above
    pub best : Reaches above lead

  -- one step of either search: `above` is whether one of its own axes is that far
  pub record Tries (above : Bool) (step through : Lead → Lead) : Type 0 where
    pub stops : (lead : Lead) → Stops false lead → Stops above (step lead)
    pub goes : (before : Bool) (best : Lead) → Reaches before best → Reaches (before or above) (through best)

  -- ---- nothing found
  none_reaches : Reaches false none_of
  unfolding is_nan
  none_reaches = record {
    reaches = ap (lt far) lowest_is ∙ not_below_minus_infinity far;
    number = ap is_nan lowest_is;
  }

  pub none_stops : Stops false none_of
  none_stops = record { stopped = refl; best = none_reaches }

  -- ---- a step that tries no axis
  or_false : (b : Bool) → b ≡ (b or false)
  unfolding ◌or◌
  or_false true = refl
  or_false false = refl

  pub tries_none : Tries false (λ lead. lead) (λ best. best)
  tries_none = record {
    stops = λ lead says. says;
    goes = λ before best says. subst (λ (b : Bool). Reaches b best) (or_false before) says;
  }

  -- ---- a step that tries one axis
  module _ (normal : Vec3) (separation : Float) (a b : ℕ) where
    abbrev above_far : Bool
    above_far = lt far separation

    abbrev new : Lead
    new = new_best unit normal separation a b

    -- the largest so far is a number; a new one that is greater takes its place
    larger : (z : Bool) (best : Lead) → lt best.separation separation ≡ z → (before : Bool) → Reaches before best
        → Reaches (before or above_far) (cond z new best)
    unfolding ◌or◌
    larger true best e true says = record {
      reaches = farther far best.separation separation says.reaches e;
      number = above_number best.separation separation e;
    }
    larger true best e false says = record { reaches = refl; number = above_number best.separation separation e }
    larger false best e true says = says
    larger false best e false says = subst (λ (b : Bool). Reaches b best) (sym (not_far (lt far separation) refl)) says
      where
        not_far : (z : Bool) → lt far separation ≡ z → z ≡ false
        not_far false f = refl
        not_far true f =
            ⊎_elim (λ h. absurd (true≢false (sym h ∙ says.reaches))) (λ h. absurd (true≢false (sym h ∙ e)))
            (one_way far best.separation separation says.number f)

    taken : (z : Bool) (lead : Lead) → lt lead.separation separation ≡ z → lead.apart ≡ false → Reaches false lead → (cond z new lead).apart ≡ above_far
    unfolding stops_of ◌or◌
    taken true lead e s says = refl
    taken false lead e s says = s ∙ sym says.reaches ∙ (larger false lead e false says).reaches

    pub tries_axis : Tries above_far (better_of unit normal separation a b) (better_of unit normal separation a b)
    unfolding better_of ◌or◌
    tries_axis = record {
      stops = λ lead says. record {
        stopped = taken (lt lead.separation separation) lead refl says.stopped says.best;
        best = larger (lt lead.separation separation) lead refl false says.best;
      };
      goes = λ before best says. larger (lt best.separation separation) best refl before says;
    }

  -- ---- a step that a test picks
  pub tries_picked : (z : Bool) {x y : Bool} {f f' g g' : Lead → Lead} → Tries x f g → Tries y f' g'
      → Tries (cond z x y) (λ lead. cond z (f lead) (f' lead)) (λ best. cond z (g best) (g' best))
  tries_picked true p q = p
  tries_picked false p q = q

  -- ---- steps in turn
  module _ (step through : ℕ → Lead → Lead) (above : ℕ → Bool) where
    -- a search that has stopped stays as it is
    next : (i : ℕ) (z : Bool) (lead : Lead) → Stops z lead → Tries (above i) (step i) (through i)
        → Stops (z or above i) (cond lead.apart lead (step i lead))
    unfolding ◌or◌
    next i true lead says tries = subst (λ (b : Bool). Stops true (cond b lead (step i lead))) (sym says.stopped) says
    next i false lead says tries =
        subst (λ (b : Bool). Stops (above i) (cond b lead (step i lead))) (sym says.stopped) (tries.stops lead says)

    stops_in_turn : (n : ℕ) → ((i : ℕ) → i < n → Tries (above i) (step i) (through i)) → (lead : Lead) → Stops false lead
        → Stops (any above n) (lead_after step lead n)
    unfolding any lead_after
    stops_in_turn zero tries lead says = says
    stops_in_turn (suc n) tries lead says =
        next n (any above n) (lead_after step lead n) (stops_in_turn n (λ i h. tries i (omega (arith, h))) lead says) (tries n (omega arith))

    or_assoc : (x y z : Bool) → ((x or y) or z) ≡ (x or (y or z))
    unfolding ◌or◌
    or_assoc true y z = refl
    or_assoc false y z = refl

    goes_in_turn : (n : ℕ) → ((i : ℕ) → i < n → Tries (above i) (step i) (through i)) → (before : Bool) (best : Lead) → Reaches before best
        → Reaches (before or any above n) (best_through through n best)
    unfolding any best_through
    goes_in_turn zero tries before best says = subst (λ (b : Bool). Reaches b best) (or_false before) says
    goes_in_turn (suc n) tries before best says =
        subst (λ (b : Bool). Reaches b (through n (best_through through n best))) (or_assoc before (any above n) (above n))
        ((tries n (omega arith)).goes (before or any above n) (best_through through n best)
        (goes_in_turn n (λ i h. tries i (omega (arith, h))) before best says))

    pub tries_in_turn : (n : ℕ) → ((i : ℕ) → i < n → Tries (above i) (step i) (through i))
        → Tries (any above n) (λ lead. lead_after step lead n) (best_through through n)
    tries_in_turn n tries = record { stops = stops_in_turn n tries; goes = goes_in_turn n tries }

-- the unit by another name
pub in_unit : {u v : ℕ} {above : Bool} {best : Lead} → u ≡ v → Reaches u above best → Reaches v above best
in_unit {u} {v} {above} {best} e says = subst (λ (w : ℕ). Reaches w above best) e says
