-- What `all` of a list or of a range answers is the project's own `all`. Assumes nothing.
use Rattle.std.proofs.Common.{◌≡◌, refl, ap, sym, ◌∙◌, ℕ, zero, suc, ◌+◌, ◌≤◌, Bool, ◌&&◌, List, length, get_or, take, add-one, arith}
use Rattle.std.specs.List.{range_with_len, list_all}
use Rattle.std.specs.declared.ops.Range.{Range}
use Rattle.std.specs.Fn.{Called}
use Rattle.std.specs.Iterator.{ChecksAll}
use Rattle.std.proofs.iter.Yields.{nat_range_steps}
use denote.Param.Members.{Mut}
use Rattle.std.proofs.lemmas.Iterator.{YieldsList-from_range}
use Rattle.std.proofs.lemmas.Iterator.Search.{all_from_yields_List}
use Rattle.std.proofs.lemmas.List.{take_all}
use Rattle.std.proofs.lemmas.List.Folds.{list_all_more}
use Rattle.std.proofs.lemmas.List.FromFn.{length-range_with_len, get_or-range_with_len}
use Rattle.hull_links.specs.Tests.{all}
use Rattle.hull_links.proofs.Tests.{and_is, all_same}

module _ {A : Type 0} (p : A → Bool) (xs : List A) (d : A) where
  so_far : (i : ℕ) → i ≤ length xs → list_all p (take i xs) ≡ all (λ k. p (get_or xs k d)) i
  unfolding all
  so_far zero l = refl
  so_far (suc i) l =
      let more : list_all p (take (suc i) xs) ≡ (list_all p (take i xs) && p (get_or xs i d))
      = rw (← add-one i) (list_all_more p xs i d (omega (arith, l))) in
      more ∙ ap (λ (a : Bool). a && p (get_or xs i d)) (so_far i (omega arith)) ∙ and_is _ _

  pub all_in_list : list_all p xs ≡ all (λ k. p (get_or xs k d)) (length xs)
  all_in_list = ap (list_all p) (sym (take_all (length xs) xs (omega arith))) ∙ so_far (length xs) (omega arith)

pub all_in_range : (p : ℕ → Bool) (n : ℕ) → list_all p (range_with_len 0 n) ≡ all p n
all_in_range p n =
    let range = range_with_len 0 n in
    all_in_list p range 0 ∙ ap (all (λ k. p (get_or range k 0))) (length-range_with_len 0 n)
    ∙ all_same (λ k. p (get_or range k 0)) p n (λ i l. let e : 0 + i ≡ i = omega arith in ap p (get_or-range_with_len 0 n i 0 l ∙ e))

-- where each call answers as p does, so do all of them together
pub all_tested : {F : Type 0} {g : Mut F (ℕ × Unit {0}) Bool} (p : ℕ → Bool) (n : ℕ) (s u : Range ℕ) (f : F) (r : Bool)
    → s ≡ record { start = 0; end = n } → ChecksAll nat_range_steps g s f r u
    → ((x : ℕ) (b : Bool) (q : F) → Called g f (x, tt) b q → (q ≡ f) × (b ≡ p x))
    → r ≡ all p n
all_tested p n s u f r e ran told =
    all_from_yields_List p u f r ran (YieldsList-from_range 0 n n e (omega arith)) told ∙ all_in_range p n
