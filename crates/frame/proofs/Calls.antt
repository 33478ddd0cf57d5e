-- The length of a call's frame: each hull has 30 bytes at least. Assumes nothing.
use Prim.Native.Nat.{ℕ, ◌+◌, ◌<◌}
use mathlib.Core.Path.{◌≡◌, sym, ap, ◌∙◌}
use mathlib.Core.List.{List}
use native.Mathlib.Omega.{arith}
use lib.ListN.{length}
use Rattle.hull_links.specs.declared.HullSize.{HullSize}
use Rattle.frame_encode.specs.Bytes.{answer_bytes}
use Rattle.frame_decode.specs.Fields.{size_at}
use Rattle.frame_decode.specs.Hulls.{hull_length}
use Rattle.frame_call.specs.Requests.{hull_a, hull_b, begins_b, call_length, call_of}
use Rattle.frame.specs.Frames.{fault_of, call_answer}
use Rattle.frame.proofs.Puts.{call_short, call_whole}

module _ (f : List ℕ) where
  pub too_short : length f < 49 → fault_of 0x23 ≡ call_answer f
  too_short h = call_short f (λ e. absurd (omega arith))

  module _ {a : HullSize} {at : ℕ} (ea : a ≡ hull_a f) (eb : at ≡ 41 + hull_length a) where
    begins : at ≡ begins_b f
    begins = eb ∙ ap (λ s. 41 + hull_length s) ea

    pub too_short_b : length f < at + 8 → fault_of 0x23 ≡ call_answer f
    too_short_b h = let b = begins in call_short f (λ e. absurd (omega arith))

    whole : {b : HullSize} → b ≡ size_at f at → at + hull_length b ≡ call_length f
    whole {b} e = ap (λ s. at + hull_length s) (e ∙ ap (size_at f) begins) ∙ ap (λ p. p + hull_length (hull_b f)) begins

    pub other_length : {b : HullSize} → b ≡ size_at f at → (length f ≡ at + hull_length b → ⊥) → fault_of 0x23 ≡ call_answer f
    other_length e n = call_short f (λ z. n (z ∙ sym (whole e)))

    pub right_length : {b : HullSize} → b ≡ size_at f at → length f ≡ at + hull_length b → answer_bytes (call_of f) ≡ call_answer f
    right_length e z = call_whole f (z ∙ whole e)
