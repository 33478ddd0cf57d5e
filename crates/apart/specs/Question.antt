-- "Just tell me if they are apart" (document 02, b): refused, or a yes or a no. Definitions only.
use Rattle.std.specs.Prelude.{ℕ, Bool, cond, List, eqb, Float}
use Rattle.vector.specs.declared.Transform.{Transform}
use Rattle.hull_links.specs.declared.HullSize.{HullSize}
use Rattle.collide_refusals.specs.Refusals.{question_refusal_of}
use Rattle.apart.specs.declared.Apart.{Apart}
use Rattle.apart.specs.Every.{apart_by_every}

-- a refusal says no more than its number
unfoldable pub refused_question : ℕ → Apart
refused_question number = record { status = number; apart = 0 }

-- a yes is 1, a no is 0
unfoldable pub answered_question : Bool → Apart
answered_question is_apart = record { status = 0; apart = cond is_apart 1 0 }

-- hull A is (s, n, l), hull B is (t, m, k), and x places B in A's frame
unfoldable pub question_of : HullSize → List Float → List ℕ → HullSize → List Float → List ℕ → Transform → Apart
question_of s n l t m k x =
    cond (eqb (question_refusal_of s n l t m k x) 0) (answered_question (apart_by_every s n l t m k x)) (refused_question (question_refusal_of s n l t m k x))
