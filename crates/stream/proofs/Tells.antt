-- What is told of the characters that are held, and how the answers of several lines come one behind the other. Assumes nothing.
use Prim.Native.Nat.{ℕ, zero, suc, ◌+◌, ◌-◌, ◌*◌, ◌≤◌, ◌<◌}
use mathlib.Core.Path.{◌≡◌, refl, sym, ap, ◌∙◌}
use mathlib.Core.Bool.{true, false}
use mathlib.Core.List.{List, [], ◌∷◌, ◌++◌, append_assoc, append-nil}
use native.Mathlib.Numerals.{add-one}
use native.Mathlib.Omega.{arith}
use lib.ListN.{length, take, drop, set, length-append, length-drop, drop_of_length-le}
use borrow.Rule.Slice.PartMut.{put_mid}
use lib.Seq.{set_at, drop-cons, drop_at, drop-drop, take-add, take_all, append_snoc}
use Rattle.frame_hex.specs.Hex.{hex_of}
use Rattle.frame.specs.Answers.{Answers}
use Rattle.frame.specs.Frames.{fault_of}
use Rattle.frame.specs.Lines.{line_answer, longest_line_answer}
use Rattle.frame.proofs.Lengths.{line_length, line_long}
use Rattle.frame.proofs.Puts.{answers_same, answer_first}
use Rattle.std.specs.Prelude.{None, Some}
use Rattle.stream_pending.specs.declared.Pending.{Pending}
use Rattle.stream.specs.declared.Part.{Part}
use Rattle.stream_pending.specs.Ends.{line_end, to_end, longest_told}
use Rattle.stream.specs.Told.{line_told, told, held_after, told_last}
use Rattle.stream_pending.specs.Held.{Ready, Held, nothing}
use Rattle.stream.specs.Tells.{Tells}
use Rattle.stream.proofs.Parts.{told_append, held_append, quiet_told, quiet_held, line_told_lem, line_held}
use Rattle.stream_pending.proofs.Holds.{held_none, nothing_held, something_held}

-- one answer behind another
answers_then : {vs ws o m m' : List ℕ} {n k : ℕ} → Answers vs o n m → Answers ws (drop n m) k m' → Answers (vs ++ ws) o (n + k) (take n m ++ m')
answers_then {vs} {ws} {o} {m} {m'} {n} {k} a b =
    let d : drop n m ≡ drop n o = ap (drop n) a.bytes ∙ (drop_at vs (drop (length vs) o) n (sym a.count) ∙ ap (λ j. drop j o) (sym a.count)) in
    let l : length (vs ++ ws) ≡ n + length ws = length-append vs ws ∙ ap (λ j. j + length ws) (sym a.count) in
    let e : m' ≡ ws ++ drop (n + length ws) o = b.bytes ∙ (ap (λ x. ws ++ drop (length ws) x) d ∙ ap (λ x. ws ++ x) (drop-drop (length ws) n o)) in
    record {
      count = ap (λ j. n + j) b.count ∙ sym l;
      bytes =
          ap (λ x. x ++ m') (answer_first a)
          ∙ (ap (λ x. vs ++ x) e ∙ (sym (append_assoc vs ws (drop (n + length ws) o)) ∙ ap (λ j. vs ++ ws ++ drop j o) (sym l)));
    }

-- the line end behind an answer
pub answers_end : {vs o m m' : List ℕ} {n r : ℕ} → Answers vs o n m → n < length o → r ≡ n + 1 → m' ≡ set m n line_end → Answers (vs ++ (line_end ∷ [])) o r m'
answers_end {vs} {o} {m} {n = n} a h s w =
    let e : m ≡ vs ++ drop n o = a.bytes ∙ ap (λ j. vs ++ drop j o) (sym a.count) in
    let l : length (vs ++ (line_end ∷ [])) ≡ n + 1 = length-append vs (line_end ∷ []) ∙ ap (λ j. j + 1) (sym a.count) in
    record {
      count = s ∙ sym l;
      bytes =
          w ∙ (ap (λ x. set x n line_end) (e ∙ ap (λ x. vs ++ x) (drop-cons o n 0 h))
          ∙ (set_at vs _ (drop (suc n) o) line_end n (sym a.count)
          ∙ (sym (append_snoc vs line_end (drop (suc n) o)) ∙ ap (λ j. vs ++ (line_end ∷ []) ++ drop j o) (sym (add-one n) ∙ sym l))));
    }

pub answer_most : (xs : List ℕ) {o o' : List ℕ} {r : ℕ} → Answers (line_answer xs) o r o' → r ≤ longest_line_answer
answer_most xs a = omega (arith, a.count, line_length xs)

-- ---- the answer to the characters that are held: too many, kept, none but those that came last
pub answers_long : {xs line o o' : List ℕ} {p : Pending} {r : ℕ} → p.kept ≡ None → Held xs line p → Answers (hex_of (fault_of 0x24)) o r o'
    → Answers (line_answer xs) o r o'
answers_long {xs} e h a = answers_same a (sym (line_long xs (rw e at h.long)))

pub answers_kept : {xs line o o' : List ℕ} {p : Pending} {len r : ℕ} → p.kept ≡ Some len → Held xs line p → Answers (line_answer (take len line)) o r o'
    → Answers (line_answer xs) o r o'
answers_kept e h a = answers_same a (ap line_answer (sym (rw e at h.kept)))

pub answers_whole : (part : List ℕ) {xs line o o' : List ℕ} {p : Pending} {r : ℕ} → nothing p ≡ true → Held xs line p → Answers (line_answer part) o r o'
    → Answers (line_answer (xs ++ part)) o r o'
answers_whole part e h a = answers_same a (ap (λ l. line_answer (l ++ part)) (sym (nothing_held e h)))

-- ---- the end of the input
pub last_nothing : {xs line o : List ℕ} {p : Pending} → nothing p ≡ true → Held xs line p → Answers (told_last xs) o 0 o
unfolding told_last
last_nothing {o = o} e h = answers_same {vs = []} (record { count = refl; bytes = refl }) (ap told_last (sym (nothing_held e h)))

some_last : (xs : List ℕ) → 0 < length xs → line_told xs ≡ told_last xs
unfolding told_last
some_last [] h = absurd (omega arith)
some_last (x ∷ xs) h = refl

pub last_held : {xs line o o' : List ℕ} {p : Pending} {r : ℕ} → nothing p ≡ false → Ready line p → Held xs line p → Answers (line_told xs) o r o'
    → Answers (told_last xs) o r o'
last_held {xs} e r h a = answers_same a (some_last xs (something_held e r h))

-- ---- the next line, or what there is of it
pub tells_line : {xs rest line' o o' : List ℕ} {n k : ℕ} → n ≡ to_end rest → n < length rest → Answers (line_told (xs ++ take n rest)) o k o'
    → Tells xs rest o (record { taken = n + 1; held = record { kept = Some 0 }; count = k }) line' o'
tells_line {xs} {rest} {line'} {n = n} e l a =
    record {
      held = rw (e, line_held xs rest (rw e at l)) (held_none line');
      puts = answers_same a (ap (λ j. line_told (xs ++ take j rest)) e
          ∙ (sym (line_told_lem xs rest (rw e at l)) ∙ ap (λ j. told xs (take (j + 1) rest)) (sym e)));
    }

pub tells_rest : {xs rest line' o : List ℕ} {q : Pending} {n : ℕ} → n ≡ to_end rest → length rest ≤ n → Held (xs ++ rest) line' q
    → Tells xs rest o (record { taken = n; held = q; count = 0 }) line' o
tells_rest {xs} {rest} {n = n} e l h =
    let f : held_after xs (take n rest) ≡ xs ++ rest = ap (λ j. held_after xs (take j rest)) e
    ∙ (quiet_held xs rest ∙ (ap (λ j. xs ++ take j rest) (sym e) ∙ ap (λ x. xs ++ x) (take_all n rest l))) in
    record {
      held = rw f h;
      puts = answers_same {vs = []} (record { count = refl; bytes = refl }) (sym (ap (λ j. told xs (take j rest)) e ∙ quiet_told xs rest));
    }

-- ---- one part behind another
pub tells_none : {xs chunk line o : List ℕ} {p : Pending} → Held xs line p → Tells xs chunk o (record { taken = 0; held = p; count = 0 }) line o
unfolding told held_after
tells_none h = record { held = h; puts = record { count = refl; bytes = refl } }

tells_then : {xs chunk l1 l2 o o1 o2 : List ℕ} {q : Pending} {i n : ℕ} {t : Part} → Tells xs chunk o (record { taken = i; held = q; count = n }) l1 o1
    → Tells (held_after xs (take i chunk)) (drop i chunk) (drop n o1) t l2 o2
    → Tells xs chunk o (record { taken = i + t.taken; held = t.held; count = n + t.count }) l2 (take n o1 ++ o2)
tells_then {xs} {chunk} {i = i} {t = t} a b =
    let s : take (i + t.taken) chunk ≡ take i chunk ++ take t.taken (drop i chunk) = take-add i t.taken chunk in
    let h = held_append xs (take i chunk) (take t.taken (drop i chunk)) in
    let e = told_append xs (take i chunk) (take t.taken (drop i chunk)) in
    record { held = rw (s, h) b.held; puts = answers_same (answers_then a.puts b.puts) (sym (ap (told xs) s ∙ e)) }

rest_is : (n : ℕ) (l : List ℕ) → take (length l - n) (drop n l) ≡ drop n l
rest_is n l = take_all (length l - n) (drop n l) (simp length-drop (omega arith))

-- the same of the rest of a list that is lent
pub tells_next : {xs chunk l1 l2 o o1 o2 : List ℕ} {q : Pending} {i n : ℕ} {t : Part} → n ≤ length o1
    → Tells xs chunk o (record { taken = i; held = q; count = n }) l1 o1
    → ((ys : List ℕ) → Held ys l1 q → Tells ys (take (length chunk - i) (drop i chunk)) (take (length o1 - n) (drop n o1)) t l2 o2)
    → Tells xs chunk o (record { taken = i + t.taken; held = t.held; count = n + t.count }) l2 (put_mid n (length o1 - n) o1 o2)
tells_next {xs} {chunk} {l2 = l2} {o1 = o1} {o2} {i = i} {n} {t} h a b =
    let ys = held_after xs (take i chunk) in
    let f : Tells ys (drop i chunk) (drop n o1) t l2 o2 = rw (rest_is i chunk, rest_is n o1) at (b ys a.held) in
    let d : length (drop n o1) ≤ length o1 - n = simp length-drop (omega arith) in
    let e : put_mid n (length o1 - n) o1 o2 ≡ take n o1 ++ o2 = ap (λ x. take n o1 ++ (o2 ++ x)) (drop_of_length-le (drop n o1) d)
    ∙ ap (λ x. take n o1 ++ x) (append-nil o2) in
    rw e (tells_then a f)

-- a part that ends with room left has an end, and is no empty part
pub moves : (i n l room : ℕ) → n ≤ longest_told * i → longest_told ≤ room → 0 < l → (i < l → room < n + longest_told) → 0 < i
moves zero n l room a b c d = let e = d c in absurd (omega arith)
moves (suc i) n l room a b c d = omega arith
