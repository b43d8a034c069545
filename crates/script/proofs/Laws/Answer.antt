-- The length of an answer, and what stands behind it.
use mathlib.Core.Path.{◌≡◌, refl, ap, sym, subst, ◌∙◌}
use mathlib.Core.List.{List, [], ◌∷◌, ◌++◌}
use Prim.Native.Nat.{ℕ, zero, suc, ◌+◌, ◌*◌, ◌≤◌}
use native.Mathlib.Nat.{zero-add}
use native.Mathlib.Omega.{arith}
use lib.ListN.{length, drop, set, length-append}
use lib.Seq.{sets, sets-eq, drop-append_seam}
use Rattle.packed.proofs.Laws.Writing.{sets_behind}
use Rattle.text.specs.Hex.{hex_text}
use Rattle.script.specs.Answer.{answer_bytes}
use Rattle.text.proofs.Laws.Hex.{length_hex}

-- where there are words
pub some_words : (w s : ℕ) → (w ≡ 0 → ⊥) → w + 2 * s + 1 ≡ answer_bytes w s
unfolding answer_bytes
some_words zero s h = absurd (h refl)
some_words (suc w) s h = refl

pub no_words : (w s : ℕ) → w ≡ 0 → 0 ≡ answer_bytes w s
unfolding answer_bytes
no_words w s h = ap (λ (n : ℕ). answer_bytes n s) (sym h)

-- what is written from the first place on leaves what stands behind it
pub behind : (vs d : List ℕ) → length vs ≤ length d → drop (length vs) (sets d 0 vs) ≡ drop (length vs) d
behind vs d h =
    let written : sets d 0 vs ≡ vs ++ drop (length vs) d = sets-eq vs d 0 (omega (arith, h)) ∙ rw zero-add in
    ap (drop (length vs)) written ∙ drop-append_seam vs (drop (length vs) d)

-- words, bytes and a line feed, one behind another
pub all_behind : (words shown d e f : List ℕ) (end : ℕ) → e ≡ sets d 0 words → f ≡ sets e (length words) (hex_text shown) → end ≡ length words + 2 * length shown → end + 1 ≤ length d → drop (end + 1) (set f end 10) ≡ drop (end + 1) d
all_behind words shown d e f end one two last h =
    let all = (words ++ hex_text shown) ++ 10 ∷ [] in
    let both : length (words ++ hex_text shown) ≡ end = length-append words (hex_text shown) ∙ ap (λ (n : ℕ). length words + n) (length_hex shown) ∙ sym last in
    let size : length all ≡ end + 1 = length-append (words ++ hex_text shown) (10 ∷ []) ∙ ap (λ (n : ℕ). n + 1) both in
    let texts : f ≡ sets d 0 (words ++ hex_text shown) = two ∙ sets_behind words (hex_text shown) d e 0 (length words) one (zero-add (length words)) in
    let whole : set f end 10 ≡ sets d 0 all = sets_behind (words ++ hex_text shown) (10 ∷ []) d f 0 end texts (zero-add (length (words ++ hex_text shown)) ∙ both) in
    ap (drop (end + 1)) whole ∙ ap (λ (n : ℕ). drop n (sets d 0 all)) (sym size) ∙ behind all d (subst (λ (n : ℕ). n ≤ length d) (sym size) h) ∙ ap (λ (n : ℕ). drop n d) size

-- an answer that fits, by lengths that are others
pub fits : {w s w' s' n r : ℕ} → r ≡ answer_bytes w s → w' ≡ w → s' ≡ s → r ≤ n → answer_bytes w' s' ≤ n
fits {n = n} e one two h = subst (λ (k : ℕ). k ≤ n) (e ∙ (λ i. answer_bytes (sym one i) (sym two i))) h

-- no answer is longer than its parts
pub at_most : (w s : ℕ) → answer_bytes w s ≤ w + 2 * s + 1
unfolding answer_bytes
at_most zero s = omega arith
at_most (suc w) s = omega arith
