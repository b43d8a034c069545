-- Bytes as text: its length, one byte more, that what was written is read again, and what a word of digits comes to.
use mathlib.Core.Path.{◌≡◌, refl, ap, sym, ◌∙◌}
use mathlib.Core.Bool.{Bool, true, false, ◌&&◌, cond, and-false}
use mathlib.Core.List.{List, [], ◌∷◌}
use Prim.Native.Nat.{ℕ, suc, ◌+◌, ◌*◌, ◌/◌, ◌%◌, ◌≤◌, ◌<◌}
use native.Mathlib.Numerals.{add-one}
use native.Mathlib.Omega.{arith}
use lib.Dec.{ltb}
use lib.ListN.{length, take, drop, get_or, set}
use lib.Seq.{sets, drop-cons}
use borrow.Author.Tests.{lt-ltb, le-ltb}
use Rattle.packed.specs.Every.{every}
use Rattle.packed.proofs.Laws.Writing.{part_sets}
use Rattle.text.specs.Digit.{digit_value, is_hexadecimal}
use Rattle.text.specs.Word.{equal_bytes}
use Rattle.std.specs.Prelude.{Some, None}
use Rattle.text.specs.Got.{Got, fitting}
use Rattle.text.specs.Hex.{hex_digit, hex_text, hex_bytes, is_paired, hex_word}
use Rattle.text.proofs.Laws.Got.{fitting_fits, fitting_over}

pub length_hex : (bs : List ℕ) → length (hex_text bs) ≡ 2 * length bs
unfolding hex_text
length_hex [] = omega arith
length_hex (b ∷ bs) = omega (arith, length_hex bs)

-- the two characters of the byte at i, and then the rest
pub hex_step : (d bytes : List ℕ) (i k k₁ k₂ a b : ℕ) → i < length bytes → k₁ ≡ suc k → k₂ ≡ suc (suc k) → a ≡ hex_digit (get_or bytes i 0 / 16) → b ≡ hex_digit (get_or bytes i 0 % 16) → sets (set (set d k a) k₁ b) k₂ (hex_text (drop (i + 1) bytes)) ≡ sets d k (hex_text (drop i bytes))
unfolding hex_text
hex_step d bytes i k k₁ k₂ a b h e₁ e₂ high low =
    (λ t. sets (set (set d k (high t)) (e₁ t) (low t)) (e₂ t) (hex_text (drop (add-one i t) bytes)))
    ∙ ap (λ (l : List ℕ). sets d k (hex_text l)) (sym (drop-cons bytes i 0 h))

pub length_bytes : (w : List ℕ) → length (hex_bytes w) ≡ length w / 2
unfolding hex_bytes
length_bytes [] = refl
length_bytes (a ∷ []) = refl
length_bytes (a ∷ b ∷ w) = omega (arith, length_bytes w)

-- the two digits of the byte at i, and then the rest
pub pair_on : (w : List ℕ) (i : ℕ) → i * 2 + 1 < length w → drop (i * 2) w ≡ get_or w (i * 2) 0 ∷ get_or w (i * 2 + 1) 0 ∷ drop ((i + 1) * 2) w
pair_on w i h =
    let next : suc (i * 2) ≡ i * 2 + 1 = omega arith in
    let last : suc (i * 2 + 1) ≡ (i + 1) * 2 = omega arith in
    drop-cons w (i * 2) 0 (omega arith)
    ∙ ap (λ (k : ℕ). get_or w (i * 2) 0 ∷ drop k w) next
    ∙ ap (λ (l : List ℕ). get_or w (i * 2) 0 ∷ l) (drop-cons w (i * 2 + 1) 0 h)
    ∙ ap (λ (k : ℕ). get_or w (i * 2) 0 ∷ get_or w (i * 2 + 1) 0 ∷ drop k w) last

pub bytes_on : (d w : List ℕ) (i v : ℕ) → i * 2 + 1 < length w → v ≡ digit_value (get_or w (i * 2) 0) * 16 + digit_value (get_or w (i * 2 + 1) 0) → sets (set d i v) (i + 1) (hex_bytes (drop ((i + 1) * 2) w)) ≡ sets d i (hex_bytes (drop (i * 2) w))
unfolding hex_bytes
bytes_on d w i v h e =
    (λ t. sets (set d i (e t)) (add-one i t) (hex_bytes (drop ((i + 1) * 2) w))) ∙ ap (λ (l : List ℕ). sets d i (hex_bytes l)) (sym (pair_on w i h))

-- where one of the two is no digit, and where both are
module _ (w : List ℕ) (i high low : ℕ) (h : i * 2 + 1 < length w) (x : high ≡ digit_value (get_or w (i * 2) 0)) (y : low ≡ digit_value (get_or w (i * 2 + 1) 0)) where
  pair : every is_hexadecimal (drop (i * 2) w) ≡ ltb high 16 && (ltb low 16 && every is_hexadecimal (drop ((i + 1) * 2) w))
  unfolding every
  pair = ap (every is_hexadecimal) (pair_on w i h) ∙ (λ t. ltb (sym x t) 16 && (ltb (sym y t) 16 && every is_hexadecimal (drop ((i + 1) * 2) w)))

  pub high_not : 16 ≤ high → every is_hexadecimal (drop (i * 2) w) ≡ false
  high_not e = pair ∙ ap (λ (b : Bool). b && (ltb low 16 && every is_hexadecimal (drop ((i + 1) * 2) w))) (le-ltb high 16 e)

  pub low_not : 16 ≤ low → every is_hexadecimal (drop (i * 2) w) ≡ false
  low_not e = pair ∙ ap (λ (b : Bool). ltb high 16 && (b && every is_hexadecimal (drop ((i + 1) * 2) w))) (le-ltb low 16 e) ∙ and-false (ltb high 16)

  pub digits_on : high < 16 → low < 16 → every is_hexadecimal (drop ((i + 1) * 2) w) ≡ every is_hexadecimal (drop (i * 2) w)
  digits_on e f = sym (pair ∙ rw (lt-ltb high 16 e, lt-ltb low 16 f))

-- what a reading of pairs comes to: bytes that do not fit, a byte that is no digit, and all of them
module _ (most : ℕ) (w : List ℕ) where
  abbrev pairs : Bool → Got
  pairs b = fitting most (cond b (Some (hex_bytes w)) None)

  pub pairs_over : most < length w / 2 → None ≡ pairs (every is_hexadecimal w)
  unfolding fitting
  pairs_over h = go (every is_hexadecimal w)
    where
      go : (b : Bool) → None ≡ pairs b
      go true = sym (fitting_over most (hex_bytes w) (omega (arith, length_bytes w)))
      go false = refl

  pub pairs_not : every is_hexadecimal w ≡ false → None ≡ pairs (every is_hexadecimal w)
  unfolding fitting
  pairs_not e = sym (ap pairs e)

  pub pairs_all : (d₀ d : List ℕ) → length d₀ ≡ most → length w / 2 ≤ most → every is_hexadecimal w ≡ true → d ≡ sets d₀ 0 (hex_bytes w) → Some (take (length w / 2) d) ≡ pairs (every is_hexadecimal w)
  pairs_all d₀ d size h e written =
      let fits : length (hex_bytes w) ≤ most = omega (arith, length_bytes w) in
      ap (λ (l : List ℕ). Some (take (length w / 2) l)) written
      ∙ ap (λ (l : List ℕ). Some l) (part_sets (hex_bytes w) d₀ 0 (length w / 2) (length_bytes w) (omega arith))
      ∙ sym (ap pairs e ∙ fitting_fits most (hex_bytes w) fits)

-- what a word comes to: no bytes at all, pairs, or none
module _ (w : List ℕ) where
  abbrev word_by : (dash paired : Bool) → Got
  word_by dash paired = cond dash (Some []) (cond paired (cond (every is_hexadecimal w) (Some (hex_bytes w)) None) None)

  pub hex_dash : equal_bytes w (45 ∷ []) ≡ true → hex_word w ≡ Some []
  unfolding hex_word
  hex_dash e = ap (λ (b : Bool). word_by b (is_paired (length w))) e

  pub hex_pairs : equal_bytes w (45 ∷ []) ≡ false → is_paired (length w) ≡ true → hex_word w ≡ cond (every is_hexadecimal w) (Some (hex_bytes w)) None
  unfolding hex_word
  hex_pairs e p = λ t. word_by (e t) (p t)

  pub hex_none : equal_bytes w (45 ∷ []) ≡ false → is_paired (length w) ≡ false → hex_word w ≡ None
  unfolding hex_word
  hex_none e p = λ t. word_by (e t) (p t)

pub hex_nothing : hex_word [] ≡ None
unfolding hex_word equal_bytes
hex_nothing = refl
