-- A code is read back from its byte, so the byte tells the code; and the known bytes are those of the papers.
use mathlib.Core.Path.{◌≡◌, refl, ap, sym, ◌∙◌}
use mathlib.Core.Bool.{true, false, cond, false≢true}
use mathlib.Core.List.{List, [], ◌∷◌, ◌++◌}
use Prim.Native.Nat.{ℕ, zero, suc, ◌<◌}
use native.Mathlib.Nat.{mod-eq_of_lt}
use native.Mathlib.Omega.{arith}
use lib.Dec.{eqb, ltb}
use borrow.Author.Tests.{ltb-true, ne_eqb}
use Rattle.packed.specs.Every.{every}
use Rattle.packed.specs.Number.{byte_value}
use Rattle.packed.specs.Writing.{packed_byte}
use Rattle.codes.specs.declared.code.Code.{Code}
use Rattle.std.specs.Prelude.{Option, Some, None, is_some}
use Rattle.codes.specs.Numbered.{numbered}
use Rattle.codes.specs.Code.{code_number, codes, code_byte, read_code, known_code, code_numbered}
use Rattle.packed.proofs.Laws.Writing.{packed_byte_value}
use Rattle.codes.proofs.Laws.Numbered.{found_told}

-- a code is found by its byte, and by its number
found_again : (c : Code) → (read_code (code_byte c) ≡ Some c) × (code_numbered (code_number c) ≡ c)
unfolding read_code code_numbered numbered codes code_byte packed_byte
found_again Code.Accepted = (refl, refl)
found_again Code.WrongField = (refl, refl)
found_again Code.WrongAmount = (refl, refl)
found_again Code.Duplicate = (refl, refl)
found_again Code.WrongDrawee = (refl, refl)
found_again Code.WrongSequence = (refl, refl)
found_again Code.WrongTotals = (refl, refl)
found_again Code.MixedOperations = (refl, refl)
found_again Code.TooLate = (refl, refl)
found_again Code.TooManyLots = (refl, refl)
found_again Code.TooManyDocuments = (refl, refl)
found_again Code.ForNothing = (refl, refl)

pub written_then_read : (c : Code) → read_code (code_byte c) ≡ Some c
written_then_read c = (found_again c).0

pub number_told : (c : Code) → code_numbered (code_number c) ≡ c
number_told c = (found_again c).1

-- and a byte that is read as a code is the code's; every code has two digits
told : (b : ℕ) (c : Code) → read_code b ≡ Some c → (b ≡ code_byte c) × (code_number c < 100)
unfolding read_code every codes
told b c =
    found_told code_byte Some None b (λ (x : Code). ltb (code_number x) 100) (λ (r : Option Code). r ≡ Some c → (b ≡ code_byte c) × (code_number c < 100))
    (λ (e : None ≡ Some c). absurd (false≢true (ap is_some e)))
    (λ (x : Code) (h : b ≡ code_byte x) (p : ltb (code_number x) 100 ≡ true) (e : Some x ≡ Some c). let same : x ≡ c = cc in (h ∙ ap code_byte same, ltb-true (code_number c) 100 (ap (λ (y : Code). ltb (code_number y) 100) (sym same) ∙ p)))
    codes
    refl

pub read_then_written : (b : ℕ) (c : Code) → read_code b ≡ Some c → b ≡ code_byte c
read_then_written b c e = (told b c e).0

-- the byte holds the number
pub code_value : (c : Code) → byte_value (code_byte c) ≡ code_number c
unfolding code_byte
code_value c = packed_byte_value (code_number c) ∙ mod-eq_of_lt (told (code_byte c) c (written_then_read c)).1

pub same_byte : (c d : Code) → code_byte c ≡ code_byte d → c ≡ d
same_byte c d e = let known : Some c ≡ Some d = sym (written_then_read c) ∙ ap read_code e ∙ written_then_read d in cc

-- the code of a number accepts where the number is 0, and nowhere else
pub accepts : (n : ℕ) → eqb (code_number (code_numbered n)) 0 ≡ eqb n 0
unfolding code_numbered numbered codes every
accepts zero = refl
accepts (suc n) =
    found_told code_number (λ (c : Code). c) Code.WrongField (suc n) (λ (c : Code). true) (λ (c : Code). eqb (code_number c) 0 ≡ false)
    refl
    (λ (c : Code) (h : suc n ≡ code_number c) (p : true ≡ true). ne_eqb (code_number c) 0 (λ (z : code_number c ≡ 0). omega arith))
    codes
    refl
    ∙ sym (ne_eqb (suc n) 0 (λ (z : suc n ≡ 0). omega arith))

known_below : ℕ → List ℕ
known_below zero = []
known_below (suc b) = known_below b ++ cond (known_code b) (b ∷ []) []

-- of all bytes these and no others are known: 00, the codes that 01 lists and that of 02, packed
known_bytes : known_below 256 ≡ 0x00 ∷ 0x01 ∷ 0x03 ∷ 0x04 ∷ 0x06 ∷ 0x07 ∷ 0x08 ∷ 0x09 ∷ 0x10 ∷ 0x11 ∷ 0x12 ∷ 0x44 ∷ []
unfolding known_below known_code read_code numbered codes code_byte packed_byte
known_bytes = refl
