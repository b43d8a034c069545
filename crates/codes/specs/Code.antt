-- 01, 'Given because of the input' and 'Given because of the state', and 02, card 6: the codes that travel in replies.
use Rattle.std.specs.Prelude.{ℕ, Bool, List, [], ◌∷◌, Option, Some, None, is_some}
use Rattle.packed.specs.Writing.{packed_byte}
use Rattle.codes.specs.declared.code.Code.{Code}
use Rattle.codes.specs.Numbered.{numbered}

-- the paper's number of each, and in short what it says
abbrev pub code_number : Code → ℕ
code_number Code.Accepted = 0
code_number Code.WrongField = 1  -- length, operation or a field is wrong
code_number Code.WrongAmount = 3  -- a half of an amount or a commission is no digit
code_number Code.Duplicate = 4  -- an accepted lot has this number, or these three totals
code_number Code.WrongDrawee = 6  -- the drawee of a presented document is not served here
code_number Code.WrongSequence = 7  -- the message does not fit the course of its direction
code_number Code.WrongTotals = 8  -- the stated totals are not the counters
code_number Code.MixedOperations = 9  -- groups of both operations
code_number Code.TooLate = 10  -- a header sent from the preclose on, or received from the cut-off on
code_number Code.TooManyLots = 11  -- the direction has all the lots that it may have
code_number Code.TooManyDocuments = 12  -- the lot would grow past its limit
code_number Code.ForNothing = 44  -- the nominal of a document is zero

-- all of them, in the order of the numbers
unfoldable pub codes : List Code
codes =
    Code.Accepted
    ∷ Code.WrongField
    ∷ Code.WrongAmount
    ∷ Code.Duplicate
    ∷ Code.WrongDrawee
    ∷ Code.WrongSequence
    ∷ Code.WrongTotals
    ∷ Code.MixedOperations
    ∷ Code.TooLate
    ∷ Code.TooManyLots
    ∷ Code.TooManyDocuments
    ∷ Code.ForNothing
    ∷ []

-- the byte that carries a code: its number, packed
unfoldable pub code_byte : Code → ℕ
code_byte c = packed_byte (code_number c)

-- what a byte says where a reply has its code: the listed code that it carries, else that it is unknown
unfoldable pub read_code : ℕ → Option Code
read_code b = numbered code_byte Some None codes b

-- 22 otherwise: the byte carries a listed code
unfoldable pub known_code : ℕ → Bool
known_code b = is_some (read_code b)

-- the code of a number; 01 where no code has it, so that nothing but 0 accepts
unfoldable pub code_numbered : ℕ → Code
code_numbered n = numbered code_number (λ (c : Code). c) Code.WrongField codes n
