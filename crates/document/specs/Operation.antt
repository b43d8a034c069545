-- 01, 'Detail' and 'Trays': the two operations, as a group's byte and as the plain number that a caller says.
use Rattle.std.specs.Prelude.{ℕ, Bool, ◌||◌, eqb}

-- documents presented for payment
abbrev pub presented : ℕ
presented = 0x30

-- as a caller says it
abbrev pub presented_number : ℕ
presented_number = 30

-- documents that come back unpaid
abbrev pub returned : ℕ
returned = 0x40

-- as a caller says it
abbrev pub returned_number : ℕ
returned_number = 40

-- a byte that is one of the two
abbrev pub is_operation : ℕ → Bool
is_operation o = eqb o presented || eqb o returned
