-- 02, card 5: the three checks of what a clerk has keyed, a number and the check digit that is printed beside it.
use Rattle.std.specs.Prelude.{ℕ, ◌^◌, ◌%◌, ◌<◌, ◌≡◌, Bool, not, ◌&&◌, ltb, eqb, Result, Ok, Err}
use Rattle.codes.specs.Chain.{◌when◌}
use Rattle.check_digits.specs.Weighted.{weighted_digit}
use Rattle.check_digits.specs.declared.check.KeyedRefusal.{KeyedRefusal}

-- 'Document digit: the number modulo 7'
abbrev pub document_modulus : ℕ
document_modulus = 7

abbrev pub document_digit : (n : ℕ) → ℕ
document_digit n = n % document_modulus

-- a check: how many digits its numbers have at most, and the check digit that a number has
pub record Check : Type 0 where
  pub digits : ℕ
  pub digit_of : ℕ → ℕ

-- by weights, with so many digits at most
abbrev pub by_weights : (digits : ℕ) → Check
by_weights digits = record { digits = digits; digit_of = weighted_digit }

-- '7, 8 or 10 digits in turn': a document's number; an entity and behind it its branch, as one number; an account
abbrev pub of_number : Check
of_number = record { digits = 7; digit_of = document_digit }

abbrev pub of_branch : Check
of_branch = by_weights 8

abbrev pub of_account : Check
of_account = by_weights 10

-- the digit matches, and the number is no longer than allowed
abbrev pub passes : Check → (n digit : ℕ) → Bool
passes c n digit = eqb digit (c.digit_of n) && ltb n (10 ^ c.digits)

-- 'A digit that does not match, or a number longer than' allowed, 'is 43'
abbrev pub keyed_refusal : Check → (n digit : ℕ) → ℕ
keyed_refusal c n digit = 43 when not (passes c n digit)

-- the paper's number of each answer
abbrev pub keyed_number : Result (Unit {0}) KeyedRefusal → ℕ
keyed_number (Ok right) = 0
keyed_number (Err refusal) = 43

-- whatever the number, no digit above 9 passes
abbrev pub FailsAboveNine : Check → Type 0
FailsAboveNine c = (n digit : ℕ) → 9 < digit → keyed_refusal c n digit ≡ 43

-- claimed, and proved in proofs/Laws/Check
pub record EachFailsAboveNine : Type 0 where
  pub number : FailsAboveNine of_number
  pub branch : FailsAboveNine of_branch
  pub account : FailsAboveNine of_account
