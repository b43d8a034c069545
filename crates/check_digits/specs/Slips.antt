-- 02, card 5, 'what slips through': a number is keyed with one digit wrong, and the check digit as it is printed.
use Rattle.std.specs.Prelude.{ℕ, ◌+◌, ◌^◌, ◌<◌, ◌≡◌, ◌↔◌, ◌⊎◌}
use Rattle.check_digits.specs.Digits.{digit_at, with_digit}
use Rattle.check_digits.specs.Weighted.{remainder}
use Rattle.check_digits.specs.Check.{Check, of_number, of_branch, of_account, keyed_refusal}

-- a number no longer than allowed, one of its places, and another digit than stands there
pub record WrongDigit (c : Check) (n place wrong : ℕ) : Type 0 where
  pub short : n < 10 ^ c.digits
  pub placed : place < c.digits
  pub figure : wrong < 10
  pub other : wrong ≡ digit_at place n → ⊥

-- the answer to the number with the wrong digit, keyed with the check digit of the right one
abbrev pub answer_to : Check → (n place wrong : ℕ) → ℕ
answer_to c n place wrong = keyed_refusal c (with_digit place wrong n) (c.digit_of n)

-- every wrong digit passes exactly when it is as `Slip` says
abbrev pub PassesExactlyWhen : Check → (Slip : (n place wrong : ℕ) → Type 0) → Type 0
PassesExactlyWhen c Slip = (n place wrong : ℕ) → WrongDigit c n place wrong → (answer_to c n place wrong ≡ 0) ↔ Slip n place wrong

-- 'old and new differ by 7'
abbrev pub DifferBySeven : (n place wrong : ℕ) → Type 0
DifferBySeven n place wrong = (digit_at place n ≡ wrong + 7) ⊎ (wrong ≡ digit_at place n + 7)

-- 'the two remainders are 1 and 10', in either order
abbrev pub OneAndTen : (n place wrong : ℕ) → Type 0
OneAndTen n place wrong =
    let old = remainder n in
    let new = remainder (with_digit place wrong n) in
    ((old ≡ 1) × (new ≡ 10)) ⊎ ((old ≡ 10) × (new ≡ 1))

-- so none passes where another check digit than 1 is printed
abbrev pub CaughtUnlessOne : Check → Type 0
CaughtUnlessOne c = (n place wrong : ℕ) → WrongDigit c n place wrong → (c.digit_of n ≡ 1 → ⊥) → answer_to c n place wrong ≡ 43

-- claimed, and proved in proofs/Laws/Slips
pub record SlipsThrough : Type 0 where
  pub number : PassesExactlyWhen of_number DifferBySeven
  pub branch : PassesExactlyWhen of_branch OneAndTen
  pub account : PassesExactlyWhen of_account OneAndTen
  pub branch_caught : CaughtUnlessOne of_branch
  pub account_caught : CaughtUnlessOne of_account
