-- 02, card 5: the check digit of an entity with its branch and of an account, by weights and modulo 11.
use Rattle.std.specs.Prelude.{ℕ, suc, ◌+◌, ◌-◌, ◌*◌, ◌%◌, cond, List, [], ◌∷◌, eqb}
use Rattle.check_digits.specs.Digits.{digit_at}

-- 'digits from the units up times 6, 3, 7, 9, 10, 5, 8, 4, 2, 1'
unfoldable pub weights : List ℕ
weights = 6 ∷ 3 ∷ 7 ∷ 9 ∷ 10 ∷ 5 ∷ 8 ∷ 4 ∷ 2 ∷ 1 ∷ []

-- the digits of a number from a place up, each times its weight, added up
unfoldable pub weighted_from : (place : ℕ) (ws : List ℕ) (n : ℕ) → ℕ
weighted_from place [] n = 0
weighted_from place (w ∷ ws) n = digit_at place n * w + weighted_from (suc place) ws n

-- 'the sum', of the ten lowest digits; a longer number has its 43 whatever comes out
abbrev pub weighted_sum : (n : ℕ) → ℕ
weighted_sum n = weighted_from 0 weights n

-- what the sum is divided by, and what its remainder is taken from
abbrev pub weighted_modulus : ℕ
weighted_modulus = 11

-- 'the sum modulo 11'
unfoldable pub remainder : (n : ℕ) → ℕ
remainder n = weighted_sum n % weighted_modulus

-- '10 becomes 1 and 11 becomes 0'
unfoldable pub one_figure : (difference : ℕ) → ℕ
one_figure difference = cond (eqb difference 10) 1 (cond (eqb difference 11) 0 difference)

-- 'taken from 11'
unfoldable pub weighted_digit : (n : ℕ) → ℕ
weighted_digit n = one_figure (weighted_modulus - remainder n)
