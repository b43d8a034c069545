-- 02, card 5: the values that it prints, accounts worked by hand, the edges of each check, and what slips through, computed from the definitions.
use mathlib.Core.Path.{refl}
use mathlib.Core.List.{[], ◌∷◌}
use Rattle.codes.specs.Chain.{◌when◌}
use Rattle.codes.proofs.Cases.{◌is◌, AllDue}
use Rattle.check_digits.specs.Digits.{digit_at, with_digit}
use Rattle.check_digits.specs.Weighted.{weights, weighted_from, weighted_sum, remainder, one_figure, weighted_digit}
use Rattle.check_digits.specs.Check.{document_digit, of_number, of_branch, of_account, keyed_refusal}

digits : AllDue
    (digit_at 0 2434157 is 7
    ∷ digit_at 2 2434157 is 1
    ∷ digit_at 6 2434157 is 2
    ∷ digit_at 7 2434157 is 0
    ∷ with_digit 6 9 2434157 is 9434157
    ∷ with_digit 0 0 2434157 is 2434150
    ∷ with_digit 9 1 0 is 1000000000
    -- '2434157 gives 5'
    ∷ document_digit 2434157 is 5
    -- the circular's example multiplies the digits of 0072 0101
    ∷ weighted_sum 720101 is 68
    ∷ remainder 720101 is 2
    ∷ weighted_digit 720101 is 9
    ∷ weighted_sum 720110 is 65
    ∷ remainder 720110 is 10
    ∷ weighted_digit 720110 is 1
    -- accounts: 131 leaves 10, 143 leaves nothing, 280 leaves 5, 495 leaves nothing; and one that leaves 1
    ∷ weighted_sum 123456 is 131
    ∷ weighted_digit 123456 is 1
    ∷ weighted_digit 123458 is 0
    ∷ weighted_sum 1234567890 is 280
    ∷ weighted_digit 1234567890 is 6
    ∷ weighted_sum 9999999999 is 495
    ∷ weighted_digit 9999999999 is 0
    ∷ remainder 1000000000 is 1
    ∷ weighted_digit 1000000000 is 1
    ∷ [])
unfolding digit_at with_digit weights weighted_from remainder one_figure weighted_digit
digits = refl

checks : AllDue
    (keyed_refusal of_number 2434157 5 is 0
    ∷ keyed_refusal of_number 2434157 4 is 43
    ∷ keyed_refusal of_number 2434157 15 is 43
    ∷ keyed_refusal of_number 2434157 255 is 43
    ∷ keyed_refusal of_branch 720101 9 is 0
    ∷ keyed_refusal of_branch 720110 9 is 43
    ∷ keyed_refusal of_branch 720110 1 is 0
    ∷ keyed_refusal of_branch 720110 10 is 43
    ∷ keyed_refusal of_account 1234567890 6 is 0
    -- the longest of each, and one more with the digit that it would have
    ∷ keyed_refusal of_number 9999999 2 is 0
    ∷ keyed_refusal of_number 10000000 3 is 43
    ∷ keyed_refusal of_branch 99999999 5 is 0
    ∷ keyed_refusal of_branch 100000000 9 is 43
    ∷ keyed_refusal of_account 100000000 9 is 0
    ∷ keyed_refusal of_account 9999999999 0 is 0
    ∷ keyed_refusal of_account 10000000000 0 is 43
    -- 11 is not printed, and 10 neither
    ∷ keyed_refusal of_account 0 0 is 0
    ∷ keyed_refusal of_account 0 11 is 43
    ∷ keyed_refusal of_account 1000000000 10 is 43
    -- one wrong digit: 9 for 2, which differ by 7, and 3 for 2; remainder 1 for 10, and 5 for 10
    ∷ keyed_refusal of_number 9434157 5 is 0
    ∷ keyed_refusal of_number 3434157 5 is 43
    ∷ keyed_refusal of_branch 720114 1 is 0
    ∷ keyed_refusal of_branch 720111 1 is 43
    ∷ [])
unfolding ◌when◌ digit_at weights weighted_from remainder one_figure weighted_digit
checks = refl
