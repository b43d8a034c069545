-- 02, card 3: the division by ten thousand. Nothing else knows how it is rounded.
use Rattle.std.specs.Prelude.{ℕ, suc, ◌*◌, ◌/◌, ◌%◌, cond, leb}

-- what rates are counted by
abbrev pub ten_thousand : ℕ
ten_thousand = 10000

-- 'divided by 10,000, an exact half going up': to the next unit where twice what is left makes a unit or more
unfoldable pub rounded : (product : ℕ) → ℕ
rounded product =
    let units = product / ten_thousand in
    let left = product % ten_thousand in
    cond (leb ten_thousand (2 * left)) (suc units) units
