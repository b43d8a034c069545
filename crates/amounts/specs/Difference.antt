-- 01, 'Course of a direction': the difference of two amounts over whole numbers, as the report's signed positions have it.
use Rattle.std.specs.Prelude.{ℕ, ℤ, pos, ◌-ℤ◌}

-- a less b, below zero where b is the larger
abbrev pub difference : ℕ → ℕ → ℤ
difference a b = pos a -ℤ pos b
