-- A run of a list, by its place and its width: how every definition here names a field of 01's layouts.
use Rattle.std.specs.Prelude.{ℕ, ◌-◌, List, take, drop, get_or}

-- the n elements from place at on, places counted from 0
abbrev pub part : (at n : ℕ) → List ℕ → List ℕ
part at n s = take n (drop at s)

-- the byte at a position, positions counted from 1 as 01 does; 0 where there is none
abbrev pub byte_at : (position : ℕ) → List ℕ → ℕ
byte_at position s = get_or s (position - 1) 0
