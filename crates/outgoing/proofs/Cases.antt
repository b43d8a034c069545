-- 01, 'Trays' and 25: the next documents and the check beside them, where each rule begins and where it ends: one table, computed.
use mathlib.Core.Path.{refl}
use mathlib.Core.List.{List, [], ◌∷◌, ◌++◌}
use Prim.Native.Nat.{ℕ, ◌*◌}
use lib.ListN.{length, get_or, replicate}
use Rattle.codes.specs.Chain.{◌when◌}
use Rattle.codes.proofs.Cases.{◌is◌, AllDue}
use Rattle.outgoing.specs.Outgoing.{next, check_code}

-- a document filled with one byte, and a tray of so many of the same
abbrev document : (byte : ℕ) → List ℕ
document byte = replicate 51 byte

abbrev tray : (documents byte : ℕ) → List ℕ
tray documents byte = replicate (documents * 51) byte

-- three presentations and two returns, each with its own byte
abbrev presentations : List ℕ
presentations = document 1 ++ document 2 ++ document 3

abbrev returns : List ℕ
returns = document 4 ++ document 5

-- the next part of these trays: how long it is, and its first byte, 0 where it has none
abbrev size : (presentations_sent returns_sent : ℕ) → ℕ
size p r = length (next presentations returns p r)

abbrev first : (presentations_sent returns_sent : ℕ) → ℕ
first p r = get_or (next presentations returns p r) 0 0

all_due : AllDue
    -- a length that is no multiple of 51, in either tray
    (check_code [] [] 0 0 is 0
    ∷ check_code presentations returns 0 0 is 0
    ∷ check_code (presentations ++ 1 ∷ []) returns 0 0 is 25
    ∷ check_code (replicate 50 1) returns 0 0 is 25
    ∷ check_code presentations (returns ++ 2 ∷ []) 0 0 is 25
    -- a cursor at the end, and past it
    ∷ check_code presentations returns 3 2 is 0
    ∷ check_code presentations returns 4 0 is 25
    ∷ check_code presentations returns 0 3 is 25
    -- a refusal gives an empty part
    ∷ length (next presentations returns 4 0) is 0
    ∷ length (next presentations (returns ++ 2 ∷ []) 0 0) is 0
    -- presentations while any remain, then returns, then nothing
    ∷ size 0 0 is 153
    ∷ first 0 0 is 1
    ∷ size 2 1 is 51
    ∷ first 2 1 is 3
    ∷ size 3 1 is 51
    ∷ first 3 1 is 5
    ∷ size 3 2 is 0
    -- 200, or all that remain
    ∷ length (next (tray 201 1) [] 0 0) is 10200
    ∷ length (next (tray 201 1) [] 1 0) is 10200
    ∷ length (next (tray 201 1) [] 2 0) is 10149
    ∷ length (next [] (tray 201 2) 0 0) is 10200
    ∷ [])
unfolding ◌when◌
all_due = refl
