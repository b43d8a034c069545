-- A number that travels as a code is a listed one: of every code it is so, of a test, and of a chain of such. Its byte is then known in a reply.
use mathlib.Core.Path.{◌≡◌, ap, sym, ◌∙◌}
use mathlib.Core.Bool.{Bool, true, false}
use Prim.Native.Nat.{ℕ, zero, suc}
use Rattle.std.specs.Prelude.{is_some}
use Rattle.packed.specs.Writing.{packed_byte}
use Rattle.codes.specs.Chain.{◌when◌, ◌orelse◌}
use Rattle.codes.specs.declared.code.Code.{Code}
use Rattle.codes.specs.Code.{code_number, code_byte, known_code, code_numbered}
use Rattle.codes.proofs.Laws.Code.{written_then_read, number_told}

abbrev pub Listed : ℕ → Type 0
Listed n = code_number (code_numbered n) ≡ n

pub listed : (c : Code) → Listed (code_number c)
listed c = ap code_number (number_told c)

pub one : (c : Code) (test : Bool) → Listed (code_number c when test)
unfolding ◌when◌
one c true = listed c
one c false = listed Code.Accepted

pub then : (a b : ℕ) → Listed a → Listed b → Listed (a orelse b)
unfolding ◌orelse◌
then zero b h g = g
then (suc a) b h g = h

pub row : (c : Code) (test : Bool) (rest : ℕ) → Listed rest → Listed (code_number c when test orelse rest)
row c test rest g = then (code_number c when test) rest (one c test) g

pub known : (n : ℕ) → Listed n → known_code (packed_byte n) ≡ true
unfolding known_code code_byte
known n h = ap (λ (m : ℕ). known_code (packed_byte m)) (sym h) ∙ ap is_some (written_then_read (code_numbered n))
