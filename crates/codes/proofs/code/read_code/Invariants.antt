-- `read_code` goes through the table. The invariant: what the codes that are left say of the byte is what all say.
use Rattle.std.proofs.Common.{◌≡◌, drop, Some, None}
use Rattle.codes.specs.Numbered.{numbered}
use Rattle.codes.specs.Code.{codes, code_byte, read_code}
use Rattle.codes.proofs.code.read_code.Given as goal

abbrev pub invariant-loop-c : goal.invariant-loop-c
invariant-loop-c l = numbered code_byte Some None (drop l.c-index codes) l.byte ≡ read_code l.byte
