-- `read_code`: a code is the byte's own or passed, and at the end none is left.
use Rattle.std.proofs.Common.{refl, sym, ◌∙◌, Some, None, arith}
use Rattle.codes.specs.declared.code.Code.{Code}
use Rattle.codes.specs.Code.{codes, code_byte, read_code}
use Rattle.codes.proofs.Laws.Numbered.{found_at, passed_at, none_at}
use Rattle.codes.proofs.code.read_code.Goals as goal

pub loop-c-init : goal.loop-c-init
unfolding read_code
loop-c-init c = refl

pub returns-then-code_byte-byte : goal.returns-then-code_byte-byte
unfolding codes
returns-then-code_byte-byte c =
    sym (found_at code_byte Some None codes c.args.byte c.loop-c.c-index Code.Accepted (omega arith) (sym c.code_byte.ensures ∙ c.if-code_byte-byte.true))
    ∙ c.loop-c.invariant

pub loop-c-preserved : goal.loop-c-preserved
unfolding codes
loop-c-preserved c =
    sym (passed_at code_byte Some None codes c.args.byte c.loop-c.c-index Code.Accepted (omega arith) (λ e. c.if-code_byte-byte.false (c.code_byte.ensures ∙ e)))
    ∙ c.loop-c.invariant

pub returns : goal.returns
unfolding codes
returns c = sym (none_at code_byte Some None codes c.args.byte c.loop-c.c-index (omega arith)) ∙ c.loop-c.invariant
