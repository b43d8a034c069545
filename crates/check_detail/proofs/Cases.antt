-- 01, 'The check program': its 55 bytes give `00 1 15000 30`; with byte 35 as 0A, which is refused, `03 0 0 0`. Both lines in ASCII.
use mathlib.Core.Path.{◌≡◌, refl}
use mathlib.Core.List.{[], ◌∷◌}
use Rattle.codes.proofs.Cases.{with_byte}
use Rattle.decimal.specs.Decimal.{digits_up_to, decimal}
use Rattle.detail.proofs.Cases.{computing, printed}
use Rattle.check_detail.specs.Line.{line_of, program_line}

example_line : program_line printed ≡ 0x30 ∷ 0x30 ∷ 0x20 ∷ 0x31 ∷ 0x20 ∷ 0x31 ∷ 0x35 ∷ 0x30 ∷ 0x30 ∷ 0x30 ∷ 0x20 ∷ 0x33 ∷ 0x30 ∷ 0x0A ∷ []
unfolding computing line_of decimal digits_up_to
example_line = refl

refused_line : program_line (with_byte 35 0x0A printed) ≡ 0x30 ∷ 0x33 ∷ 0x20 ∷ 0x30 ∷ 0x20 ∷ 0x30 ∷ 0x20 ∷ 0x30 ∷ 0x0A ∷ []
unfolding computing line_of decimal digits_up_to
refused_line = refl
