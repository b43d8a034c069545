-- 01, 'Layouts': what every body begins with, a free byte, the mark and the operation; and how long it may be.
use Rattle.std.specs.Prelude.{ℕ, List, ◌∷◌, drop}
use Rattle.packed.specs.Part.{byte_at}

-- byte 1 is free: unread, written 00
abbrev pub free : ℕ
free = 0x00

-- byte 2 of every body, and of every group of a detail
abbrev pub mark : ℕ
mark = 0x51

-- byte 3, which alone says what a body is; 0, which is no operation, where there is none
abbrev pub operation_of : List ℕ → ℕ
operation_of body = byte_at 3 body

-- a body, or a group, with its free byte as it is written
abbrev pub cleared : List ℕ → List ℕ
cleared body = free ∷ drop 1 body

-- 'Envelope': the most bytes of a body
abbrev pub longest_body : ℕ
longest_body = 10400
