-- 01, 'Layouts': what a body is, which nothing but its operation byte decides.
use Rattle.std.specs.Prelude.{ℕ, cond, List, eqb}
use Rattle.codes.specs.Body.{operation_of}
use Rattle.document.specs.Operation.{is_operation}
use Rattle.message.specs.declared.content.Content.{Content}

-- the operation bytes of the bodies of a fixed length
abbrev pub header_operation : ℕ
header_operation = 0x01

abbrev pub lot_total_operation : ℕ
lot_total_operation = 0x80

abbrev pub session_total_operation : ℕ
session_total_operation = 0x90

-- what an operation byte says
unfoldable pub by_operation : ℕ → Content
by_operation o =
    cond (eqb o header_operation) Content.Header
    (cond (is_operation o) Content.Detail
    (cond (eqb o lot_total_operation) Content.LotTotal
    (cond (eqb o session_total_operation) Content.SessionTotal Content.Unknown)))

-- 'Byte 3 alone says what a body is'
abbrev pub content_of : List ℕ → Content
content_of body = by_operation (operation_of body)
