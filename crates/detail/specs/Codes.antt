-- 01, 'Order, first that applies', and 02, card 6: the codes of a detail that its bytes decide, each over the whole message.
use Rattle.std.specs.Prelude.{ℕ, Bool, not, ◌&&◌, ◌||◌, cond, List, eqb}
use Rattle.packed.specs.Every.{every}
use Rattle.packed.specs.Writing.{packed_byte}
use Rattle.amounts.specs.declared.Totals.{Totals}
use Rattle.codes.specs.Chain.{◌when◌, ◌orelse◌}
use Rattle.codes.specs.Field.{between}
use Rattle.codes.specs.Body.{operation_of}
use Rattle.document.specs.Limits.{most_detail_documents}
use Rattle.document.specs.Operation.{presented_number, returned_number}
use Rattle.document.specs.Fields.{fields_good, amounts_good}
use Rattle.document.specs.Drawee.{drawee_served}
use Rattle.document.specs.Amounts.{for_something, totals_of}
use Rattle.detail.specs.Groups.{shape_good, one_operation, documents}
use Rattle.document.specs.Part.{is_whole, count_in, documents_of}
use Rattle.amounts.specs.Totals.{zeros}

-- the receiver's, at the entity own with some represented: 01 for shape, 09, 01 for fields, 03, 06, 44
unfoldable pub receiver_code : (own : ℕ) (represented body : List ℕ) → ℕ
receiver_code own represented body =
    1 when not (shape_good body)
    orelse 9 when not (one_operation body)
    orelse 1 when not (every (fields_good (operation_of body) own) (documents body))
    orelse 3 when not (every (amounts_good (operation_of body) own) (documents body))
    orelse 6 when not (every (drawee_served (operation_of body) own represented) (documents body))
    orelse 44 when not (every for_something (documents body))

-- 'Trays': what a detail may be sent from, an operation, 30 or 40, and a part of 1 to 200 whole documents
unfoldable pub part_sendable : (operation : ℕ) (part : List ℕ) → Bool
part_sendable operation part =
    (eqb operation presented_number || eqb operation returned_number) && is_whole part && between 1 most_detail_documents (count_in part)

-- the presenter's, for a part that is to go to the entity partner; a presenter never applies 06 to itself
unfoldable pub presenter_code : (operation partner : ℕ) (part : List ℕ) → ℕ
presenter_code operation partner part =
    1 when not (part_sendable operation part)
    orelse 1 when not (every (fields_good (packed_byte operation) partner) (documents_of part))
    orelse 3 when not (every (amounts_good (packed_byte operation) partner) (documents_of part))
    orelse 44 when not (every for_something (documents_of part))

-- 'The check program': the totals, 0 0 0 where a code refuses the documents
abbrev pub accepted_totals : (code : ℕ) → List (List ℕ) → Totals
accepted_totals code ds = cond (eqb code 0) (totals_of ds) zeros
