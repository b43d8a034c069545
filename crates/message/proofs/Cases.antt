-- Bodies and envelopes at the edges that the paper draws, each beside the number that it earns: one table, one theorem.
use mathlib.Core.Path.{refl}
use mathlib.Core.Bool.{not}
use mathlib.Core.List.{List, [], ◌∷◌, ◌++◌}
use Prim.Native.Nat.{ℕ}
use lib.ListN.{take}
use Rattle.packed.specs.Every.{every}
use Rattle.packed.specs.Digits.{is_digits}
use Rattle.packed.specs.Number.{byte_value, number}
use Rattle.packed.specs.Writing.{packed_byte, packed_bytes}
use Rattle.codes.specs.Chain.{◌when◌, ◌orelse◌}
use Rattle.codes.specs.Numbered.{numbered}
use Rattle.codes.specs.Code.{codes, code_byte, read_code, known_code}
use Rattle.codes.specs.Field.{earning, table_written}
use Rattle.codes.proofs.Cases.{Case, ◌is◌, AllDue, with_byte}
use Rattle.amounts.specs.Totals.{totals}
use Rattle.message.specs.declared.route.Route.{Route}
use Rattle.message.specs.declared.envelope.Kind.{Kind}
use Rattle.message.specs.Layout.{fixed_shape, body_code}
use Rattle.message.specs.Envelope.{length_good, envelope_fields, envelope_good, written_envelope}
use Rattle.message.specs.Content.{by_operation, content_of}
use Rattle.message.specs.Header.{header_fields, header}
use Rattle.message.specs.Total.{lot_total, lot_total_fields, session_total, session_total_fields}
use Rattle.message.specs.Reply.{operation_number, operation_byte, operation_for, reply_good}
use Rattle.message.specs.Line.{Body, body_bytes}

-- entity 81 presents to entity 72 on 14 March 2028
abbrev day : Route
day = record { date = 140328; presenting = 81; receiving = 72 }

abbrev other_day : Route
other_day = record { date = 150328; presenting = 81; receiving = 72 }

abbrev way_back : Route
way_back = record { date = 140328; presenting = 72; receiving = 81 }

-- the code of a header of a route, a time and an order number
abbrev headed : Route → (time number : ℕ) → List ℕ
headed route time number = body_bytes route (Body.opening (record { time = time; centre = 1; number = number }))

abbrev plain : List ℕ
plain = headed day 21000000 7

abbrev lot : (number documents nominal commission : ℕ) → List ℕ
lot n d a c = body_bytes day (Body.lot_ending (record { number = n; stated = totals d a c }))

abbrev one_lot_lem : List ℕ
one_lot_lem = lot 7 1 15000 30

abbrev no_lots_lem : List ℕ
no_lots_lem = body_bytes day (Body.session_ending (record { number = 0; stated = totals 0 0 0 }))

bodies : List (Case ℕ)
bodies =
    body_code (header day) plain is 0
    ∷ body_code (header day) (headed day 23595999 9999) is 0
    ∷ body_code (header day) (headed day 24000000 7) is 1
    ∷ body_code (header day) (headed day 21600000 7) is 1
    ∷ body_code (header day) (headed day 21006000 7) is 1
    ∷ body_code (header day) (headed day 21000000 0) is 1
    ∷ body_code (header day) (headed other_day 21000000 7) is 1
    ∷ body_code (header day) (headed way_back 21000000 7) is 1
    ∷ body_code (header day) (with_byte 14 0x73 plain) is 1
    ∷ body_code (header day) (with_byte 1 0xFF plain) is 0
    ∷ body_code (header day) (with_byte 2 0x50 plain) is 1
    ∷ body_code (header day) (with_byte 15 0x0A plain) is 1
    ∷ body_code (header day) (with_byte 19 0x01 plain) is 1
    ∷ body_code (header day) (take 18 plain) is 1
    ∷ body_code (header day) (plain ++ 0x00 ∷ []) is 1
    ∷ body_code (header day) [] is 1
    ∷ body_code lot_total one_lot_lem is 0
    ∷ body_code lot_total (lot 0 1 15000 30) is 0
    ∷ body_code lot_total (with_byte 1 0xFF one_lot_lem) is 0
    ∷ body_code lot_total (with_byte 2 0x50 one_lot_lem) is 1
    ∷ body_code lot_total (with_byte 4 0x0A one_lot_lem) is 1
    ∷ body_code lot_total (with_byte 8 0x0A one_lot_lem) is 1
    ∷ body_code lot_total (with_byte 9 0xA0 one_lot_lem) is 3
    ∷ body_code lot_total (with_byte 16 0x0A one_lot_lem) is 3
    ∷ body_code lot_total (with_byte 22 0xA0 one_lot_lem) is 3
    ∷ body_code lot_total (with_byte 8 0x0A (with_byte 22 0xA0 one_lot_lem)) is 1
    ∷ body_code lot_total (0x00 ∷ 0x00 ∷ 0x80 ∷ []) is 1
    ∷ body_code session_total no_lots_lem is 0
    ∷ body_code session_total one_lot_lem is 1
    ∷ body_code session_total (with_byte 5 0x0A no_lots_lem) is 1
    ∷ body_code session_total (with_byte 9 0x0A no_lots_lem) is 1
    ∷ body_code session_total (with_byte 10 0xA0 no_lots_lem) is 3
    ∷ body_code session_total (with_byte 25 0x0A no_lots_lem) is 3
    ∷ body_code session_total (with_byte 9 0x0A (with_byte 25 0x0A no_lots_lem)) is 1
    ∷ []

-- the shortest message, and a reply
abbrev opening : (kind : Kind) (date serial : ℕ) → List ℕ
opening kind date serial = written_envelope kind (record { route = record { date = date; presenting = 81; receiving = 72 }; serial = serial })

abbrev shortest : List ℕ
shortest = opening Kind.Message 140328 1 ++ 0x00 ∷ []

abbrev replied : (operation code : ℕ) → List ℕ
replied operation code = 0x00 ∷ 0x51 ∷ operation ∷ code ∷ []

abbrev refused : Kind → List ℕ → ℕ
refused kind bytes = 21 when not (envelope_good kind bytes)

lengths : List (Case ℕ)
lengths =
    (21 when not (length_good Kind.Message 12)) is 21
    ∷ (21 when not (length_good Kind.Message 13)) is 0
    ∷ (21 when not (length_good Kind.Message 10412)) is 0
    ∷ (21 when not (length_good Kind.Message 10413)) is 21
    ∷ (21 when not (length_good Kind.Reply 15)) is 21
    ∷ (21 when not (length_good Kind.Reply 16)) is 0
    ∷ (21 when not (length_good Kind.Reply 17)) is 21
    ∷ []

envelopes : List (Case ℕ)
envelopes =
    refused Kind.Message shortest is 0
    ∷ refused Kind.Message (opening Kind.Message 990099 99999999 ++ 0x00 ∷ []) is 0
    ∷ refused Kind.Message (opening Kind.Message 140328 0 ++ 0x00 ∷ []) is 21
    ∷ refused Kind.Message (with_byte 2 0x9A shortest) is 21
    ∷ refused Kind.Message (with_byte 12 0xA1 shortest) is 21
    ∷ refused Kind.Message (take 12 shortest) is 21
    ∷ refused Kind.Message [] is 21
    ∷ refused Kind.Message (opening Kind.Reply 140328 1 ++ 0x00 ∷ []) is 21
    ∷ refused Kind.Reply (opening Kind.Reply 140328 1 ++ replied 0x86 0x00) is 0
    ∷ refused Kind.Reply (opening Kind.Message 140328 1 ++ replied 0x86 0x00) is 21
    ∷ refused Kind.Reply (opening Kind.Reply 140328 1 ++ replied 0x86 0x00 ++ 0x00 ∷ []) is 21
    ∷ []

replies : List (Case ℕ)
replies =
    (22 when not (reply_good (replied 0x86 0x00))) is 0
    ∷ (22 when not (reply_good (with_byte 1 0xFF (replied 0x97 0x12)))) is 0
    ∷ (22 when not (reply_good (with_byte 2 0x50 (replied 0x86 0x00)))) is 22
    ∷ (22 when not (reply_good (replied 0x87 0x10))) is 0
    ∷ (22 when not (reply_good (replied 0x86 0x0A))) is 22
    ∷ (22 when not (reply_good (replied 0x86 0x05))) is 22
    ∷ (22 when not (reply_good (replied 0x86 0x13))) is 22
    ∷ (22 when not (reply_good (replied 0x80 0x00))) is 22
    ∷ (22 when not (reply_good (take 3 (replied 0x86 0x00)))) is 22
    ∷ []

-- the operation of the reply to a body
abbrev answer : List ℕ → ℕ
answer body = operation_number (operation_for (content_of body))

operations : List (Case ℕ)
operations =
    answer [] is 86
    ∷ answer (0x00 ∷ 0x51 ∷ []) is 86
    ∷ answer plain is 86
    ∷ answer (0x00 ∷ 0x51 ∷ 0x30 ∷ 0x01 ∷ []) is 86
    ∷ answer (0x00 ∷ 0x51 ∷ 0x40 ∷ 0x01 ∷ []) is 86
    ∷ answer one_lot_lem is 87
    ∷ answer (0x00 ∷ 0x00 ∷ 0x80 ∷ []) is 87
    ∷ answer no_lots_lem is 97
    ∷ answer (0x00 ∷ 0x00 ∷ 0x90 ∷ []) is 97
    ∷ answer (0x00 ∷ 0x51 ∷ 0x87 ∷ []) is 86
    ∷ answer (0x00 ∷ 0x51 ∷ 0x88 ∷ []) is 86
    ∷ []

all_due : AllDue (bodies ++ lengths ++ envelopes ++ replies ++ operations)
unfolding bodies lengths envelopes replies operations body_bytes header_fields lot_total_fields session_total_fields envelope_fields table_written packed_bytes packed_byte body_code ◌when◌ ◌orelse◌ fixed_shape envelope_good reply_good known_code read_code numbered codes code_byte operation_byte by_operation every earning is_digits number byte_value
all_due = refl
