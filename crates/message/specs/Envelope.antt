-- 01, 'Envelope': the 12 bytes before every body.
use Rattle.std.specs.Prelude.{Result, Ok, Err, ℕ, ◌+◌, Bool, not, ◌&&◌, List, [], ◌∷◌, ◌++◌, eqb, length, drop}
use Rattle.packed.specs.Part.{byte_at}
use Rattle.codes.specs.Chain.{◌when◌}
use Rattle.codes.specs.Field.{Field, row, any, between, field_number, table_good, table_numbers, table_written}
use Rattle.codes.specs.Refusal.{refusal_number}
use Rattle.codes.specs.declared.refusal.Refusal.{Refusal}
use Rattle.message.specs.declared.envelope.Kind.{Kind}
use Rattle.message.specs.declared.envelope.Envelope.{Envelope}
use Rattle.message.specs.Limits.{first_position, envelope_bytes, largest_serial, message_room, reply_room}
use Rattle.message.specs.Route.{route_values}
use Rattle.message.specs.Reading.{Reading, reading}

-- 01 a message, 02 a reply
abbrev pub kind_byte : Kind → ℕ
kind_byte Kind.Message = 0x01
kind_byte Kind.Reply = 0x02

-- how long envelope and body may be together: 13 to 10,412 bytes, a reply 16
abbrev pub length_good : Kind → ℕ → Bool
length_good Kind.Message n = between (envelope_bytes + 1) message_room n
length_good Kind.Reply n = eqb n reply_room

-- a field whose fault is 21
abbrev pub envelope_field : (position width : ℕ) → (ℕ → Bool) → Field
envelope_field p w rule = row 21 p w rule

-- position, bytes, rule
abbrev pub date_field : Field
date_field = envelope_field 2 3 any

abbrev pub presenting_field : Field
presenting_field = envelope_field 5 2 any

abbrev pub receiving_field : Field
receiving_field = envelope_field 7 2 any

abbrev pub serial_field : Field
serial_field = envelope_field 9 4 (between 1 largest_serial)

-- all of them, after the kind
unfoldable pub envelope_fields : List Field
envelope_fields = date_field ∷ presenting_field ∷ receiving_field ∷ serial_field ∷ []

-- 21 otherwise: length, kind, digits, a serial
unfoldable pub envelope_good : Kind → List ℕ → Bool
envelope_good kind bytes = length_good kind (length bytes) && eqb (byte_at 1 bytes) (kind_byte kind) && table_good first_position 21 envelope_fields bytes

-- 21, or the four numbers
abbrev pub read_envelope : Kind → List ℕ → Reading
read_envelope kind bytes = reading (21 when not (envelope_good kind bytes)) (table_numbers first_position envelope_fields bytes)

-- the numbers of an envelope, in the order of the table
abbrev pub envelope_values : Envelope → List ℕ
envelope_values e = route_values e.route ++ e.serial ∷ []

-- and an envelope of the numbers that some bytes hold
abbrev pub envelope_of : List ℕ → Envelope
envelope_of bytes =
    let at = field_number first_position bytes in
    record { route = record { date = at date_field; presenting = at presenting_field; receiving = at receiving_field }; serial = at serial_field }

-- its serial
abbrev pub serial_of : List ℕ → ℕ
serial_of bytes = (envelope_of bytes).serial

-- what the answer of a reading says
abbrev pub envelope_said : Result Envelope Refusal → Reading
envelope_said (Ok e) = reading 0 (envelope_values e)
envelope_said (Err r) = reading (refusal_number r) []

-- as it is written: the kind, then the fields
abbrev pub written_envelope : Kind → Envelope → List ℕ
written_envelope kind e = kind_byte kind ∷ table_written envelope_fields (envelope_values e)

-- what follows an envelope
abbrev pub body_of : List ℕ → List ℕ
body_of bytes = drop envelope_bytes bytes
