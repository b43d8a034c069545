-- 01, 'Layouts': lengths in bytes, and the largest numbers that more than one definition names.
use Rattle.std.specs.Prelude.{ℕ, ◌+◌}
use Rattle.codes.specs.Body.{longest_body}

-- the position of a first byte
abbrev pub first_position : ℕ
first_position = 1

abbrev pub envelope_bytes : ℕ
envelope_bytes = 12

abbrev pub header_bytes : ℕ
header_bytes = 19

abbrev pub lot_total_bytes : ℕ
lot_total_bytes = 22

abbrev pub session_total_bytes : ℕ
session_total_bytes = 25

-- of a reply's body
abbrev pub reply_bytes : ℕ
reply_bytes = 4

-- the longest message and every reply, with their envelopes
abbrev pub message_room : ℕ
message_room = envelope_bytes + longest_body

abbrev pub reply_room : ℕ
reply_room = envelope_bytes + reply_bytes

-- 'Envelope': the last serial
abbrev pub largest_serial : ℕ
largest_serial = 99999999

-- 'Header': the last order number
abbrev pub largest_order_number : ℕ
largest_order_number = 9999

-- and the largest centre
abbrev pub largest_centre : ℕ
largest_centre = 9999
