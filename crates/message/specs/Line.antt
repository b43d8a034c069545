-- 01, 'Layouts': whole messages and whole replies, as they lie in the line buffer.
use Rattle.std.specs.Prelude.{ℕ, List, ◌++◌}
use Rattle.message.specs.declared.route.Route.{Route}
use Rattle.message.specs.declared.envelope.Kind.{Kind}
use Rattle.message.specs.declared.envelope.Envelope.{Envelope}
use Rattle.message.specs.declared.header.Header.{Header}
use Rattle.message.specs.declared.total.Total.{Total}
use Rattle.message.specs.declared.reply.Reply.{Reply}
use Rattle.message.specs.Layout.{Layout, written_body}
use Rattle.message.specs.Envelope.{written_envelope}
use Rattle.message.specs.Header.{header, header_values}
use Rattle.message.specs.Total.{lot_total, session_total, total_values}
use Rattle.message.specs.Reply.{written_reply_body}

-- a body of a fixed length, by what it says
pub data Body : Type 0 where
  opening : Header → Body
  lot_ending : Total → Body
  session_ending : Total → Body

-- its layout, in a direction of this route
abbrev pub layout_of : Route → Body → Layout
layout_of route (Body.opening h) = header route
layout_of route (Body.lot_ending t) = lot_total
layout_of route (Body.session_ending t) = session_total

-- and its numbers
abbrev pub values_of : Route → Body → List ℕ
values_of route (Body.opening h) = header_values route h
values_of route (Body.lot_ending t) = total_values t
values_of route (Body.session_ending t) = total_values t

-- as it is written
unfoldable pub body_bytes : Route → Body → List ℕ
body_bytes route x = written_body (layout_of route x) (values_of route x)

-- 12 bytes, and the body from byte 13 on
abbrev pub whole_message : Envelope → (body : List ℕ) → List ℕ
whole_message e body = written_envelope Kind.Message e ++ body

-- 'A reply keeps its message's date, entities and serial'
abbrev pub whole_reply : Envelope → Reply → List ℕ
whole_reply e r = written_envelope Kind.Reply e ++ written_reply_body r
