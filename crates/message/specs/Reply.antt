-- 01, 'Reply body': what answers a message.
use Rattle.std.specs.Prelude.{Result, Ok, Err, ℕ, Bool, not, ◌&&◌, ◌||◌, List, [], ◌∷◌, eqb, length}
use Rattle.packed.specs.Part.{byte_at}
use Rattle.packed.specs.Number.{byte_value}
use Rattle.packed.specs.Writing.{packed_byte}
use Rattle.codes.specs.Body.{free, mark, operation_of}
use Rattle.codes.specs.Chain.{◌when◌}
use Rattle.codes.specs.Code.{code_number, code_byte, known_code}
use Rattle.codes.specs.Refusal.{refusal_number}
use Rattle.codes.specs.declared.refusal.Refusal.{Refusal}
use Rattle.message.specs.declared.content.Content.{Content}
use Rattle.message.specs.declared.reply.ReplyOperation.{ReplyOperation}
use Rattle.message.specs.declared.reply.Reply.{Reply}
use Rattle.message.specs.Limits.{reply_bytes}
use Rattle.message.specs.Reading.{Reading, reading}

-- the paper's number of each operation
abbrev pub operation_number : ReplyOperation → ℕ
operation_number ReplyOperation.Other = 86
operation_number ReplyOperation.LotTotal = 87
operation_number ReplyOperation.SessionTotal = 97

-- as a byte
unfoldable pub operation_byte : ReplyOperation → ℕ
operation_byte o = packed_byte (operation_number o)

-- the operation of a reply: 87 to a lot total, 97 to a session total, 86 to all else
abbrev pub operation_for : Content → ReplyOperation
operation_for Content.Header = ReplyOperation.Other
operation_for Content.Detail = ReplyOperation.Other
operation_for Content.LotTotal = ReplyOperation.LotTotal
operation_for Content.SessionTotal = ReplyOperation.SessionTotal
operation_for Content.Unknown = ReplyOperation.Other

-- one of the three
abbrev pub known_operation : ℕ → Bool
known_operation b = eqb b (operation_byte ReplyOperation.Other) || eqb b (operation_byte ReplyOperation.LotTotal) || eqb b (operation_byte ReplyOperation.SessionTotal)

-- 22 otherwise: the mark, a known operation, a known code; another length is 21 before
unfoldable pub reply_good : List ℕ → Bool
reply_good body =
    eqb (length body) reply_bytes && eqb (byte_at 2 body) mark && known_operation (operation_of body) && known_code (byte_at 4 body)

-- 22, or the numbers of operation and code
abbrev pub read_reply : List ℕ → Reading
read_reply body = reading (22 when not (reply_good body)) (byte_value (operation_of body) ∷ byte_value (byte_at 4 body) ∷ [])

-- what the answer of a reading says
abbrev pub reply_said : Result Reply Refusal → Reading
reply_said (Ok r) = reading 0 (operation_number r.operation ∷ code_number r.code ∷ [])
reply_said (Err r) = reading (refusal_number r) []

-- a body that answers: free byte, mark, operation, code
abbrev pub written_reply_body : Reply → List ℕ
written_reply_body r = free ∷ mark ∷ operation_byte r.operation ∷ code_byte r.code ∷ []
