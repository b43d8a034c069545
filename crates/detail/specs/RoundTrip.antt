-- 01, 'Layouts', its last sentence, of a detail: writing then reading gives the fields back; reading an accepted body then writing gives its bytes,
-- free bytes becoming 00. All are proved in proofs/Laws/RoundTrip.
use Rattle.std.specs.Prelude.{ℕ, ◌≡◌, true, not}
use mathlib.Core.List.{List, flat_map}
use Rattle.packed.specs.Every.{every}
use Rattle.packed.specs.Writing.{packed_byte}
use Rattle.codes.specs.Chain.{◌when◌}
use Rattle.codes.specs.Body.{operation_of, cleared}
use Rattle.document.specs.Drawee.{drawee_served}
use Rattle.document.specs.Part.{documents_of}
use Rattle.detail.specs.Groups.{groups, documents}
use Rattle.detail.specs.Codes.{receiver_code, part_sendable, presenter_code}
use Rattle.detail.specs.Writing.{written_detail}

-- what is written from a part that may be sent has its operation and its documents
abbrev pub WrittenThenRead : Type 0
WrittenThenRead = (operation : ℕ) (part : List ℕ) → part_sendable operation part ≡ true → let body = written_detail (packed_byte operation) part in (operation_of body ≡ packed_byte operation) × (documents body ≡ documents_of part)

-- 06 where a drawee of a part is not one whom its receiver serves, or none
abbrev pub drawee_code : (operation partner : ℕ) (represented part : List ℕ) → ℕ
drawee_code operation partner represented part = 6 when not (every (drawee_served (packed_byte operation) partner represented) (documents_of part))

-- and where its presenter lets it pass, its receiver, whomever that represents, finds no other fault in it
abbrev pub WrittenThenAccepted : Type 0
WrittenThenAccepted = (operation partner : ℕ) (part represented : List ℕ) → presenter_code operation partner part ≡ 0 → receiver_code partner represented (written_detail (packed_byte operation) part) ≡ drawee_code operation partner represented part

-- the documents of a body as one part
unfoldable pub part_of : List ℕ → List ℕ
part_of body = flat_map (λ (d : List ℕ). d) (documents body)

-- a body with the free byte of each group 00
unfoldable pub cleared_groups : List ℕ → List ℕ
cleared_groups body = flat_map cleared (groups body)

-- an accepted body, written again from its operation and its documents
abbrev pub ReadThenWritten : Type 0
ReadThenWritten = (own : ℕ) (represented body : List ℕ) → receiver_code own represented body ≡ 0 → written_detail (operation_of body) (part_of body) ≡ cleared_groups body
