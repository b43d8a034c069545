-- The codes that a receiver gives and the codes that are known in a reply are the same. A code that is given and not known would leave its presenter
-- waiting for ever; one that is known and never given would be a word that nobody writes. A new code that is forgotten at either place is refused here.
use mathlib.Core.Path.{◌≡◌, refl}
use mathlib.Core.Bool.{true, false}
use mathlib.Core.List.{List, [], ◌∷◌, map}
use Prim.Native.Nat.{ℕ}
use lib.ListN.{drop}
use Rattle.packed.specs.Every.{every, member}
use Rattle.packed.specs.Writing.{packed_byte}
use Rattle.amounts.specs.Totals.{zeros}
use Rattle.codes.specs.declared.code.Code.{Code}
use Rattle.codes.specs.Code.{code_number, codes, known_code}
use Rattle.codes.proofs.Cases.{Case, ◌is◌, AllDue, with_byte}
use Rattle.codes.proofs.Laws.Listed.{known}
use Rattle.document.specs.Operation.{presented_number}
use Rattle.detail.specs.Limits.{head_bytes}
use Rattle.detail.proofs.Cases.{printed, as_return, two_groups}
use Rattle.message.specs.Content.{content_of}
use Rattle.message.specs.Line.{whole_message}
use Rattle.session.specs.declared.parties.Parties.{Parties}
use Rattle.session.specs.declared.session.Receiving.{Receiving}
use Rattle.session.specs.declared.running.Running.{Running}
use Rattle.session.specs.Hours.{cut_off}
use Rattle.session.specs.Limits.{most_lot_documents, most_lots}
use Rattle.session.specs.Receiving.{earned_code}
use Rattle.session.specs.Sequence.{lot_sequence}
use Rattle.session.specs.Engine.{Call}
use Rattle.session.specs.Ends.{End}
use Rattle.session.proofs.Laws.Codes.{code_carried}
use Rattle.session.proofs.Examples.{computing, Sent, envelope_from}
use Rattle.session.proofs.Cases.{Answer, reply_of, receiver, arriving, open_receiver, holding, detail, detail_for_nothing, with_drawee, one_past, with_lots, none_open}

-- what any message earns in any state is known
pub given_known : (time : ℕ) (body : List ℕ) (p : Parties) (running : Running) (r : Receiving) → known_code (packed_byte (earned_code time body p running r)) ≡ true
given_known time body p running r = known (earned_code time body p running r) (code_carried time body p running r (content_of body))

-- the codes of the replies among some answers
abbrev replied_codes : List Answer → List ℕ
replied_codes [] = []
replied_codes (Answer.reply number operation code lot documents ∷ answers) = code ∷ replied_codes answers
replied_codes (Answer.checked c ∷ answers) = replied_codes answers
replied_codes (Answer.number n ∷ answers) = replied_codes answers
replied_codes (Answer.everything d ∷ answers) = replied_codes answers
replied_codes (Answer.close c ∷ answers) = replied_codes answers

-- every known code is among those that the definitions give to some cases
abbrev AllGiven : List (Case Answer) → Type 0
AllGiven cases = every (λ (c : Code). member (code_number c) (replied_codes (map (λ (x : Case Answer). x.given) cases))) codes ≡ true

-- a detail whose nominal has a byte that is no digits, and one of both operations
abbrev no_digits : Sent
no_digits = Sent.detail presented_number (drop head_bytes (with_byte 35 0x0A printed))

abbrev mixed : Call
mixed = Call.receive 80000 (whole_message (envelope_from End.near 2) (two_groups as_return))

-- for each known code a message that gets it, in the order of the numbers
known_given :
    let cases : List (Case Answer) =
    reply_of receiver (arriving 80000 1 (Sent.header 7)) is Answer.reply 0 86 0 7 0
    ∷ reply_of receiver (arriving 80000 1 (Sent.header 0)) is Answer.reply 0 86 1 0 0
    ∷ reply_of open_receiver (arriving 80000 2 no_digits) is Answer.reply 0 86 3 7 0
    ∷ reply_of one_past (arriving 80000 4 (Sent.header 7)) is Answer.reply 0 86 4 0 0
    ∷ reply_of open_receiver (arriving 80000 2 (with_drawee 0x73)) is Answer.reply 0 86 6 7 0
    ∷ reply_of receiver (arriving 80000 1 detail) is Answer.reply 0 86 (lot_sequence false none_open) 0 0
    ∷ reply_of one_past (arriving 80000 4 (Sent.session_total 0 zeros)) is Answer.reply 0 97 8 0 0
    ∷ reply_of open_receiver mixed is Answer.reply 0 86 9 7 0
    ∷ reply_of receiver (arriving cut_off 1 (Sent.header 7)) is Answer.reply 0 86 10 0 0
    ∷ reply_of (with_lots most_lots receiver) (arriving 80000 1 (Sent.header 7)) is Answer.reply 0 86 11 0 0
    ∷ reply_of (holding most_lot_documents open_receiver) (arriving 80000 2 detail) is Answer.reply 0 86 12 7 most_lot_documents
    ∷ reply_of open_receiver (arriving 80000 2 detail_for_nothing) is Answer.reply 0 86 44 7 0
    ∷ []
    in
    AllDue cases × AllGiven cases
unfolding computing
known_given = (refl, refl)
