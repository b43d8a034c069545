-- 01, 'Trays': ready documents, presentations and returns, each with a cursor that counts those sent; and 25.
use Rattle.std.specs.Prelude.{ℕ, ◌*◌, Bool, not, ◌&&◌, cond, List, [], leb, ltb, take, drop}
use Rattle.codes.specs.Chain.{◌when◌}
use Rattle.document.specs.Limits.{document_bytes, most_detail_documents}
use Rattle.document.specs.Part.{is_whole, count_in}

-- 25 otherwise: whole documents, and a cursor that is not past their end
abbrev pub ready_good : (tray : List ℕ) (cursor : ℕ) → Bool
ready_good tray cursor = is_whole tray && leb cursor (count_in tray)

-- documents remain in a tray, past its cursor
abbrev pub remain : (tray : List ℕ) (cursor : ℕ) → Bool
remain tray cursor = ltb cursor (count_in tray)

-- both trays are tested, whichever is used
abbrev pub both_good : (presentations returns : List ℕ) (presentations_sent returns_sent : ℕ) → Bool
both_good presentations returns presentations_sent returns_sent = ready_good presentations presentations_sent && ready_good returns returns_sent

-- 200 documents from the cursor on, or all that remain
abbrev pub next_of : (tray : List ℕ) (cursor : ℕ) → List ℕ
next_of tray cursor = take (most_detail_documents * document_bytes) (drop (cursor * document_bytes) tray)

-- of the presentations while any remain there, else of the returns; 'a tray refusal gives an empty part'
abbrev pub next : (presentations returns : List ℕ) (presentations_sent returns_sent : ℕ) → List ℕ
next presentations returns presentations_sent returns_sent =
    cond (both_good presentations returns presentations_sent returns_sent)
    (cond (remain presentations presentations_sent) (next_of presentations presentations_sent) (next_of returns returns_sent))
    []

-- 'a tray check beside it gives the number, 00 if none'
abbrev pub check_code : (presentations returns : List ℕ) (presentations_sent returns_sent : ℕ) → ℕ
check_code presentations returns presentations_sent returns_sent = 25 when not (both_good presentations returns presentations_sent returns_sent)
