-- The text of a table line by line.
use mathlib.Core.Path.{◌≡◌, refl, ap, sym, ◌∙◌}
use mathlib.Core.List.{List, [], ◌∷◌, ◌++◌, append_assoc, append-nil}
use Prim.Native.Nat.{ℕ, suc, ◌<◌}
use lib.ListN.{length, take, get_or}
use lib.Seq.{take-suc}
use Rattle.decimal.specs.Decimal.{decimal}
use Rattle.next_days.specs.Text.{line_feed, line_of, table_text}

text_append : (ns ms : List ℕ) → table_text (ns ++ ms) ≡ table_text ns ++ table_text ms
unfolding table_text
text_append [] ms = refl
text_append (n ∷ ns) ms = ap (λ (rest : List ℕ). line_of n ++ rest) (text_append ns ms) ∙ sym (append_assoc (line_of n) (table_text ns) (table_text ms))

-- one line more: its number, then the line feed
pub one_line : (ns : List ℕ) (i : ℕ) → i < length ns → (table_text (take i ns) ++ decimal (get_or ns i 0)) ++ line_feed ∷ [] ≡ table_text (take (suc i) ns)
unfolding table_text
one_line ns i h =
    append_assoc (table_text (take i ns)) (decimal (get_or ns i 0)) (line_feed ∷ [])
    ∙ ap (λ (line : List ℕ). table_text (take i ns) ++ line) (sym (append-nil (line_of (get_or ns i 0))))
    ∙ sym (text_append (take i ns) (get_or ns i 0 ∷ []))
    ∙ ap table_text (sym (take-suc ns i 0 h))
