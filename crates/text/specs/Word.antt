-- The words of a line: what stands between spaces. And whether two runs of bytes are the same.
use Rattle.std.specs.Prelude.{ℕ, suc, ◌+◌, ◌-◌, ◌<◌, ◌≡◌, Bool, true, false, not, ◌&&◌, cond, Option, Some, None, List, [], ◌∷◌, eqb, length, drop}
use Rattle.packed.specs.Part.{part}
use Rattle.text.specs.declared.word.Split.{Split}
use Rattle.text.specs.Ascii.{byte}

unfoldable pub equal_bytes : List ℕ → List ℕ → Bool
equal_bytes [] [] = true
equal_bytes [] (y ∷ ys) = false
equal_bytes (x ∷ xs) [] = false
equal_bytes (x ∷ xs) (y ∷ ys) = eqb x y && equal_bytes xs ys

-- how many bytes stand before the first at which a test holds
unfoldable pub before : (ℕ → Bool) → List ℕ → ℕ
before p [] = 0
before p (b ∷ bs) = cond (p b) 0 (suc (before p bs))

abbrev pub is : (byte : ℕ) → ℕ → Bool
is byte b = eqb b byte

abbrev pub is_space : ℕ → Bool
is_space b = is (byte " ") b

abbrev pub is_other : ℕ → Bool
is_other b = not (is_space b)

abbrev pub onto_first : ℕ → List (List ℕ) → List (List ℕ)
onto_first b [] = (b ∷ []) ∷ []
onto_first b (run ∷ runs) = (b ∷ run) ∷ runs

-- the runs between the bytes at which a test holds, empty ones too: one more than there are such bytes
unfoldable pub runs : (ℕ → Bool) → List ℕ → List (List ℕ)
runs p [] = [] ∷ []
runs p (b ∷ bs) = cond (p b) ([] ∷ runs p bs) (onto_first b (runs p bs))

-- those that are not empty
unfoldable pub not_empty : List (List ℕ) → List (List ℕ)
not_empty [] = []
not_empty ([] ∷ runs) = not_empty runs
not_empty ((b ∷ bs) ∷ runs) = (b ∷ bs) ∷ not_empty runs

abbrev pub words : List ℕ → List (List ℕ)
words line = not_empty (runs is_space line)

-- where the next word of a line begins and where it ends: both at the line's end, where it has none
abbrev pub word_begins : List ℕ → ℕ
word_begins line = before is_other line

abbrev pub word_ends : List ℕ → ℕ
word_ends line = word_begins line + before is_space (drop (word_begins line) line)

-- the word that stands there, and the line behind it
pub record IsNextWord (line : List ℕ) (split : Split) : Type 0 where
  pub begins : word_begins line < length line
  pub word : split.word.now ≡ part (word_begins line) (word_ends line - word_begins line) line
  pub rest : split.rest.now ≡ drop (word_ends line) line

-- the next word of a line; none only where nothing but spaces stand
abbrev pub NextWord : (line : List ℕ) → Option Split → Type 0
NextWord line None = word_begins line ≡ length line
NextWord line (Some split) = IsNextWord line split
