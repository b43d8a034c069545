-- A line of a script (docs/SCRIPTS.md), read: which call it is, at which end, with which numbers and bytes; or that it is passed over, or bad.
use Rattle.std.specs.Prelude.{ℕ, ◌+◌, Bool, true, false, ◌&&◌, ◌||◌, Option, Some, None, is_some, unwrap_or, cond, List, [], ◌∷◌, ◌++◌, map, leb, ltb, eqb, length, take, drop, get_or}
use Rattle.packed.specs.Every.{every}
use Rattle.text.specs.declared.kind.Kind.{Kind}
use Rattle.text.specs.declared.kind.Kind.TheVariants.{Passed, Bad}
use Rattle.text.specs.declared.kind.Source.{Source}
use Rattle.text.specs.declared.kind.Source.TheVariants.{Hex, HexOrWritten}
use Rattle.text.specs.declared.kind.Shape.{Shape}
use Rattle.text.specs.declared.line.Line.{Line}
use Rattle.text.specs.Ascii.{ascii, byte}
use Rattle.text.specs.Word.{equal_bytes, words}
use Rattle.text.specs.Number.{decimal, is_number}
use Rattle.text.specs.Got.{Got, fitting}
use Rattle.text.specs.Hex.{hex_word}
use Rattle.text.specs.Kind.{kind_of, is_bad, shape_of}

-- what a line says: to the near end, A, or the far one, B; its numbers, ROOM among them; its bytes; and the length of the line buffer
pub record Said : Type 0 where
  pub kind : Kind
  pub near : Bool
  pub numbers : List ℕ
  pub bytes : List ℕ
  pub room : ℕ

abbrev pub most_room : ℕ
most_room = 10412

abbrev pub longest_line : ℕ
longest_line = 24000

-- a line that is no call
abbrev pub no_call : Kind → Said
no_call kind = record { kind = kind; near = true; numbers = []; bytes = []; room = most_room }

-- a word at the head of others; nothing where there is none
abbrev pub first_of : List (List ℕ) → List ℕ
first_of ws = get_or ws 0 []

abbrev pub is_none : List (List ℕ) → Bool
is_none [] = true
is_none (w ∷ ws) = false

abbrev pub is_at : (word : List ℕ) → Bool
is_at word = eqb (get_or word 0 0) (byte "@")

-- what the memory holds under the number that a word is
abbrev pub written_under : (held : ℕ → Got) (word : List ℕ) → Got
written_under held word = cond (is_number word) (held (decimal word)) None

-- HEX, or `@K` for what the memory holds under K
unfoldable pub hex_or_written : (held : ℕ → Got) (word : List ℕ) → Got
hex_or_written held word = cond (is_at word) (written_under held (drop 1 word)) (hex_word word)

-- the bytes of a line, in the words from where they stand on
unfoldable pub bytes_from : (held : ℕ → Got) → Option Source → List (List ℕ) → Got
bytes_from held None ws = Some []
bytes_from held (Some Hex) ws = hex_word (first_of ws)
bytes_from held (Some HexOrWritten) ws = hex_or_written held (first_of ws)

-- how many words they take
abbrev pub words_of : Option Source → ℕ
words_of None = 0
words_of (Some source) = 1

-- the words behind the end: those that are asked for, and those that follow the bytes
abbrev pub asked_words : Shape → List (List ℕ) → List (List ℕ)
asked_words s ws = take s.asked ws

abbrev pub more_words : Shape → List (List ℕ) → List (List ℕ)
more_words s ws = drop (words_of s.source) (drop s.asked ws)

-- the bytes of a call, if they fit a buffer of this length
abbrev pub bytes_in : (held : ℕ → Got) (most : ℕ) → Shape → List (List ℕ) → Got
bytes_in held most s ws = fitting most (bytes_from held s.source (drop s.asked ws))

-- numbers, and not too many
abbrev pub are_numbers : (most : ℕ) → List (List ℕ) → Bool
are_numbers most ws = every is_number ws && leb (length ws) most

-- whether the words are as the shape says: numbers, as many as are asked for; bytes; and numbers, no more than may follow
unfoldable pub is_whole : (held : ℕ → Got) (most : ℕ) → Shape → List (List ℕ) → Bool
is_whole held most s ws =
    every is_number (asked_words s ws) && leb s.asked (length ws) && is_some (bytes_in held most s ws) && are_numbers s.more (more_words s ws)

abbrev pub numbers_in : Shape → List (List ℕ) → List ℕ
numbers_in s ws = map decimal (asked_words s ws) ++ map decimal (more_words s ws)

-- the length of the line buffer: what the line says, if it may and does
unfoldable pub room_in : Shape → (numbers : List ℕ) → ℕ
room_in s numbers = cond (s.room && eqb (length numbers) (s.asked + 1)) (get_or numbers s.asked 0) most_room

abbrev pub is_end : (word : List ℕ) → Bool
is_end word = equal_bytes word (ascii "A") || equal_bytes word (ascii "B")

-- a call of this kind, by the words behind its first
unfoldable pub read_call : (held : ℕ → Got) (most : ℕ) → Kind → List (List ℕ) → Said
read_call held most kind ws =
    let s = shape_of kind in
    let numbers = numbers_in s (drop 1 ws) in
    cond (is_end (first_of ws) && is_whole held most s (drop 1 ws) && leb (room_in s numbers) most_room)
    (record { kind = kind; near = equal_bytes (first_of ws) (ascii "A"); numbers = numbers; bytes = unwrap_or (bytes_in held most s (drop 1 ws)) []; room = room_in s numbers })
    (no_call Bad)

-- the words of a line; a line without a word, and a comment, are passed over
unfoldable pub read_words : (held : ℕ → Got) (most : ℕ) (comment : Bool) → List (List ℕ) → Said
read_words held most comment [] = no_call Passed
read_words held most comment (word ∷ ws) =
    cond comment (no_call Passed) (cond (is_bad (kind_of word)) (no_call Bad) (read_call held most (kind_of word) ws))

-- a line of any bytes, by what the memory holds under a number and how many bytes fit the buffer
unfoldable pub read_line : (held : ℕ → Got) (most : ℕ) (line : List ℕ) → Said
read_line held most line =
    cond (ltb longest_line (length line)) (no_call Bad) (read_words held most (eqb (get_or line 0 0) (byte "#")) (words line))

-- what a line that was read says, by the buffer that was left
abbrev pub said_of : Line → (buffer : List ℕ) → Said
said_of r buffer = record { kind = r.kind; near = r.near; numbers = take r.count r.numbers; bytes = take r.bytes buffer; room = r.room }
