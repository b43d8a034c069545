-- What the code that reads a line tells, part by part, and the sizes of what it reads.
use Rattle.std.specs.Prelude.{ℕ, ◌≤◌, ◌≡◌, true, false, Option, Some, None, List, map, length, take, drop}
use Rattle.std.proofs.lemmas.List.Edits.{sets}
use Rattle.packed.specs.Every.{every}
use Rattle.text.specs.declared.kind.Kind.{Kind}
use Rattle.text.specs.declared.kind.Kind.TheVariants.{Bad}
use Rattle.text.specs.declared.kind.Source.{Source}
use Rattle.text.specs.declared.kind.Shape.{Shape}
use Rattle.text.specs.declared.line.Line.{Line}
use Rattle.text.specs.declared.line.Read.{Read}
use Rattle.text.specs.declared.line.Parts.{Parts}
use Rattle.text.specs.declared.line.End.{End}
use Rattle.text.specs.Ascii.{ascii}
use Rattle.text.specs.Word.{equal_bytes, words}
use Rattle.text.specs.Number.{decimal, is_number}
use Rattle.text.specs.Got.{Got, fitting}
use Rattle.text.specs.Kind.{shape_of}
use Rattle.text.specs.Line.{most_room, first_of, bytes_from, words_of, bytes_in, is_whole, numbers_in, is_end, no_call, read_call, said_of}

-- the sizes of what was read: numbers, as many as its kind asks for at least; bytes, of which at most so many fit; and the length of the line
-- buffer
pub record Bounded (most : ℕ) (r : Line) : Type 0 where
  pub size : length r.numbers ≡ 19
  pub asked : (shape_of r.kind).asked ≤ r.count
  pub count : r.count ≤ 19
  pub bytes : r.bytes ≤ most
  pub room : r.room ≤ most_room

-- so many words, which all are numbers, and the words behind them
pub record AreNumbers (ws : List (List ℕ)) (most first : ℕ) (before after : List ℕ) (r : Read) : Type 0 where
  pub good : every is_number (take most ws) ≡ true
  pub count : r.count ≡ length (take most ws)
  pub rest : words r.rest.now ≡ drop most ws
  pub numbers : after ≡ sets before first (map decimal (take most ws))
  pub size : length after ≡ length before

-- the next words as numbers, at most so many, put one behind another from a place on; nothing where one is none
abbrev pub NumbersRead : (ws : List (List ℕ)) (most first : ℕ) (before after : List ℕ) → Option Read → Type 0
NumbersRead ws most first before after None = every is_number (take most ws) ≡ false
NumbersRead ws most first before after (Some r) = AreNumbers ws most first before after r

-- bytes, and the words behind them
pub record AreBytes (held : ℕ → Got) (most : ℕ) (source : Option Source) (ws : List (List ℕ)) (buffer : List ℕ) (r : Read) : Type 0 where
  pub got : fitting most (bytes_from held source ws) ≡ Some (take r.count buffer)
  pub rest : words r.rest.now ≡ drop (words_of source) ws
  pub bytes : r.count ≤ most

-- the bytes of a line; nothing where it has none
abbrev pub DataRead : (held : ℕ → Got) (most : ℕ) (source : Option Source) (ws : List (List ℕ)) (buffer : List ℕ) → Option Read → Type 0
DataRead held most source ws buffer None = fitting most (bytes_from held source ws) ≡ None
DataRead held most source ws buffer (Some r) = AreBytes held most source ws buffer r

-- all behind the end
pub record AreParts (held : ℕ → Got) (most : ℕ) (s : Shape) (ws : List (List ℕ)) (buffer : List ℕ) (r : Parts) : Type 0 where
  pub good : is_whole held most s ws ≡ true
  pub numbers : take r.count r.numbers ≡ numbers_in s ws
  pub got : bytes_in held most s ws ≡ Some (take r.bytes buffer)
  pub size : length r.numbers ≡ 19
  pub asked : s.asked ≤ r.count
  pub count : r.count ≤ 19
  pub bytes : r.bytes ≤ most

-- all behind the end, if it is as the shape says
abbrev pub PartsRead : (held : ℕ → Got) (most : ℕ) (s : Shape) (ws : List (List ℕ)) (buffer : List ℕ) → Option Parts → Type 0
PartsRead held most s ws buffer None = is_whole held most s ws ≡ false
PartsRead held most s ws buffer (Some r) = AreParts held most s ws buffer r

-- an end, and the words behind it
pub record IsEnd (ws : List (List ℕ)) (r : End) : Type 0 where
  pub good : is_end (first_of ws) ≡ true
  pub near : r.near ≡ equal_bytes (first_of ws) (ascii "A")
  pub rest : words r.rest.now ≡ drop 1 ws

-- the end, if it is one
abbrev pub EndRead : (ws : List (List ℕ)) → Option End → Type 0
EndRead ws None = is_end (first_of ws) ≡ false
EndRead ws (Some r) = IsEnd ws r

-- a call, as its words say
pub record IsCall (held : ℕ → Got) (most : ℕ) (kind : Kind) (ws : List (List ℕ)) (buffer : List ℕ) (r : Line) : Type 0 where
  pub said : said_of r buffer ≡ read_call held most kind ws
  pub bounds : Bounded most r

-- a call, if the words behind the first are one
abbrev pub CallRead : (held : ℕ → Got) (most : ℕ) (kind : Kind) (ws : List (List ℕ)) (buffer : List ℕ) → Option Line → Type 0
CallRead held most kind ws buffer None = read_call held most kind ws ≡ no_call Bad
CallRead held most kind ws buffer (Some r) = IsCall held most kind ws buffer r
