-- Laws of a line's parts: numbers one behind another, bytes, all behind the end, and what a whole line says.
use mathlib.Core.Path.{◌≡◌, refl, ap, sym, ◌∙◌}
use mathlib.Core.Bool.{Bool, true, false, ◌&&◌, cond, and_assoc, and-false}
use mathlib.Core.List.{List, [], ◌∷◌, ◌++◌, map}
use Prim.Native.Nat.{ℕ, zero, suc, ◌+◌, ◌-◌, ◌≤◌, ◌<◌}
use native.Mathlib.Nat.{sub-zero, add-zero, zero-add}
use native.Mathlib.Omega.{arith}
use lib.Dec.{eqb, leb, leb-zero, leb-suc-zero, leb-suc-suc}
use lib.ListN.{length, take, drop, get_or, set, length-take, length-append, length-map}
use lib.Seq.{sets, take_all, take-nil, drop-nil, length-take-le, get_or-take}
use borrow.Author.Tests.{eqb-true, eq-eqb, ne_eqb, leb-true, le-leb, lt-leb, lt-ltb, le-ltb}
use Rattle.std.specs.Prelude.{Option, Some, None, is_some, unwrap_or, not, ◌||◌}
use Rattle.packed.specs.Every.{every}
use Rattle.packed.proofs.Laws.Told.{both}
use Rattle.packed.proofs.Laws.Writing.{sets_behind, part_sets}
use Rattle.text.specs.declared.kind.Kind.{Kind}
use Rattle.text.specs.declared.kind.Kind.TheVariants.{Passed, Bad}
use Rattle.text.specs.declared.kind.Shape.{Shape}
use Rattle.text.specs.declared.line.Read.{Read}
use Rattle.text.specs.declared.line.Parts.{Parts}
use Rattle.text.specs.declared.line.End.{End}
use Rattle.text.specs.Ascii.{ascii, byte}
use Rattle.text.specs.Word.{equal_bytes, runs, not_empty, words}
use Rattle.text.specs.declared.word.Split.{Split}
use Rattle.text.specs.Inner.Word.{words_from}
use Rattle.text.specs.declared.kind.Source.{Source}
use Rattle.text.specs.declared.kind.Source.TheVariants.{Hex, HexOrWritten}
use Rattle.text.proofs.Laws.Hex.{hex_nothing}
use Rattle.text.specs.Number.{decimal, is_number}
use Rattle.text.specs.Got.{Got, fitting}
use Rattle.text.specs.Hex.{hex_word}
use Rattle.text.specs.Kind.{kind_of, is_bad, shape_of}
use Rattle.text.specs.Line.{is_none, is_at, first_of, hex_or_written, written_under, bytes_from, bytes_in, words_of, asked_words, more_words, numbers_in, are_numbers, is_whole, room_in, most_room, longest_line, is_end, Said, no_call, read_call, read_words, read_line}
use Rattle.text.specs.Inner.Line.{AreNumbers, AreBytes, AreParts, IsEnd}

-- A reading of numbers that has come to i: with the words that are left it is as the whole is to be.
pub record Rest (ws rest : List (List ℕ)) (most i first : ℕ) (before numbers : List ℕ) : Type 0 where
  pub good : every is_number (take (most - i) rest) ≡ every is_number (take most ws)
  pub count : i + length (take (most - i) rest) ≡ length (take most ws)
  pub rest_words : drop (most - i) rest ≡ drop most ws
  pub stored : sets numbers (first + i) (map decimal (take (most - i) rest)) ≡ sets before first (map decimal (take most ws))

pub rest_start : (ws : List (List ℕ)) (most first : ℕ) (before : List ℕ) → Rest ws ws most 0 first before before
rest_start ws most first before =
    record {
      good = ap (λ (n : ℕ). every is_number (take n ws)) (sub-zero most);
      count = ap (λ (n : ℕ). 0 + length (take n ws)) (sub-zero most) ∙ omega arith;
      rest_words = ap (λ (n : ℕ). drop n ws) (sub-zero most);
      stored = λ t. sets before (add-zero first t) (map decimal (take (sub-zero most t) ws));
    }

module _ (ws rest : List (List ℕ)) (most i first : ℕ) (before numbers : List ℕ) (so : Rest ws rest most i first before numbers) where
  module _ (w : List ℕ) (behind : List (List ℕ)) (next : rest ≡ w ∷ behind) (h : i < most) where
    more : most - i ≡ suc (most - (i + 1))
    more = omega arith

    taken : take (most - i) rest ≡ w ∷ take (most - (i + 1)) behind
    taken = λ t. take (more t) (next t)

    every_next : every is_number (take (most - i) rest) ≡ is_number w && every is_number (take (most - (i + 1)) behind)
    unfolding every
    every_next = ap (every is_number) taken

    pub rest_not : is_number w ≡ false → false ≡ every is_number (take most ws)
    rest_not e = sym (every_next ∙ ap (λ (b : Bool). b && every is_number (take (most - (i + 1)) behind)) e) ∙ so.good

    pub rest_on : (v : ℕ) → is_number w ≡ true → v ≡ decimal w → Rest ws behind most (i + 1) first before (set numbers (first + i) v)
    rest_on v e same =
        let size : length (take (most - i) rest) ≡ suc (length (take (most - (i + 1)) behind)) = ap length taken in
        let place : first + (i + 1) ≡ suc (first + i) = omega arith in
        record {
          good = sym (every_next ∙ ap (λ (b : Bool). b && every is_number (take (most - (i + 1)) behind)) e) ∙ so.good;
          count = omega (arith, so.count);
          rest_words = sym (λ t. drop (more t) (next t)) ∙ so.rest_words;
          stored = (λ t. sets (set numbers (first + i) (same t)) (place t) (map decimal (take (most - (i + 1)) behind))) ∙ ap (λ (l : List (List ℕ)). sets numbers (first + i) (map decimal l)) (sym taken) ∙ so.stored;
        }

  -- no word is left, or none is asked for any more
  module _ (none : take (most - i) rest ≡ []) (all : drop (most - i) rest ≡ rest) where
    pub over_good : true ≡ every is_number (take most ws)
    unfolding every
    over_good = sym (ap (every is_number) none) ∙ so.good

    pub over_count : i ≡ length (take most ws)
    over_count = omega (arith, so.count, ap length none)

    pub over_rest : rest ≡ drop most ws
    over_rest = sym all ∙ so.rest_words

    pub over_stored : numbers ≡ sets before first (map decimal (take most ws))
    over_stored = sym (ap (λ (l : List (List ℕ)). sets numbers (first + i) (map decimal l)) none) ∙ so.stored

-- where none is left, and where none is asked for
pub left_none : (n : ℕ) (rest : List (List ℕ)) → rest ≡ [] → (take n rest ≡ []) × (drop n rest ≡ rest)
left_none n rest e = (ap (take n) e ∙ take-nil n, ap (drop n) e ∙ drop-nil n ∙ sym e)

pub asked_none : (n : ℕ) (rest : List (List ℕ)) → n ≡ 0 → (take n rest ≡ []) × (drop n rest ≡ rest)
asked_none n rest e = (ap (λ (k : ℕ). take k rest) e, ap (λ (k : ℕ). drop k rest) e)

-- `@`
pub at_none : (w : List ℕ) → length w ≡ 0 → is_at w ≡ false
at_none [] e = refl
at_none (b ∷ w) e = absurd (omega arith)

module _ (held : ℕ → Got) (w : List ℕ) where
  pub written_is : is_at w ≡ true → hex_or_written held w ≡ written_under held (drop 1 w)
  unfolding hex_or_written
  written_is e = ap (λ (b : Bool). cond b (written_under held (drop 1 w)) (hex_word w)) e

  pub hex_is : is_at w ≡ false → hex_or_written held w ≡ hex_word w
  unfolding hex_or_written
  hex_is e = ap (λ (b : Bool). cond b (written_under held (drop 1 w)) (hex_word w)) e

-- where no word is, no bytes are; and the bytes that a word is
pub no_bytes : (held : ℕ → Got) (source : Source) → bytes_from held (Some source) [] ≡ None
unfolding bytes_from
no_bytes held Hex = hex_nothing
no_bytes held HexOrWritten = hex_is held [] refl ∙ hex_nothing

module _ (held : ℕ → Got) (ws behind : List (List ℕ)) (w : List ℕ) (source : Option Source) (next : ws ≡ w ∷ behind) where
  pub hex_in : source ≡ Some Hex → bytes_from held source ws ≡ hex_word w
  unfolding bytes_from
  hex_in e = λ t. bytes_from held (e t) (next t)

  pub written_in : source ≡ Some HexOrWritten → bytes_from held source ws ≡ hex_or_written held w
  unfolding bytes_from
  written_in e = λ t. bytes_from held (e t) (next t)

  pub words_behind : (s : Source) → source ≡ Some s → behind ≡ drop (words_of source) ws
  words_behind s e = sym (λ t. drop (words_of (e t)) (next t))

-- a word of one byte
pub single : (w : List ℕ) (b : ℕ) → length w ≡ 1 → get_or w 0 0 ≡ b → w ≡ b ∷ []
single [] b h e = absurd (omega arith)
single (x ∷ []) b h e = ap (λ (y : ℕ). y ∷ []) e
single (x ∷ y ∷ w) b h e = absurd (omega arith)

pub other_end : (w : List ℕ) → (length w ≡ 1 → (get_or w 0 0 ≡ 65 → ⊥) × (get_or w 0 0 ≡ 66 → ⊥)) → is_end w ≡ false
unfolding equal_bytes
other_end [] h = refl
other_end (x ∷ []) h = λ t. ne_eqb x 65 (h refl).0 t && true || ne_eqb x 66 (h refl).1 t && true
other_end (x ∷ y ∷ w) h = λ t. and-false (eqb x 65) t || and-false (eqb x 66) t

-- a line with a word is not empty
pub worded : (line : List ℕ) (w : List ℕ) (ws : List (List ℕ)) → words line ≡ w ∷ ws → 0 < length line
unfolding runs not_empty
worded [] w ws e = absurd (let z : [] ≡ w ∷ ws = e in cc)
worded (b ∷ line) w ws e = omega arith

pub is_word : (r : Option Split) (b : Bool) → is_some r ≡ b → is_none (words_from r) ≡ not b
is_word None b e = ap not e
is_word (Some split) b e = ap not e

-- the room that a line says
module _ (s : Shape) (numbers : List ℕ) (count : ℕ) (h : count ≤ length numbers) where
  abbrev room_by : Bool → ℕ → ℕ
  room_by said n = cond (s.room && said) n most_room

  size_lem : eqb (length (take count numbers)) (s.asked + 1) ≡ eqb count (s.asked + 1)
  size_lem = ap (λ (n : ℕ). eqb n (s.asked + 1)) (length-take-le count numbers h)

  pub room_said : s.room && eqb count (s.asked + 1) ≡ true → get_or numbers s.asked 0 ≡ room_in s (take count numbers)
  unfolding room_in
  room_said e =
      let told = both s.room (eqb count (s.asked + 1)) e in
      let inside : s.asked < count = omega (arith, eqb-true count (s.asked + 1) told.1) in
      sym (get_or-take count numbers s.asked 0 inside)
      ∙ sym (ap (λ (b : Bool). cond b (get_or (take count numbers) s.asked 0) most_room) (ap (λ (b : Bool). s.room && b) size_lem ∙ e))

  pub room_not : s.room && eqb count (s.asked + 1) ≡ false → most_room ≡ room_in s (take count numbers)
  unfolding room_in
  room_not e = sym (ap (λ (b : Bool). cond b (get_or (take count numbers) s.asked 0) most_room) (ap (λ (b : Bool). s.room && b) size_lem ∙ e))

-- numbers with nothing behind them are no more than that
no_more : (most : ℕ) (ws : List (List ℕ)) → every is_number (take most ws) && is_none (drop most ws) ≡ are_numbers most ws
unfolding every
no_more zero [] = refl
no_more zero (w ∷ ws) = sym (ap (λ (b : Bool). is_number w && every is_number ws && b) (leb-suc-zero (length ws)) ∙ and-false (is_number w && every is_number ws))
no_more (suc most) [] = sym (leb-zero (suc most))
no_more (suc most) (w ∷ ws) =
    and_assoc (is_number w) (every is_number (take most ws)) (is_none (drop most ws))
    ∙ ap (λ (b : Bool). is_number w && b) (no_more most ws)
    ∙ sym (and_assoc (is_number w) (every is_number ws) (leb (length ws) most))
    ∙ ap (λ (b : Bool). is_number w && every is_number ws && b) (sym (leb-suc-suc (length ws) most))

-- all behind the end, by its parts: the numbers that are asked for, the bytes, the numbers that follow, and nothing else
module _ (held : ℕ → Got) (most : ℕ) (s : Shape) (ws : List (List ℕ)) where
  whole_is : (a b c d : Bool) → every is_number (take s.asked ws) ≡ a → leb s.asked (length ws) ≡ b → is_some (bytes_in held most s ws) ≡ c → are_numbers s.more (more_words s ws) ≡ d → is_whole held most s ws ≡ a && b && c && d
  unfolding is_whole
  whole_is a b c d e f g h = λ t. e t && f t && g t && h t

  pub no_asked : every is_number (take s.asked ws) ≡ false → is_whole held most s ws ≡ false
  no_asked e = whole_is false _ _ _ e refl refl refl

  module _ (zeros n₁ : List ℕ) (first : Read) (one : AreNumbers ws s.asked 0 zeros n₁ first) where
    pub too_few : first.count < s.asked → is_whole held most s ws ≡ false
    too_few h = whole_is true false _ _ one.good few refl refl
      where
        few : leb s.asked (length ws) ≡ false
        few = lt-leb s.asked (length ws) (omega (arith, one.count, length-take s.asked ws))

    module _ (enough : s.asked ≤ first.count) where
      asked : leb s.asked (length ws) ≡ true
      asked = le-leb s.asked (length ws) (omega (arith, one.count, length-take s.asked ws))

      bytes_lem : fitting most (bytes_from held s.source (words first.rest.now)) ≡ bytes_in held most s ws
      bytes_lem = ap (λ (l : List (List ℕ)). fitting most (bytes_from held s.source l)) one.rest

      pub no_data : fitting most (bytes_from held s.source (words first.rest.now)) ≡ None → is_whole held most s ws ≡ false
      no_data e = whole_is true true false _ one.good asked (ap is_some (sym bytes_lem ∙ e)) refl

      module _ (buffer : List ℕ) (read : Read) (two : AreBytes held most s.source (words first.rest.now) buffer read) where
        pub data_got : bytes_in held most s ws ≡ Some (take read.count buffer)
        data_got = sym bytes_lem ∙ two.got

        more_are : words read.rest.now ≡ more_words s ws
        more_are = two.rest ∙ ap (drop (words_of s.source)) one.rest

        by_more : (b : Bool) → every is_number (take s.more (words read.rest.now)) && is_none (drop s.more (words read.rest.now)) ≡ b → is_whole held most s ws ≡ b
        by_more b e = whole_is true true true b one.good asked (ap is_some data_got) (ap (are_numbers s.more) (sym more_are) ∙ sym (no_more s.more (words read.rest.now)) ∙ e)

        pub no_more_asked : every is_number (take s.more (words read.rest.now)) ≡ false → is_whole held most s ws ≡ false
        no_more_asked e = by_more false (ap (λ (b : Bool). b && is_none (drop s.more (words read.rest.now))) e)

        module _ (n₂ : List ℕ) (rest : Read) (three : AreNumbers (words read.rest.now) s.more s.asked n₁ n₂ rest) where
          pub parts_end : (b : Bool) → is_none (words rest.rest.now) ≡ b → is_whole held most s ws ≡ b
          parts_end b e = by_more b ((λ t. three.good t && is_none (sym three.rest t)) ∙ e)

          pub parts_numbers : length zeros ≡ 19 → s.asked + s.more ≤ 19 → is_none (words rest.rest.now) ≡ true → take (s.asked + rest.count) n₂ ≡ numbers_in s ws
          parts_numbers size sized e =
              let more = words read.rest.now in
              let xs = map decimal (asked_words s ws) in
              let ys = map decimal (take s.more more) in
              let few = (both (every is_number more) (leb (length more) s.more) (sym (no_more s.more more) ∙ (λ t. three.good t && is_none (sym three.rest t)) ∙ e)).1 in
              let wide : length xs ≡ s.asked = length-map (asked_words s ws) decimal ∙ length-take-le s.asked ws (leb-true s.asked (length ws) asked) in
              let counted : length ys ≡ rest.count = length-map (take s.more more) decimal ∙ sym three.count in
              let both-sized : length (xs ++ ys) ≡ s.asked + rest.count = length-append xs ys ∙ (λ t. wide t + counted t) in
              let written : n₂ ≡ sets zeros 0 (xs ++ ys) = three.numbers ∙ sets_behind xs ys zeros n₁ 0 s.asked one.numbers (zero-add (length xs) ∙ wide) in
              let most_more : rest.count ≤ s.more = omega (arith, three.count, length-take s.more more) in
              ap (take (s.asked + rest.count)) written
              ∙ part_sets (xs ++ ys) zeros 0 (s.asked + rest.count) both-sized (omega arith)
              ∙ ap (λ (l : List (List ℕ)). xs ++ map decimal l) (take_all s.more more (leb-true (length more) s.more few) ∙ more_are)

-- a call, by its end and what stands behind it
module _ (held : ℕ → Got) (most : ℕ) (kind : Kind) (ws : List (List ℕ)) where
  abbrev call_by : Shape → Said
  call_by s = cond (is_end (first_of ws) && is_whole held most s (drop 1 ws) && leb (room_in s (numbers_in s (drop 1 ws))) most_room) (record { kind = kind; near = equal_bytes (first_of ws) (ascii "A"); numbers = numbers_in s (drop 1 ws); bytes = unwrap_or (bytes_in held most s (drop 1 ws)) []; room = room_in s (numbers_in s (drop 1 ws)) }) (no_call Bad)

  pub no_end : is_end (first_of ws) ≡ false → read_call held most kind ws ≡ no_call Bad
  unfolding read_call
  no_end e = ap (λ (b : Bool). cond (b && is_whole held most (shape_of kind) (drop 1 ws) && leb (room_in (shape_of kind) (numbers_in (shape_of kind) (drop 1 ws))) most_room) (record { kind = kind; near = equal_bytes (first_of ws) (ascii "A"); numbers = numbers_in (shape_of kind) (drop 1 ws); bytes = unwrap_or (bytes_in held most (shape_of kind) (drop 1 ws)) []; room = room_in (shape_of kind) (numbers_in (shape_of kind) (drop 1 ws)) }) (no_call Bad)) e

  module _ (s : Shape) (shaped : s ≡ shape_of kind) (end : End) (one : IsEnd ws end) where
    read_is : call_by s ≡ read_call held most kind ws
    unfolding read_call
    read_is = ap call_by shaped

    abbrev call_if : Bool → Bool → Said
    call_if whole fits = cond (true && whole && fits) (record { kind = kind; near = equal_bytes (first_of ws) (ascii "A"); numbers = numbers_in s (drop 1 ws); bytes = unwrap_or (bytes_in held most s (drop 1 ws)) []; room = room_in s (numbers_in s (drop 1 ws)) }) (no_call Bad)

    call_is : (whole fits : Bool) → is_whole held most s (words end.rest.now) ≡ whole → leb (room_in s (numbers_in s (drop 1 ws))) most_room ≡ fits → read_call held most kind ws ≡ call_if whole fits
    call_is whole fits e f = sym read_is ∙ (λ t. cond (one.good t && (ap (is_whole held most s) (sym one.rest) ∙ e) t && f t) (record { kind = kind; near = equal_bytes (first_of ws) (ascii "A"); numbers = numbers_in s (drop 1 ws); bytes = unwrap_or (bytes_in held most s (drop 1 ws)) []; room = room_in s (numbers_in s (drop 1 ws)) }) (no_call Bad))

    pub no_parts : is_whole held most s (words end.rest.now) ≡ false → read_call held most kind ws ≡ no_call Bad
    no_parts e = call_is false _ e refl

    module _ (buffer : List ℕ) (parts : Parts) (two : AreParts held most s (words end.rest.now) buffer parts) (room : ℕ) (three : room ≡ room_in s (take parts.count parts.numbers)) where
      numbers_are : take parts.count parts.numbers ≡ numbers_in s (drop 1 ws)
      numbers_are = two.numbers ∙ ap (numbers_in s) one.rest

      room_is : room ≡ room_in s (numbers_in s (drop 1 ws))
      room_is = three ∙ ap (room_in s) numbers_are

      pub no_room : most_room < room → read_call held most kind ws ≡ no_call Bad
      no_room h = call_is true false two.good (ap (λ (n : ℕ). leb n most_room) (sym room_is) ∙ lt-leb room most_room h)

      pub call_said : room ≤ most_room → ◌≡◌ {A = Said} (record { kind = kind; near = end.near; numbers = take parts.count parts.numbers; bytes = take parts.bytes buffer; room = room }) (read_call held most kind ws)
      call_said h =
          let bytes = ap (λ (g : Got). unwrap_or g []) (sym two.got ∙ ap (bytes_in held most s) one.rest) in
          (λ t. record { kind = kind; near = one.near t; numbers = numbers_are t; bytes = bytes t; room = room_is t })
          ∙ sym (call_is true true two.good (ap (λ (n : ℕ). leb n most_room) (sym room_is) ∙ le-leb room most_room h))

-- a line, by its length, its first word and its first byte
module _ (held : ℕ → Got) (most : ℕ) (line : List ℕ) where
  abbrev line_by : Bool → List (List ℕ) → Said
  line_by long ws = cond long (no_call Bad) (read_words held most (eqb (get_or line 0 0) (byte "#")) ws)

  pub line_long : longest_line < length line → no_call Bad ≡ read_line held most line
  unfolding read_line
  line_long h = sym (ap (λ (b : Bool). line_by b (words line)) (lt-ltb longest_line (length line) h))

  module _ (short : length line ≤ longest_line) where
    pub line_empty : words line ≡ [] → no_call Passed ≡ read_line held most line
    unfolding read_line read_words
    line_empty e = sym (λ t. line_by (le-ltb longest_line (length line) short t) (e t))

    module _ (w : List ℕ) (ws : List (List ℕ)) (e : words line ≡ w ∷ ws) where
      abbrev words_by : Bool → Bool → Said
      words_by comment bad = cond comment (no_call Passed) (cond bad (no_call Bad) (read_call held most (kind_of w) ws))

      words_by_lem : read_line held most line ≡ words_by (eqb (get_or line 0 0) (byte "#")) (is_bad (kind_of w))
      unfolding read_line read_words
      words_by_lem = λ t. line_by (le-ltb longest_line (length line) short t) (e t)

      pub line_comment : get_or line 0 0 ≡ 35 → no_call Passed ≡ read_line held most line
      line_comment c = sym (words_by_lem ∙ ap (λ (b : Bool). words_by b (is_bad (kind_of w))) (eq-eqb (get_or line 0 0) 35 c))

      pub line_unknown : (get_or line 0 0 ≡ 35 → ⊥) → is_bad (kind_of w) ≡ true → no_call Bad ≡ read_line held most line
      line_unknown c b = sym (words_by_lem ∙ (λ t. words_by (ne_eqb (get_or line 0 0) 35 c t) (b t)))

      pub line_call : (get_or line 0 0 ≡ 35 → ⊥) → is_bad (kind_of w) ≡ false → read_call held most (kind_of w) ws ≡ read_line held most line
      line_call c b = sym (words_by_lem ∙ (λ t. words_by (ne_eqb (get_or line 0 0) 35 c t) (b t)))
