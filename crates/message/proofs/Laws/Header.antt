-- Laws of the header: its rows fill it, its tests in short, which numbers it carries, and what is read of a written one.
use Rattle.std.specs.Prelude.{Ok}
use mathlib.Core.Path.{◌≡◌, refl, ap, sym, ◌∙◌}
use mathlib.Core.Bool.{Bool, true, ◌&&◌, and_assoc, and-true}
use mathlib.Core.List.{List, [], ◌∷◌, ◌++◌}
use Prim.Native.Nat.{ℕ, ◌^◌, ◌/◌, ◌%◌, ◌≤◌, ◌<◌}
use native.Mathlib.Omega.{arith}
use lib.Dec.{leb, ltb}
use lib.ListN.{get_or}
use borrow.Author.Tests.{lt-ltb, ltb-true, leb-true, eq-eqb, eqb-true}
use Rattle.packed.specs.Part.{part}
use Rattle.packed.specs.Every.{every}
use Rattle.packed.specs.Digits.{are_digits}
use Rattle.packed.specs.Number.{number}
use Rattle.packed.proofs.Laws.Told.{both, three}
use Rattle.codes.specs.Field.{exactly, earning, table_good, table_numbers, table_takes}
use Rattle.codes.proofs.Laws.Field.{table_split, digit_runs, total, runs_join, adjoining}
use Rattle.message.specs.declared.route.Route.{Route}
use Rattle.message.specs.declared.header.Header.{Header}
use Rattle.message.specs.Limits.{largest_order_number, largest_centre}
use Rattle.message.specs.Layout.{body_code, read_body, written_body}
use Rattle.message.specs.Route.{route_values, same_route}
use Rattle.message.specs.Inner.Route.{route_at}
use Rattle.message.specs.Header.{time_of_day, order_number, header_fields, header, header_values, header_of, header_said, header_sendable}
use Rattle.message.proofs.Laws.Route.{same}
use Rattle.message.proofs.Laws.Reading.{told}
use Rattle.message.proofs.Laws.Layout.{Whole, accepted_told, written_then_read}

listed : (d a b c e f g : Bool) → d && (a && (b && (c && (e && (f && (g && true)))))) ≡ d && a && (b && c && e) && f && g
listed d a b c e f g = simp (and_assoc, and-true)

module _ (route : Route) where
  pub whole : Whole (header route)
  unfolding header_fields adjoining every
  whole = record { covers = refl; faults = refl }

  -- no field is an amount
  pub no_amounts : (s : List ℕ) → table_good 1 3 (header_fields route) s ≡ true
  unfolding header_fields earning every
  no_amounts s = refl

  -- digits, time, route, order number and zero decide
  pub fields_split : (s : List ℕ) → table_good 1 1 (header_fields route) s ≡ are_digits (part 3 16 s) && time_of_day (header_of s).time && same_route (route_at 7 s) route && order_number (header_of s).number && exactly 0 (number (part 18 1 s))
  unfolding header_fields earning every digit_runs total
  fields_split s =
      let h = header_of s in
      let r = route_at 7 s in
      let rules = time_of_day h.time && (exactly route.date r.date && (exactly route.presenting r.presenting && (exactly route.receiving r.receiving && (order_number h.number && (exactly 0 (number (part 18 1 s)) && true))))) in
      table_split 1 1 (header_fields route) s
      ∙ ap (λ (t : Bool). t && rules) (runs_join 3 (4 ∷ 3 ∷ 2 ∷ 2 ∷ 2 ∷ 2 ∷ 1 ∷ []) s true ∙ and-true (are_digits (part 3 16 s)))
      ∙ listed (are_digits (part 3 16 s)) (time_of_day h.time) (exactly route.date r.date) (exactly route.presenting r.presenting) (exactly route.receiving r.receiving) (order_number h.number) (exactly 0 (number (part 18 1 s)))

  -- a body of good fields holds the route and ends with zero, and so has the numbers of the header that is read of it
  pub good_numbers : (s : List ℕ) → table_good 1 1 (header_fields route) s ≡ true → header_values route (header_of s) ≡ table_numbers 1 (header_fields route) s
  unfolding header_fields
  good_numbers s e =
      let h = header_of s in
      let first = are_digits (part 3 16 s) && time_of_day h.time in
      let last = three (first && same_route (route_at 7 s) route) (order_number h.number) (exactly 0 (number (part 18 1 s))) (sym (fields_split s) ∙ e) in
      let r = same (route_at 7 s) route (both first (same_route (route_at 7 s) route) last.0).1 in
      let z = eqb-true (number (part 18 1 s)) 0 last.2 in
      λ i. h.time ∷ route_values (sym r i) ++ h.centre ∷ h.number ∷ sym z i ∷ []

  -- an accepted header has an order number
  pub order_told : (body : List ℕ) → body_code (header route) body ≡ 0 → (header_of body).number ≤ largest_order_number
  order_told body e =
      let h = header_of body in
      let n = h.number in
      let good = (accepted_told (header route) body e).1 in
      let order = (three (are_digits (part 3 16 body) && time_of_day h.time && same_route (route_at 7 body) route) (order_number n) (exactly 0 (number (part 18 1 body))) (sym (fields_split body) ∙ good)).1 in
      leb-true n largest_order_number (both (leb 1 n) (leb n largest_order_number) order).1

  -- numbers that a header can carry
  pub in_range : (h : Header) → route.date < 100 ^ 3 → route.presenting < 100 ^ 2 → route.receiving < 100 ^ 2 → header_sendable h.time h.centre h.number ≡ true → table_takes (header_fields route) (header_values route h) ≡ true
  unfolding header_sendable header_fields table_takes
  in_range h d p r e =
      let all = three (time_of_day h.time) (leb h.centre largest_centre) (order_number h.number) e in
      let hour = ltb-true (h.time / 1000000) 24 (three (ltb (h.time / 1000000) 24) (ltb (h.time / 10000 % 100) 60) (ltb (h.time / 100 % 100) 60) all.0).0 in
      let centre = leb-true h.centre largest_centre all.1 in
      let number = leb-true h.number largest_order_number (both (leb 1 h.number) (leb h.number largest_order_number) all.2).1 in
      λ i.
      lt-ltb h.time (100 ^ 4) (omega arith) i && all.0 i
      && (lt-ltb route.date (100 ^ 3) d i && eq-eqb route.date route.date refl i
      && (lt-ltb route.presenting (100 ^ 2) p i && eq-eqb route.presenting route.presenting refl i
      && (lt-ltb route.receiving (100 ^ 2) r i && eq-eqb route.receiving route.receiving refl i
      && (lt-ltb h.centre (100 ^ 2) (omega arith) i && true && (lt-ltb h.number (100 ^ 2) (omega arith) i && all.2 i && true)))))

  -- what an answer tells of the body, and what is told of a written one
  pub read_told : (h : Header) (body : List ℕ) → header_said route (Ok h) ≡ read_body (header route) body → h ≡ header_of body
  unfolding header_fields
  read_told h body e =
      let read = (told (body_code (header route) body) (table_numbers 1 (header_fields route) body) (header_values route h) e).1 in
      let at : (k : ℕ) → get_or (header_values route h) k 0 ≡ get_or (table_numbers 1 (header_fields route) body) k 0 = λ (k : ℕ). ap (λ (vs : List ℕ). get_or vs k 0) (sym read) in
      λ i. record { time = at 0 i; centre = at 4 i; number = at 5 i }

  pub header_told : (h : Header) → table_takes (header_fields route) (header_values route h) ≡ true → header_of (written_body (header route) (header_values route h)) ≡ h
  header_told h e = sym (read_told h (written_body (header route) (header_values route h)) (sym (written_then_read (header route) whole (header_values route h) e)))
