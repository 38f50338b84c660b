-- A reading line with a range against its print: the line of numbers in range is read as these numbers, and a line that is read as numbers is the
-- line that they print to. Its first three numbers are a plain line's, and the fourth stands behind one more comma.
use Prim.Native.Nat.{ℕ, ◌<◌}
use mathlib.Core.Path.{◌≡◌, refl, sym, ap, ◌∙◌}
use mathlib.Core.Bool.{Bool, true, false}
use mathlib.Core.List.{List, [], ◌∷◌, ◌++◌, append_assoc}
use Rattle.std.specs.Prelude.{Option, None, Some}
use native.Mathlib.Omega.{arith}
use borrow.Author.Tests.{leb-true, le-leb}
use lib.Dec.{leb, eqb}
use Rattle.meanings.specs.Lists.{pick}
use Rattle.meanings.specs.Limits.{max_u16}
use Rattle.meanings.specs.Bytes.{line_feed, carriage_return, LineEnding, ending_bytes, comma, zero_digit}
use Rattle.meanings.specs.Sheet.{Lines, unended, line, lines, parts, parsed, Injection, ranged_sample, sample_line}
use Rattle.meanings.specs.SheetForm.{Ended, sample_text, Begins}
use Rattle.meanings.specs.Output.{decimal}
use Rattle.laws.proofs.text.Numbers.{decimal_parsed, parsed_decimal}
use Rattle.laws.proofs.text.Texts.{Free, free_append, decimal_free, Plain, lines_of_line, parts_before_comma, parts_of_one, first_part}
use Rattle.laws.proofs.text.Texts.{three_parts_text, first_line}
use Rattle.laws.proofs.sheet.ValueLines.{sample_line_text}
use Rattle.meanings.specs.ranges.RangeSheet.{RangeInjection, with_high, four_parts, range_line}
use Rattle.laws.specs.ranges.RangeForm.{range_text, print_range, RangeForm}

-- a byte below the digits that is no comma is none of the text's
free_in_range : (x : ℕ) (j : RangeInjection) → x < zero_digit → eqb comma x ≡ false → Free x (range_text j)
free_in_range x j l c =
    free_append x (decimal j.minute) _ (decimal_free x j.minute l) (
      c,
      free_append x (decimal j.injection) _ (decimal_free x j.injection l) (
        c,
        free_append x (decimal j.low) _ (decimal_free x j.low l) (c, decimal_free x _ l),
      ),
    )

range_text_plain : (j : RangeInjection) → Plain (range_text j)
range_text_plain j = (free_in_range line_feed j (omega arith) refl, free_in_range carriage_return j (omega arith) refl)

pub range_line_of_text : (j : RangeInjection) → RangeForm j → range_line (range_text j) ≡ Some j
range_line_of_text j f =
    rw (
      parts_before_comma (decimal j.minute) _ (decimal_free comma j.minute (omega arith)),
      parts_before_comma (decimal j.injection) _ (decimal_free comma j.injection (omega arith)),
      parts_before_comma (decimal j.low) _ (decimal_free comma j.low (omega arith)),
      parts_of_one (decimal j.high) (decimal_free comma j.high (omega arith)),
      decimal_parsed j.minute (omega arith),
      decimal_parsed j.injection (omega arith),
      decimal_parsed j.low (omega arith),
      decimal_parsed j.high (omega arith),
      le-leb j.minute max_u16 (omega arith),
      le-leb 1 j.injection (omega arith),
      le-leb j.injection max_u16 (omega arith),
      le-leb j.low max_u16 (omega arith),
      le-leb j.high max_u16 (omega arith),
    )

-- three parts and a fourth
four_joined : (a b c d : List ℕ) → (a ++ comma ∷ (b ++ comma ∷ c)) ++ comma ∷ d ≡ a ++ comma ∷ (b ++ comma ∷ (c ++ comma ∷ d))
four_joined a b c d =
    append_assoc a (comma ∷ (b ++ comma ∷ c)) (comma ∷ d) ∙ ap (λ (t : List ℕ). a ++ comma ∷ t) (append_assoc b (comma ∷ c) (comma ∷ d))

-- a plain reading and a fourth number, as a range
abbrev with_fourth : Injection → ℕ → RangeInjection
with_fourth i u = record { minute = i.minute; injection = i.injection; low = i.value; high = u }

with_high_some : (o : Option Injection) (d : List ℕ) (j : RangeInjection) → with_high o (parsed d) ≡ Some j
    → (i : Injection) × ((u : ℕ) × ((o ≡ Some i) × (d ≡ decimal u) × (j ≡ with_fourth i u) × (leb u max_u16 ≡ true)))
with_high_some o d j = by o (parsed d) refl
  where
    by : (o : Option Injection) (x : Option ℕ) → parsed d ≡ x → with_high o x ≡ Some j
        → (i : Injection) × ((u : ℕ) × ((o ≡ Some i) × (d ≡ decimal u) × (j ≡ with_fourth i u) × (leb u max_u16 ≡ true)))
    by None x g e = let z : ◌≡◌ {A = ℕ} 0 1 = cc in absurd (omega arith)
    by (Some i) None g e = let z : ◌≡◌ {A = ℕ} 0 1 = cc in absurd (omega arith)
    by (Some i) (Some u) g e = in_range (leb u max_u16) refl e
      where
        in_range : (b : Bool) → leb u max_u16 ≡ b → pick b (Some (with_fourth i u)) None ≡ Some j
            → (i' : Injection) × ((u : ℕ) × ((Some i ≡ Some i') × (d ≡ decimal u) × (j ≡ with_fourth i' u) × (leb u max_u16 ≡ true)))
        in_range true b e = let q : with_fourth i u ≡ j = cc in (i, (u, (refl, (parsed_decimal d u g).0, sym q, b)))
        in_range false b e = let z : ◌≡◌ {A = ℕ} 0 1 = cc in absurd (omega arith)

pub range_line_text : (t : List ℕ) (j : RangeInjection) → range_line t ≡ Some j → (t ≡ range_text j) × RangeForm j
range_line_text t j e = by (parts t) refl e
  where
    four : (a b c d : List ℕ) → parts t ≡ a ∷ b ∷ c ∷ d ∷ [] → with_high (ranged_sample (parsed a) (parsed b) (parsed c)) (parsed d) ≡ Some j
        → (t ≡ range_text j) × RangeForm j
    four a b c d g e =
        let o = first_part t a b (c ∷ d ∷ []) g in
        let l = three_parts_text o.0 b c d o.1.2 in
        let w = with_high_some (ranged_sample (parsed a) (parsed b) (parsed c)) d j e in
        let i = w.0 in
        let u = w.1.0 in
        let three = a ++ comma ∷ (b ++ comma ∷ c) in
        let read : sample_line three ≡ Some i =
        rw (parts_before_comma a (b ++ comma ∷ c) o.1.1, parts_before_comma b c l.1, parts_of_one c l.2) w.1.1.0 in
        let s = sample_line_text three i read in
        let form = s.1 in
        let high = leb-true u max_u16 w.1.1.3 in
        let text : t ≡ sample_text i ++ comma ∷ decimal u =
        o.1.0 ∙ ap (λ (r : List ℕ). a ++ comma ∷ r) l.0 ∙ sym (four_joined a b c d)
        ∙ ap (λ (r : List ℕ). r ++ comma ∷ d) s.0
        ∙ ap (λ (r : List ℕ). sample_text i ++ comma ∷ r) w.1.1.1 in
        rw w.1.1.2 (
          text ∙ four_joined (decimal i.minute) (decimal i.injection) (decimal i.value) (decimal u),
          record {
            minute_range = form.minute_range;
            injection_low = form.injection_low;
            injection_high = form.injection_high;
            low_range = form.value_range;
            high_range = high;
          },
        )

    by : (ps : List (List ℕ)) → parts t ≡ ps → four_parts ps ≡ Some j → (t ≡ range_text j) × RangeForm j
    by [] g e = let z : ◌≡◌ {A = ℕ} 0 1 = cc in absurd (omega arith)
    by (a ∷ []) g e = let z : ◌≡◌ {A = ℕ} 0 1 = cc in absurd (omega arith)
    by (a ∷ b ∷ []) g e = let z : ◌≡◌ {A = ℕ} 0 1 = cc in absurd (omega arith)
    by (a ∷ b ∷ c ∷ []) g e = let z : ◌≡◌ {A = ℕ} 0 1 = cc in absurd (omega arith)
    by (a ∷ b ∷ c ∷ d ∷ []) g e = four a b c d g e
    by (a ∷ b ∷ c ∷ d ∷ f ∷ r) g e = let z : ◌≡◌ {A = ℕ} 0 1 = cc in absurd (omega arith)

-- the lines of bytes that begin with a printed line
pub lines_of_range : (j : Ended RangeInjection) (s : List ℕ) → lines (print_range j ++ s) ≡ line (range_text j.content) j.ending (lines s)
lines_of_range j s =
    ap lines (append_assoc (range_text j.content) (ending_bytes j.ending) s)
    ∙ lines_of_line (range_text j.content) j.ending s (range_text_plain j.content)

-- bytes without a line ending do not begin with a printed line
pub no_range_begins : (s t : List ℕ) → lines s ≡ unended t → (j : Ended RangeInjection) → RangeForm j.content → ¬ Begins (print_range j) s
no_range_begins s t e j f b =
    let p = sym e ∙ ap lines b.1 ∙ lines_of_range j b.0 in let z : ◌≡◌ {A = ℕ} 0 1 = cc in omega arith

-- and none begins where the first line is none
pub unread_no_range : (s t : List ℕ) (e : LineEnding) (ls : Lines) → lines s ≡ line t e ls → range_line t ≡ None → (j : Ended RangeInjection)
    → RangeForm j.content → ¬ Begins (print_range j) s
unread_no_range s t e ls g n j f b =
    let p = sym g ∙ ap lines b.1 ∙ lines_of_range j b.0 in
    let q : t ≡ range_text j.content = cc in
    let o = sym n ∙ ap range_line q ∙ range_line_of_text j.content f in
    let z : ◌≡◌ {A = ℕ} 0 1 = cc in
    omega arith

-- a line that is read as a reading is the reading's line
pub range_begins : (s t : List ℕ) (e : LineEnding) (ls : Lines) (j : RangeInjection) → lines s ≡ line t e ls → range_line t ≡ Some j
    → RangeForm j × ((r : List ℕ) × ((s ≡ print_range (record { content = j; ending = e }) ++ r) × (lines r ≡ ls)))
range_begins s t e ls j g h =
    let i = first_line s t e ls g in
    let w = range_line_text t j h in
    (w.1, (i.0, (i.1.0 ∙ sym (append_assoc t (ending_bytes e) i.0) ∙ ap (λ (u : List ℕ). (u ++ ending_bytes e) ++ i.0) w.0, i.1.2)))
