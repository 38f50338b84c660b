-- A sheet of either kind is refused with a report up to 15, at a place in it, at its end or at the limit: the bytes before a line and those from it
-- on are always as many as the sheet has.
use Prim.Native.Nat.{ℕ, suc, ◌+◌, ◌≤◌}
use mathlib.Core.Path.{◌≡◌, refl, sym, ap, ◌∙◌}
use mathlib.Core.Bool.{Bool, true, false, ◌&&◌}
use mathlib.Core.List.{List, [], ◌∷◌, ◌++◌}
use Rattle.std.specs.Prelude.{Option, None, Some}
use native.Mathlib.Omega.{arith}
use borrow.Author.Tests.{ltb-false}
use lib.Dec.{ltb, leb, eqb}
use lib.ListN.{length}
use Rattle.meanings.specs.declared.Limits.{Limits}
use Rattle.meanings.specs.Lists.{pick}
use Rattle.meanings.specs.Limits.{max_sheet}
use Rattle.meanings.specs.Bytes.{line_feed, carriage_return, feed, return_feed, ending_bytes, point_header, sample_header}
use Rattle.meanings.specs.Reports.{Fault, Answer, given, refused, at, first_of, decreases}
use Rattle.meanings.specs.Sheet.{Lines, end, unended, line, with_text_byte, with_return, with_byte, lines, next_place, same, EvaluationPoint, point_line}
use Rattle.meanings.specs.Sheet.{point_checks, with_point, header, refused_at, or_next}
use Rattle.laws.proofs.output.Refusals.{refusal_small}
use Rattle.meanings.specs.declared.ranges.Kind.{Kind}
use Rattle.meanings.specs.declared.ranges.Kind.TheVariants.{Plain, Ranges}
use Rattle.meanings.specs.ranges.RangeSheet.{Front, front_points, sheet_front, range_header, RangeInjection, reading_line, kept_range, reading_checks}
use Rattle.meanings.specs.ranges.RangeSheet.{Readings, no_readings, with_line, with_reading, read_readings}
use Rattle.meanings.specs.ranges.RangeSheet.{second_header, range_contents, read_either_from}
use Rattle.meanings.specs.ranges.RangeSheet.{read_either}
use Rattle.meanings.specs.ranges.EitherKind.{and_then}
use Rattle.laws.proofs.ranges.EitherReader.{either_of, plain_of}

-- how many bytes lines are
abbrev size : Lines → ℕ
size end = 0
size (unended t) = length t
size (line t e ls) = length t + length (ending_bytes e) + size ls

size_of_text_byte : (b : ℕ) (ls : Lines) → size (with_text_byte b ls) ≡ suc (size ls)
size_of_text_byte b end = omega arith
size_of_text_byte b (unended t) = omega arith
size_of_text_byte b (line t e ls) = omega arith

size_of_return : (ls : Lines) → size (with_return ls) ≡ suc (size ls)
size_of_return end = omega arith
size_of_return (unended t) = omega arith
size_of_return (line [] feed ls) = omega arith
size_of_return (line [] return_feed ls) = omega arith
size_of_return (line (b ∷ t) e ls) = omega arith

size_of_byte : (b : ℕ) (ls : Lines) → size (with_byte b ls) ≡ suc (size ls)
size_of_byte b ls = by (eqb b line_feed) (eqb b carriage_return)
  where
    by : (x y : Bool) → size (pick x (line [] feed ls) (pick y (with_return ls) (with_text_byte b ls))) ≡ suc (size ls)
    by true y = omega arith
    by false true = size_of_return ls
    by false false = size_of_text_byte b ls

size_of_lines : (s : List ℕ) → size (lines s) ≡ length s
size_of_lines [] = refl
size_of_lines (b ∷ s) = size_of_byte b (lines s) ∙ ap suc (size_of_lines s)

-- a report with a place up to m
pub record SmallRefusal (m : ℕ) (e : Fault) : Type 0 where
  pub number_small : e.number ≤ 15
  pub place_small : e.place ≤ m

-- a refusal at byte p with a number up to 15
at_place : (m p n : ℕ) (e : Fault) → p ≤ m → n ≤ 15 → ◌≡◌ {A = Fault} (record { number = n; place = p }) e → SmallRefusal m e
at_place m p n e l k q = rw (← q) (record { number_small = k; place_small = l })

-- the checks of a reading line stand at its place
line_fault : (L : Limits) (p : ℕ) (all : List ℕ) (n : ℕ) (j : RangeInjection) (m : ℕ) (e : Fault) → p ≤ m → first_of (reading_checks L p all n j) ≡ Some e
    → SmallRefusal m e
line_fault L p all n j m e l = by (decreases (all ++ j.minute ∷ []) (length all)) (ltb j.high j.low) (kept_range j && leb L.samples n)
  where
    by : (a b c : Bool)
        → first_of
        (record { number = 4; place = at p a } ∷ record { number = 15; place = at p b } ∷ record { number = 6; place = at p c } ∷ [])
        ≡ Some e → SmallRefusal m e
    by true b c h = at_place m p 4 e l (omega arith) (cc)
    by false true c h = at_place m p 15 e l (omega arith) (cc)
    by false false true h = at_place m p 6 e l (omega arith) (cc)
    by false false false h = let z : ◌≡◌ {A = ℕ} 0 1 = cc in absurd (omega arith)

module _ {A : Type 0} (L : Limits) (k : Kind) (m : ℕ) (e : Fault) (next : Readings → Answer A) (accepts : (r : Readings) → ¬ (next r ≡ refused e)) where
  at_a_line : (p : ℕ) (r : Readings) (t : List ℕ) (go : Readings → Answer A) → p ≤ m → ((y : Readings) → go y ≡ refused e → SmallRefusal m e)
      → with_reading L p r (reading_line k t) go ≡ refused e → SmallRefusal m e
  at_a_line p r t go l later = by (reading_line k t)
    where
      checked : (j : RangeInjection) (o : Option Fault) → first_of (reading_checks L p r.all (length r.minutes) j) ≡ o
          → or_next o (go (with_line r j)) ≡ refused e → SmallRefusal m e
      checked j None q h = later _ h
      checked j (Some x) q h =
          let w : x ≡ e = cc in
          line_fault L p r.all (length r.minutes) j m e l (q ∙ ap Some w)

      by : (o : Option RangeInjection) → with_reading L p r o go ≡ refused e → SmallRefusal m e
      by None h = at_place m p 3 e l (omega arith) (cc)
      by (Some j) h = checked j (first_of (reading_checks L p r.all (length r.minutes) j)) refl h

  lines_refuse : (p : ℕ) (r : Readings) (ls : Lines) → p + size ls ≤ m → read_readings L k p r ls next ≡ refused e → SmallRefusal m e
  lines_refuse p r end l h = absurd (accepts r h)
  lines_refuse p r (unended t) l h = at_place m p 3 e (omega arith) (omega arith) (cc)
  lines_refuse p r (line t d ls) l h =
      at_a_line p r t _ (omega arith) (λ y q. lines_refuse (next_place p t d) y ls (omega arith) q) h

-- what is handed on begins where the bytes before it end
module _ (L : Limits) (f : Front) (m : ℕ) where
  point_line_passed : (p : ℕ) (zs hs t : List ℕ) (next : List ℕ → List ℕ → Answer Front)
      → ((xs ys : List ℕ) → next xs ys ≡ given f → f.place + size f.rest ≤ m) → with_point L p zs hs (point_line t) next ≡ given f
      → f.place + size f.rest ≤ m
  point_line_passed p zs hs t next go = by (point_line t)
    where
      checked : (x : EvaluationPoint) (o : Option Fault) → or_next o (next (zs ++ x.point ∷ []) (hs ++ x.bandwidth ∷ [])) ≡ given f
          → f.place + size f.rest ≤ m
      checked x None h = go _ _ h
      checked x (Some y) h = let z : ◌≡◌ {A = ℕ} 0 1 = cc in absurd (omega arith)

      by : (o : Option EvaluationPoint) → with_point L p zs hs o next ≡ given f → f.place + size f.rest ≤ m
      by None h = let z : ◌≡◌ {A = ℕ} 0 1 = cc in absurd (omega arith)
      by (Some x) h = checked x (first_of (point_checks L p zs hs x)) h

  points_passed : (p : ℕ) (zs hs : List ℕ) (ls : Lines) → p + size ls ≤ m → front_points L p zs hs ls given ≡ given f → f.place + size f.rest ≤ m
  points_passed p zs hs end l h = let z : ◌≡◌ {A = ℕ} 0 1 = cc in absurd (omega arith)
  points_passed p zs hs (unended t) l h = let z : ◌≡◌ {A = ℕ} 0 1 = cc in absurd (omega arith)
  points_passed p zs hs (line [] d ls) l h = by (eqb (length zs) 0) h
    where
      by : (b : Bool) → pick b (refused_at p 7) (given (record { place = next_place p [] d; rest = ls; points = zs; bandwidths = hs })) ≡ given f
          → f.place + size f.rest ≤ m
      by true h = let z : ◌≡◌ {A = ℕ} 0 1 = cc in absurd (omega arith)
      by false h =
          let q : ◌≡◌ {A = Front} (record { place = next_place p [] d; rest = ls; points = zs; bandwidths = hs }) f = cc in
          rw (← q) (omega arith)
  points_passed p zs hs (line (b ∷ t) d ls) l h =
      point_line_passed p zs hs (b ∷ t) _ (λ xs ys q. points_passed (next_place p (b ∷ t) d) xs ys ls (omega arith) q) h

  header_passed : (p : ℕ) (ls : Lines) → p + size ls ≤ m → header point_header p ls (λ q rest. front_points L q [] [] rest given) ≡ given f
      → f.place + size f.rest ≤ m
  header_passed p end l h = let z : ◌≡◌ {A = ℕ} 0 1 = cc in absurd (omega arith)
  header_passed p (unended t) l h = let z : ◌≡◌ {A = ℕ} 0 1 = cc in absurd (omega arith)
  header_passed p (line t d ls) l h = by (same t point_header) h
    where
      by : (b : Bool) → pick b (front_points L (next_place p t d) [] [] ls given) (refused_at p 2) ≡ given f → f.place + size f.rest ≤ m
      by true h = points_passed (next_place p t d) [] [] ls (omega arith) h
      by false h = let z : ◌≡◌ {A = ℕ} 0 1 = cc in absurd (omega arith)

front_within : (L : Limits) (s : List ℕ) (f : Front) → sheet_front L s given ≡ given f → f.place + size f.rest ≤ max_sheet
unfolding sheet_front
front_within L s f h = by (ltb max_sheet (length s)) refl h
  where
    by : (b : Bool) → ltb max_sheet (length s) ≡ b
        → pick b (refused_at max_sheet 1) (header point_header 0 (lines s) (λ p rest. front_points L p [] [] rest given)) ≡ given f
        → f.place + size f.rest ≤ max_sheet
    by true e h = let z : ◌≡◌ {A = ℕ} 0 1 = cc in absurd (omega arith)
    by false e h =
        let l = ltb-false max_sheet (length s) e in
        header_passed L f max_sheet 0 (lines s) (omega (arith, size_of_lines s)) h

names_refuse : (L : Limits) (f : Front) (m : ℕ) (e : Fault) (p : ℕ) (ls : Lines) → p + size ls ≤ m
    → second_header p ls (λ k p ls. read_readings L k p no_readings ls (λ r. given (range_contents k f r))) ≡ refused e → SmallRefusal m e
names_refuse L f m e p end l h = at_place m p 2 e (omega arith) (omega arith) (cc)
names_refuse L f m e p (unended t) l h = at_place m p 2 e (omega arith) (omega arith) (cc)
names_refuse L f m e p (line t d ls) l h = by (same t sample_header) (same t range_header) h
  where
    of_kind : (k : Kind) → read_readings L k (next_place p t d) no_readings ls (λ r. given (range_contents k f r)) ≡ refused e → SmallRefusal m e
    of_kind k h =
        lines_refuse L k m e (λ r. given (range_contents k f r)) (λ r q. let z : ◌≡◌ {A = ℕ} 0 1 = cc in absurd (omega arith)) (next_place p t d)
        no_readings ls (omega arith) h

    by : (b c : Bool)
        → pick b (read_readings L Plain (next_place p t d) no_readings ls (λ r. given (range_contents Plain f r)))
        (pick c (read_readings L Ranges (next_place p t d) no_readings ls (λ r. given (range_contents Ranges f r))) (refused_at p 2))
        ≡ refused e → SmallRefusal m e
    by true c h = of_kind Plain h
    by false true h = of_kind Ranges h
    by false false h = at_place m p 2 e (omega arith) (omega arith) (cc)

pub either_refusal_small : (L : Limits) (s : List ℕ) (e : Fault) → read_either L s ≡ refused e → SmallRefusal max_sheet e
either_refusal_small L s e h = by (sheet_front L s given) refl
  where
    by : (a : Answer Front) → sheet_front L s given ≡ a → SmallRefusal max_sheet e
    by (given f) q = names_refuse L f max_sheet e f.place f.rest (front_within L s f q) (sym (either_of L s (given f) q) ∙ h)
    by (refused x) q =
        let same_refusal : and_then (refused x) (read_either_from L) ≡ refused e = sym (either_of L s (refused x) q) ∙ h in
        let w : x ≡ e = cc in
        let small = refusal_small L s e (plain_of L s (refused x) q ∙ ap refused w) in
        record { number_small = omega (arith, small.number_small); place_small = small.place_small }
