-- A mark line and a reading line against their print: the line of values in range is read as those values, and a line that is read as values
-- is the line that they print to. So the two readings of the sheet agree on each line.
use Prim.Native.Nat.{ℕ, ◌<◌}
use mathlib.Core.Path.{◌≡◌, refl, sym, ap, ◌∙◌}
use mathlib.Core.Bool.{Bool, true, false, ◌&&◌}
use mathlib.Core.List.{List, [], ◌∷◌, ◌++◌, append_assoc}
use Rattle.std.specs.Prelude.{Option, None, Some}
use native.Mathlib.Omega.{arith}
use borrow.Author.Tests.{leb-true, le-leb}
use lib.Dec.{leb, eqb}
use Rattle.meanings.specs.Lists.{pick}
use Rattle.meanings.specs.Limits.{max_u16}
use Rattle.meanings.specs.Bytes.{line_feed, carriage_return, ending_bytes, comma, zero_digit}
use Rattle.meanings.specs.Sheet.{EvaluationPoint}
use Rattle.meanings.specs.Sheet.{unended, line, lines, parts, parsed, ranged_point, two_parts, point_line, Injection, ranged_sample, three_parts, sample_line}
use Rattle.meanings.specs.SheetForm.{Ended, point_text, print_point, sample_text, print_sample, PointForm, SampleForm, Begins}
use Rattle.meanings.specs.Output.{decimal}
use Rattle.laws.proofs.text.Numbers.{and_true_both, decimal_parsed, parsed_decimal}
use Rattle.laws.proofs.text.Texts.{Free, free_append, decimal_free, Plain, lines_of_line}
use Rattle.laws.proofs.text.Texts.{parts_before_comma, parts_of_one, two_parts_text, three_parts_text}

-- a byte below the digits that is no comma is none of a text's
free_in_point : (x : ℕ) (m : EvaluationPoint) → x < zero_digit → eqb comma x ≡ false → Free x (point_text m)
free_in_point x m l c =
    free_append x (decimal m.point) (comma ∷ decimal m.bandwidth) (decimal_free x m.point l) (c, decimal_free x m.bandwidth l)

free_in_sample : (x : ℕ) (j : Injection) → x < zero_digit → eqb comma x ≡ false → Free x (sample_text j)
free_in_sample x j l c =
    free_append x (decimal j.minute) (comma ∷ (decimal j.injection ++ comma ∷ decimal j.value)) (decimal_free x j.minute l) (
      c,
      free_append x (decimal j.injection) (comma ∷ decimal j.value) (decimal_free x j.injection l) (c, decimal_free x j.value l),
    )

point_text_plain : (m : EvaluationPoint) → Plain (point_text m)
point_text_plain m = (free_in_point line_feed m (omega arith) refl, free_in_point carriage_return m (omega arith) refl)

sample_text_plain : (j : Injection) → Plain (sample_text j)
sample_text_plain j = (free_in_sample line_feed j (omega arith) refl, free_in_sample carriage_return j (omega arith) refl)

pub point_line_of_text : (m : EvaluationPoint) → PointForm m → point_line (point_text m) ≡ Some m
point_line_of_text m f =
    rw (
      parts_before_comma (decimal m.point) (decimal m.bandwidth) (decimal_free comma m.point (omega arith)),
      parts_of_one (decimal m.bandwidth) (decimal_free comma m.bandwidth (omega arith)),
      decimal_parsed m.point (omega arith),
      decimal_parsed m.bandwidth (omega arith),
      le-leb m.point max_u16 (omega arith),
    )

pub sample_line_of_text : (j : Injection) → SampleForm j → sample_line (sample_text j) ≡ Some j
sample_line_of_text j f =
    rw (
      parts_before_comma (decimal j.minute) _ (decimal_free comma j.minute (omega arith)),
      parts_before_comma (decimal j.injection) _ (decimal_free comma j.injection (omega arith)),
      parts_of_one (decimal j.value) (decimal_free comma j.value (omega arith)),
      decimal_parsed j.minute (omega arith),
      decimal_parsed j.injection (omega arith),
      decimal_parsed j.value (omega arith),
      le-leb j.minute max_u16 (omega arith),
      le-leb 1 j.injection (omega arith),
      le-leb j.injection max_u16 (omega arith),
      le-leb j.value max_u16 (omega arith),
    )

ranged_point_some : (a b : List ℕ) (m : EvaluationPoint) → ranged_point (parsed a) (parsed b) ≡ Some m
    → (a ≡ decimal m.point) × (b ≡ decimal m.bandwidth) × PointForm m
ranged_point_some a b m e = by (parsed a) (parsed b) refl refl e
  where
    by : (x y : Option ℕ) → parsed a ≡ x → parsed b ≡ y → ranged_point x y ≡ Some m
        → (a ≡ decimal m.point) × (b ≡ decimal m.bandwidth) × PointForm m
    by None y f g e = let z : ◌≡◌ {A = ℕ} 0 1 = cc in absurd (omega arith)
    by (Some z) None f g e = let z : ◌≡◌ {A = ℕ} 0 1 = cc in absurd (omega arith)
    by (Some z) (Some h) f g e = in_range (leb z max_u16) refl e
      where
        in_range : (d : Bool) → leb z max_u16 ≡ d → pick d (Some (record { point = z; bandwidth = h })) None ≡ Some m
            → (a ≡ decimal m.point) × (b ≡ decimal m.bandwidth) × PointForm m
        in_range true d e =
            let p : z ≡ m.point = cc in
            let q : h ≡ m.bandwidth = cc in
            let i = parsed_decimal a z f in
            let k = parsed_decimal b h g in
            let l = leb-true z max_u16 d in
            (i.0 ∙ ap decimal p, k.0 ∙ ap decimal q, record { point_range = omega arith; bandwidth_digits = omega arith })
        in_range false d e = let z : ◌≡◌ {A = ℕ} 0 1 = cc in absurd (omega arith)

pub point_line_text : (t : List ℕ) (m : EvaluationPoint) → point_line t ≡ Some m → (t ≡ point_text m) × PointForm m
point_line_text t m e = by (parts t) refl e
  where
    by : (ps : List (List ℕ)) → parts t ≡ ps → two_parts ps ≡ Some m → (t ≡ point_text m) × PointForm m
    by [] g e = let z : ◌≡◌ {A = ℕ} 0 1 = cc in absurd (omega arith)
    by (a ∷ []) g e = let z : ◌≡◌ {A = ℕ} 0 1 = cc in absurd (omega arith)
    by (a ∷ b ∷ []) g e =
        let r = ranged_point_some a b m e in
        let s = two_parts_text t a b g in
        (rw (r.0, r.1) at s.0, r.2)
    by (a ∷ b ∷ c ∷ r) g e = let z : ◌≡◌ {A = ℕ} 0 1 = cc in absurd (omega arith)

ranged_sample_some : (a b c : List ℕ) (j : Injection) → ranged_sample (parsed a) (parsed b) (parsed c) ≡ Some j
    → (a ≡ decimal j.minute) × (b ≡ decimal j.injection) × (c ≡ decimal j.value) × SampleForm j
ranged_sample_some a b c j e = by (parsed a) (parsed b) (parsed c) refl refl refl e
  where
    by : (x y w : Option ℕ) → parsed a ≡ x → parsed b ≡ y → parsed c ≡ w → ranged_sample x y w ≡ Some j
        → (a ≡ decimal j.minute) × (b ≡ decimal j.injection) × (c ≡ decimal j.value) × SampleForm j
    by None y w f g h e = let z : ◌≡◌ {A = ℕ} 0 1 = cc in absurd (omega arith)
    by (Some t) None w f g h e = let z : ◌≡◌ {A = ℕ} 0 1 = cc in absurd (omega arith)
    by (Some t) (Some i) None f g h e = let z : ◌≡◌ {A = ℕ} 0 1 = cc in absurd (omega arith)
    by (Some t) (Some i) (Some v) f g h e = in_range (leb t max_u16 && leb 1 i && leb i max_u16 && leb v max_u16) refl e
      where
        in_range : (d : Bool) → (leb t max_u16 && leb 1 i && leb i max_u16 && leb v max_u16) ≡ d
            → pick d (Some (record { minute = t; injection = i; value = v })) None ≡ Some j
            → (a ≡ decimal j.minute) × (b ≡ decimal j.injection) × (c ≡ decimal j.value) × SampleForm j
        in_range true d e =
            let p : t ≡ j.minute = cc in
            let q : i ≡ j.injection = cc in
            let r : v ≡ j.value = cc in
            let s = and_true_both (leb t max_u16 && leb 1 i && leb i max_u16) (leb v max_u16) d in
            let s' = and_true_both (leb t max_u16 && leb 1 i) (leb i max_u16) s.0 in
            let s'' = and_true_both (leb t max_u16) (leb 1 i) s'.0 in
            let k = leb-true v max_u16 s.1 in
            let l = leb-true i max_u16 s'.1 in
            let m = leb-true 1 i s''.1 in
            let n = leb-true t max_u16 s''.0 in (
              (parsed_decimal a t f).0 ∙ ap decimal p,
              (parsed_decimal b i g).0 ∙ ap decimal q,
              (parsed_decimal c v h).0 ∙ ap decimal r,
              record {
                minute_range = omega arith;
                injection_low = omega arith;
                injection_high = omega arith;
                value_range = omega arith;
              },
            )
        in_range false d e = let z : ◌≡◌ {A = ℕ} 0 1 = cc in absurd (omega arith)

pub sample_line_text : (t : List ℕ) (j : Injection) → sample_line t ≡ Some j → (t ≡ sample_text j) × SampleForm j
sample_line_text t j e = by (parts t) refl e
  where
    by : (ps : List (List ℕ)) → parts t ≡ ps → three_parts ps ≡ Some j → (t ≡ sample_text j) × SampleForm j
    by [] g e = let z : ◌≡◌ {A = ℕ} 0 1 = cc in absurd (omega arith)
    by (a ∷ []) g e = let z : ◌≡◌ {A = ℕ} 0 1 = cc in absurd (omega arith)
    by (a ∷ b ∷ []) g e = let z : ◌≡◌ {A = ℕ} 0 1 = cc in absurd (omega arith)
    by (a ∷ b ∷ c ∷ []) g e =
        let r = ranged_sample_some a b c j e in
        let s = three_parts_text t a b c g in
        (rw (r.0, r.1, r.2) at s.0, r.3)
    by (a ∷ b ∷ c ∷ d ∷ r) g e = let z : ◌≡◌ {A = ℕ} 0 1 = cc in absurd (omega arith)

-- the lines of bytes that begin with a printed line
pub lines_of_point : (m : Ended EvaluationPoint) (s : List ℕ) → lines (print_point m ++ s) ≡ line (point_text m.content) m.ending (lines s)
lines_of_point m s =
    ap lines (append_assoc (point_text m.content) (ending_bytes m.ending) s)
    ∙ lines_of_line (point_text m.content) m.ending s (point_text_plain m.content)

pub lines_of_sample : (j : Ended Injection) (s : List ℕ) → lines (print_sample j ++ s) ≡ line (sample_text j.content) j.ending (lines s)
lines_of_sample j s =
    ap lines (append_assoc (sample_text j.content) (ending_bytes j.ending) s)
    ∙ lines_of_line (sample_text j.content) j.ending s (sample_text_plain j.content)

-- bytes without a line ending do not begin with a printed line
pub no_point_begins : (s t : List ℕ) → lines s ≡ unended t → (m : Ended EvaluationPoint) → PointForm m.content → ¬ Begins (print_point m) s
no_point_begins s t e m f b =
    let p = sym e ∙ ap lines b.1 ∙ lines_of_point m b.0 in let z : ◌≡◌ {A = ℕ} 0 1 = cc in omega arith

pub no_sample_begins : (s t : List ℕ) → lines s ≡ unended t → (j : Ended Injection) → SampleForm j.content → ¬ Begins (print_sample j) s
no_sample_begins s t e j f b =
    let p = sym e ∙ ap lines b.1 ∙ lines_of_sample j b.0 in let z : ◌≡◌ {A = ℕ} 0 1 = cc in omega arith
