-- What the front of a sheet hands on earns nothing: each mark has passed the checks of its line, which are those of the lists at its position.
use Prim.Native.Nat.{ℕ, zero, suc, ◌+◌, ◌≤◌, ◌<◌}
use mathlib.Core.Path.{◌≡◌, refl, ◌∙◌}
use mathlib.Core.Bool.{Bool, true, false}
use mathlib.Core.List.{List, [], ◌∷◌, ◌++◌}
use Rattle.std.specs.Prelude.{Option, None, Some}
use native.Mathlib.Decide.{ℕ_discrete}
use native.Mathlib.Omega.{arith}
use borrow.Author.Tests.{leb-false, eqb-false}
use lib.Dec.{ltb, leb, eqb}
use lib.ListN.{length, get_or, length-append, get_or-append}
use lib.Seq.{get_or_at}
use Rattle.meanings.specs.declared.Limits.{Limits}
use Rattle.meanings.specs.Lists.{pick, AtMost}
use Rattle.meanings.specs.Limits.{max_u16, max_sheet}
use Rattle.meanings.specs.Bytes.{point_header}
use Rattle.meanings.specs.Reports.{Fault, Answer, given, first_of, decreases, bad_bandwidth, edge_decreases}
use Rattle.meanings.specs.Sheet.{Lines, end, unended, line, lines, next_place, same, EvaluationPoint, point_line, point_checks, refused_at, or_next}
use Rattle.meanings.specs.Sheet.{with_point, header}
use Rattle.meanings.proofs.Checks.{none_holds, at_none}
use Rattle.laws.proofs.sheet.ValueLines.{point_line_text}
use Rattle.meanings.specs.ranges.RangeSheet.{Front, front_points, sheet_front}

-- what holds below n and at n holds below n + 1
pub each_more : (P : ℕ → Type 0) (n : ℕ) → ((k : ℕ) → k < n → P k) → P n → (k : ℕ) → k < n + 1 → P k
each_more P n f x k l = by (ℕ_discrete k n)
  where
    by : Dec (k ≡ n) → P k
    by (yes e) = rw e x
    by (no d) = f k (omega arith)

-- an element more behind the list changes nothing before it
pub before_last : (xs : List ℕ) (x k : ℕ) → k < length xs → get_or (xs ++ x ∷ []) k 0 ≡ get_or xs k 0
before_last xs x k l = get_or-append xs (x ∷ []) 0 k l

pub at_last : (xs : List ℕ) (x : ℕ) → get_or (xs ++ x ∷ []) (length xs) 0 ≡ x
at_last xs x = get_or_at xs x [] 0 (length xs) refl

pub one_longer : (xs : List ℕ) (x : ℕ) → length (xs ++ x ∷ []) ≡ length xs + 1
one_longer xs x = length-append xs (x ∷ [])

pub decreases_before : (xs : List ℕ) (x k : ℕ) → k < length xs → decreases (xs ++ x ∷ []) k ≡ decreases xs k
decreases_before xs x zero l = refl
decreases_before xs x (suc k) l = rw (before_last xs x (suc k) l, before_last xs x k (omega arith))

edge_decreases_before : (zs hs : List ℕ) (z h k : ℕ) → k < length zs → k < length hs
    → edge_decreases (zs ++ z ∷ []) (hs ++ h ∷ []) k ≡ edge_decreases zs hs k
edge_decreases_before zs hs z h zero l m = refl
edge_decreases_before zs hs z h (suc k) l m =
    rw (before_last zs z (suc k) l, before_last zs z k (omega arith), before_last hs h (suc k) m, before_last hs h k (omega arith))

-- the marks and half widths earn none of 5, 9, 10 and 6
pub record FitMarks (L : Limits) (zs hs : List ℕ) : Type 0 where
  pub even : length zs ≡ length hs
  pub few : length zs ≤ L.points
  pub small : AtMost max_u16 zs
  pub rising : (k : ℕ) → k < length zs → decreases zs k ≡ false
  pub widths : (k : ℕ) → k < length hs → bad_bandwidth (get_or hs k 0) ≡ false
  pub edges : (k : ℕ) → k < length zs → edge_decreases zs hs k ≡ false

no_marks : (L : Limits) → FitMarks L [] []
no_marks L =
    record {
      even = refl;
      few = omega arith;
      small = λ k l. absurd (omega arith);
      rising = λ k l. absurd (omega arith);
      widths = λ k l. absurd (omega arith);
      edges = λ k l. absurd (omega arith);
    }

one_mark_more : (L : Limits) (p : ℕ) (zs hs : List ℕ) (m : EvaluationPoint) → FitMarks L zs hs → m.point ≤ max_u16
    → first_of (point_checks L p zs hs m) ≡ None → FitMarks L (zs ++ m.point ∷ []) (hs ++ m.bandwidth ∷ [])
one_mark_more L p zs hs m f s e =
    let c = none_holds (point_checks L p zs hs m) e in
    let z = one_longer zs m.point in
    let h = one_longer hs m.bandwidth in
    let room = leb-false L.points (length zs) (at_none p (leb L.points (length zs)) c.1.1.1.0) in
    record {
      even = omega (arith, f.even);
      few = omega arith;
      small = λ k l.
          each_more (λ k. get_or (zs ++ m.point ∷ []) k 0 ≤ max_u16) (length zs) (λ k l. rw (before_last zs m.point k l) (f.small k l))
          (rw (at_last zs m.point) s) k (omega arith);
      rising = λ k l.
          each_more (λ k. decreases (zs ++ m.point ∷ []) k ≡ false) (length zs) (λ k l. decreases_before zs m.point k l ∙ f.rising k l)
          (at_none p _ c.0) k (omega arith);
      widths = λ k l.
          each_more (λ k. bad_bandwidth (get_or (hs ++ m.bandwidth ∷ []) k 0) ≡ false) (length hs)
          (λ k l. rw (before_last hs m.bandwidth k l) (f.widths k l)) (rw (at_last hs m.bandwidth) (at_none p _ c.1.0)) k (omega arith);
      edges = λ k l.
          each_more (λ k. edge_decreases (zs ++ m.point ∷ []) (hs ++ m.bandwidth ∷ []) k ≡ false) (length zs)
          (λ k l. edge_decreases_before zs hs m.point m.bandwidth k l (omega (arith, f.even)) ∙ f.edges k l) (at_none p _ c.1.1.0) k
          (omega arith);
    }

-- what is handed on: some marks that earn nothing
pub record FitFront (L : Limits) (f : Front) : Type 0 where
  pub marks : FitMarks L f.points f.bandwidths
  pub some_mark : 1 ≤ length f.points

module _ (L : Limits) (f : Front) where
  at_a_line : (p : ℕ) (zs hs : List ℕ) (t : List ℕ) (next : List ℕ → List ℕ → Answer Front) → FitMarks L zs hs
      → ((xs ys : List ℕ) → FitMarks L xs ys → next xs ys ≡ given f → FitFront L f) → with_point L p zs hs (point_line t) next ≡ given f → FitFront L f
  at_a_line p zs hs t next w go = by (point_line t) refl
    where
      checked : (m : EvaluationPoint) → point_line t ≡ Some m → (o : Option Fault) → first_of (point_checks L p zs hs m) ≡ o
          → or_next o (next (zs ++ m.point ∷ []) (hs ++ m.bandwidth ∷ [])) ≡ given f → FitFront L f
      checked m e None k h = go _ _ (one_mark_more L p zs hs m w (point_line_text t m e).1.point_range k) h
      checked m e (Some x) k h = let z : ◌≡◌ {A = ℕ} 0 1 = cc in absurd (omega arith)

      by : (o : Option EvaluationPoint) → point_line t ≡ o → with_point L p zs hs o next ≡ given f → FitFront L f
      by None e h = let z : ◌≡◌ {A = ℕ} 0 1 = cc in absurd (omega arith)
      by (Some m) e h = checked m e (first_of (point_checks L p zs hs m)) refl h

  fit_points : (p : ℕ) (zs hs : List ℕ) (ls : Lines) → FitMarks L zs hs → front_points L p zs hs ls given ≡ given f → FitFront L f
  fit_points p zs hs end w h = let z : ◌≡◌ {A = ℕ} 0 1 = cc in absurd (omega arith)
  fit_points p zs hs (unended t) w h = let z : ◌≡◌ {A = ℕ} 0 1 = cc in absurd (omega arith)
  fit_points p zs hs (line [] e ls) w h = by (eqb (length zs) 0) refl h
    where
      by : (b : Bool) → eqb (length zs) 0 ≡ b
          → pick b (refused_at p 7) (given (record { place = next_place p [] e; rest = ls; points = zs; bandwidths = hs })) ≡ given f → FitFront L f
      by true k h = let z : ◌≡◌ {A = ℕ} 0 1 = cc in absurd (omega arith)
      by false k h =
          let Some : length zs ≡ 0 → ⊥ = eqb-false (length zs) 0 k in
          let q : ◌≡◌ {A = Front} (record { place = next_place p [] e; rest = ls; points = zs; bandwidths = hs }) f = cc in
          rw (← q) (record { marks = w; some_mark = omega arith })
  fit_points p zs hs (line (b ∷ t) e ls) w h =
      at_a_line p zs hs (b ∷ t) _ w (λ xs ys v k. fit_points (next_place p (b ∷ t) e) xs ys ls v k) h

  behind_header : (p : ℕ) (ls : Lines) → header point_header p ls (λ p rest. front_points L p [] [] rest given) ≡ given f → FitFront L f
  behind_header p end h = let z : ◌≡◌ {A = ℕ} 0 1 = cc in absurd (omega arith)
  behind_header p (unended t) h = let z : ◌≡◌ {A = ℕ} 0 1 = cc in absurd (omega arith)
  behind_header p (line t e ls) h = by (same t point_header) h
    where
      by : (b : Bool) → pick b (front_points L (next_place p t e) [] [] ls given) (refused_at p 2) ≡ given f → FitFront L f
      by true h = fit_points (next_place p t e) [] [] ls (no_marks L) h
      by false h = let z : ◌≡◌ {A = ℕ} 0 1 = cc in absurd (omega arith)

pub front_is_fit : (L : Limits) (s : List ℕ) (f : Front) → sheet_front L s given ≡ given f → FitFront L f
unfolding sheet_front
front_is_fit L s f h = by (ltb max_sheet (length s)) h
  where
    by : (b : Bool) → pick b (refused_at max_sheet 1) (header point_header 0 (lines s) (λ p rest. front_points L p [] [] rest given)) ≡ given f
        → FitFront L f
    by true h = let z : ◌≡◌ {A = ℕ} 0 1 = cc in absurd (omega arith)
    by false h = behind_header L f 0 (lines s) h
