-- A second reading of the tank sheet, which parses nothing: a sheet of given lists is what they print to, and a refusal says which lines
-- stand before its place and what is wrong with the line there. That it agrees with the reader's meaning of specs/Sheet.antt is proved in
-- crates/laws/proofs/sheet.
use Rattle.std.specs.Prelude.{ℕ, ◌+◌, ◌≤◌, ◌<◌, ◌≡◌, ◌⊎◌, List, [], ◌∷◌, ◌++◌, map, ltb, length}
use Rattle.meanings.specs.Lists.{pick}
use Rattle.meanings.specs.declared.Limits.{Limits}
use Rattle.meanings.specs.Limits.{max_u16, max_bandwidth, max_sheet}
use Rattle.meanings.specs.Bytes.{LineEnding, ending_bytes, comma, point_header, sample_header}
use Rattle.meanings.specs.Sheet.{EvaluationPoint}
use Rattle.meanings.specs.Sheet.{Injection, Contents}
use Rattle.meanings.specs.Output.{decimal}

-- a line: its content, and its line ending
pub record Ended (A : Type 0) : Type 0 where
  pub content : A
  pub ending : LineEnding

-- the content of lines, without their endings
abbrev pub without_endings : {A : Type 0} → List (Ended A) → List A
without_endings ls = map (λ l. l.content) ls

-- the text of a mark and its half width, and its line
abbrev pub point_text : EvaluationPoint → List ℕ
point_text m = decimal m.point ++ comma ∷ decimal m.bandwidth

abbrev pub print_point : Ended EvaluationPoint → List ℕ
print_point l = point_text l.content ++ ending_bytes l.ending

abbrev pub print_points : List (Ended EvaluationPoint) → List ℕ
print_points [] = []
print_points (l ∷ ls) = print_point l ++ print_points ls

-- the text of a reading, and its line
abbrev pub sample_text : Injection → List ℕ
sample_text j = decimal j.minute ++ comma ∷ (decimal j.injection ++ comma ∷ decimal j.value)

abbrev pub print_sample : Ended Injection → List ℕ
print_sample l = sample_text l.content ++ ending_bytes l.ending

abbrev pub print_samples : List (Ended Injection) → List ℕ
print_samples [] = []
print_samples (l ∷ ls) = print_sample l ++ print_samples ls

-- the header line with the ending e, and the mark lines behind it
abbrev pub point_head : LineEnding → List ℕ
point_head e = point_header ++ ending_bytes e

abbrev pub print_front : LineEnding → List (Ended EvaluationPoint) → List ℕ
print_front e ms = point_head e ++ print_points ms

-- then the empty line, which is the ending d, and then the second header line with the ending f
abbrev pub empty_front : LineEnding → List (Ended EvaluationPoint) → LineEnding → List ℕ
empty_front e ms d = print_front e ms ++ ending_bytes d

abbrev pub sample_head : LineEnding → List ℕ
sample_head f = sample_header ++ ending_bytes f

abbrev pub sample_front : LineEnding → List (Ended EvaluationPoint) → LineEnding → LineEnding → List ℕ
sample_front e ms d f = empty_front e ms d ++ sample_head f

-- the sheet of mark lines and reading lines, dropped ones included
abbrev pub print_sheet : LineEnding → List (Ended EvaluationPoint) → LineEnding → LineEnding → List (Ended Injection) → List ℕ
print_sheet e ms d f js = sample_front e ms d f ++ print_samples js

-- the readings that are kept: those with an inj over 2
abbrev pub kept_of : List Injection → List Injection
kept_of [] = []
kept_of (j ∷ js) = pick (ltb 2 j.injection) (j ∷ kept_of js) (kept_of js)

-- the lists of mark lines and reading lines
abbrev pub contents_of : List EvaluationPoint → List Injection → Contents
contents_of ms js = record {
  minutes = map (λ (j : Injection). j.minute) (kept_of js);
  values = map (λ (j : Injection). j.value) (kept_of js);
  points = map (λ (m : EvaluationPoint). m.point) ms;
  bandwidths = map (λ (m : EvaluationPoint). m.bandwidth) ms;
}

-- a mark line of right form and range; its half width may be out of range
pub record PointForm (m : EvaluationPoint) : Type 0 where
  pub point_range : m.point ≤ max_u16
  pub bandwidth_digits : m.bandwidth < 100000

-- a reading line of right form and range
pub record SampleForm (j : Injection) : Type 0 where
  pub minute_range : j.minute ≤ max_u16
  pub injection_low : 1 ≤ j.injection
  pub injection_high : j.injection ≤ max_u16
  pub value_range : j.value ≤ max_u16

-- mark m' may follow mark m: neither it nor an edge falls
pub record Follows (m m' : EvaluationPoint) : Type 0 where
  pub point_order : m.point ≤ m'.point
  pub left_edge : m.point + m'.bandwidth ≤ m'.point + m.bandwidth
  pub right_edge : m.point + m.bandwidth ≤ m'.point + m'.bandwidth

-- no two neighbours of the list break the rule
abbrev pub Neighbours : {A : Type 0} → (A → A → Type 0) → List A → Type 0
Neighbours R [] = Unit {0}
Neighbours R (a ∷ []) = Unit {0}
Neighbours R (a ∷ b ∷ r) = R a b × Neighbours R (b ∷ r)

abbrev pub Each : {A : Type 0} → (A → Type 0) → List A → Type 0
Each P [] = Unit {0}
Each P (a ∷ r) = P a × Each P r

-- a half width that is allowed
pub record BandwidthRange (m : EvaluationPoint) : Type 0 where
  pub low : 1 ≤ m.bandwidth
  pub high : m.bandwidth ≤ max_bandwidth

-- mark lines without a fault
pub record FitPoints (L : Limits) (ms : List EvaluationPoint) : Type 0 where
  pub forms : Each PointForm ms
  pub ranges : Each BandwidthRange ms
  pub order : Neighbours Follows ms
  pub few : length ms ≤ L.points

abbrev pub MinuteOrder : Injection → Injection → Type 0
MinuteOrder j j' = j.minute ≤ j'.minute

-- reading lines without a fault
pub record FitSamples (L : Limits) (js : List Injection) : Type 0 where
  pub forms : Each SampleForm js
  pub order : Neighbours MinuteOrder js
  pub few : length (kept_of js) ≤ L.samples

-- s is the sheet of these lists
pub record IsSheet (L : Limits) (s : List ℕ) (c : Contents) : Type 0 where
  pub header_ending : LineEnding
  pub point_lines : List (Ended EvaluationPoint)
  pub empty_line_ending : LineEnding
  pub sample_header_ending : LineEnding
  pub sample_lines : List (Ended Injection)
  pub printed : s ≡ print_sheet header_ending point_lines empty_line_ending sample_header_ending sample_lines
  pub short : length s ≤ max_sheet
  pub some_point : 1 ≤ length (without_endings point_lines)
  pub fit_points : FitPoints L (without_endings point_lines)
  pub fit_samples : FitSamples L (without_endings sample_lines)
  pub points : c.points ≡ map (λ (m : EvaluationPoint). m.point) (without_endings point_lines)
  pub bandwidths : c.bandwidths ≡ map (λ (m : EvaluationPoint). m.bandwidth) (without_endings point_lines)
  pub minutes : c.minutes ≡ map (λ (j : Injection). j.minute) (kept_of (without_endings sample_lines))
  pub values : c.values ≡ map (λ (j : Injection). j.value) (kept_of (without_endings sample_lines))

-- the bytes begin with p
abbrev pub Begins : List ℕ → List ℕ → Type 0
Begins p s = (rest : List ℕ) × (s ≡ p ++ rest)

-- what is wrong with a mark line m after the faultless lines ms, in the order in which it is looked at
pub data PointFault (L : Limits) (ms : List EvaluationPoint) (m : EvaluationPoint) : ℕ → Type 0 where
  out_of_order : (before : List EvaluationPoint) (m₀ : EvaluationPoint) → ms ≡ before ++ m₀ ∷ [] → m.point < m₀.point → PointFault L ms m 5
  bandwidth : Neighbours (λ (a b : EvaluationPoint). a.point ≤ b.point) (ms ++ m ∷ []) → (m.bandwidth ≡ 0) ⊎ (max_bandwidth < m.bandwidth)
      → PointFault L ms m 9
  edge : Neighbours (λ (a b : EvaluationPoint). a.point ≤ b.point) (ms ++ m ∷ []) → BandwidthRange m → ¬ (Neighbours Follows (ms ++ m ∷ []))
      → PointFault L ms m 10
  too_many : Neighbours Follows (ms ++ m ∷ []) → BandwidthRange m → L.points ≤ length ms → PointFault L ms m 6

-- what is wrong with a reading line j after the faultless lines js
pub data SampleFault (L : Limits) (js : List Injection) (j : Injection) : ℕ → Type 0 where
  out_of_order : (before : List Injection) (j₀ : Injection) → js ≡ before ++ j₀ ∷ [] → j.minute < j₀.minute → SampleFault L js j 4
  too_many : Neighbours MinuteOrder (js ++ j ∷ []) → 2 < j.injection → L.samples ≤ length (kept_of js) → SampleFault L js j 6

-- the sheet s is refused with a report at a place: the lines before the place are faultless, and the line there has the report's condition
-- and no earlier one
pub data Refused (L : Limits) (s : List ℕ) : ℕ → ℕ → Type 0 where
  too_long : max_sheet < length s → Refused L s 1 max_sheet
  no_point_header : length s ≤ max_sheet → ((e : LineEnding) → ¬ Begins (point_head e) s) → Refused L s 2 0
  no_empty_line : length s ≤ max_sheet → (e : LineEnding) (ms : List (Ended EvaluationPoint)) → FitPoints L (without_endings ms) → s ≡ print_front e ms
      → Refused L s 3 (length s)
  malformed_point : length s ≤ max_sheet → (e : LineEnding) (ms : List (Ended EvaluationPoint)) → FitPoints L (without_endings ms) → (b : ℕ) (rest : List ℕ)
      → s ≡ print_front e ms ++ b ∷ rest → ((d : LineEnding) → ¬ Begins (ending_bytes d) (b ∷ rest))
      → ((m : Ended EvaluationPoint) → PointForm m.content → ¬ Begins (print_point m) (b ∷ rest))
      → Refused L s 3 (length (print_front e ms))
  faulty_point : length s ≤ max_sheet → (e : LineEnding) (ms : List (Ended EvaluationPoint)) → FitPoints L (without_endings ms) → (m : Ended EvaluationPoint)
      → PointForm m.content → Begins (print_front e ms ++ print_point m) s → {r : ℕ} → PointFault L (without_endings ms) m.content r
      → Refused L s r (length (print_front e ms))
  no_point : length s ≤ max_sheet → (e d : LineEnding) → Begins (point_head e ++ ending_bytes d) s → Refused L s 7 (length (point_head e))
  no_sample_header : length s ≤ max_sheet → (e : LineEnding) (ms : List (Ended EvaluationPoint)) → FitPoints L (without_endings ms)
      → 1 ≤ length (without_endings ms) → (d : LineEnding) (rest : List ℕ) → s ≡ empty_front e ms d ++ rest → ((f : LineEnding) → ¬ Begins (sample_head f) rest)
      → Refused L s 2 (length (empty_front e ms d))
  malformed_sample : length s ≤ max_sheet → (e : LineEnding) (ms : List (Ended EvaluationPoint)) → FitPoints L (without_endings ms)
      → 1 ≤ length (without_endings ms) → (d f : LineEnding) (js : List (Ended Injection)) → FitSamples L (without_endings js) → (b : ℕ) (rest : List ℕ)
      → s ≡ print_sheet e ms d f js ++ b ∷ rest → ((j : Ended Injection) → SampleForm j.content → ¬ Begins (print_sample j) (b ∷ rest))
      → Refused L s 3 (length (print_sheet e ms d f js))
  faulty_sample : length s ≤ max_sheet → (e : LineEnding) (ms : List (Ended EvaluationPoint)) → FitPoints L (without_endings ms)
      → 1 ≤ length (without_endings ms) → (d f : LineEnding) (js : List (Ended Injection)) → FitSamples L (without_endings js) → (j : Ended Injection)
      → SampleForm j.content → Begins (print_sheet e ms d f js ++ print_sample j) s → {r : ℕ} → SampleFault L (without_endings js) j.content r
      → Refused L s r (length (print_sheet e ms d f js))
