-- When a call is refused, in plain arithmetic: for each call the conditions of its reports, in the order in which they count, each with the
-- places at which it holds. A call is refused with the first condition that holds anywhere, at the lowest place at which it does.
use Rattle.std.specs.Prelude.{ℕ, suc, ◌+◌, ◌-◌, ◌*◌, ◌%◌, ◌/◌, ◌≤◌, ◌<◌, ◌≡◌, ◌↔◌, ◌⊎◌, List, eqb, length, get_or}
use Rattle.std.specs.Prelude.{Option, None, Some}
use Rattle.meanings.specs.declared.Limits.{Limits}
use Rattle.meanings.specs.Lists.{pick}
use Rattle.meanings.specs.Limits.{full, max_u16, max_bandwidth, row_width, max_output}
use Rattle.meanings.specs.Reports.{Fault}
use Rattle.meanings.specs.Grid.{presets}
use Rattle.meanings.specs.Codes.{detail_unit}
use Rattle.exports.specs.Answers.{record_length}

-- reports in the order in which they count: a number, and at which places its condition holds
pub data Conditions : Type 1 where
  no_more : Conditions
  condition : ℕ → (ℕ → Type 0) → Conditions → Conditions

-- no condition holds anywhere
abbrev pub NoFault : Conditions → Type 0
NoFault no_more = Unit {0}
NoFault (condition m At cs) = ((q : ℕ) → ¬ At q) × NoFault cs

-- the first condition that holds is that of report n, and p is the lowest place at which it does
abbrev pub FirstFault : Conditions → ℕ → ℕ → Type 0
FirstFault no_more n p = ⊥
FirstFault (condition m At cs) n p = ((n ≡ m) × At p × ((q : ℕ) → q < p → ¬ At q)) ⊎ (((q : ℕ) → ¬ At q) × FirstFault cs n p)

-- the first fault of the conditions, else, where none of them holds, what R says
abbrev pub FirstOrElse : Conditions → (ℕ → ℕ → Type 0) → ℕ → ℕ → Type 0
FirstOrElse cs R n p = FirstFault cs n p ⊎ (NoFault cs × R n p)

-- a call is refused with n at p exactly if R n p, and accepted exactly if R holds of nothing
pub record RefusedExactly (f : Option Fault) (R : ℕ → ℕ → Type 0) : Type 0 where
  pub refused : (n p : ℕ) → (f ≡ Some (record { number = n; place = p })) ↔ R n p
  pub accepted : (f ≡ None) ↔ ((n p : ℕ) → ¬ R n p)

-- a call is refused exactly as R says, and what is lent then stays
pub record RefusedAndStays (f : Option Fault) (R : ℕ → ℕ → Type 0) (Stays : Type 0) : Type 0 where
  pub exactly : RefusedExactly f R
  pub stays : (e : Fault) → f ≡ Some e → Stays

-- a condition of the whole call: its place is 0
abbrev pub AtZero : Type 0 → ℕ → Type 0
AtZero C p = C × (p ≡ 0)

-- reports 4 and 5: the number at p is below the one before it
pub record FallsAt (xs : List ℕ) (p : ℕ) : Type 0 where
  pub before : ℕ
  pub next : p ≡ suc before
  pub within : p < length xs
  pub falls : get_or xs p 0 < get_or xs before 0

-- report 9: the half width is 0 or over the greatest one
abbrev pub OutOfRange : ℕ → ℕ → Type 0
OutOfRange most h = (h ≡ 0) ⊎ (most < h)

-- report 10: an edge at p lies below the one before it: z − h below z₀ − h₀, said without negative numbers, or z + h below z₀ + h₀
pub record EdgeFallsAt (zs hs : List ℕ) (p : ℕ) : Type 0 where
  pub before : ℕ
  pub next : p ≡ suc before
  pub within : p < length zs
  pub falls : (get_or zs p 0 + get_or hs before 0 < get_or zs before 0 + get_or hs p 0)
      ⊎ (get_or zs p 0 + get_or hs p 0 < get_or zs before 0 + get_or hs before 0)

-- The pieces, each in front of the conditions that count later.

-- readings by their lengths: 8, 6
abbrev pub size_conditions : Limits → List ℕ → List ℕ → Conditions → Conditions
size_conditions L ts vs later = condition 8 (AtZero (¬ (length ts ≡ length vs))) (condition 6 (AtZero (L.samples < length ts)) later)

-- readings by lengths and order: 8, 6, 4
abbrev pub series_conditions : Limits → List ℕ → List ℕ → Conditions → Conditions
series_conditions L ts vs later = size_conditions L ts vs (condition 4 (FallsAt ts) later)

-- a record's edges over so many readings: 11
abbrev pub record_conditions : ℕ → ℕ → ℕ → Conditions → Conditions
record_conditions n left right later = condition 11 (AtZero ((right < left) ⊎ (n < right))) later

-- one half width: 9
abbrev pub bandwidth_conditions : ℕ → Conditions → Conditions
bandwidth_conditions h later = condition 9 (AtZero (OutOfRange max_bandwidth h)) later

-- readings with marks by their lengths, where one more list has to fit: 8, 6, 7
abbrev pub curve_size_conditions : Limits → List ℕ → List ℕ → List ℕ → List ℕ → Type 0 → Conditions → Conditions
curve_size_conditions L ts vs zs hs Fits later =
    condition 8 (AtZero (¬ ((length ts ≡ length vs) × (length zs ≡ length hs) × Fits)))
    (condition 6 (AtZero ((L.samples < length ts) ⊎ (L.points < length zs)))
    (condition 7 (AtZero (length zs ≡ 0)) later))

-- minutes and marks in order: 4, 5
abbrev pub order_conditions : List ℕ → List ℕ → Conditions → Conditions
order_conditions ts zs later = condition 4 (FallsAt ts) (condition 5 (FallsAt zs) later)

-- a list of half widths, none over the greatest one: 9
abbrev pub bandwidth_list_conditions : ℕ → List ℕ → Conditions → Conditions
bandwidth_list_conditions most hs later = condition 9 (λ p. (p < length hs) × OutOfRange most (get_or hs p 0)) later

-- the windows of the marks: 9, 10
abbrev pub windows_conditions : List ℕ → List ℕ → Conditions → Conditions
windows_conditions zs hs later = bandwidth_list_conditions max_bandwidth hs (condition 10 (EdgeFallsAt zs hs) later)

-- The calls.

-- one mark: 8, 6, 4, 9
abbrev pub evaluate_conditions : List ℕ → List ℕ → ℕ → Conditions
evaluate_conditions ts vs h = series_conditions full ts vs (bandwidth_conditions h no_more)

-- the step on a record with these edges: 8, 6, 11, 9
abbrev pub advance_conditions : List ℕ → List ℕ → ℕ → ℕ → ℕ → Conditions
advance_conditions ts vs left right h = size_conditions full ts vs (record_conditions (length ts) left right (bandwidth_conditions h no_more))

-- readings with marks, where one more list has to fit: 8, 6, 7, 4, 5, 9, 10
abbrev pub curve_conditions : Limits → List ℕ → List ℕ → List ℕ → List ℕ → Type 0 → Conditions
curve_conditions L ts vs zs hs Fits = curve_size_conditions L ts vs zs hs Fits (order_conditions ts zs (windows_conditions zs hs no_more))

-- the sweep with rows of this length, under the full limits or the preview's: the same, with one row a mark
abbrev pub smooth_conditions : Limits → List ℕ → List ℕ → List ℕ → List ℕ → ℕ → Conditions
smooth_conditions L ts vs zs hs rows = curve_conditions L ts vs zs hs (rows ≡ row_width * length zs)

-- the mark filler: 8, 7, 6, 12, 13
abbrev pub fill_conditions : ℕ → ℕ → ℕ → List ℕ → List ℕ → Conditions
fill_conditions z₀ spacing preset zs hs =
    condition 8 (AtZero (¬ (length zs ≡ length hs)))
    (condition 7 (AtZero (length zs ≡ 0))
    (condition 6 (AtZero (full.points < length zs))
    (condition 12 (AtZero (length presets ≤ preset))
    (condition 13 (AtZero (max_u16 < z₀ + (length zs - 1) * spacing)) no_more))))

-- the reader's four lists: 8
abbrev pub read_conditions : List ℕ → List ℕ → List ℕ → List ℕ → Conditions
read_conditions ts vs zs hs =
    condition 8
    (AtZero
    (¬ ((length ts ≡ full.samples) × (length vs ≡ full.samples) × (length zs ≡ full.points) × (length hs ≡ full.points))))
    no_more

-- the buffer for a text: 8
abbrev pub buffer_conditions : List ℕ → Conditions
buffer_conditions out = condition 8 (AtZero (¬ (length out ≡ max_output))) no_more

-- a list of another length than n gets 8, before all else
abbrev pub length_first : ℕ → List ℕ → Conditions → Conditions
length_first n xs cs = condition 8 (AtZero (¬ (length xs ≡ n))) cs

-- the row of a record, as exported: nine numbers, then five, and nothing else is refused
abbrev pub record_row_conditions : List ℕ → List ℕ → Conditions
record_row_conditions xs row = length_first record_length xs (length_first row_width row no_more)

-- what the one number of an exported answer says: a report, its number and its place as detail, or that the call is accepted
abbrev pub code_refusal : ℕ → Option Fault
code_refusal c = pick (eqb (c % detail_unit) 0) None (Some (record { number = c % detail_unit; place = c / detail_unit }))
