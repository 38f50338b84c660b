-- SPECIFICATION, "Reports": the seventeen reports' numbers, conditions and places, and for each call the order in which
-- they are looked at. A call is refused with the first check of its list that holds.
use Rattle.std.specs.Prelude.{ℕ, zero, suc, ◌+◌, ◌-◌, ◌*◌, Bool, false, ◌||◌, List, [], ◌∷◌, ◌++◌, ltb, leb, eqb, length, get_or, Result, Ok, Err}
use Rattle.std.specs.Prelude.{Option, None, Some}
use Rattle.meanings.specs.declared.Report.{Report}
use Rattle.meanings.specs.declared.Report.TheVariants.{TooLong, BadHeader, MalformedLine, SampleOutOfOrder, PointOutOfOrder, TooMany, NoPoints}
use Rattle.meanings.specs.declared.Report.TheVariants.{LengthMismatch, BandwidthOutOfRange, EdgeDecreases, InvalidRecord, UnknownPreset, GridOverflow}
use Rattle.meanings.specs.declared.Report.TheVariants.{TooFewSamples, CrossedRange, SecondSeries, TemperatureOutOfOrder}
use Rattle.meanings.specs.declared.Refusal.{Refusal}
use Rattle.meanings.specs.Lists.{pick, lowest}
use Rattle.meanings.specs.declared.Limits.{Limits}
use Rattle.meanings.specs.Limits.{max_u16, max_bandwidth, row_width, max_output}

-- the report's number
abbrev pub number : Report → ℕ
number TooLong = 1
number BadHeader = 2
number MalformedLine = 3
number SampleOutOfOrder = 4
number PointOutOfOrder = 5
number TooMany = 6
number NoPoints = 7
number LengthMismatch = 8
number BandwidthOutOfRange = 9
number EdgeDecreases = 10
number InvalidRecord = 11
number UnknownPreset = 12
number GridOverflow = 13
number TooFewSamples = 14
number CrossedRange = 15
number SecondSeries = 16
number TemperatureOutOfOrder = 17

-- what a refusal returns: a report's number and place
pub record Fault : Type 0 where
  pub number : ℕ
  pub place : ℕ

-- a refusal of the code in these numbers
abbrev pub fault_of : Refusal → Fault
fault_of r = record { number = number r.report; place = r.place }

-- what a check of the code finds, in those numbers
abbrev pub verdict_fault : Result Unit Refusal → Option Fault
verdict_fault (Ok u) = None
verdict_fault (Err r) = Some (fault_of r)

-- what a call answers: a value, or a report
pub data Answer (A : Type 0) : Type 0 where
  given : A → Answer A
  refused : Fault → Answer A

abbrev pub unless : {A : Type 0} → Option Fault → A → Answer A
unless None a = given a
unless (Some e) a = refused e

-- what a lent list holds at exit: a where the call is accepted, b where it is refused
abbrev pub accepted_or : {A : Type 0} → Option Fault → A → A → A
accepted_or None a b = a
accepted_or (Some e) a b = b

-- a report's number, and the place at which its condition holds, if it does
pub record Check : Type 0 where
  pub number : ℕ
  pub place : Option ℕ

abbrev pub check : ℕ → Option ℕ → Check
check n p = record { number = n; place = p }

-- a condition with one place
abbrev pub at : ℕ → Bool → Option ℕ
at p c = pick c (Some p) None

abbrev pub fault_or : ℕ → Option ℕ → Option Fault → Option Fault
fault_or n None later = later
fault_or n (Some p) later = Some (record { number = n; place = p })

-- the first check of the list that holds
abbrev pub first_of : List Check → Option Fault
first_of [] = None
first_of (c ∷ cs) = fault_or c.number c.place (first_of cs)

-- two list lengths don't agree
abbrev pub differ : ℕ → ℕ → Bool
differ m n = ltb m n || ltb n m

-- reports 4 and 5: position k is below the one before
abbrev pub decreases : List ℕ → ℕ → Bool
decreases xs zero = false
decreases xs (suc k) = ltb (get_or xs (suc k) 0) (get_or xs k 0)

-- report 9: a half width of 0 or over the greatest one
abbrev pub outside : ℕ → ℕ → Bool
outside most h = eqb h 0 || ltb most h

-- position k of a list has such a half width
abbrev pub outside_at : ℕ → List ℕ → ℕ → Bool
outside_at most hs k = outside most (get_or hs k 0)

-- of minutes the greatest one is 65,536
abbrev pub bad_bandwidth : ℕ → Bool
bad_bandwidth h = outside max_bandwidth h

-- the left edge z − h lies below z' − h', said without negative numbers
abbrev pub left_edge_below : ℕ → ℕ → ℕ → ℕ → Bool
left_edge_below z h z' h' = ltb (z + h') (z' + h)

-- the right edge z + h lies below z' + h'
abbrev pub right_edge_below : ℕ → ℕ → ℕ → ℕ → Bool
right_edge_below z h z' h' = ltb (z + h) (z' + h')

-- an edge of z and h lies below that of z' and h'
abbrev pub edge_below : ℕ → ℕ → ℕ → ℕ → Bool
edge_below z h z' h' = left_edge_below z h z' h' || right_edge_below z h z' h'

-- report 10: at position k an edge lies below the one before
abbrev pub edge_decreases : List ℕ → List ℕ → ℕ → Bool
edge_decreases zs hs zero = false
edge_decreases zs hs (suc k) = edge_below (get_or zs (suc k) 0) (get_or hs (suc k) 0) (get_or zs k 0) (get_or hs k 0)

-- report 8: minutes with values, marks with half widths, and a list of rows with so many numbers a mark
abbrev pub uneven_samples : List ℕ → List ℕ → Bool
uneven_samples ts vs = differ (length ts) (length vs)

abbrev pub uneven_points : List ℕ → List ℕ → Bool
uneven_points zs hs = differ (length zs) (length hs)

abbrev pub uneven_rows : ℕ → ℕ → ℕ → Bool
uneven_rows width rows points = differ rows (width * points)

-- The pieces. Each call's list of checks is some of them, one behind the other.

-- readings by their lengths: 8, 6
abbrev pub size_checks : Limits → List ℕ → List ℕ → List Check
size_checks L ts vs = check 8 (at 0 (uneven_samples ts vs)) ∷ check 6 (at 0 (ltb L.samples (length ts))) ∷ []

-- minutes in order: 4
abbrev pub sample_order_checks : List ℕ → List Check
sample_order_checks ts = check 4 (lowest (decreases ts) (length ts)) ∷ []

-- readings by lengths and order: 8, 6, 4
abbrev pub series_checks : Limits → List ℕ → List ℕ → List Check
series_checks L ts vs = size_checks L ts vs ++ sample_order_checks ts

-- a record's edges over so many readings: 11
abbrev pub record_checks : ℕ → ℕ → ℕ → List Check
record_checks n left right = check 11 (at 0 (ltb right left || ltb n right)) ∷ []

-- one half width: 9
abbrev pub bandwidth_checks : ℕ → List Check
bandwidth_checks h = check 9 (at 0 (bad_bandwidth h)) ∷ []

-- readings with marks by their lengths, where `more` says that one more list does not fit: 8, 6, 7
abbrev pub curve_size_checks : Limits → List ℕ → List ℕ → List ℕ → List ℕ → Bool → List Check
curve_size_checks L ts vs zs hs more =
    check 8 (at 0 (uneven_samples ts vs || uneven_points zs hs || more))
    ∷ check 6 (at 0 (ltb L.samples (length ts) || ltb L.points (length zs)))
    ∷ check 7 (at 0 (eqb (length zs) 0))
    ∷ []

-- marks in order: 5
abbrev pub point_order_checks : List ℕ → List Check
point_order_checks zs = check 5 (lowest (decreases zs) (length zs)) ∷ []

-- minutes and marks in order: 4, 5
abbrev pub order_checks : List ℕ → List ℕ → List Check
order_checks ts zs = sample_order_checks ts ++ point_order_checks zs

-- a list of half widths, none over the greatest one: 9
abbrev pub bandwidth_list_checks : ℕ → List ℕ → List Check
bandwidth_list_checks most hs = check 9 (lowest (outside_at most hs) (length hs)) ∷ []

-- edges that never go back: 10
abbrev pub edge_checks : List ℕ → List ℕ → List Check
edge_checks zs hs = check 10 (lowest (edge_decreases zs hs) (length zs)) ∷ []

-- the windows of the marks: 9, 10
abbrev pub windows_checks : List ℕ → List ℕ → List Check
windows_checks zs hs = bandwidth_list_checks max_bandwidth hs ++ edge_checks zs hs

-- The calls.

-- one mark: 8, 6, 4, 9
abbrev pub evaluate_checks : Limits → List ℕ → List ℕ → ℕ → List Check
evaluate_checks L ts vs h = series_checks L ts vs ++ bandwidth_checks h

-- the step on a record with these edges: 8, 6, 11, 9
abbrev pub advance_checks : Limits → List ℕ → List ℕ → ℕ → ℕ → ℕ → List Check
advance_checks L ts vs left right h = size_checks L ts vs ++ record_checks (length ts) left right ++ bandwidth_checks h

-- the turn of a record with these edges: 8, 6, 4, 11, 9
abbrev pub turn_checks : Limits → List ℕ → List ℕ → ℕ → ℕ → ℕ → List Check
turn_checks L ts vs left right h = series_checks L ts vs ++ record_checks (length ts) left right ++ bandwidth_checks h

-- what of the step's the book looks at, which has no record: 8, 6, 9
abbrev pub log_checks : Limits → List ℕ → List ℕ → ℕ → List Check
log_checks L ts vs h = size_checks L ts vs ++ bandwidth_checks h

-- readings with marks, where `more` says that one more list does not fit: 8, 6, 7, 4, 5, 9, 10
abbrev pub curve_checks : Limits → List ℕ → List ℕ → List ℕ → List ℕ → Bool → List Check
curve_checks L ts vs zs hs more = curve_size_checks L ts vs zs hs more ++ order_checks ts zs ++ windows_checks zs hs

-- the sweep, with room for so many numbers in its rows: the same, with one row a mark
abbrev pub smooth_checks : Limits → List ℕ → List ℕ → List ℕ → List ℕ → ℕ → List Check
smooth_checks L ts vs zs hs rows = curve_checks L ts vs zs hs (uneven_rows row_width rows (length zs))

-- the filler of n marks and m half widths, with k knob positions: 8, 7, 6, 12, 13
abbrev pub fill_checks : Limits → ℕ → ℕ → ℕ → ℕ → ℕ → ℕ → List Check
fill_checks L k z₀ spacing preset n m =
    check 8 (at 0 (differ n m))
    ∷ check 7 (at 0 (eqb n 0))
    ∷ check 6 (at 0 (ltb L.points n))
    ∷ check 12 (at 0 (leb k preset))
    ∷ check 13 (at 0 (ltb max_u16 (z₀ + (n - 1) * spacing)))
    ∷ []

-- the reader's lists, before the sheet itself: 8 (its four lengths)
abbrev pub read_checks : Limits → ℕ → ℕ → ℕ → ℕ → List Check
read_checks L minutes values points bandwidths =
    check 8
    (at 0
    (differ minutes L.samples || differ values L.samples || differ points L.points || differ bandwidths L.points))
    ∷ []

-- the buffer for a text, of so many bytes, before the sheet itself: 8
abbrev pub buffer_checks : ℕ → List Check
buffer_checks size = check 8 (at 0 (differ size max_output)) ∷ []
