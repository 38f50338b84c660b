-- How long a line is, and whether it fits. A mark of 16 bits has at most 5 digits, a half width of 32 bits 10, any other number 20, so no line of a
-- curve has more than 164 bytes.
use Rattle.std.proofs.Common.{◌≡◌, ℕ, ◌+◌, ◌*◌, ◌/◌, ◌^◌, ◌≤◌, ◌<◌, Bool, true, false, List, [], ◌∷◌}
use Rattle.std.proofs.Common.{Fits, w64, eqb, leb, length, get_or, drop, map, sym, ◌∙◌, arith, length-append, suc}
use Rattle.std.proofs.lemmas.Bool.{le-leb}
use Rattle.meanings.specs.Bytes.{dash}
use Rattle.meanings.specs.Lists.{pick}
use Rattle.meanings.specs.Estimate.{missing}
use Rattle.meanings.specs.declared.Estimate.{Estimate}
use Rattle.meanings.specs.declared.ranges.RangeEstimate.{RangeEstimate}
use Rattle.meanings.specs.Output.{decimal, comma_before, text_line, value_text, curve_line}
use Rattle.meanings.specs.ranges.RangeOutput.{range_curve_line}
use Rattle.laws.proofs.text.Numbers.{decimal_length}
use Rattle.text.proofs.RoomLaws.{twenty_at_most}
use Rattle.text.specs.Line.{fields, line_text, most_bytes}

-- a line is as long as its texts and the byte behind each
line_length : (t : List ℕ) (ts : List (List ℕ)) → length (text_line t ts) ≡ length t + 1 + length (comma_before ts)
line_length t ts = simp length-append (omega arith)

-- the room without the first k numbers is left for what follows them and the line feed
pub record NumbersOff (room f : ℕ) (ns vs : List ℕ) (left k : ℕ) : Type 0 where
  pub whole : left + length (line_text f ns vs) ≡ room + length (comma_before (fields (drop k ns) vs)) + 1

-- and without all numbers and the first k values
pub record ValuesOff (room f : ℕ) (ns vs : List ℕ) (left k : ℕ) : Type 0 where
  pub whole : left + length (line_text f ns vs) ≡ room + length (comma_before (map value_text (drop k vs))) + 1

-- the longest line
value_short : (v : ℕ) → v < 2 ^ 64 → length (value_text v) ≤ 20
value_short v small = by (eqb v missing)
  where
    by : (b : Bool) → length (pick b (dash ∷ []) (decimal v)) ≤ 20
    by true = omega arith
    by false = twenty_at_most v small

values_short : (vs : List ℕ) → ((i : ℕ) → Fits w64 (get_or vs i 0)) → length (comma_before (map value_text vs)) ≤ 21 * length vs
values_short [] small = omega arith
values_short (v ∷ vs) small =
    let a = value_short v (small 0).fits in
    let b = values_short vs (λ i. small (suc i)) in
    simp length-append (omega arith)

fields_short : (ns vs : List ℕ) → ((i : ℕ) → Fits w64 (get_or ns i 0)) → ((i : ℕ) → Fits w64 (get_or vs i 0))
    → length (comma_before (fields ns vs)) ≤ 21 * (length ns + length vs)
fields_short [] vs small values = omega (arith, values_short vs values)
fields_short (n ∷ ns) vs small values =
    let a = twenty_at_most n (small 0).fits in
    let b = fields_short ns vs (λ i. small (suc i)) values in
    simp length-append (omega arith)

pub line_short : (f : ℕ) (ns vs : List ℕ) → f < 2 ^ 64 → ((i : ℕ) → Fits w64 (get_or ns i 0)) → ((i : ℕ) → Fits w64 (get_or vs i 0))
    → length (line_text f ns vs) ≤ most_bytes ns vs
line_short f ns vs small numbers values =
    omega (arith, line_length (decimal f) (fields ns vs), twenty_at_most f small, fields_short ns vs numbers values)

-- a line fits where the longest of as many numbers does
pub fits_with_room : (f : ℕ) (ns vs : List ℕ) → f < 2 ^ 64 → ((i : ℕ) → Fits w64 (get_or ns i 0)) → ((i : ℕ) → Fits w64 (get_or vs i 0))
    → (room : ℕ) → 1 + length ns + length vs ≤ room / 21 → leb (1 + length ns + length vs) (room / 21) ≡ leb (length (line_text f ns vs)) room
fits_with_room f ns vs small numbers values room enough =
    le-leb (1 + length ns + length vs) (room / 21) enough
    ∙ sym (le-leb (length (line_text f ns vs)) room (omega (arith, enough, line_short f ns vs small numbers values)))

-- the longest lines of a refusal, a curve and a curve over ranges
pub pair_short : (a b : ℕ) → a < 2 ^ 64 → b < 2 ^ 64 → length (text_line (decimal a) (decimal b ∷ [])) ≤ 164
pair_short a b la lb =
    let c = twenty_at_most a la in
    let d = twenty_at_most b lb in
    simp length-append (omega arith)

pub curve_line_short : (z h : ℕ) (e : Estimate) → z < 2 ^ 16 → h < 2 ^ 32 → e.left < 2 ^ 64 → e.right < 2 ^ 64 → e.weight < 2 ^ 64
    → e.sum < 2 ^ 64 → e.value < 2 ^ 64 → length (curve_line z h e) ≤ 164
curve_line_short z h e point bandwidth left right weight sum value =
    let a = decimal_length z 4 (omega arith) in
    let b = decimal_length h 9 (omega arith) in
    let c = twenty_at_most e.left left in
    let d = twenty_at_most e.right right in
    let f = twenty_at_most e.weight weight in
    let g = twenty_at_most e.sum sum in
    let i = value_short e.value value in
    simp length-append (omega arith)

pub range_line_short : (z h : ℕ) (e : RangeEstimate) → z < 2 ^ 16 → h < 2 ^ 32 → e.left < 2 ^ 64 → e.right < 2 ^ 64 → e.weight < 2 ^ 64
    → e.sum.low < 2 ^ 64 → e.sum.high < 2 ^ 64 → e.value.low < 2 ^ 64 → e.value.high < 2 ^ 64 → length (range_curve_line z h e) ≤ 164
range_line_short z h e point bandwidth left right weight low_sum high_sum low_value high_value =
    let a = decimal_length z 4 (omega arith) in
    let b = decimal_length h 9 (omega arith) in
    let c = twenty_at_most e.left left in
    let d = twenty_at_most e.right right in
    let f = twenty_at_most e.weight weight in
    let g = twenty_at_most e.sum.low low_sum in
    let i = twenty_at_most e.sum.high high_sum in
    let j = value_short e.value.low low_value in
    let k = value_short e.value.high high_value in
    simp length-append (omega arith)
