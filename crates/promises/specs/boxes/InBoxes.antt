-- What is promised of minute and temperature together, of the call as a caller has it and of the call for C and Rust, each known by its contract
-- alone. SPECIFICATION, "Minute and temperature together". A list at exit has a prime.
use Rattle.std.specs.Prelude.{ℕ, suc, ◌+◌, ◌≡◌, true, ◌↔◌, List, [], ◌∷◌, map, get_or}
use Rattle.std.specs.Prelude.{Result, Ok}
use Rattle.meanings.specs.declared.Refusal.{Refusal}
use Rattle.meanings.specs.Calls.{answer_of}
use Rattle.std.specs.Prelude.{None}
use contract.Lifetimes.{Lfts}
use borrow.Fn.Kinds.{Dens}
use Rattle.meanings.specs.Limits.{max_u16}
use Rattle.meanings.specs.Lists.{AtMost}
use Rattle.meanings.specs.Claim.{refusal}
use Rattle.meanings.specs.declared.boxes.Question.{Question}
use Rattle.meanings.specs.boxes.Boxes.{Axis, shift, cuts, member, tally, strip_of}
use Rattle.meanings.specs.boxes.Cases.{BoxesInput, outcome, sevens, four, four_outcome, RefusalCase, refusal_expected, refusal_cases}
use Rattle.meanings.specs.boxes.Cases.{StripsCase, strips_result, strips_cases, PairsCase, pairs_result, pairs_cases}
use Rattle.boxes.proofs.boxes.Reads as boxes
use Rattle.boxes.proofs.boxes.Kinds as boxes_kinds
use Rattle.boxes.proofs.boxes.Statement as boxes_code
use Rattle.exports.proofs.box_table.tankcurve_boxes.Reads as exported_boxes
use Rattle.exports.proofs.box_table.tankcurve_boxes.Kinds as exported_boxes_kinds
use Rattle.exports.proofs.box_table.tankcurve_boxes.Statement as exported_boxes_code
use Rattle.promises.specs.Calls.{Place, lent, lent_mut}
use Rattle.promises.specs.conditions.Conditions.{FirstFault, code_refusal}
use Rattle.promises.specs.Demands.{RefusedAndStays}
use Rattle.promises.specs.boxes.Filled.{TenLists, box_conditions, FilledIn, IsCut}

-- where each of them is lent from
pub record Loans : Type 0 where
  pub minutes : Place
  pub temperatures : Place
  pub values : Place
  pub points : Place
  pub bandwidths : Place
  pub temperature_points : Place
  pub temperature_bandwidths : Place
  pub boxes : Place
  pub counts : Place
  pub sums : Place

-- what is asked, in lists that are lent to be read
abbrev pub asked : Loans → TenLists → Question
asked l q = record {
  readings = record { minutes = lent l.minutes q.minutes; temperatures = lent l.temperatures q.temperatures; values = lent l.values q.values };
  minute_marks = record { points = lent l.points q.points; bandwidths = lent l.bandwidths q.bandwidths };
  temperature_marks = record {
    points = lent l.temperature_points q.temperature_points;
    bandwidths = lent l.temperature_bandwidths q.temperature_bandwidths;
  };
}

-- calls that were made: the lists, the answer, and boxes, counts and sums at exit
pub record BoxesCall (q : TenLists) (a : Result Unit Refusal) (bs' cs' ss' : List ℕ) : Type 0 where
  pub lifetimes : Lfts 4
  pub loans : Loans
  pub ensured :
      boxes.Post lifetimes (asked loans q, (lent_mut loans.boxes q.boxes, (lent_mut loans.counts q.counts, (lent_mut loans.sums q.sums, tt))))
      a (asked loans q, (lent_mut loans.boxes bs', (lent_mut loans.counts cs', (lent_mut loans.sums ss', tt))))

pub record ExportedBoxes (q : TenLists) (c : ℕ) (bs' cs' ss' : List ℕ) : Type 0 where
  pub lifetimes : Lfts 10
  pub loans : Loans
  pub ensured :
      exported_boxes.Post lifetimes (
        lent loans.minutes q.minutes,
        (
          lent loans.temperatures q.temperatures,
          (
            lent loans.values q.values,
            (
              lent loans.points q.points,
              (
                lent loans.bandwidths q.bandwidths,
                (
                  lent loans.temperature_points q.temperature_points,
                  (
                    lent loans.temperature_bandwidths q.temperature_bandwidths,
                    (lent_mut loans.boxes q.boxes, (lent_mut loans.counts q.counts, (lent_mut loans.sums q.sums, tt))),
                  ),
                ),
              ),
            ),
          ),
        ),
      )
      c (
        lent loans.minutes q.minutes,
        (
          lent loans.temperatures q.temperatures,
          (
            lent loans.values q.values,
            (
              lent loans.points q.points,
              (
                lent loans.bandwidths q.bandwidths,
                (
                  lent loans.temperature_points q.temperature_points,
                  (
                    lent loans.temperature_bandwidths q.temperature_bandwidths,
                    (lent_mut loans.boxes bs', (lent_mut loans.counts cs', (lent_mut loans.sums ss', tt))),
                  ),
                ),
              ),
            ),
          ),
        ),
      )

-- an input of a worked case as ten lists
abbrev pub lists_of : BoxesInput → TenLists
lists_of q = record {
  minutes = q.minutes.samples;
  temperatures = q.temperatures.samples;
  values = q.values;
  points = q.minutes.points;
  bandwidths = q.minutes.bandwidths;
  temperature_points = q.temperatures.points;
  temperature_bandwidths = q.temperatures.bandwidths;
  boxes = q.boxes;
  counts = q.counts;
  sums = q.sums;
}

-- readings whose minutes fall, and marks whose left edges fall, in each direction: windows 90 to 110 and 51 to 151
abbrev pub unordered : TenLists
unordered = record {
  minutes = 105 ∷ 60 ∷ [];
  temperatures = 60 ∷ 95 ∷ [];
  values = 5 ∷ 9 ∷ [];
  points = 100 ∷ 101 ∷ [];
  bandwidths = 10 ∷ 50 ∷ [];
  temperature_points = 100 ∷ 101 ∷ [];
  temperature_bandwidths = 10 ∷ 50 ∷ [];
  boxes = sevens 8;
  counts = sevens 4225;
  sums = sevens 4225;
}

abbrev pub unordered_boxes : List ℕ
unordered_boxes = 0 ∷ 0 ∷ 1 ∷ 5 ∷ 1 ∷ 9 ∷ 2 ∷ 14 ∷ []

-- every input is taken, each call ends, and nothing is left for the caller to check
pub record EveryBoxesTaken : Type 2 where
  pub ends : {M : Type 1} → boxes_code.statement M
  pub asks_nothing : (κs : Lfts 4) (a : Dens κs boxes_kinds.ps) → boxes.Asked κs a
  pub exported_ends : {M : Type 1} → exported_boxes_code.statement M
  pub exported_asks_nothing : (κs : Lfts 10) (a : Dens κs exported_boxes_kinds.ps) → exported_boxes.Asked κs a

pub record InBoxes : Type 0 where
  -- refused exactly for the first report whose condition holds, at its lowest place; then all three lists stay
  pub refused : (q : TenLists) (a : Result Unit Refusal) (bs' cs' ss' : List ℕ) → BoxesCall q a bs' cs' ss'
      → RefusedAndStays (refusal (answer_of a)) (FirstFault (box_conditions q)) ((bs' ≡ q.boxes) × (cs' ≡ q.counts) × (ss' ≡ q.sums))
  pub exported_refused : (q : TenLists) (c : ℕ) (bs' cs' ss' : List ℕ) → ExportedBoxes q c bs' cs' ss'
      → RefusedAndStays (code_refusal c) (FirstFault (box_conditions q)) ((bs' ≡ q.boxes) × (cs' ≡ q.counts) × (ss' ≡ q.sums))
  -- accepted, the lists are filled in; values have 16 bits as their type says
  pub filled_in : (q : TenLists) (bs' cs' ss' : List ℕ) → AtMost max_u16 q.values → BoxesCall q (Ok tt) bs' cs' ss' → FilledIn q bs' cs' ss'
  pub exported_filled_in : (q : TenLists) (c : ℕ) (bs' cs' ss' : List ℕ) → AtMost max_u16 q.values → ExportedBoxes q c bs' cs' ss' → code_refusal c ≡ None
      → (c ≡ 0) × FilledIn q bs' cs' ss'
  -- such lists are there: the four readings of the worked case
  pub some_accepted : (a : Result Unit Refusal) (bs' cs' ss' : List ℕ) → BoxesCall (lists_of four) a bs' cs' ss' → a ≡ (Ok tt)
  pub exported_some_accepted : (c : ℕ) (bs' cs' ss' : List ℕ) → ExportedBoxes (lists_of four) c bs' cs' ss' → c ≡ 0
  -- and lists with neither readings nor edges in order
  pub unordered_accepted : (a : Result Unit Refusal) (bs' cs' ss' : List ℕ) → BoxesCall unordered a bs' cs' ss' → (a ≡ (Ok tt)) × (bs' ≡ unordered_boxes)
  pub exported_unordered_accepted : (c : ℕ) (bs' cs' ss' : List ℕ) → ExportedBoxes unordered c bs' cs' ss' → (c ≡ 0) × (bs' ≡ unordered_boxes)
  -- a strip's cuts are the edges and nothing else, and a strip is how many numbers up to the reading are cuts
  pub cuts_are_edges : (A : Axis) (c : ℕ) → (member c (cuts A) ≡ true) ↔ IsCut A c
  pub strips_by_numbers : (A : Axis) (i : ℕ) → strip_of A i ≡ tally (λ m. member m (cuts A)) (suc (get_or A.samples i 0 + shift A))
  -- worked cases: strips, boxes, each report with its lists, and one whole outcome
  pub strips_cases_hold : map (λ (c : StripsCase). strips_result c) strips_cases ≡ map (λ (c : StripsCase). c.expected) strips_cases
  pub pairs_cases_hold : map (λ (c : PairsCase). pairs_result c) pairs_cases ≡ map (λ (c : PairsCase). c.expected) pairs_cases
  pub refusal_cases_hold :
      map (λ (c : RefusalCase). outcome c.input) refusal_cases ≡ map (λ (c : RefusalCase). refusal_expected c) refusal_cases
  pub four_readings : outcome four ≡ four_outcome
