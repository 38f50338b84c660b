-- What is promised of the biweight row, of the calls as a caller has them. SPECIFICATION, "The biweight row". ts are minutes, vs values, z a mark.
use Rattle.std.specs.Prelude.{ℕ, ◌+◌, ◌-◌, ◌*◌, ◌^◌, ◌≤◌, ◌<◌, ◌≡◌, List, length, take, drop, replicate}
use Rattle.std.specs.Prelude.{Result, Ok}
use Rattle.meanings.specs.declared.Refusal.{Refusal}
use Rattle.meanings.specs.Calls.{answer_of}
use Rattle.std.specs.Prelude.{None}
use Rattle.std.specs.Borrow.{Bor}
use contract.Lifetimes.{Lfts}
use borrow.Fn.Kinds.{Dens}
use Rattle.meanings.specs.declared.Estimate.{Estimate}
use Rattle.meanings.specs.Claim.{refusal}
use Rattle.meanings.specs.Estimate.{missing, fields}
use Rattle.meanings.specs.Limits.{full, max_u16, row_width}
use Rattle.meanings.specs.Lists.{AtMost}
use Rattle.meanings.specs.biweight.Biweight.{biweight_bandwidth}
use Rattle.meanings.specs.biweight.Cases.{AllHold, biweight_cases}
use Rattle.laws.specs.rows.Rearranged.{Rearranged}
use Rattle.laws.specs.biweight.BetaKernels.{BetaKernels}
use Rattle.laws.specs.biweight.PublishedRow.{PublishedBiweight}
use Rattle.laws.specs.biweight.Readings.{BiweightAmong}
use Rattle.questions.proofs.biweight.biweight.Reads as biweight
use Rattle.questions.proofs.biweight.biweight.Kinds as biweight_kinds
use Rattle.questions.proofs.biweight.biweight.Statement as biweight_code
use Rattle.exports.proofs.biweight.tankcurve_biweight.Reads as exported_biweight
use Rattle.exports.proofs.biweight.tankcurve_biweight.Kinds as exported_biweight_kinds
use Rattle.exports.proofs.biweight.tankcurve_biweight.Statement as exported_biweight_code
use Rattle.text.specs.Table.{stored_row}
use Rattle.promises.specs.Calls.{Place, lent, lent_mut, readings, EvaluateCall, WindowCall, ExportedEvaluate, ExportedWindow}
use Rattle.promises.specs.conditions.Conditions.{Conditions, RefusedExactly, NoFault, FirstFault, no_more, series_conditions, length_first, code_refusal}
use Rattle.promises.specs.Demands.{RefusedAndStays}

-- calls that were made
pub record BiweightCall (ts vs : List ℕ) (z : ℕ) (a : Result Estimate Refusal) : Type 0 where
  pub lifetimes : Lfts 1
  pub minutes_at : Place
  pub values_at : Place
  pub ensured : biweight.Post lifetimes (readings minutes_at values_at ts vs, (z, tt)) a (readings minutes_at values_at ts vs, (z, tt))

-- for C and Rust, with a lent row that is row' at exit
pub record ExportedBiweight (ts vs : List ℕ) (z : ℕ) (row : List ℕ) (c : ℕ) (row' : List ℕ) : Type 0 where
  pub lifetimes : Lfts 3
  pub minutes_at : Place
  pub values_at : Place
  pub row_at : Place
  pub ensured :
      exported_biweight.Post lifetimes (lent minutes_at ts, (lent values_at vs, (z, (lent_mut row_at row, tt)))) c
      (lent minutes_at ts, (lent values_at vs, (z, (lent_mut row_at row', tt))))

-- 8, 6, 4; no half width is given, so no 9
abbrev pub biweight_conditions : List ℕ → List ℕ → Conditions
biweight_conditions ts vs = series_conditions full ts vs no_more

-- the row's numbers in their 64 bits
pub record Fits (e : Estimate) : Type 0 where
  pub weight : e.weight ≤ 275188285440000
  pub sum : e.sum ≤ 18034464286310400000
  pub below : e.sum < 2 ^ 64
  pub value : 0 < e.weight → e.value ≤ max_u16

-- a part of the lent values: the run of a row, and where it begins
pub record RunOf (vs : List ℕ) (values_at : Place) (e : Estimate) (part : Bor (List ℕ)) : Type 0 where
  pub holds : part.now ≡ take (e.right - e.left) (drop e.left vs)
  pub block : part.ref_ptr.0 ≡ values_at.ref_ptr.0
  pub begins : part.ref_ptr.1 ≡ values_at.ref_ptr.1 + e.left * 2

-- every input is taken, each call ends, and nothing is left for the caller to check
pub record EveryBiweightTaken : Type 2 where
  pub biweight_ends : {M : Type 1} → biweight_code.statement M
  pub biweight_asks_nothing : (κs : Lfts 1) (a : Dens κs biweight_kinds.ps) → biweight.Asked κs a
  pub exported_ends : {M : Type 1} → exported_biweight_code.statement M
  pub exported_asks_nothing : (κs : Lfts 3) (a : Dens κs exported_biweight_kinds.ps) → exported_biweight.Asked κs a

pub record Biweights : Type 0 where
  -- refused exactly for the first report whose condition holds
  pub refused : (ts vs : List ℕ) (z : ℕ) (a : Result Estimate Refusal) → BiweightCall ts vs z a
      → RefusedExactly (refusal (answer_of a)) (FirstFault (biweight_conditions ts vs))
  -- which is what the question at one mark with that half width is refused for, at whatever mark
  pub refused_as_evaluate : (ts vs : List ℕ) (z y : ℕ) (a b : Result Estimate Refusal) → BiweightCall ts vs z a → EvaluateCall ts vs y biweight_bandwidth b
      → refusal (answer_of a) ≡ refusal (answer_of b)
  -- the run is the existing call's: its edges, and the part of the values that `window` hands back, contents and start
  pub edges_of_evaluate : (ts vs : List ℕ) (z : ℕ) (e d : Estimate) → BiweightCall ts vs z (Ok e) → EvaluateCall ts vs z biweight_bandwidth (Ok d)
      → (e.left ≡ d.left) × (e.right ≡ d.right)
  pub run_of_window : (ts vs : List ℕ) (z : ℕ) (e : Estimate) (values_at : Place) (part : Bor (List ℕ)) → BiweightCall ts vs z (Ok e)
      → WindowCall ts vs z biweight_bandwidth values_at part → RunOf vs values_at e part
  -- where no condition holds there is a published biweight row, no two rows are, and an accepted call gives that one
  pub a_row : (ts vs : List ℕ) (z : ℕ) → AtMost max_u16 vs → NoFault (biweight_conditions ts vs)
      → (e : Estimate) × PublishedBiweight ts vs z biweight_bandwidth e
  pub one_published : (ts vs : List ℕ) (z : ℕ) (d e : Estimate) → PublishedBiweight ts vs z biweight_bandwidth d
      → PublishedBiweight ts vs z biweight_bandwidth e → d ≡ e
  pub row_is_published : (ts vs : List ℕ) (z : ℕ) (e : Estimate) → AtMost max_u16 vs → BiweightCall ts vs z (Ok e)
      → PublishedBiweight ts vs z biweight_bandwidth e
  -- its kernel is the published one with the exponent 2, that of the question at one mark the one with the exponent 1
  pub kernels : BetaKernels
  -- in 64 bits, and no bound is lower
  pub row_fits : (ts vs : List ℕ) (z : ℕ) (e : Estimate) → AtMost max_u16 vs → BiweightCall ts vs z (Ok e) → Fits e
  pub bounds_reached : (a : Result Estimate Refusal) → BiweightCall (replicate 1024 5) (replicate 1024 65535) 5 a
      → a ≡ Ok (record { left = 0; right = 1024; weight = 275188285440000; sum = 18034464286310400000; value = 65535 })
  -- a present value lies among the values of readings with a weight, and readings of equal minute may change places
  pub value_among : (ts vs : List ℕ) (z : ℕ) (e : Estimate) → BiweightCall ts vs z (Ok e) → ¬ (e.value ≡ missing)
      → BiweightAmong ts vs z biweight_bandwidth e
  pub may_change_places : (ts vs vs' : List ℕ) (z : ℕ) (a b : Result Estimate Refusal) → Rearranged ts vs vs' → BiweightCall ts vs z a → BiweightCall ts vs' z b
      → answer_of a ≡ answer_of b
  -- the call for C and Rust is refused likewise, a row of another length first, and the row then stays
  pub exported_refused : (ts vs : List ℕ) (z : ℕ) (row : List ℕ) (c : ℕ) (row' : List ℕ) → ExportedBiweight ts vs z row c row'
      → RefusedAndStays (code_refusal c) (FirstFault (length_first row_width row (biweight_conditions ts vs))) (row' ≡ row)
  -- accepted, it answers 0 and stores five numbers, the published row in its bounds, and both laws hold of what is stored
  pub exported_row : (ts vs : List ℕ) (z : ℕ) (row : List ℕ) (c : ℕ) (row' : List ℕ) → AtMost max_u16 vs → ExportedBiweight ts vs z row c row'
      → code_refusal c ≡ None
      → (c ≡ 0) × (length row' ≡ row_width) × PublishedBiweight ts vs z biweight_bandwidth (stored_row row' 0)
  pub exported_fits : (ts vs : List ℕ) (z : ℕ) (row : List ℕ) (c : ℕ) (row' : List ℕ) → AtMost max_u16 vs → ExportedBiweight ts vs z row c row'
      → code_refusal c ≡ None → Fits (stored_row row' 0)
  pub exported_among : (ts vs : List ℕ) (z : ℕ) (row : List ℕ) (c : ℕ) (row' : List ℕ) → ExportedBiweight ts vs z row c row'
      → code_refusal c ≡ None → ¬ ((stored_row row' 0).value ≡ missing) → BiweightAmong ts vs z biweight_bandwidth (stored_row row' 0)
  pub exported_alike : (ts vs vs' : List ℕ) (z : ℕ) (row : List ℕ) (c d : ℕ) (row₁ row₂ : List ℕ) → Rearranged ts vs vs'
      → ExportedBiweight ts vs z row c row₁ → ExportedBiweight ts vs' z row d row₂ → (c ≡ d) × (row₁ ≡ row₂)
  -- beside the call of Rattle: its row
  pub exported_tells : (ts vs : List ℕ) (z : ℕ) (row : List ℕ) (c : ℕ) (row' : List ℕ) (a : Result Estimate Refusal) → ExportedBiweight ts vs z row c row'
      → BiweightCall ts vs z a → code_refusal c ≡ None → (e : Estimate) × ((a ≡ Ok e) × (c ≡ 0) × (row' ≡ fields e))
  -- beside the exported calls at one mark with that half width: the same answer, and the same edges
  pub exported_as_evaluate : (ts vs : List ℕ) (z y : ℕ) (row : List ℕ) (c : ℕ) (row' row₁ : List ℕ) (d : ℕ) (row₁' : List ℕ)
      → length row ≡ length row₁ → ExportedBiweight ts vs z row c row' → ExportedEvaluate ts vs y biweight_bandwidth row₁ d row₁' → c ≡ d
  pub exported_run : (ts vs : List ℕ) (z : ℕ) (row : List ℕ) (c : ℕ) (row' bounds : List ℕ) (d : ℕ) (bounds' : List ℕ) → length row ≡ row_width
      → length bounds ≡ 2 → ExportedBiweight ts vs z row c row' → ExportedWindow ts vs z biweight_bandwidth bounds d bounds'
      → (c ≡ d) × (code_refusal c ≡ None → take 2 row' ≡ bounds')
  -- worked cases, accepted ones and each report
  pub worked_cases : AllHold biweight_cases
