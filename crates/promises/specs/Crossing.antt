-- What is promised of the first mark at or below a limit. ts are minutes, vs values, zs and hs marks and half widths, as in Demands.antt.
use Rattle.std.specs.Prelude.{ℕ, ◌+◌, ◌*◌, ◌≤◌, ◌<◌, ◌≡◌, List, length, get_or}
use Rattle.std.specs.Prelude.{Ok}
use Rattle.std.specs.Prelude.{Result}
use Rattle.meanings.specs.declared.limit.Located.{Located}
use Rattle.meanings.specs.declared.Refusal.{Refusal}
use Rattle.meanings.specs.Calls.{answer_of}
use Rattle.std.specs.Prelude.{None, Some}
use contract.Lifetimes.{Lfts}
use borrow.Fn.Kinds.{Dens}
use Rattle.meanings.specs.declared.Estimate.{Estimate}
use Rattle.meanings.specs.Limits.{full, max_u16, row_width}
use Rattle.meanings.specs.Lists.{AtMost}
use Rattle.meanings.specs.Moves.{moves}
use Rattle.meanings.specs.PublishedRow.{PublishedRow}
use Rattle.meanings.specs.Reports.{Fault, given}
use Rattle.meanings.specs.EventLog.{empty_log, log_after, insertion_count, eviction_count}
use Rattle.meanings.specs.Claim.{refusal}
use Rattle.meanings.specs.Codes.{detail_unit, answered}
use Rattle.meanings.specs.limit.Crossing.{answer_by_rows, reach}
use Rattle.exports.specs.Answers.{stored}
use Rattle.exports.specs.Positions.{no_position, position_numbers, position_of}
use Rattle.questions.proofs.limit.first_at_most.Reads as first_at_most
use Rattle.questions.proofs.limit.first_at_most.Kinds as first_at_most_kinds
use Rattle.questions.proofs.limit.first_at_most.Statement as first_at_most_code
use Rattle.exports.proofs.limit.tankcurve_first_at_most.Reads as exported_first_at_most
use Rattle.exports.proofs.limit.tankcurve_first_at_most.Kinds as exported_first_at_most_kinds
use Rattle.exports.proofs.limit.tankcurve_first_at_most.Statement as exported_first_at_most_code
use Rattle.promises.specs.Calls.{Place, lent, lent_mut, readings, marks, SmoothCall}
use Rattle.promises.specs.conditions.Conditions.{Conditions, RefusedExactly, FirstFault, curve_conditions, length_first, code_refusal}

-- calls that were made
pub record FirstAtMostCall (ts vs zs hs : List ℕ) (limit : ℕ) (a : Result Located Refusal) : Type 0 where
  pub lifetimes : Lfts 2
  pub minutes_at : Place
  pub values_at : Place
  pub points_at : Place
  pub bandwidths_at : Place
  pub ensured :
      first_at_most.Post lifetimes (readings minutes_at values_at ts vs, (marks points_at bandwidths_at zs hs, (limit, tt))) a
      (readings minutes_at values_at ts vs, (marks points_at bandwidths_at zs hs, (limit, tt)))

pub record ExportedFirstAtMost (ts vs zs hs : List ℕ) (limit : ℕ) (xs : List ℕ) (c : ℕ) (xs' : List ℕ) : Type 0 where
  pub lifetimes : Lfts 5
  pub minutes_at : Place
  pub values_at : Place
  pub points_at : Place
  pub bandwidths_at : Place
  pub position_at : Place
  pub ensured :
      exported_first_at_most.Post lifetimes
      (lent minutes_at ts, (lent values_at vs, (lent points_at zs, (lent bandwidths_at hs, (limit, (lent_mut position_at xs, tt)))))) c
      (lent minutes_at ts, (lent values_at vs, (lent points_at zs, (lent bandwidths_at hs, (limit, (lent_mut position_at xs', tt))))))

-- readings with marks and no further list: 8, 6, 7, 4, 5, 9, 10, over whole lists
abbrev pub crossing_conditions : List ℕ → List ℕ → List ℕ → List ℕ → Conditions
crossing_conditions ts vs zs hs = curve_conditions full ts vs zs hs Unit

-- a row has a value, and it is at or below the limit
abbrev pub LowEnough : ℕ → Estimate → Type 0
LowEnough limit e = (0 < e.weight) × (e.value ≤ limit)

-- mark k is the first whose published row is low enough, and n is left plus right of that row
pub record FirstLow (ts vs zs hs : List ℕ) (limit k n : ℕ) : Type 0 where
  pub within : k < length zs
  pub low : (e : Estimate) → PublishedRow ts vs (get_or zs k 0) (get_or hs k 0) e → LowEnough limit e × (n ≡ e.left + e.right)
  pub none_before : (j : ℕ) → j < k → (e : Estimate) → PublishedRow ts vs (get_or zs j 0) (get_or hs j 0) e → ¬ LowEnough limit e

-- no mark's published row is low enough
abbrev pub NoneLow : List ℕ → List ℕ → List ℕ → List ℕ → ℕ → Type 0
NoneLow ts vs zs hs limit =
    (j : ℕ) → j < length zs → (e : Estimate) → PublishedRow ts vs (get_or zs j 0) (get_or hs j 0) e → ¬ LowEnough limit e

-- every input is taken, each call ends, and nothing is left for the caller to check
pub record EveryCrossingTaken : Type 2 where
  pub first_at_most_ends : {M : Type 1} → first_at_most_code.statement M
  pub first_at_most_asks_nothing : (κs : Lfts 2) (a : Dens κs first_at_most_kinds.ps) → first_at_most.Asked κs a
  pub exported_ends : {M : Type 1} → exported_first_at_most_code.statement M
  pub exported_asks_nothing : (κs : Lfts 5) (a : Dens κs exported_first_at_most_kinds.ps) → exported_first_at_most.Asked κs a

pub record Crossings : Type 0 where
  -- unfit lists are refused before any answer, under the listed conditions only
  pub refused : (ts vs zs hs : List ℕ) (limit : ℕ) (a : Result Located Refusal) → FirstAtMostCall ts vs zs hs limit a
      → RefusedExactly (refusal (answer_of a)) (FirstFault (crossing_conditions ts vs zs hs))
  -- the answer is the first mark that is low enough, or none; the passes are then the insertions plus evictions of an event log of all marks, at most
  -- two for each reading
  pub reached : (ts vs zs hs : List ℕ) (limit k n : ℕ) → AtMost max_u16 ts → AtMost max_u16 vs
      → FirstAtMostCall ts vs zs hs limit (Ok (record { position = Some k; passes = n }))
      → FirstLow ts vs zs hs limit k n
  pub not_reached : (ts vs zs hs : List ℕ) (limit n : ℕ) → AtMost max_u16 ts → AtMost max_u16 vs
      → FirstAtMostCall ts vs zs hs limit (Ok (record { position = None; passes = n }))
      → NoneLow ts vs zs hs limit
      × (n ≡ insertion_count (log_after ts vs empty_log (moves zs hs)) + eviction_count (log_after ts vs empty_log (moves zs hs)))
      × (n ≤ 2 * length ts)
  -- it is what a sweep with room for its rows would say: refused alike, at the same place; else position and passes are those of its rows,
  -- with none its passes
  pub by_the_full_curve : (ts vs zs hs rs : List ℕ) (limit : ℕ) (a : Result Located Refusal) (b : Result ℕ Refusal) (rs' : List ℕ) → AtMost max_u16 ts
      → AtMost max_u16 vs → length rs ≡ row_width * length zs → FirstAtMostCall ts vs zs hs limit a → SmoothCall ts vs zs hs rs b rs'
      → answer_of a ≡ answer_by_rows rs' (length zs) limit (answer_of b)
  -- values from right of the answering mark on, with none of the last mark, have no influence
  pub values_behind_do_not_count : (ts vs vs' zs hs : List ℕ) (limit : ℕ) (l : Located) (a b : Result Located Refusal) → AtMost max_u16 ts → AtMost max_u16 vs
      → AtMost max_u16 vs' → length vs ≡ length vs' → FirstAtMostCall ts vs zs hs limit a → answer_of a ≡ given l
      → ((i : ℕ) → i < reach ts zs hs l.position → get_or vs i 0 ≡ get_or vs' i 0) → FirstAtMostCall ts vs' zs hs limit b
      → answer_of b ≡ given l
  -- the call for C and Rust is refused likewise, and its list then stays
  pub exported_refused : (ts vs zs hs : List ℕ) (limit : ℕ) (xs : List ℕ) (c : ℕ) (xs' : List ℕ) → ExportedFirstAtMost ts vs zs hs limit xs c xs'
      → RefusedExactly (code_refusal c) (FirstFault (length_first 1 xs (crossing_conditions ts vs zs hs)))
      × ((e : Fault) → code_refusal c ≡ Some e → xs' ≡ xs)
  -- accepted, its one number is read back as position or none, and its detail is the passes
  pub exported_tells : (ts vs zs hs : List ℕ) (limit : ℕ) (xs : List ℕ) (c : ℕ) (xs' : List ℕ) (a : Result Located Refusal)
      → ExportedFirstAtMost ts vs zs hs limit xs c xs' → FirstAtMostCall ts vs zs hs limit a → code_refusal c ≡ None
      → (l : Located) × ((answer_of a ≡ given l) × (c ≡ detail_unit * l.passes) × (length xs' ≡ 1) × (position_of (get_or xs' 0 0) ≡ l.position))
  -- so the same as above is so of it: position k, with the passes n in units of its detail
  pub exported_reached : (ts vs zs hs : List ℕ) (limit : ℕ) (xs : List ℕ) (c : ℕ) (xs' : List ℕ) (k : ℕ) → AtMost max_u16 ts → AtMost max_u16 vs
      → ExportedFirstAtMost ts vs zs hs limit xs c xs' → code_refusal c ≡ None → position_of (get_or xs' 0 0) ≡ Some k
      → (n : ℕ) × ((c ≡ detail_unit * n) × FirstLow ts vs zs hs limit k n)
  pub exported_not_reached : (ts vs zs hs : List ℕ) (limit : ℕ) (xs : List ℕ) (c : ℕ) (xs' : List ℕ) → AtMost max_u16 ts → AtMost max_u16 vs
      → ExportedFirstAtMost ts vs zs hs limit xs c xs' → code_refusal c ≡ None → position_of (get_or xs' 0 0) ≡ None
      → NoneLow ts vs zs hs limit
      × (c ≡ detail_unit * (insertion_count (log_after ts vs empty_log (moves zs hs)) + eviction_count (log_after ts vs empty_log (moves zs hs))))
      × (c ≤ detail_unit * (2 * length ts))
  pub exported_by_the_full_curve : (ts vs zs hs rs : List ℕ) (limit : ℕ) (xs : List ℕ) (c : ℕ) (xs' : List ℕ) (b : Result ℕ Refusal) (rs' : List ℕ)
      → AtMost max_u16 ts → AtMost max_u16 vs → length rs ≡ row_width * length zs → length xs ≡ 1 → ExportedFirstAtMost ts vs zs hs limit xs c xs'
      → SmoothCall ts vs zs hs rs b rs' → (c ≡ answered (λ (l : Located). l.passes) (answer_by_rows rs' (length zs) limit (answer_of b)))
      × (xs' ≡ stored (λ (l : Located). position_numbers l.position) (answer_by_rows rs' (length zs) limit (answer_of b)) xs)
  pub exported_values_behind_do_not_count : (ts vs vs' zs hs : List ℕ) (limit : ℕ) (xs : List ℕ) (c d : ℕ) (xs₁ xs₂ : List ℕ) → AtMost max_u16 ts
      → AtMost max_u16 vs → AtMost max_u16 vs' → length vs ≡ length vs' → ExportedFirstAtMost ts vs zs hs limit xs c xs₁ → code_refusal c ≡ None
      → ((i : ℕ) → i < reach ts zs hs (position_of (get_or xs₁ 0 0)) → get_or vs i 0 ≡ get_or vs' i 0)
      → ExportedFirstAtMost ts vs' zs hs limit xs d xs₂ → (d ≡ c) × (xs₂ ≡ xs₁)
  -- what stands for none is no position of a list that 64 bits can count
  pub none_is_no_position : (zs : List ℕ) (k : ℕ) → length zs ≤ no_position → k < length zs → ¬ (k ≡ no_position)
