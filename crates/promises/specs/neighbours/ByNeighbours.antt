-- What is promised of half widths by neighbours, of the call as a caller has it and of the call for C and Rust. SPECIFICATION, "Half widths by
-- neighbours". ts are minutes, vs values, zs marks, k is K, hs half widths, rs rows; a list at exit has a prime.
use Rattle.std.specs.Prelude.{ℕ, ◌+◌, ◌*◌, ◌≤◌, ◌<◌, ◌≡◌, ◌↔◌, ◌⊎◌, List, map, length, get_or}
use Rattle.std.specs.Prelude.{Result, Ok}
use Rattle.meanings.specs.declared.Refusal.{Refusal}
use Rattle.meanings.specs.Calls.{answer_of}
use Rattle.std.specs.Prelude.{None, Some}
use contract.Lifetimes.{Lfts}
use borrow.Fn.Kinds.{Dens}
use Rattle.meanings.specs.Limits.{full, max_u16, max_bandwidth, row_width}
use Rattle.meanings.specs.Lists.{AtMost, Ordered}
use Rattle.meanings.specs.PublishedRow.{PublishedRow}
use Rattle.meanings.specs.Reports.{Fault}
use Rattle.meanings.specs.Claim.{refusal}
use Rattle.laws.specs.rows.AmongReadings.{Among}
use Rattle.laws.specs.rows.Rearranged.{Rearranged}
use Rattle.meanings.specs.neighbours.Neighbours.{neighbour_bandwidths, Kth}
use Rattle.meanings.specs.neighbours.Cases.{NeighboursCase, neighbours_result, neighbours_cases}
use Rattle.text.specs.Table.{stored_row}
use Rattle.questions.proofs.neighbours.neighbours.Reads as neighbours
use Rattle.questions.proofs.neighbours.neighbours.Kinds as neighbours_kinds
use Rattle.questions.proofs.neighbours.neighbours.Statement as neighbours_code
use Rattle.exports.proofs.neighbours.tankcurve_neighbours.Reads as exported_neighbours
use Rattle.exports.proofs.neighbours.tankcurve_neighbours.Kinds as exported_neighbours_kinds
use Rattle.exports.proofs.neighbours.tankcurve_neighbours.Statement as exported_neighbours_code
use Rattle.promises.specs.Calls.{Place, lent, lent_mut, readings, SmoothCall, ExportedSmooth}
use Rattle.promises.specs.conditions.Conditions.{Conditions, no_more, condition, NoFault, FirstFault, AtZero, OutOfRange, EdgeFallsAt, curve_size_conditions}
use Rattle.promises.specs.conditions.Conditions.{order_conditions, code_refusal}
use Rattle.promises.specs.Demands.{RefusedAndStays}

-- calls that were made
pub record NeighboursCall (ts vs zs : List ℕ) (k : ℕ) (hs rs : List ℕ) (a : Result Unit Refusal) (hs' rs' : List ℕ) : Type 0 where
  pub lifetimes : Lfts 4
  pub minutes_at : Place
  pub values_at : Place
  pub points_at : Place
  pub bandwidths_at : Place
  pub rows_at : Place
  pub ensured :
      neighbours.Post lifetimes
      (readings minutes_at values_at ts vs, (lent points_at zs, (k, (lent_mut bandwidths_at hs, (lent_mut rows_at rs, tt))))) a
      (readings minutes_at values_at ts vs, (lent points_at zs, (k, (lent_mut bandwidths_at hs', (lent_mut rows_at rs', tt)))))

pub record ExportedNeighbours (ts vs zs : List ℕ) (k : ℕ) (hs rs : List ℕ) (c : ℕ) (hs' rs' : List ℕ) : Type 0 where
  pub lifetimes : Lfts 5
  pub minutes_at : Place
  pub values_at : Place
  pub points_at : Place
  pub bandwidths_at : Place
  pub rows_at : Place
  pub ensured :
      exported_neighbours.Post lifetimes
      (lent minutes_at ts, (lent values_at vs, (lent points_at zs, (k, (lent_mut bandwidths_at hs, (lent_mut rows_at rs, tt)))))) c
      (lent minutes_at ts, (lent values_at vs, (lent points_at zs, (k, (lent_mut bandwidths_at hs', (lent_mut rows_at rs', tt))))))

-- lengths and order of the lists, with so many numbers for the rows, in front of other conditions: 8, 6, 7, 4, 5
abbrev pub list_conditions : List ℕ → List ℕ → List ℕ → List ℕ → ℕ → Conditions → Conditions
list_conditions ts vs zs hs rows later =
    curve_size_conditions full ts vs zs hs (rows ≡ row_width * length zs) (order_conditions ts zs later)

-- then 14
abbrev pub neighbours_conditions : List ℕ → List ℕ → List ℕ → ℕ → List ℕ → ℕ → Conditions
neighbours_conditions ts vs zs k hs rows = list_conditions ts vs zs hs rows (condition 14 (AtZero ((k ≡ 0) ⊎ (length ts < k))) no_more)

-- what an accepted call leaves
pub record FilledIn (ts vs zs : List ℕ) (k : ℕ) (hs' rs' : List ℕ) : Type 0 where
  -- a half width a mark, 1 more than the one d for which fewer than k readings are nearer and at least k no further
  pub bandwidths_length : length hs' ≡ length zs
  pub some_kth : (i : ℕ) → i < length zs → (d : ℕ) × (Kth ts (get_or zs i 0) k d × (get_or hs' i 0 ≡ d + 1))
  pub each_kth : (i : ℕ) → i < length zs → (d : ℕ) → Kth ts (get_or zs i 0) k d → get_or hs' i 0 ≡ d + 1
  -- a row a mark, the published one of that half width
  pub rows_length : length rs' ≡ row_width * length zs
  pub published : (i : ℕ) → i < length zs → PublishedRow ts vs (get_or zs i 0) (get_or hs' i 0) (stored_row rs' i)
  -- with a value, which lies between those of the readings with a weight
  pub weighs : (i : ℕ) → i < length zs → 0 < (stored_row rs' i).weight
  pub present : (i : ℕ) → i < length zs → (stored_row rs' i).value ≤ max_u16
  pub among : (i : ℕ) → i < length zs → Among ts vs (get_or zs i 0) (get_or hs' i 0) (stored_row rs' i)
  -- no half width is out of range, and no edge goes back
  pub in_range : (p : ℕ) → p < length hs' → ¬ OutOfRange max_bandwidth (get_or hs' p 0)
  pub no_edge_back : (p : ℕ) → ¬ EdgeFallsAt zs hs' p
  -- a sweep with these half widths and room for its rows is accepted and leaves these rows, that of the exported call too
  pub sweep_same : (rs : List ℕ) (b : Result ℕ Refusal) (rs'' : List ℕ) → length rs ≡ row_width * length zs → SmoothCall ts vs zs hs' rs b rs''
      → ((n : ℕ) × (b ≡ Ok n)) × (rs'' ≡ rs')
  pub exported_sweep_same : (rs : List ℕ) (c : ℕ) (rs'' : List ℕ) → length rs ≡ row_width * length zs → ExportedSmooth ts vs zs hs' rs c rs''
      → (code_refusal c ≡ None) × (rs'' ≡ rs')

-- every input is taken, each call ends, and nothing is left for the caller to check
pub record EveryNeighboursTaken : Type 2 where
  pub ends : {M : Type 1} → neighbours_code.statement M
  pub asks_nothing : (κs : Lfts 4) (a : Dens κs neighbours_kinds.ps) → neighbours.Asked κs a
  pub exported_ends : {M : Type 1} → exported_neighbours_code.statement M
  pub exported_asks_nothing : (κs : Lfts 5) (a : Dens κs exported_neighbours_kinds.ps) → exported_neighbours.Asked κs a

pub record ByNeighbours : Type 0 where
  -- refused exactly for the first report whose condition holds; then both lists stay
  pub refused : (ts vs zs : List ℕ) (k : ℕ) (hs rs : List ℕ) (a : Result Unit Refusal) (hs' rs' : List ℕ) → NeighboursCall ts vs zs k hs rs a hs' rs'
      → RefusedAndStays (refusal (answer_of a)) (FirstFault (neighbours_conditions ts vs zs k hs (length rs))) ((hs' ≡ hs) × (rs' ≡ rs))
  pub exported_refused : (ts vs zs : List ℕ) (k : ℕ) (hs rs : List ℕ) (c : ℕ) (hs' rs' : List ℕ) → ExportedNeighbours ts vs zs k hs rs c hs' rs'
      → RefusedAndStays (code_refusal c) (FirstFault (neighbours_conditions ts vs zs k hs (length rs))) ((hs' ≡ hs) × (rs' ≡ rs))
  -- lists that pass 8, 6, 7, 4 and 5 are refused, with 14 at 0, exactly if a mark has no k-th distance, and then none has
  pub refused_without_kth : (ts vs zs : List ℕ) (k : ℕ) (hs rs : List ℕ) (a : Result Unit Refusal) (hs' rs' : List ℕ)
      → NeighboursCall ts vs zs k hs rs a hs' rs'
      → NoFault (list_conditions ts vs zs hs (length rs) no_more) → (z : ℕ)
      → ((refusal (answer_of a) ≡ Some (record { number = 14; place = 0 })) ↔ ((d : ℕ) → ¬ Kth ts z k d))
      × ((refusal (answer_of a) ≡ None) ↔ ((d : ℕ) × Kth ts z k d))
  pub exported_refused_without_kth : (ts vs zs : List ℕ) (k : ℕ) (hs rs : List ℕ) (c : ℕ) (hs' rs' : List ℕ)
      → ExportedNeighbours ts vs zs k hs rs c hs' rs' → NoFault (list_conditions ts vs zs hs (length rs) no_more) → (z : ℕ)
      → ((code_refusal c ≡ Some (record { number = 14; place = 0 })) ↔ ((d : ℕ) → ¬ Kth ts z k d))
      × ((code_refusal c ≡ None) ↔ ((d : ℕ) × Kth ts z k d))
  -- without readings no mark has one, whatever k is
  pub none_without_readings : (ts : List ℕ) → length ts ≡ 0 → (z k d : ℕ) → ¬ Kth ts z k d
  -- accepted, both lists are filled in; lists have 16 bits as their types say
  pub filled_in : (ts vs zs : List ℕ) (k : ℕ) (hs rs hs' rs' : List ℕ) → AtMost max_u16 ts → AtMost max_u16 vs → AtMost max_u16 zs
      → NeighboursCall ts vs zs k hs rs (Ok tt) hs' rs' → FilledIn ts vs zs k hs' rs'
  pub exported_filled_in : (ts vs zs : List ℕ) (k : ℕ) (hs rs : List ℕ) (c : ℕ) (hs' rs' : List ℕ) → AtMost max_u16 ts → AtMost max_u16 vs
      → AtMost max_u16 zs → ExportedNeighbours ts vs zs k hs rs c hs' rs' → code_refusal c ≡ None → (c ≡ 0) × FilledIn ts vs zs k hs' rs'
  -- readings in any order: no half width of a mark is out of range, and with marks in order no edge goes back
  pub in_range : (ts zs : List ℕ) (k : ℕ) → AtMost max_u16 ts → AtMost max_u16 zs → 1 ≤ k → k ≤ length ts → (p : ℕ) → p < length zs
      → ¬ OutOfRange max_bandwidth (get_or (neighbour_bandwidths ts zs k) p 0)
  pub no_edge_back : (ts zs : List ℕ) (k : ℕ) → 1 ≤ k → k ≤ length ts → Ordered zs → (p : ℕ) → ¬ EdgeFallsAt zs (neighbour_bandwidths ts zs k) p
  -- so no sweep with such half widths is refused with 9 or 10, whatever else its lists are
  pub never_nine_or_ten : (ts vs zs : List ℕ) (k : ℕ) (rs : List ℕ) (b : Result ℕ Refusal) (rs' : List ℕ) → AtMost max_u16 ts → AtMost max_u16 zs → 1 ≤ k
      → k ≤ length ts → Ordered zs → SmoothCall ts vs zs (neighbour_bandwidths ts zs k) rs b rs' → (e : Fault) → refusal (answer_of b) ≡ Some e
      → ¬ (e.number ≡ 9) × ¬ (e.number ≡ 10)
  -- values that change places among equal minutes change neither answer nor half widths nor rows
  pub alike : (ts vs vs' zs : List ℕ) (k : ℕ) (hs rs : List ℕ) (a b : Result Unit Refusal) (hs₁ rs₁ hs₂ rs₂ : List ℕ) → Rearranged ts vs vs'
      → NeighboursCall ts vs zs k hs rs a hs₁ rs₁ → NeighboursCall ts vs' zs k hs rs b hs₂ rs₂
      → (answer_of a ≡ answer_of b) × (hs₁ ≡ hs₂) × (rs₁ ≡ rs₂)
  pub exported_alike : (ts vs vs' zs : List ℕ) (k : ℕ) (hs rs : List ℕ) (c d : ℕ) (hs₁ rs₁ hs₂ rs₂ : List ℕ) → Rearranged ts vs vs'
      → ExportedNeighbours ts vs zs k hs rs c hs₁ rs₁ → ExportedNeighbours ts vs' zs k hs rs d hs₂ rs₂
      → (c ≡ d) × (hs₁ ≡ hs₂) × (rs₁ ≡ rs₂)
  -- worked cases, accepted ones and each report
  pub cases : map (λ (c : NeighboursCase). neighbours_result c) neighbours_cases ≡ map (λ (c : NeighboursCase). c.expected) neighbours_cases
