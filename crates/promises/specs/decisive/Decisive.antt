-- What is promised of the reading that decides, of the calls as a caller has them: by the published rows of the lists with and without a reading,
-- and by what the question at one mark answers when it is asked again without it. SPECIFICATION, "Questions with a limit".
-- ts are minutes, vs values, z a mark and h its half width.
use Rattle.std.specs.Prelude.{ℕ, ◌+◌, ◌-◌, ◌*◌, ◌≤◌, ◌<◌, ◌≡◌, ◌↔◌, ◌⊎◌, List, length, get_or}
use Rattle.std.specs.Prelude.{Result, Ok, Err}
use Rattle.meanings.specs.declared.Refusal.{Refusal}
use Rattle.meanings.specs.Calls.{answer_of}
use Rattle.std.specs.Prelude.{Option, None, Some}
use contract.Lifetimes.{Lfts}
use borrow.Fn.Kinds.{Dens}
use Rattle.meanings.specs.declared.Estimate.{Estimate}
use Rattle.meanings.specs.Limits.{max_u16, row_width}
use Rattle.meanings.specs.Lists.{distance, AtMost}
use Rattle.meanings.specs.PublishedRow.{PublishedRow}
use Rattle.meanings.specs.Reports.{Fault, given}
use Rattle.meanings.specs.Estimate.{missing, fields}
use Rattle.meanings.specs.Claim.{refusal}
use Rattle.meanings.specs.decisive.Decisive.{Removed}
use Rattle.laws.specs.rows.Weighted.{Weighs}
use Rattle.laws.specs.rows.AmongReadings.{weight_at}
use Rattle.exports.specs.Positions.{position_of}
use Rattle.questions.proofs.decisive.decisive_sample.Reads as decisive_sample
use Rattle.questions.proofs.decisive.decisive_sample.Kinds as decisive_sample_kinds
use Rattle.questions.proofs.decisive.decisive_sample.Statement as decisive_sample_code
use Rattle.exports.proofs.decisive.tankcurve_decisive.Reads as exported_decisive
use Rattle.exports.proofs.decisive.tankcurve_decisive.Kinds as exported_decisive_kinds
use Rattle.exports.proofs.decisive.tankcurve_decisive.Statement as exported_decisive_code
use Rattle.promises.specs.Calls.{Place, lent, lent_mut, readings, mark, EvaluateCall, ExportedEvaluate}
use Rattle.promises.specs.conditions.Conditions.{RefusedExactly, FirstFault, evaluate_conditions, length_first, code_refusal}
use Rattle.promises.specs.Crossing.{LowEnough}

-- calls that were made
pub record DecisiveCall (ts vs : List ℕ) (z h limit : ℕ) (a : Result (Option ℕ) Refusal) : Type 0 where
  pub lifetimes : Lfts 1
  pub minutes_at : Place
  pub values_at : Place
  pub ensured :
      decisive_sample.Post lifetimes (readings minutes_at values_at ts vs, (mark z h, (limit, tt))) a
      (readings minutes_at values_at ts vs, (mark z h, (limit, tt)))

pub record ExportedDecisive (ts vs : List ℕ) (z h limit : ℕ) (xs : List ℕ) (c : ℕ) (xs' : List ℕ) : Type 0 where
  pub lifetimes : Lfts 3
  pub minutes_at : Place
  pub values_at : Place
  pub position_at : Place
  pub ensured :
      exported_decisive.Post lifetimes (lent minutes_at ts, (lent values_at vs, (z, (h, (limit, (lent_mut position_at xs, tt)))))) c
      (lent minutes_at ts, (lent values_at vs, (z, (h, (limit, (lent_mut position_at xs', tt))))))

-- both lists without reading i
pub record Without (i : ℕ) (ts vs ts' vs' : List ℕ) : Type 0 where
  pub minutes : Removed i ts ts'
  pub values : Removed i vs vs'

-- of two rows one is low enough and the other is not; both are, or neither
abbrev pub Changes : ℕ → Estimate → Estimate → Type 0
Changes limit e e' = (LowEnough limit e × (¬ LowEnough limit e')) ⊎ ((¬ LowEnough limit e) × LowEnough limit e')

abbrev pub Stays : ℕ → Estimate → Estimate → Type 0
Stays limit e e' = (LowEnough limit e × LowEnough limit e') ⊎ ((¬ LowEnough limit e) × (¬ LowEnough limit e'))

-- so it is with the published row, and that of the lists without reading i
abbrev pub WithPublished : (Estimate → Estimate → Type 0) → List ℕ → List ℕ → ℕ → ℕ → ℕ → Type 0
WithPublished R ts vs z h i =
    (ts' vs' : List ℕ) → Without i ts vs ts' vs' → (e e' : Estimate) → PublishedRow ts vs z h e → PublishedRow ts' vs' z h e' → R e e'

abbrev pub RemovalChanges : List ℕ → List ℕ → ℕ → ℕ → ℕ → ℕ → Type 0
RemovalChanges ts vs z h limit i = WithPublished (Changes limit) ts vs z h i

abbrev pub RemovalKeeps : List ℕ → List ℕ → ℕ → ℕ → ℕ → ℕ → Type 0
RemovalKeeps ts vs z h limit i = WithPublished (Stays limit) ts vs z h i

-- reading j stands before the answer: before the named one; where none is named, anywhere
abbrev pub BeforeAnswer : Result (Option ℕ) Refusal → ℕ → Type 0
BeforeAnswer (Ok (Some i)) j = j < i
BeforeAnswer (Ok None) j = Unit
BeforeAnswer (Err r) j = ⊥

-- the question asked twice is answered twice, with rows of which R holds
pub record BothRows (R : Estimate → Estimate → Type 0) (a b : Result Estimate Refusal) : Type 0 where
  pub whole : Estimate
  pub rest : Estimate
  pub whole_is : a ≡ Ok whole
  pub rest_is : b ≡ Ok rest
  pub holds : R whole rest

-- the same of the calls for C and Rust: both are accepted and leave the numbers of such rows
pub record BothLists (R : Estimate → Estimate → Type 0) (c : ℕ) (row : List ℕ) (c' : ℕ) (row' : List ℕ) : Type 0 where
  pub whole : Estimate
  pub rest : Estimate
  pub accepted : c ≡ 0
  pub accepted_again : c' ≡ 0
  pub whole_is : row ≡ fields whole
  pub rest_is : row' ≡ fields rest
  pub holds : R whole rest

-- what reading i takes with it: (h − d)(h + d) for its distance d from the mark
abbrev pub share : List ℕ → ℕ → ℕ → ℕ → ℕ
share ts z h i = (h - distance (get_or ts i 0) z) * (h + distance (get_or ts i 0) z)

-- the row without a reading of the run
pub record LessItsShare (ts vs : List ℕ) (z h i : ℕ) (e e' : Estimate) : Type 0 where
  pub near : distance (get_or ts i 0) z ≤ h
  pub weight_is : e'.weight + share ts z h i ≡ e.weight
  pub sum_is : e'.sum + share ts z h i * get_or vs i 0 ≡ e.sum

-- the row without another one; left and right are not spoken of
pub record SameSums (e e' : Estimate) : Type 0 where
  pub weight_is : e'.weight ≡ e.weight
  pub sum_is : e'.sum ≡ e.sum
  pub value_is : e'.value ≡ e.value

-- every input is taken, each call ends, and nothing is left for the caller to check
pub record EveryDecisiveTaken : Type 2 where
  pub decisive_ends : {M : Type 1} → decisive_sample_code.statement M
  pub decisive_asks_nothing : (κs : Lfts 1) (a : Dens κs decisive_sample_kinds.ps) → decisive_sample.Asked κs a
  pub exported_ends : {M : Type 1} → exported_decisive_code.statement M
  pub exported_asks_nothing : (κs : Lfts 3) (a : Dens κs exported_decisive_kinds.ps) → exported_decisive.Asked κs a

pub record DecisiveReadings : Type 0 where
  -- refused under the conditions of the question at one mark, and as it is
  pub refused : (ts vs : List ℕ) (z h limit : ℕ) (a : Result (Option ℕ) Refusal) → DecisiveCall ts vs z h limit a
      → RefusedExactly (refusal (answer_of a)) (FirstFault (evaluate_conditions ts vs h))
  pub refused_alike : (ts vs : List ℕ) (z h limit : ℕ) (a : Result (Option ℕ) Refusal) (b : Result Estimate Refusal) → DecisiveCall ts vs z h limit a
      → EvaluateCall ts vs z h b
      → refusal (answer_of a) ≡ refusal (answer_of b)
  -- without the named reading the row is low enough where it was not, or is not where it was; without a lower one it is as it was
  pub named : (ts vs : List ℕ) (z h limit i : ℕ) → AtMost max_u16 vs → DecisiveCall ts vs z h limit (Ok (Some i))
      → (i < length ts) × RemovalChanges ts vs z h limit i × ((j : ℕ) → j < i → RemovalKeeps ts vs z h limit j)
  -- none is said exactly if no removal does
  pub none_exactly : (ts vs : List ℕ) (z h limit : ℕ) (a : Result (Option ℕ) Refusal) → AtMost max_u16 vs → DecisiveCall ts vs z h limit a
      → refusal (answer_of a) ≡ None → (a ≡ (Ok None)) ↔ ((j : ℕ) → j < length ts → RemovalKeeps ts vs z h limit j)
  -- lists that the question accepts it accepts without any one reading
  pub still_accepted : (ts vs : List ℕ) (z h i : ℕ) (e : Estimate) (ts' vs' : List ℕ) (b : Result Estimate Refusal) → EvaluateCall ts vs z h (Ok e)
      → Without i ts vs ts' vs' → EvaluateCall ts' vs' z h b → (e' : Estimate) × (b ≡ Ok e')
  -- so it can be asked again: without the named reading it has the other answer, without one before the answer the same
  pub asked_again : (ts vs : List ℕ) (z h limit i : ℕ) (ts' vs' : List ℕ) (a b : Result Estimate Refusal) → DecisiveCall ts vs z h limit (Ok (Some i))
      → Without i ts vs ts' vs' → EvaluateCall ts vs z h a → EvaluateCall ts' vs' z h b → BothRows (Changes limit) a b
  pub others_asked_again : (ts vs : List ℕ) (z h limit : ℕ) (d : Result (Option ℕ) Refusal) (j : ℕ) (ts' vs' : List ℕ) (a b : Result Estimate Refusal)
      → DecisiveCall ts vs z h limit d → BeforeAnswer d j → Without j ts vs ts' vs' → EvaluateCall ts vs z h a → EvaluateCall ts' vs' z h b
      → BothRows (Stays limit) a b
  -- weight and sum without a reading of the run are less by its share; without another one they stay
  pub of_the_run : (ts vs : List ℕ) (z h i : ℕ) (ts' vs' : List ℕ) (e e' : Estimate) → EvaluateCall ts vs z h (Ok e) → Without i ts vs ts' vs'
      → EvaluateCall ts' vs' z h (Ok e') → e.left ≤ i → i < e.right → LessItsShare ts vs z h i e e'
  pub outside_the_run : (ts vs : List ℕ) (z h i : ℕ) (ts' vs' : List ℕ) (e e' : Estimate) → EvaluateCall ts vs z h (Ok e)
      → Without i ts vs ts' vs' → EvaluateCall ts' vs' z h (Ok e') → ¬ ((e.left ≤ i) × (i < e.right)) → SameSums e e'
  -- only a reading with a weight above zero is named, which is one nearer to the mark than the half width
  pub named_has_weight : (ts vs : List ℕ) (z h limit i : ℕ) → DecisiveCall ts vs z h limit (Ok (Some i))
      → Weighs (weight_at ts z h) (length ts) i × (distance (get_or ts i 0) z < h)
  -- where the value is missing none is
  pub missing_names_none : (ts vs : List ℕ) (z h limit : ℕ) (a : Result (Option ℕ) Refusal) (e : Estimate) → AtMost max_u16 vs → DecisiveCall ts vs z h limit a
      → EvaluateCall ts vs z h (Ok e) → e.value ≡ missing → a ≡ (Ok None)
  -- the call for C and Rust is refused likewise, after the length of its list, which then stays
  pub exported_refused : (ts vs : List ℕ) (z h limit : ℕ) (xs : List ℕ) (c : ℕ) (xs' : List ℕ) → ExportedDecisive ts vs z h limit xs c xs'
      → RefusedExactly (code_refusal c) (FirstFault (length_first 1 xs (evaluate_conditions ts vs h)))
      × ((e : Fault) → code_refusal c ≡ Some e → xs' ≡ xs)
  -- accepted, it answers 0, and its one number is read back as position or none
  pub exported_tells : (ts vs : List ℕ) (z h limit : ℕ) (xs : List ℕ) (c : ℕ) (xs' : List ℕ) (a : Result (Option ℕ) Refusal)
      → ExportedDecisive ts vs z h limit xs c xs' → DecisiveCall ts vs z h limit a → code_refusal c ≡ None
      → (o : Option ℕ) × ((answer_of a ≡ given o) × (c ≡ 0) × (length xs' ≡ 1) × (position_of (get_or xs' 0 0) ≡ o))
  -- without the reading that it names the exported question has the other answer
  pub exported_asked_again : (ts vs : List ℕ) (z h limit i : ℕ) (xs : List ℕ) (c : ℕ) (xs' ts' vs' row : List ℕ) (c₁ : ℕ) (row₁ row' : List ℕ) (c₂ : ℕ)
      (row₂ : List ℕ) → ExportedDecisive ts vs z h limit xs c xs' → code_refusal c ≡ None → position_of (get_or xs' 0 0) ≡ Some i
      → Without i ts vs ts' vs' → length row ≡ row_width → length row' ≡ row_width → ExportedEvaluate ts vs z h row c₁ row₁
      → ExportedEvaluate ts' vs' z h row' c₂ row₂ → BothLists (Changes limit) c₁ row₁ c₂ row₂
