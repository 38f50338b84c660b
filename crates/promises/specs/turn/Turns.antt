-- What is promised of the turn, of the calls as a caller has them: of the call on a lent record, of the call by value, which lends a record of its own
-- to the first, and of the call for C and Rust. SPECIFICATION, "The turn".
use Rattle.std.specs.Prelude.{ℕ, ◌+◌, ◌≡◌, List, [], ◌∷◌, length}
use Rattle.std.specs.Prelude.{Result, Ok}
use Rattle.meanings.specs.declared.Refusal.{Refusal}
use Rattle.meanings.specs.Calls.{answer_of}
use Rattle.std.specs.Prelude.{None, Some}
use contract.Lifetimes.{Lfts}
use borrow.Fn.Kinds.{Dens}
use Rattle.meanings.specs.declared.Estimate.{Estimate}
use Rattle.meanings.specs.declared.RunningSums.{RunningSums}
use Rattle.meanings.specs.declared.Turning.{Turning}
use Rattle.meanings.specs.Claim.{NoEdgeBackAfter, accepted_after, window_direct, log_after_steps, refusal}
use Rattle.meanings.specs.EventLog.{insertion_count, eviction_count}
use Rattle.meanings.specs.Limits.{full, max_u16, row_width}
use Rattle.meanings.specs.Lists.{AtMost}
use Rattle.meanings.specs.Moves.{Move}
use Rattle.meanings.specs.Reports.{verdict_fault}
use Rattle.meanings.specs.Running.{fresh, moved, passes}
use Rattle.meanings.specs.Turn.{Motion, step, turn, after_motions}
use Rattle.laws.specs.rows.AmongReadings.{Among}
use Rattle.laws.specs.rows.Rearranged.{Rearranged}
use Rattle.laws.specs.turn.Claims.{Direct, AlikeButPasses, OnWindow, CountedOnce}
use Rattle.meanings.specs.Estimate.{missing}
use Rattle.text.specs.Table.{stored_row}
use Rattle.exports.specs.Answers.{record_length, record_of}
use Rattle.regression.proofs.turn.turn.Statement as lent_turn_code
use Rattle.regression.proofs.turn.turn.Reads as lent_turn
use Rattle.regression.proofs.turn.turn.Kinds as lent_turn_kinds
use denote.Ref.{MutBor}
use Rattle.regression.proofs.turn.turn_own.Reads as turn_own
use Rattle.regression.proofs.turn.turn_own.Kinds as turn_own_kinds
use Rattle.regression.proofs.turn.turn_own.Statement as turn_own_code
use Rattle.exports.proofs.turn.tankcurve_turn.Reads as exported_turn
use Rattle.exports.proofs.turn.tankcurve_turn.Kinds as exported_turn_kinds
use Rattle.exports.proofs.turn.tankcurve_turn.Statement as exported_turn_code
use Rattle.promises.specs.Calls.{Place, lent, lent_mut, readings, mark}
use Rattle.promises.specs.Calls.{EvaluateCall, AdvanceCall, RecordRowCall, ExportedAdvance, ExportedEvaluate, ExportedRecordRow}
use Rattle.promises.specs.conditions.Conditions.{Conditions, FirstFault, no_more, series_conditions, record_conditions, bandwidth_conditions}
use Rattle.promises.specs.conditions.Conditions.{length_first, code_refusal}
use Rattle.promises.specs.Demands.{RefusedAndStays, held, Steps, OrderedSteps, ExportedSteps, zeros}

-- a call of the turn by value
pub record TurnCall (r : RunningSums) (ts vs : List ℕ) (z h : ℕ) (t : Turning) : Type 0 where
  pub lifetimes : Lfts 1
  pub minutes_at : Place
  pub values_at : Place
  pub ensured :
      turn_own.Post lifetimes (r, (readings minutes_at values_at ts vs, (mark z h, tt))) t
      (r, (readings minutes_at values_at ts vs, (mark z h, tt)))

-- a call of the turn on a lent record, which is r at entry and r' at exit
abbrev pub lent_record : Place → RunningSums → MutBor RunningSums
lent_record x r = record { ref_ptr = x.ref_ptr; ghost_name = x.ghost_name; now = r }

pub record LentTurnCall (r : RunningSums) (ts vs : List ℕ) (z h : ℕ) (a : Result Unit Refusal)
    (r' : RunningSums) : Type 0 where
  pub lifetimes : Lfts 2
  pub running_at : Place
  pub minutes_at : Place
  pub values_at : Place
  pub ensured :
      lent_turn.Post lifetimes (lent_record running_at r, (readings minutes_at values_at ts vs, (mark z h, tt))) a
      (lent_record running_at r', (readings minutes_at values_at ts vs, (mark z h, tt)))

-- a call for C and Rust, on a lent list xs of numbers that is xs' at exit
pub record ExportedTurn (xs ts vs : List ℕ) (z h c : ℕ) (xs' : List ℕ) : Type 0 where
  pub lifetimes : Lfts 3
  pub running_at : Place
  pub minutes_at : Place
  pub values_at : Place
  pub ensured :
      exported_turn.Post lifetimes (lent_mut running_at xs, (lent minutes_at ts, (lent values_at vs, (z, (h, tt))))) c
      (lent_mut running_at xs', (lent minutes_at ts, (lent values_at vs, (z, (h, tt)))))

-- the turn of a record with these edges is refused for: 8, 6, 4, 11, 9
abbrev pub turn_conditions : List ℕ → List ℕ → ℕ → ℕ → ℕ → Conditions
turn_conditions ts vs left right h = series_conditions full ts vs (record_conditions (length ts) left right (bandwidth_conditions h no_more))

-- calls of the step and the turn over the same readings, each with the record held after the one before: from the record r to r'
pub data Motions (ts vs : List ℕ) : RunningSums → List Motion → RunningSums → Type 0 where
  no_motion : {r : RunningSums} → Motions ts vs r [] r
  one_step : {r r' : RunningSums} {ms : List Motion} (m : Move) (a : Result RunningSums Refusal) → AdvanceCall r ts vs m.point m.bandwidth a
      → Motions ts vs (held r a) ms r' → Motions ts vs r (step m ∷ ms) r'
  one_turn : {r r' : RunningSums} {ms : List Motion} (m : Move) (t : Turning) → TurnCall r ts vs m.point m.bandwidth t
      → Motions ts vs t.running ms r' → Motions ts vs r (turn m ∷ ms) r'

-- the same with turns of the one record that the caller holds and lends
pub data LentMotions (ts vs : List ℕ) : RunningSums → List Motion → RunningSums → Type 0 where
  no_motion : {r : RunningSums} → LentMotions ts vs r [] r
  one_step : {r r' : RunningSums} {ms : List Motion} (m : Move) (a : Result RunningSums Refusal) → AdvanceCall r ts vs m.point m.bandwidth a
      → LentMotions ts vs (held r a) ms r' → LentMotions ts vs r (step m ∷ ms) r'
  one_turn : {r r' r'' : RunningSums} {ms : List Motion} (m : Move) (a : Result Unit Refusal) → LentTurnCall r ts vs m.point m.bandwidth a r'
      → LentMotions ts vs r' ms r'' → LentMotions ts vs r (turn m ∷ ms) r''

-- the same of the calls for C and Rust, over one lent list of nine numbers that nobody else writes
pub data ExportedMotions (ts vs : List ℕ) : List ℕ → List Motion → List ℕ → Type 0 where
  no_motion : {xs : List ℕ} → ExportedMotions ts vs xs [] xs
  one_step : {xs xs' xs'' : List ℕ} {ms : List Motion} (m : Move) (c : ℕ) → ExportedAdvance xs ts vs m.point m.bandwidth c xs'
      → ExportedMotions ts vs xs' ms xs'' → ExportedMotions ts vs xs (step m ∷ ms) xs''
  one_turn : {xs xs' xs'' : List ℕ} {ms : List Motion} (m : Move) (c : ℕ) → ExportedTurn xs ts vs m.point m.bandwidth c xs'
      → ExportedMotions ts vs xs' ms xs'' → ExportedMotions ts vs xs (turn m ∷ ms) xs''

-- every input is taken, and the calls come to an end
pub record EveryTurnTaken : Type 2 where
  pub lent_turn_ends : {M : Type 1} → lent_turn_code.statement M
  pub lent_turn_asks_nothing : (κs : Lfts 2) (a : Dens κs lent_turn_kinds.ps) → lent_turn.Asked κs a
  pub turn_own_ends : {M : Type 1} → turn_own_code.statement M
  pub turn_own_asks_nothing : (κs : Lfts 1) (a : Dens κs turn_own_kinds.ps) → turn_own.Asked κs a
  pub exported_turn_ends : {M : Type 1} → exported_turn_code.statement M
  pub exported_turn_asks_nothing : (κs : Lfts 3) (a : Dens κs exported_turn_kinds.ps) → exported_turn.Asked κs a

pub record Turns : Type 0 where
  -- a call on a lent record tells and leaves what the call by value does
  pub lent_turn_alike : (r : RunningSums) (ts vs : List ℕ) (z h : ℕ) (a : Result Unit Refusal) (r' : RunningSums)
      (t : Turning) → LentTurnCall r ts vs z h a r' → TurnCall r ts vs z h t
      → (verdict_fault a ≡ verdict_fault t.verdict) × (r' ≡ t.running)
  -- refused exactly for the first report whose condition holds; then the record stays
  pub turn_refused : (r : RunningSums) (ts vs : List ℕ) (z h : ℕ) (t : Turning) → TurnCall r ts vs z h t
      → RefusedAndStays (verdict_fault t.verdict) (FirstFault (turn_conditions ts vs r.left r.right h)) (t.running ≡ r)
  pub lent_turn_refused : (r : RunningSums) (ts vs : List ℕ) (z h : ℕ) (a : Result Unit Refusal) (r' : RunningSums) → LentTurnCall r ts vs z h a r'
      → RefusedAndStays (verdict_fault a) (FirstFault (turn_conditions ts vs r.left r.right h)) (r' ≡ r)
  pub exported_turn_refused : (xs ts vs : List ℕ) (z h c : ℕ) (xs' : List ℕ) → ExportedTurn xs ts vs z h c xs'
      → RefusedAndStays (code_refusal c)
      (FirstFault (length_first record_length xs (turn_conditions ts vs (record_of xs).left (record_of xs).right h))) (xs' ≡ xs)
  -- calls leave what the meanings leave, from a record of any origin
  pub motions_leave : (ts vs : List ℕ) (r r' : RunningSums) (ms : List Motion) → Motions ts vs r ms r' → r' ≡ after_motions ts vs r ms
  pub lent_motions_leave : (ts vs : List ℕ) (r r' : RunningSums) (ms : List Motion) → LentMotions ts vs r ms r' → r' ≡ after_motions ts vs r ms
  pub exported_motions_leave : (ts vs xs xs' : List ℕ) (ms : List Motion) → length xs ≡ record_length → ExportedMotions ts vs xs ms xs'
      → (length xs' ≡ record_length) × (record_of xs' ≡ after_motions ts vs (record_of xs) ms)
  -- after steps and turns from fresh over readings of 16 bits, in any order and refused ones included: the run lies within the readings, and the
  -- sums are direct sums over it
  pub reached_direct : (ts vs : List ℕ) (r : RunningSums) (ms : List Motion) → AtMost max_u16 ts → AtMost max_u16 vs → Motions ts vs fresh ms r
      → Direct ts vs r
  pub lent_reached_direct : (ts vs : List ℕ) (r : RunningSums) (ms : List Motion) → AtMost max_u16 ts → AtMost max_u16 vs → LentMotions ts vs fresh ms r
      → Direct ts vs r
  pub exported_reached_direct : (ts vs xs : List ℕ) (ms : List Motion) → AtMost max_u16 ts → AtMost max_u16 vs → ExportedMotions ts vs zeros ms xs
      → Direct ts vs (record_of xs)
  -- an accepted turn of such a record stands on its window with the sums over it, as a fresh record does that is moved there; passes aside
  pub turn_lands : (ts vs : List ℕ) (r : RunningSums) (ms : List Motion) (z h : ℕ) (t : Turning) → AtMost max_u16 ts → AtMost max_u16 vs
      → Motions ts vs fresh ms r → TurnCall r ts vs z h t → verdict_fault t.verdict ≡ None
      → OnWindow ts vs z h t.running × AlikeButPasses t.running (moved ts vs fresh z h)
  pub lent_turn_lands : (ts vs : List ℕ) (r : RunningSums) (ms : List Motion) (z h : ℕ) (a : Result Unit Refusal) (r' : RunningSums) → AtMost max_u16 ts
      → AtMost max_u16 vs → LentMotions ts vs fresh ms r → LentTurnCall r ts vs z h a r' → verdict_fault a ≡ None
      → OnWindow ts vs z h r' × AlikeButPasses r' (moved ts vs fresh z h)
  pub exported_turn_lands : (ts vs xs : List ℕ) (ms : List Motion) (z h c : ℕ) (xs' : List ℕ) → AtMost max_u16 ts → AtMost max_u16 vs
      → ExportedMotions ts vs zeros ms xs → ExportedTurn xs ts vs z h c xs' → code_refusal c ≡ None
      → OnWindow ts vs z h (record_of xs') × AlikeButPasses (record_of xs') (moved ts vs fresh z h)
  -- and its row at that mark is the row of the question there
  pub turn_row : (ts vs : List ℕ) (r : RunningSums) (ms : List Motion) (z h : ℕ) (t : Turning) (a : Result Estimate Refusal) (e : Estimate) → AtMost max_u16 ts
      → AtMost max_u16 vs → Motions ts vs fresh ms r → TurnCall r ts vs z h t → verdict_fault t.verdict ≡ None → EvaluateCall ts vs z h a
      → RecordRowCall t.running z h e → a ≡ Ok e
  pub lent_turn_row : (ts vs : List ℕ) (r : RunningSums) (ms : List Motion) (z h : ℕ) (t : Result Unit Refusal) (r' : RunningSums)
      (a : Result Estimate Refusal) (e : Estimate) → AtMost max_u16 ts → AtMost max_u16 vs → LentMotions ts vs fresh ms r → LentTurnCall r ts vs z h t r'
      → verdict_fault t ≡ None → EvaluateCall ts vs z h a → RecordRowCall r' z h e → a ≡ Ok e
  pub exported_turn_row : (ts vs xs : List ℕ) (ms : List Motion) (z h c₀ : ℕ) (xs' row₁ : List ℕ) (c₁ : ℕ) (row₁' row : List ℕ) (c : ℕ) (row' : List ℕ)
      → AtMost max_u16 ts → AtMost max_u16 vs → ExportedMotions ts vs zeros ms xs → ExportedTurn xs ts vs z h c₀ xs' → code_refusal c₀ ≡ None
      → length row₁ ≡ row_width → length row ≡ row_width → ExportedEvaluate ts vs z h row₁ c₁ row₁' → ExportedRecordRow xs' z h row c row'
      → (c₁ ≡ 0) × (c ≡ 0) × (row' ≡ row₁')
  -- a present value in that row lies between the lowest and the highest value of the readings with a weight above zero
  pub turn_row_among : (ts vs : List ℕ) (r : RunningSums) (ms : List Motion) (z h : ℕ) (t : Turning) (e : Estimate) → AtMost max_u16 ts → AtMost max_u16 vs
      → Motions ts vs fresh ms r → TurnCall r ts vs z h t → verdict_fault t.verdict ≡ None → RecordRowCall t.running z h e → ¬ (e.value ≡ missing)
      → Among ts vs z h e
  pub lent_turn_row_among : (ts vs : List ℕ) (r : RunningSums) (ms : List Motion) (z h : ℕ) (a : Result Unit Refusal) (r' : RunningSums) (e : Estimate)
      → AtMost max_u16 ts → AtMost max_u16 vs → LentMotions ts vs fresh ms r → LentTurnCall r ts vs z h a r' → verdict_fault a ≡ None
      → RecordRowCall r' z h e → ¬ (e.value ≡ missing) → Among ts vs z h e
  pub exported_turn_row_among : (ts vs xs : List ℕ) (ms : List Motion) (z h c₀ : ℕ) (xs' row : List ℕ) (c : ℕ) (row' : List ℕ) → AtMost max_u16 ts
      → AtMost max_u16 vs → ExportedMotions ts vs zeros ms xs → ExportedTurn xs ts vs z h c₀ xs' → code_refusal c₀ ≡ None
      → ExportedRecordRow xs' z h row c row' → code_refusal c ≡ None → ¬ ((stored_row row' 0).value ≡ missing) → Among ts vs z h (stored_row row' 0)
  -- and readings of equal minute may change places without changing it
  pub turn_row_alike : (ts vs vs' : List ℕ) (r s : RunningSums) (ms ns : List Motion) (z h : ℕ) (t u : Turning) (d e : Estimate) → Rearranged ts vs vs'
      → AtMost max_u16 ts → AtMost max_u16 vs → AtMost max_u16 vs' → Motions ts vs fresh ms r → Motions ts vs' fresh ns s → TurnCall r ts vs z h t
      → TurnCall s ts vs' z h u → verdict_fault t.verdict ≡ None → verdict_fault u.verdict ≡ None → RecordRowCall t.running z h d
      → RecordRowCall u.running z h e → d ≡ e
  pub lent_turn_row_alike : (ts vs vs' : List ℕ) (r s : RunningSums) (ms ns : List Motion) (z h : ℕ) (a b : Result Unit Refusal) (r' s' : RunningSums)
      (d e : Estimate) → Rearranged ts vs vs' → AtMost max_u16 ts → AtMost max_u16 vs → AtMost max_u16 vs' → LentMotions ts vs fresh ms r
      → LentMotions ts vs' fresh ns s → LentTurnCall r ts vs z h a r' → LentTurnCall s ts vs' z h b s' → verdict_fault a ≡ None → verdict_fault b ≡ None
      → RecordRowCall r' z h d → RecordRowCall s' z h e → d ≡ e
  pub exported_turn_row_alike : (ts vs vs' xs ys : List ℕ) (ms ns : List Motion) (z h a b : ℕ) (xs' ys' row : List ℕ) (c d : ℕ) (row₁ row₂ : List ℕ)
      → Rearranged ts vs vs' → AtMost max_u16 ts → AtMost max_u16 vs → AtMost max_u16 vs' → ExportedMotions ts vs zeros ms xs
      → ExportedMotions ts vs' zeros ns ys → ExportedTurn xs ts vs z h a xs' → ExportedTurn ys ts vs' z h b ys' → code_refusal a ≡ None
      → code_refusal b ≡ None → length row ≡ row_width → ExportedRecordRow xs' z h row c row₁ → ExportedRecordRow ys' z h row d row₂
      → (c ≡ d) × (row₁ ≡ row₂)
  -- an accepted turn of the nine numbers answers 0
  pub exported_turn_accepted : (xs ts vs : List ℕ) (z h c : ℕ) (xs' : List ℕ) → ExportedTurn xs ts vs z h c xs' → code_refusal c ≡ None → c ≡ 0
  -- passes influence nothing else: on records that differ in them alone the same call answers the same report, and leaves records that differ so
  pub step_ignores_passes : (r s : RunningSums) (ts vs : List ℕ) (z h : ℕ) (a b : Result RunningSums Refusal) → AlikeButPasses r s → AdvanceCall r ts vs z h a
      → AdvanceCall s ts vs z h b → (refusal (answer_of a) ≡ refusal (answer_of b)) × AlikeButPasses (held r a) (held s b)
  pub turn_ignores_passes : (r s : RunningSums) (ts vs : List ℕ) (z h : ℕ) (t u : Turning) → AlikeButPasses r s → TurnCall r ts vs z h t
      → TurnCall s ts vs z h u → (verdict_fault t.verdict ≡ verdict_fault u.verdict) × AlikeButPasses t.running u.running
  pub lent_turn_ignores_passes : (r s : RunningSums) (ts vs : List ℕ) (z h : ℕ) (a b : Result Unit Refusal) (r' s' : RunningSums) → AlikeButPasses r s
      → LentTurnCall r ts vs z h a r' → LentTurnCall s ts vs z h b s' → (verdict_fault a ≡ verdict_fault b) × AlikeButPasses r' s'
  pub exported_step_ignores_passes : (xs ys ts vs : List ℕ) (z h c d : ℕ) (xs' ys' : List ℕ) → length xs ≡ record_length → length ys ≡ record_length
      → AlikeButPasses (record_of xs) (record_of ys) → ExportedAdvance xs ts vs z h c xs' → ExportedAdvance ys ts vs z h d ys'
      → (c ≡ d) × AlikeButPasses (record_of xs') (record_of ys')
  pub exported_turn_ignores_passes : (xs ys ts vs : List ℕ) (z h c d : ℕ) (xs' ys' : List ℕ) → length xs ≡ record_length → length ys ≡ record_length
      → AlikeButPasses (record_of xs) (record_of ys) → ExportedTurn xs ts vs z h c xs' → ExportedTurn ys ts vs z h d ys'
      → (c ≡ d) × AlikeButPasses (record_of xs') (record_of ys')
  -- so steps behind an accepted turn, with no edge back from it on, keep demand 3's sums
  pub steps_behind_turn : (ts vs : List ℕ) (r r' : RunningSums) (ms : List Motion) (m : Move) (t : Turning) (ns : List Move) → AtMost max_u16 ts
      → AtMost max_u16 vs → Motions ts vs fresh ms r → TurnCall r ts vs m.point m.bandwidth t → verdict_fault t.verdict ≡ None
      → Steps ts vs t.running ns r' → NoEdgeBackAfter ts vs (Some m) ns → r'.sums ≡ window_direct ts vs (accepted_after ts vs (Some m) ns)
  pub lent_steps_behind_turn : (ts vs : List ℕ) (r r' r'' : RunningSums) (ms : List Motion) (m : Move) (a : Result Unit Refusal) (ns : List Move)
      → AtMost max_u16 ts → AtMost max_u16 vs → LentMotions ts vs fresh ms r → LentTurnCall r ts vs m.point m.bandwidth a r'
      → verdict_fault a ≡ None → Steps ts vs r' ns r'' → NoEdgeBackAfter ts vs (Some m) ns
      → r''.sums ≡ window_direct ts vs (accepted_after ts vs (Some m) ns)
  pub exported_steps_behind_turn : (ts vs xs xs' xs'' : List ℕ) (ms : List Motion) (m : Move) (c : ℕ) (ns : List Move) → AtMost max_u16 ts
      → AtMost max_u16 vs → ExportedMotions ts vs zeros ms xs → ExportedTurn xs ts vs m.point m.bandwidth c xs' → code_refusal c ≡ None
      → ExportedSteps ts vs xs' ns xs'' → NoEdgeBackAfter ts vs (Some m) ns
      → (record_of xs'').sums ≡ window_direct ts vs (accepted_after ts vs (Some m) ns)
  -- steps alone from fresh count each edge's way once: right plus left, the positions passed, at most two for each reading
  pub steps_count_once : (ts vs : List ℕ) (r : RunningSums) (ms : List Move) → Steps ts vs fresh ms r
      → CountedOnce ts r × (r.passes ≡ passes ts vs fresh ms)
  pub exported_steps_count_once : (ts vs xs : List ℕ) (ms : List Move) → ExportedSteps ts vs zeros ms xs
      → CountedOnce ts (record_of xs) × ((record_of xs).passes ≡ passes ts vs fresh ms)
  -- and under demand 3's hypotheses the insertions plus evictions of the event log
  pub steps_count_log : (ts vs : List ℕ) (r : RunningSums) (ms : List Move) → OrderedSteps ts vs ms → Steps ts vs fresh ms r
      → r.passes ≡ insertion_count (log_after_steps ts vs ms) + eviction_count (log_after_steps ts vs ms)
  pub exported_steps_count_log : (ts vs xs : List ℕ) (ms : List Move) → OrderedSteps ts vs ms → ExportedSteps ts vs zeros ms xs
      → (record_of xs).passes ≡ insertion_count (log_after_steps ts vs ms) + eviction_count (log_after_steps ts vs ms)
