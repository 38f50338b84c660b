-- What is promised of weights and sums as doubles follows from the contracts of the calls, from the laws of having back, and from which rows can
-- be told.
use Prim.Native.Nat.{ℕ, ◌*◌, ◌/◌, ◌^◌, ◌<◌}
use mathlib.Core.Path.{◌≡◌, refl, sym, ap, ◌∙◌, subst}
use mathlib.Core.Bool.{Bool, true, false, true≢false, not}
use mathlib.Core.List.{List, [], ◌∷◌}
use Rattle.std.specs.Prelude.{None, Some}
use native.Mathlib.Omega.{arith}
use borrow.Author.Tests.{eqb-true, eqb-false}
use lib.Dec.{eqb}
use lib.ListN.{length, drop, take}
use lib.Ieee.{Float}
use Rattle.meanings.specs.declared.Estimate.{Estimate}
use Rattle.meanings.specs.declared.Limits.{Limits}
use Rattle.meanings.specs.declared.RunningSums.{RunningSums}
use Rattle.meanings.specs.declared.Turning.{Turning}
use Rattle.meanings.specs.Claim.{refusal}
use Rattle.meanings.specs.Codes.{detail_unit, answered}
use Rattle.meanings.specs.Estimate.{fields}
use Rattle.meanings.specs.Limits.{full, preview, LimitsWithin, max_u16, row_width}
use Rattle.meanings.specs.Lists.{pick, AtMost}
use Rattle.meanings.specs.Calls.{smooth, smooth_rows}
use Rattle.meanings.specs.Reports.{Fault, Answer, given, refused, unless, first_of, at, Check, check}
use Rattle.meanings.specs.Moves.{Move}
use Rattle.meanings.specs.Running.{fresh, after, record_row}
use Rattle.meanings.specs.Turn.{Motion, turn_record, turn_refusal, after_motions}
use Rattle.meanings.proofs.Checks.{same_limits, preview_within_full}
use Rattle.meanings.specs.declared.doubles.RowCells.{RowCells}
use Rattle.meanings.specs.doubles.Doubles.{Doubles, handed, RowDoubles, HandedOver, HadBack, Tellable}
use Rattle.meanings.proofs.DoublesCases.{number_cases_hold, weight_cases_hold, sum_cases_hold}
use Rattle.meanings.proofs.Having.{handed_over, handed_only, handed_had_back, had_back_once, number_had_back, pair_parts}
use Rattle.laws.proofs.turn.Motions.{motions_direct, fresh_direct, turn_gives_row}
use Rattle.exports.specs.Answers.{sized, record_length, record_of}
use Rattle.exports.proofs.Answered.{right_size}
use Rattle.exports.specs.Lists.{used, in_front, filled, read_back}
use Rattle.exports.proofs.Filling.{doubles_read_back, others_stay, length_stays}
use Rattle.text.specs.Table.{stored_row}
use Rattle.questions.proofs.doubles.number_cell.Met as number_cell_met
use Rattle.questions.proofs.doubles.row_cells.Met as row_cells_met
use Rattle.exports.proofs.doubles.tankcurve_doubles.Met as exported_doubles_met
use Rattle.promises.specs.conditions.Conditions.{FirstFault, RefusedExactly, code_refusal}
use Rattle.promises.specs.Demands.{Steps, ExportedSteps, zeros}
use Rattle.promises.proofs.conditions.CallChecks.{none_left}
use Rattle.promises.proofs.Demand1.{smooth_coded}
use Rattle.promises.proofs.Demand2.{given_row, row_is_evaluate, row_stored}
use Rattle.promises.proofs.Demand3.{demand_3_of_calls}
use Rattle.promises.proofs.conditions.FirstFaults.{FindAll, at_finds}
use Rattle.promises.proofs.RecordRows.{exported_record_row_gives}
use Rattle.promises.proofs.conditions.Refusals.{decided_exactly, exported_refusal, exported_stays, first_numbered, accepted_given}
use Rattle.promises.proofs.Rows.{five_are_row}
use Rattle.promises.specs.turn.Turns.{TurnCall, ExportedTurn, ExportedMotions}
use Rattle.promises.proofs.turn.Turns.{numbers_turn, turns_hold}
use Rattle.promises.specs.doubles.Doubles.{RowCellsCall, ExportedDoubles, ExportedRow, doubles_conditions, doubles_of_answer}
use Rattle.promises.specs.doubles.Doubles.{RowHadBack, ExportedHadBack, HoldsWindow, EveryDoublesTaken, DoublesHold}
use Rattle.promises.proofs.doubles.Rows.{foreign_tellable, evaluated_tellable, swept_tellable, record_tellable, steps_hold, turn_holds}
use Rattle.promises.proofs.doubles.Rows.{behind_holds, behind_tellable}

-- ---- the export

-- its one check
abbrev two_check : List Float → Check
two_check xs = check 8 (at 0 (not (eqb (length xs) 2)))

two_finds : (xs : List Float) → FindAll (two_check xs ∷ []) (doubles_conditions xs)
two_finds xs = record {
  each = (
    at_finds 8 (not (eqb (length xs) 2)) (¬ (length xs ≡ 2)) (holds (eqb (length xs) 2) refl) (fails (eqb (length xs) 2) refl),
    none_left.each,
  );
}
  where
    holds : (b : Bool) → eqb (length xs) 2 ≡ b → not b ≡ true → ¬ (length xs ≡ 2)
    holds true e q = absurd (true≢false (sym q))
    holds false e q = eqb-false (length xs) 2 e

    fails : (b : Bool) → eqb (length xs) 2 ≡ b → not b ≡ false → ¬ (¬ (length xs ≡ 2))
    fails true e q k = k (eqb-true (length xs) 2 e)
    fails false e q k = true≢false q

module _ (w n : ℕ) (xs : List Float) where
  abbrev answer : Answer Doubles
  answer = sized 2 xs (given (handed w n))

  answer_checked : answer ≡ unless (first_of (two_check xs ∷ [])) (handed w n)
  unfolding sized
  answer_checked = by (eqb (length xs) 2)
    where
      by : (b : Bool) → pick b (given (handed w n)) (refused (record { number = 8; place = 0 })) ≡ unless (first_of (check 8 (at 0 (not b)) ∷ [])) (handed w n)
      by true = refl
      by false = refl

  answer_exactly : RefusedExactly (refusal answer) (FirstFault (doubles_conditions xs))
  answer_exactly = decided_exactly (handed w n) (two_finds xs) answer_checked

  answer_coded : (c : ℕ) → c ≡ answered used answer → code_refusal c ≡ refusal answer
  answer_coded c q = exported_refusal used answer c _ q (first_numbered (doubles_conditions xs) refl) answer_exactly

  answer_stays : (t : Answer Doubles) (e : Fault) → refusal t ≡ Some e → filled t xs ≡ xs
  answer_stays (given d) e q = let z : ◌≡◌ {A = ℕ} 0 1 = cc in absurd (omega arith)
  answer_stays (refused f) e q = refl

  -- at two doubles it tells what is handed over
  module _ (c : ℕ) (xs' : List Float) (two : length xs ≡ 2) (call : ExportedDoubles w n xs c xs') where
    code_is : c ≡ detail_unit * used (handed w n)
    code_is = call.ensured.0 ∙ sym (ap (answered used) (right_size 2 xs two (given (handed w n))))

    detail_is : c / detail_unit ≡ used (handed w n)
    detail_is = omega (arith, code_is)

    list_is : xs' ≡ in_front (handed w n) xs
    list_is = call.ensured.1 ∙ sym (ap (λ (a : Answer Doubles). filled a xs) (right_size 2 xs two (given (handed w n))))

    doubles_are : doubles_of_answer c xs' ≡ handed w n
    doubles_are =
        ap (λ (k : ℕ). read_back k xs') detail_is
        ∙ ap (λ (ys : List Float). read_back (used (handed w n)) ys) list_is
        ∙ doubles_read_back (handed w n) xs

    others_are : drop (c / detail_unit) xs' ≡ drop (c / detail_unit) xs
    others_are = rw (detail_is, list_is) (others_stay (handed w n) xs)

    doubles_had_back : n < 2 ^ 64 → (w ≡ 0 → n ≡ 0) → HadBack (doubles_of_answer c xs') n
    doubles_had_back l zero = subst (λ (d : Doubles). HadBack d n) (sym doubles_are) (handed_had_back w n l zero)

-- ---- rows
row_back : (e : Estimate) (c : RowCells) → Tellable e → RowCellsCall e c → RowHadBack e c
row_back e c t k =
    let w = ap (λ (d : RowDoubles). d.weight) k.ensured in
    let s = ap (λ (d : RowDoubles). d.sum) k.ensured in
    record {
      weight_had_back = subst (λ (d : Doubles). HadBack d e.weight) (sym w) (handed_had_back e.weight e.weight t.weight_fits (λ z. z));
      sum_had_back = subst (λ (d : Doubles). HadBack d e.sum) (sym s) (handed_had_back e.weight e.sum t.sum_fits t.no_sum_alone);
    }

exported_row_back : (e : Estimate) (c : ℕ) (xs' : List Float) (d : ℕ) (ys' : List Float) → Tellable e → ExportedRow e c xs' d ys'
    → ExportedHadBack e c xs' d ys'
exported_row_back e c xs' d ys' t k = record {
  weight_had_back =
      doubles_had_back e.weight e.weight k.weight_list c xs' k.weight_room k.weight_call t.weight_fits (λ z. z);
  sum_had_back = doubles_had_back e.weight e.sum k.sum_list d ys' k.sum_room k.sum_call t.sum_fits t.no_sum_alone;
}

-- five numbers that are a row's
stored_five : (row : List ℕ) (e : Estimate) → row ≡ fields e → stored_row row 0 ≡ e
stored_five row e q = five_are_row row 0 e (ap (λ (r : List ℕ). take row_width r) q)

-- a coded sweep, under limits at most the full ones
coded_tellable : (L : Limits) → LimitsWithin L full → (ts vs zs hs rs rs' : List ℕ) (k i : ℕ) → AtMost max_u16 vs
    → k ≡ answered (λ n. n) (smooth L ts vs zs hs rs) → rs' ≡ smooth_rows L ts vs zs hs rs → code_refusal k ≡ None → i < length zs
    → Tellable (stored_row rs' i)
coded_tellable L w ts vs zs hs rs rs' k i v q e a l =
    let g = accepted_given (smooth L ts vs zs hs rs) (sym (smooth_coded L ts vs zs hs rs k q) ∙ a) in
    swept_tellable L w ts vs zs hs rs rs' g.0 i v g.1 e l

module _ (ts vs : List ℕ) (minutes : AtMost max_u16 ts) (values : AtMost max_u16 vs) where
  motions_tellable : (r : RunningSums) (ms : List Motion) (z h : ℕ) → r ≡ after_motions ts vs fresh ms → HoldsWindow ts z h r
      → Tellable (record_row r z h)
  motions_tellable r ms z h e w =
      record_tellable ts vs r ms z h values e (rw e (motions_direct ts vs minutes values ms fresh (fresh_direct ts vs minutes values))) w

-- ---- steps behind a turn lead on from its record
own_behind : (ts vs : List ℕ) (r r' : RunningSums) (m : Move) (t : Turning) (ns : List Move) → TurnCall r ts vs m.point m.bandwidth t
    → Steps ts vs t.running ns r' → r' ≡ after ts vs (turn_record ts vs r m.point m.bandwidth) ns
own_behind ts vs r r' m t ns k w =
    demand_3_of_calls.steps_leave ts vs t.running r' ns w ∙ ap (λ (x : RunningSums). after ts vs x ns) k.ensured.1

record NumbersBehind (ts vs xs xs'' : List ℕ) (m : Move) (ns : List Move) : Type 0 where
  nine : length xs'' ≡ record_length
  took : turn_refusal ts vs (record_of xs) m.bandwidth ≡ None
  led : record_of xs'' ≡ after ts vs (turn_record ts vs (record_of xs) m.point m.bandwidth) ns

numbers_behind : (ts vs xs xs' xs'' : List ℕ) (ms : List Motion) (m : Move) (a : ℕ) (ns : List Move) → ExportedMotions ts vs zeros ms xs
    → ExportedTurn xs ts vs m.point m.bandwidth a xs' → code_refusal a ≡ None → ExportedSteps ts vs xs' ns xs'' → NumbersBehind ts vs xs xs'' m ns
numbers_behind ts vs xs xs' xs'' ms m a ns s k q w =
    let n = numbers_turn xs ts vs m.point m.bandwidth a xs' (turns_hold.exported_motions_leave ts vs zeros xs ms refl s).0 k in
    let l = demand_3_of_calls.exported_steps_leave ts vs xs' xs'' ns n.nine w in
    record {
      nine = l.0;
      took = sym n.tells ∙ q;
      led = l.1 ∙ ap (λ (x : RunningSums). after ts vs x ns) n.turns_record;
    }

pub doubles_taken : EveryDoublesTaken
doubles_taken = record {
  number_cell_ends = number_cell_met.met;
  number_cell_asks_nothing = λ κs a. tt;
  row_cells_ends = row_cells_met.met;
  row_cells_asks_nothing = λ κs a. tt;
  exported_doubles_ends = exported_doubles_met.met;
  exported_doubles_asks_nothing = λ κs a. tt;
}

pub doubles_hold : DoublesHold
doubles_hold = record {
  number_handed_over = λ w n c l k. subst (HandedOver w n) (sym k.ensured) (handed_over w n l);
  nothing_else = λ w n c d l k o. handed_only w n l d o ∙ sym k.ensured;
  row_handed_over = λ e c l m k. (
    subst (HandedOver e.weight e.weight) (sym (ap (λ (d : RowDoubles). d.weight) k.ensured)) (handed_over e.weight e.weight l),
    subst (HandedOver e.weight e.sum) (sym (ap (λ (d : RowDoubles). d.sum) k.ensured)) (handed_over e.weight e.sum m),
  );
  parts = λ w n c high low l k q. pair_parts w n l high low (sym k.ensured ∙ q);
  number_had_back = λ w n c l zero k. subst (λ (d : Doubles). HadBack d n) (sym k.ensured) (handed_had_back w n l zero);
  had_back_once = had_back_once;
  by_casts = number_had_back;
  row_had_back = row_back;
  foreign_had_back = λ r z h e c zero k x. row_back e c (foreign_tellable r z h e k.ensured zero) x;
  evaluated_had_back = λ ts vs z h e c v k r. row_back e c (evaluated_tellable ts vs z h e v (sym k.ensured)) r;
  swept_had_back = λ ts vs zs hs rs n rs' k c v x l r.
      row_back (stored_row rs' k) c (swept_tellable full (same_limits full) ts vs zs hs rs rs' n k v (sym x.ensured.0) x.ensured.1 l) r;
  previewed_had_back = λ ts vs zs hs rs n rs' k c v x l r.
      row_back (stored_row rs' k) c (swept_tellable preview preview_within_full ts vs zs hs rs rs' n k v (sym x.ensured.0) x.ensured.1 l) r;
  record_had_back = λ ts vs r ms z h e c m v s w k x.
      row_back e c (subst Tellable (sym k.ensured) (motions_tellable ts vs m v r ms z h (turns_hold.motions_leave ts vs fresh r ms s) w)) x;
  steps_hold_window = λ ts vs ms m r o s last. steps_hold ts vs ms m o last r (demand_3_of_calls.steps_leave ts vs fresh r ms s);
  turn_holds_window = λ ts vs r ms z h t m v s k q.
      turn_holds ts vs r t.running z h (sym k.ensured.0 ∙ q) (turns_hold.turn_lands ts vs r ms z h t m v s k q).0;
  behind_turn_holds_window = λ ts vs r r' ms m n t ns a v s k q w o last.
      behind_holds ts vs a v r r' m n ns (turns_hold.reached_direct ts vs r ms a v s) (sym k.ensured.0 ∙ q) o last (own_behind ts vs r r' m t ns k w);
  turned_had_back = λ ts vs r ms z h t e c m v s k q y x.
      let direct = turns_hold.reached_direct ts vs r ms m v s in
      let given-there = turn_gives_row ts vs m v r z h direct (sym k.ensured.0 ∙ q) in
      let e_is : e ≡ record_row (turn_record ts vs r z h) z h = y.ensured ∙ ap (λ (o : RunningSums). record_row o z h) k.ensured.1 in
      row_back e c (subst Tellable (sym e_is) (evaluated_tellable ts vs z h _ v given-there)) x;
  behind_turn_had_back = λ ts vs r r' ms m n t ns e c a v s k q w o last y x.
      row_back e c
      (subst Tellable (sym y.ensured)
      (behind_tellable ts vs a v r r' m n ns (turns_hold.reached_direct ts vs r ms a v s) (sym k.ensured.0 ∙ q) o last
      (own_behind ts vs r r' m t ns k w))) x;
  exported_refused = λ w n xs c xs' k.
      exported_stays (answer w n xs) c _ (answer_coded w n xs c k.ensured.0) (answer_exactly w n xs) (xs' ≡ xs)
      (λ e q. k.ensured.1 ∙ answer_stays w n xs (answer w n xs) e q);
  exported_tells = λ w n xs c xs' a two k l.
      let d = l.ensured in (
        code_is w n xs c xs' two k ∙ ap (λ (x : Doubles). detail_unit * used x) (sym d),
        ap length (list_is w n xs c xs' two k) ∙ length_stays (handed w n) xs two,
        doubles_are w n xs c xs' two k ∙ sym d,
        others_are w n xs c xs' two k,
      );
  exported_had_back = λ w n xs c xs' l zero two k. doubles_had_back w n xs c xs' two k l zero;
  exported_row_had_back = exported_row_back;
  exported_evaluated_had_back = λ ts vs z h row k row' c xs' d ys' v x q r.
      let e = stored_five row' (given_row row_width ts vs z h row k x.ensured.0 q).0
      (x.ensured.1 ∙ row_stored row_width ts vs z h row k x.ensured.0 q fields) in
      exported_row_back (stored_row row' 0) c xs' d ys'
      (subst Tellable (sym e) (evaluated_tellable ts vs z h _ v (row_is_evaluate row_width ts vs z h row k x.ensured.0 q))) r;
  exported_swept_had_back = λ ts vs zs hs rs k rs' i c xs' d ys' v x q l r.
      exported_row_back (stored_row rs' i) c xs' d ys'
      (coded_tellable full (same_limits full) ts vs zs hs rs rs' k i v x.ensured.0 x.ensured.1 q l) r;
  exported_previewed_had_back = λ ts vs zs hs rs k rs' i c xs' d ys' v x q l r.
      exported_row_back (stored_row rs' i) c xs' d ys'
      (coded_tellable preview preview_within_full ts vs zs hs rs rs' k i v x.ensured.0 x.ensured.1 q l) r;
  exported_record_had_back = λ ts vs xs ms z h row k row' c xs' d ys' m v s w five x r.
      let l = turns_hold.exported_motions_leave ts vs zeros xs ms refl s in
      let g = exported_record_row_gives xs z h row k row' l.0 five x in
      exported_row_back (stored_row row' 0) c xs' d ys'
      (subst Tellable (sym (stored_five row' _ g.1)) (motions_tellable ts vs m v (record_of xs) ms z h l.1 w)) r;
  exported_steps_hold_window = λ ts vs ms m xs o s last.
      steps_hold ts vs ms m o last (record_of xs) (demand_3_of_calls.exported_steps_leave ts vs zeros xs ms refl s).1;
  exported_turn_holds_window = λ ts vs xs ms z h a xs' m v s k q.
      turn_holds ts vs (record_of xs) (record_of xs') z h
      (sym (numbers_turn xs ts vs z h a xs' (turns_hold.exported_motions_leave ts vs zeros xs ms refl s).0 k).tells ∙ q)
      (turns_hold.exported_turn_lands ts vs xs ms z h a xs' m v s k q).0;
  exported_behind_turn_holds_window = λ ts vs xs xs' xs'' ms m n a ns mi v s k q w o last.
      let b = numbers_behind ts vs xs xs' xs'' ms m a ns s k q w in
      behind_holds ts vs mi v (record_of xs) (record_of xs'') m n ns (turns_hold.exported_reached_direct ts vs xs ms mi v s) b.took o last b.led;
  exported_behind_turn_had_back = λ ts vs xs xs' xs'' ms m n a ns row k row' c ds d es mi v s t q w o last five x y.
      let b = numbers_behind ts vs xs xs' xs'' ms m a ns s t q w in
      let g = exported_record_row_gives xs'' n.point n.bandwidth row k row' b.nine five x in
      exported_row_back (stored_row row' 0) c ds d es
      (subst Tellable (sym (stored_five row' _ g.1))
      (behind_tellable ts vs mi v (record_of xs) (record_of xs'') m n ns (turns_hold.exported_reached_direct ts vs xs ms mi v s) b.took o last b.led)) y;
  number_cases_hold = number_cases_hold;
  weight_cases_hold = weight_cases_hold;
  sum_cases_hold = sum_cases_hold;
}
