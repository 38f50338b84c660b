-- No refusal of a turn has a place over 32,768, so its code is that of the turn's answer.
use Prim.Native.Nat.{ℕ, ◌≤◌}
use Rattle.std.specs.Prelude.{Result, Err, Option}
use mathlib.Core.Path.{◌≡◌, refl, sym, ap, ◌∙◌}
use mathlib.Core.Bool.{◌||◌}
use mathlib.Core.List.{List}
use native.Mathlib.Omega.{arith}
use lib.Dec.{ltb}
use lib.ListN.{length}
use Rattle.meanings.specs.declared.Refusal.{Refusal}
use Rattle.meanings.specs.declared.RunningSums.{RunningSums}
use Rattle.meanings.specs.Limits.{full, max_sheet}
use Rattle.meanings.specs.Reports.{Fault, refused, fault_of, verdict_fault, unless, decreases, uneven_samples, turn_checks}
use Rattle.meanings.specs.Turn.{turned, turn_refusal, turn_answer}
use Rattle.meanings.specs.Codes.{code, answered, no_detail}
use Rattle.exports.specs.Answers.{short, sized, record_length, record_of}
use Rattle.exports.proofs.Answered.{right_size, refused_code}
use Rattle.exports.proofs.AnswersPlaces.{refusal_place, answer_small, at_start, at_position, bandwidth_small, few_small}

turn_place : (ts vs : List ℕ) (r : RunningSums) (z h : ℕ) → refusal_place (turn_answer ts vs r z h) ≤ max_sheet
unfolding turn_answer
turn_place ts vs r z h =
    answer_small (turn_checks full ts vs r.left r.right h) (turned ts vs r z h) (
      at_start (uneven_samples ts vs),
      λ even. (
        at_start (ltb 1024 (length ts)),
        λ few. (
          at_position (decreases ts) (length ts) (few_small 1024 (length ts) few (omega arith)),
          λ ordered. (at_start (ltb r.right r.left || ltb (length ts) r.right), λ valid. bandwidth_small h),
        ),
      ),
    )

-- the turn of the record that the numbers are is refused
module _ (ts vs xs : List ℕ) (z h : ℕ) {s : RunningSums} {v : Result Unit Refusal} (right : length xs ≡ record_length) (e : s ≡ record_of xs)
    (m : verdict_fault v ≡ turn_refusal ts vs s h) {f : Refusal} (met : v ≡ Err f) where
  told : refused (fault_of f) ≡ turn_answer ts vs (record_of xs) z h
  unfolding turn_answer
  told =
      ap (λ (o : Option Fault). unless o (turned ts vs (record_of xs) z h))
      (sym (ap verdict_fault met) ∙ m ∙ ap (λ (r : RunningSums). turn_refusal ts vs r h) e)

  pub turn_refused : {k : ℕ} → k ≡ code (short (fault_of f)) → k ≡ answered no_detail (sized record_length xs (turn_answer ts vs (record_of xs) z h))
  turn_refused {k} c =
      refused_code {A = RunningSums} {r = Err f} told refl (turn_place ts vs (record_of xs) z h) no_detail k c
      ∙ ap (answered no_detail) (right_size record_length xs right (turn_answer ts vs (record_of xs) z h))
