-- The calls' contracts with the laws of their meaning: answer and lists are those of the meaning.
use Prim.Native.Nat.{ℕ, ◌+◌}
use Rattle.std.specs.Prelude.{Result, Ok, Err}
use Rattle.meanings.specs.declared.Refusal.{Refusal}
use Rattle.meanings.specs.Calls.{answer_of}
use mathlib.Core.Path.{◌≡◌, refl, sym, ap, ◌∙◌}
use mathlib.Core.List.{List}
use Rattle.std.specs.Prelude.{None, Some}
use native.Mathlib.Omega.{arith}
use lib.ListN.{length, get_or}
use Rattle.meanings.specs.Limits.{max_u16}
use Rattle.meanings.specs.Lists.{AtMost, distance}
use Rattle.meanings.specs.Reports.{Fault, Answer, given}
use Rattle.meanings.specs.Claim.{refusal}
use Rattle.meanings.specs.Codes.{answered, no_detail}
use Rattle.meanings.proofs.Checks.{given_accepted}
use Rattle.meanings.specs.boxes.Boxes.{Axis, shift, cuts, gathered, one, value, cell_list, box, box_list, boxes, boxes_then}
use Rattle.meanings.specs.boxes.Boxes.{counts_then, sums_then}
use Rattle.meanings.specs.boxes.Cases.{Outcome, four}
use Rattle.meanings.proofs.BoxesCases.{strips_cases_hold, pairs_cases_hold, refusal_cases_hold, four_readings}
use Rattle.laws.proofs.boxes.Strips.{strip_is_tally}
use Rattle.boxes.proofs.boxes.Met as boxes_met
use Rattle.exports.proofs.box_table.tankcurve_boxes.Met as exported_met
use Rattle.promises.specs.conditions.Conditions.{FirstFault, RefusedExactly, code_refusal}
use Rattle.promises.proofs.conditions.Refusals.{decided_exactly, decided_stays, exported_refusal, exported_stays, first_numbered, accepted_given}
use Rattle.promises.specs.boxes.Filled.{TenLists, along_minutes, along_temperatures, readings, box_conditions, FilledIn}
use Rattle.promises.specs.boxes.InBoxes.{lists_of, unordered, unordered_boxes, EveryBoxesTaken, InBoxes}
use Rattle.promises.proofs.boxes.Accepted.{refusal_of, finds_conditions, accepts}
use Rattle.promises.proofs.boxes.Filled.{cuts_are_edges, filled}

-- the call's meaning on these lists
module _ (q : TenLists) where
  abbrev A : Axis
  A = along_minutes q

  abbrev B : Axis
  B = along_temperatures q

  abbrev meant : Answer Unit
  meant = boxes A B q.values q.boxes q.counts q.sums

  -- ---- refusals
  exactly : RefusedExactly (refusal meant) (FirstFault (box_conditions q))
  unfolding boxes
  exactly = decided_exactly tt (finds_conditions q) refl

  coded : (c : ℕ) → c ≡ answered no_detail meant → code_refusal c ≡ refusal meant
  coded c e = exported_refusal no_detail meant c _ e (first_numbered (box_conditions q) refl) exactly

  stay : (bs' cs' ss' : List ℕ) → bs' ≡ boxes_then A B q.values q.boxes q.counts q.sums
      → cs' ≡ counts_then A B q.values q.boxes q.counts q.sums → ss' ≡ sums_then A B q.values q.boxes q.counts q.sums
      → (e : Fault) → refusal meant ≡ Some e → (bs' ≡ q.boxes) × (cs' ≡ q.counts) × (ss' ≡ q.sums)
  unfolding boxes boxes_then counts_then sums_then
  stay bs' cs' ss' b c s e r = (
    decided_stays {t = meant} tt (finds_conditions q) refl (box_list A B q.values (readings q)) q.boxes bs' b e r,
    decided_stays {t = meant} tt (finds_conditions q) refl (cell_list A B one (readings q)) q.counts cs' c e r,
    decided_stays {t = meant} tt (finds_conditions q) refl (cell_list A B (value q.values) (readings q)) q.sums ss' s e r,
  )

  -- ---- what an accepted call leaves
  module _ (small : AtMost max_u16 q.values) (g : meant ≡ given tt) where
    unrefused : refusal_of q ≡ None
    unfolding boxes
    unrefused = (given_accepted (refusal_of q) tt tt g).0

    leaves : FilledIn q (boxes_then A B q.values q.boxes q.counts q.sums) (counts_then A B q.values q.boxes q.counts q.sums)
        (sums_then A B q.values q.boxes q.counts q.sums)
    unfolding boxes_then counts_then sums_then
    leaves =
        rw unrefused
        (filled q small (accepts A B q.values (length q.boxes) (length q.counts) (length q.sums) unrefused))

-- the worked case
four_given : meant (lists_of four) ≡ given tt
four_given = ap (λ (o : Outcome). o.answer) four_readings

-- readings and edges in no order
unordered_given : meant unordered ≡ given tt
unfolding boxes
unordered_given = refl

unordered_filled : boxes_then (along_minutes unordered) (along_temperatures unordered) unordered.values unordered.boxes unordered.counts
    unordered.sums ≡ unordered_boxes
unfolding boxes_then box_list box gathered distance
unordered_filled = refl

filled_answer : (a : Result Unit Refusal) → answer_of a ≡ given tt → a ≡ (Ok tt)
filled_answer (Ok tt) e = refl
filled_answer (Err r) e = let z : ◌≡◌ {A = ℕ} 0 1 = cc in absurd (omega arith)

pub boxes_taken : EveryBoxesTaken
boxes_taken = record {
  ends = boxes_met.met;
  asks_nothing = λ κs a. tt;
  exported_ends = exported_met.met;
  exported_asks_nothing = λ κs a. tt;
}

pub in_boxes : InBoxes
in_boxes = record {
  refused = λ q a bs' cs' ss' c. record {
    exactly = rw c.ensured.0 (exactly q);
    stays = λ e r.
        stay q bs' cs' ss' c.ensured.1.0 c.ensured.1.1.0 c.ensured.1.1.1 e (ap refusal (sym c.ensured.0) ∙ r);
  };
  exported_refused = λ q c bs' cs' ss' x.
      exported_stays (meant q) c _ (coded q c x.ensured.0) (exactly q) ((bs' ≡ q.boxes) × (cs' ≡ q.counts) × (ss' ≡ q.sums))
      (stay q bs' cs' ss' x.ensured.1.0 x.ensured.1.1.0 x.ensured.1.1.1);
  filled_in = λ q bs' cs' ss' small c.
      rw (c.ensured.1.0, c.ensured.1.1.0, c.ensured.1.1.1) (leaves q small (sym c.ensured.0));
  exported_filled_in = λ q c bs' cs' ss' small x e.
      let g = accepted_given (meant q) (sym (coded q c x.ensured.0) ∙ e) in
      let h : meant q ≡ given tt = g.1 in (
        x.ensured.0 ∙ ap (answered no_detail) h,
        rw (x.ensured.1.0, x.ensured.1.1.0, x.ensured.1.1.1) (leaves q small h),
      );
  some_accepted = λ a bs' cs' ss' c. filled_answer a (c.ensured.0 ∙ four_given);
  exported_some_accepted = λ c bs' cs' ss' x. x.ensured.0 ∙ ap (answered no_detail) four_given;
  unordered_accepted = λ a bs' cs' ss' c. (filled_answer a (c.ensured.0 ∙ unordered_given), c.ensured.1.0 ∙ unordered_filled);
  exported_unordered_accepted = λ c bs' cs' ss' x. (x.ensured.0 ∙ ap (answered no_detail) unordered_given, x.ensured.1.0 ∙ unordered_filled);
  cuts_are_edges = cuts_are_edges;
  strips_by_numbers = λ A i. strip_is_tally (cuts A) (get_or A.samples i 0 + shift A);
  strips_cases_hold = strips_cases_hold;
  pairs_cases_hold = pairs_cases_hold;
  refusal_cases_hold = refusal_cases_hold;
  four_readings = four_readings;
}
