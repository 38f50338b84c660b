-- A biweight row's numbers have 64 bits, and without weight there is no sum, so it can be told.
use Prim.Native.Nat.{ℕ}
use mathlib.Core.Path.{◌≡◌, refl, sym, ap, ◌∙◌, subst}
use mathlib.Core.List.{List}
use Rattle.std.specs.Prelude.{None}
use native.Mathlib.Omega.{arith}
use lib.ListN.{take}
use Rattle.meanings.specs.declared.Estimate.{Estimate}
use Rattle.meanings.specs.Claim.{refusal}
use Rattle.meanings.specs.Codes.{no_detail}
use Rattle.meanings.specs.Estimate.{fields}
use Rattle.meanings.specs.Limits.{full, max_u16, row_width}
use Rattle.meanings.specs.Lists.{AtMost}
use Rattle.meanings.specs.Reports.{Answer, given, series_checks}
use Rattle.meanings.proofs.Checks.{same_limits, evaluate_accepts, given_accepted}
use Rattle.meanings.specs.biweight.Biweight.{biweight_bandwidth, biweight_row, biweight_refusal, biweight}
use Rattle.meanings.proofs.BiweightBounds.{bounds, missing_alone}
use Rattle.meanings.proofs.Refusals.{refused_as_evaluate}
use Rattle.meanings.specs.doubles.Doubles.{Tellable}
use Rattle.exports.specs.Answers.{sized, stored}
use Rattle.text.specs.Table.{stored_row}
use Rattle.promises.specs.conditions.Conditions.{FirstFault, RefusedExactly, length_first, code_refusal}
use Rattle.promises.proofs.conditions.CallChecks.{none_left, series_finds}
use Rattle.promises.proofs.conditions.Refusals.{decided_exactly, length_first_finds, sized_is_checked, exported_refusal, first_numbered}
use Rattle.promises.proofs.conditions.Refusals.{accepted_given, sized_opens}
use Rattle.promises.proofs.Rows.{five_are_row}
use Rattle.promises.specs.biweight.Biweights.{ExportedBiweight, biweight_conditions}
use Rattle.promises.specs.doubles.Biweight.{BiweightHadBack}
use Rattle.promises.proofs.doubles.Doubles.{doubles_hold}

module _ (ts vs : List ℕ) (z : ℕ) (values : AtMost max_u16 vs) where
  row_tellable : (e : Estimate) → biweight full ts vs z ≡ given e → Tellable e
  unfolding biweight biweight_row
  row_tellable e q =
      let g = given_accepted (biweight_refusal full ts vs) (biweight_row ts vs z biweight_bandwidth) e q in
      let a = evaluate_accepts full (same_limits full) ts vs biweight_bandwidth (sym (refused_as_evaluate full ts vs) ∙ g.0) in
      let b = bounds ts vs z a.even a.few values in
      subst Tellable g.1 (record {
        weight_fits = let l = b.weight in omega arith;
        sum_fits = b.sum_fits;
        no_sum_alone = missing_alone ts vs z biweight_bandwidth a.even values;
      })

module _ (ts vs : List ℕ) (z : ℕ) (row : List ℕ) (k : ℕ) (row' : List ℕ) (x : ExportedBiweight ts vs z row k row') (accepted : code_refusal k ≡ None) where
  exactly : RefusedExactly (refusal (sized row_width row (biweight full ts vs z))) (FirstFault (length_first row_width row (biweight_conditions ts vs)))
  unfolding biweight
  exactly =
      decided_exactly (biweight_row ts vs z biweight_bandwidth) (length_first_finds row_width row (series_finds full ts vs none_left))
      (sized_is_checked row_width row (series_checks full ts vs) (biweight_row ts vs z biweight_bandwidth))

  opens : refusal (sized row_width row (biweight full ts vs z)) ≡ None
  opens =
      sym (exported_refusal no_detail (sized row_width row (biweight full ts vs z)) k _ x.ensured.0
      (first_numbered (length_first row_width row (biweight_conditions ts vs)) refl) exactly)
      ∙ accepted

  stored_tellable : AtMost max_u16 vs → Tellable (stored_row row' 0)
  stored_tellable v =
      let g = accepted_given (sized row_width row (biweight full ts vs z)) opens in
      let e : row' ≡ fields g.0 = x.ensured.1 ∙ ap (λ (t : Answer Estimate). stored fields t row) g.1 in
      subst Tellable (sym (five_are_row row' 0 g.0 (ap (λ (r : List ℕ). take row_width r) e)))
      (row_tellable ts vs z v g.0 (sym (sized_opens row_width row (biweight full ts vs z) opens) ∙ g.1))

pub biweight_rows_had_back : BiweightHadBack
biweight_rows_had_back = record {
  biweight_had_back = λ ts vs z e c v k r. doubles_hold.row_had_back e c (row_tellable ts vs z v e (sym k.ensured)) r;
  exported_biweight_had_back = λ ts vs z row k row' c xs' d ys' v x a r.
      doubles_hold.exported_row_had_back (stored_row row' 0) c xs' d ys' (stored_tellable ts vs z row k row' x a v) r;
}
