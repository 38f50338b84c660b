-- The preview's promises. By its contract a preview is the sweep under the preview's limits, which are at most the full ones: what is known of a
-- sweep under such limits is known of it, and beside the full sweep it is an instance of the law of two pairs of limits.
use Prim.Native.Nat.{ℕ, ◌*◌}
use Rattle.meanings.specs.Calls.{answer_of}
use mathlib.Core.Path.{◌≡◌, sym, ap, ◌∙◌}
use mathlib.Core.List.{List}
use Rattle.std.specs.Prelude.{None, Some}
use native.Mathlib.Omega.{arith}
use lib.ListN.{get_or}
use Rattle.meanings.specs.Limits.{full, preview}
use Rattle.meanings.specs.Reports.{Fault, Answer, given, refused}
use Rattle.meanings.specs.Estimate.{estimate}
use Rattle.meanings.specs.Claim.{refusal}
use Rattle.meanings.specs.Calls.{smooth}
use Rattle.meanings.proofs.Checks.{preview_within_full}
use Rattle.meanings.proofs.SmoothLog.{smooth_passes}
use Rattle.meanings.proofs.SmoothRows.{smooth_row_is_evaluate}
use Rattle.meanings.specs.Codes.{detail_unit, answered}
use Rattle.laws.specs.rows.TwoLimits.{Over, OneSweep}
use Rattle.laws.proofs.rows.TwoLimits.{preview_and_full}
use Rattle.promises.specs.Demands.{Preview}
use Rattle.promises.specs.conditions.Conditions.{code_refusal}
use Rattle.promises.proofs.conditions.Refusals.{accepted_given}
use Rattle.promises.proofs.Demand1.{smooth_refused, smooth_coded, exported_smooth_refused}
use Rattle.promises.proofs.Demand2.{swept_rows}
use Rattle.promises.proofs.Rows.{five_are_row}

-- an answer is refused with what its refusal says
refused_with : {A : Type 0} (t : Answer A) (e : Fault) → refusal t ≡ Some e → t ≡ refused e
refused_with (given a) e q = let z : ◌≡◌ {A = ℕ} 0 1 = cc in absurd (omega arith)
refused_with (refused f) e q = let same : f ≡ e = cc in ap refused same

-- passes that a call for C and Rust has told
given_passes : (ts vs zs hs rs : List ℕ) (c : ℕ) → c ≡ answered (λ n. n) (smooth preview ts vs zs hs rs) → code_refusal c ≡ None
    → (n : ℕ) × (smooth preview ts vs zs hs rs ≡ given n)
given_passes ts vs zs hs rs c q e = accepted_given (smooth preview ts vs zs hs rs) (sym (smooth_coded preview ts vs zs hs rs c q) ∙ e)

-- a sweep's 8 has the place 0
at_zero : {ts vs zs hs rs : List ℕ} → OneSweep preview full ts vs zs hs rs → Over preview ts zs → (p : ℕ)
    → smooth full ts vs zs hs rs ≡ refused (record { number = 8; place = p }) → smooth full ts vs zs hs rs ≡ refused (record { number = 8; place = 0 })
at_zero o f p e = e ∙ ap (λ (q : ℕ). refused (record { number = 8; place = q })) (o.uneven f p e).0

pub preview_holds : Preview
preview_holds = record {
  preview_refused = λ ts vs zs hs rs a rs' c. smooth_refused preview ts vs zs hs rs (answer_of a) rs' c.ensured.0 c.ensured.1;
  preview_rows = λ ts vs zs hs rs n rs' v c. swept_rows preview preview_within_full ts vs zs hs rs rs' n v (sym c.ensured.0) c.ensured.1;
  row_of_question = λ ts vs zs hs rs n rs' k a c l q.
      let r = smooth_row_is_evaluate preview ts vs zs hs rs n k (sym c.ensured.0) l full preview_within_full.samples in
      let e = five_are_row rs' k (estimate ts vs (get_or zs k 0) (get_or hs k 0)) (rw c.ensured.1 r.1) in
      q.ensured ∙ r.0 ∙ ap given (sym e);
  preview_passes = λ ts vs zs hs rs n rs' t v c. smooth_passes preview preview_within_full ts vs zs hs t v rs n (sym c.ensured.0);
  accepted_by_both = λ ts vs zs hs rs a b rs₁ rs₂ n c d.
      let o = (preview_and_full ts vs zs hs rs).accepts n in (
        λ e. let f = o.0 (sym c.ensured.0 ∙ e) in (d.ensured.0 ∙ f.0, f.1),
        λ e. c.ensured.0 ∙ o.1 (sym d.ensured.0 ∙ e.0, e.1),
      );
  within = λ ts vs zs hs rs a b rs₁ rs₂ f c d.
      let o = preview_and_full ts vs zs hs rs in
      (c.ensured.0 ∙ o.same_answer f ∙ sym d.ensured.0, c.ensured.1 ∙ o.same_rows f ∙ sym d.ensured.1);
  over_uneven = λ ts vs zs hs rs a b rs₁ rs₂ p f c d e.
      let o = preview_and_full ts vs zs hs rs in
      ap refusal (c.ensured.0 ∙ (o.uneven f p (refused_with _ _ (ap refusal (sym d.ensured.0) ∙ e))).1);
  over_too_many = λ ts vs zs hs rs a b rs₁ rs₂ f c d k.
      let o = preview_and_full ts vs zs hs rs in
      ap refusal (c.ensured.0 ∙ o.too_many f (λ p e. k p (ap refusal (d.ensured.0 ∙ e))));
  exported_preview_refused = λ ts vs zs hs rs c rs' k. exported_smooth_refused preview ts vs zs hs rs c rs' k.ensured.0 k.ensured.1;
  exported_preview_rows = λ ts vs zs hs rs c rs' v k q.
      let g = given_passes ts vs zs hs rs c k.ensured.0 q in
      swept_rows preview preview_within_full ts vs zs hs rs rs' g.0 v g.1 k.ensured.1;
  exported_preview_passes = λ ts vs zs hs rs c rs' t v k q.
      let g = given_passes ts vs zs hs rs c k.ensured.0 q in
      let p = smooth_passes preview preview_within_full ts vs zs hs t v rs g.0 g.1 in
      let e : c ≡ detail_unit * g.0 = k.ensured.0 ∙ ap (answered (λ n. n)) g.1 in
      (omega arith, omega arith);
  exported_within = λ ts vs zs hs rs c d rs₁ rs₂ f k l.
      let o = preview_and_full ts vs zs hs rs in (
        k.ensured.0 ∙ ap (answered (λ n. n)) (o.same_answer f) ∙ sym l.ensured.0,
        k.ensured.1 ∙ o.same_rows f ∙ sym l.ensured.1,
      );
  exported_over = λ ts vs zs hs rs c d rs₁ rs₂ f k l.
      let o = preview_and_full ts vs zs hs rs in (
        λ e.
            let t = smooth_coded full ts vs zs hs rs d l.ensured.0 in
            let r = refused_with _ _ (sym t ∙ ap code_refusal e) in
            k.ensured.0 ∙ ap (answered (λ n. n)) (o.uneven f 0 r).1,
        λ n. k.ensured.0 ∙ ap (answered (λ n. n)) (o.too_many f (λ p e. n (l.ensured.0 ∙ ap (answered (λ n. n)) (at_zero o f p e)))),
      );
}
