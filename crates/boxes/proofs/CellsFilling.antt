-- Each reading enters the cell of its two strips, so after k readings a cell holds what those of the first k in it weigh. No cell holds more than
-- all readings do, so 32 bits are enough.
use Prim.Native.Nat.{ℕ, ◌+◌, ◌*◌, ◌≤◌, ◌<◌, zero-le}
use mathlib.Core.Path.{◌≡◌, refl, sym, ap, ◌∙◌}
use mathlib.Core.Bool.{Bool}
use mathlib.Core.List.{List}
use native.Mathlib.Decide.{ℕ_discrete}
use native.Mathlib.Numerals.{add-one}
use native.Mathlib.Omega.{arith}
use mir.Val.{Fits}
use mir.Syntax.{w16}
use borrow.Author.Tests.{eq-eqb, ne_eqb}
use lib.Dec.{eqb}
use lib.ListN.{length, get_or, set, length-set}
use lib.Seq.{get_or-set_same, get_or-set_other, ext_get_or}
use Rattle.meanings.specs.Lists.{pick}
use Rattle.meanings.specs.boxes.Boxes.{minute_axis, temperature_axis, cuts, cuts_to, strip, cell, cell_list, gathered, one, value}
use Rattle.laws.proofs.boxes.Sums.{gathered_more, gathered_none}
use Rattle.laws.proofs.boxes.Corners.{cell_list_length, cell_list_at}
use Rattle.boxes.specs.Cuts.{Ranked}
use Rattle.boxes.specs.Cells.{Fitting, CellFound, Clean, CellsFilled}

-- After i readings.
-- what weighs in a cell of the meaning
cell_by_cuts : (ts us zs hs ys ks : List ℕ) (w : ℕ → ℕ) (n c : ℕ)
    → gathered (λ i. eqb (65 * strip (cuts_to 65537 zs hs (length zs)) (get_or ts i 0 + 65537)
    + strip (cuts_to 257 ys ks (length ys)) (get_or us i 0 + 257)) c) w n
    ≡ cell (minute_axis ts zs hs) (temperature_axis us ys ks) w n c
unfolding cell cuts
cell_by_cuts ts us zs hs ys ks w n c = refl

abbrev in_cell : List ℕ → List ℕ → List ℕ → List ℕ → ℕ → ℕ → Bool
in_cell ts us ps qs c i = eqb (65 * strip ps (get_or ts i 0 + 65537) + strip qs (get_or us i 0 + 257)) c

pub record FilledTo (ts us vs ds es cs ss : List ℕ) (i : ℕ) : Type 0 where
  pub fit : Fitting (length ts) (length us) (length vs) (length ds) (length es) (length cs) (length ss)
  pub few : i ≤ length ts
  pub count_most : (c : ℕ) → get_or cs c 0 ≤ i
  pub sum_most : (c : ℕ) → get_or ss c 0 ≤ i * 65535
  pub counts : (ps qs : List ℕ) → Ranked ps ds (length ds) → Ranked qs es (length es) → (c : ℕ) → get_or cs c 0 ≡ gathered (in_cell ts us ps qs c) one i
  pub sums : (ps qs : List ℕ) → Ranked ps ds (length ds) → Ranked qs es (length es) → (c : ℕ) → get_or ss c 0 ≡ gathered (in_cell ts us ps qs c) (value vs) i

pub readings_begin : {ts us vs ds es cs ss : List ℕ} → Clean ts us vs ds es cs ss → FilledTo ts us vs ds es cs ss 0
readings_begin {ts} {us} {vs} k = record {
  fit = k.fit;
  few = zero-le;
  count_most = λ c. rw (k.counts c) zero-le;
  sum_most = λ c. rw (k.sums c) zero-le;
  counts = λ ps qs R S c. k.counts c ∙ sym (gathered_none (in_cell ts us ps qs c) one);
  sums = λ ps qs R S c. k.sums c ∙ sym (gathered_none (in_cell ts us ps qs c) (value vs));
}

-- one reading more, of weight w i in cell r
entered : (xs : List ℕ) (key w : ℕ → ℕ) (i r v : ℕ) → v ≡ w i → r ≡ key i → r < length xs
    → ((c : ℕ) → get_or xs c 0 ≡ gathered (λ j. eqb (key j) c) w i)
    → (c : ℕ) → get_or (set xs r (get_or xs r 0 + v)) c 0 ≡ gathered (λ j. eqb (key j) c) w (i + 1)
entered xs key w i r v f e l h c =
    rw (add-one i) (by (ℕ_discrete c r) ∙ sym (gathered_more (λ j. eqb (key j) c) w i))
  where
    by : Dec (c ≡ r) → get_or (set xs r (get_or xs r 0 + v)) c 0 ≡ gathered (λ j. eqb (key j) c) w i + pick (eqb (key i) c) (w i) 0
    by (yes q) =
        rw (q, get_or-set_same xs r (get_or xs r 0 + v) 0 l, eq-eqb (key i) r (sym e), ← f) (ap (λ n. n + v) (h r))
    by (no q) =
        let z = ne_eqb (key i) c (λ g. q (sym (e ∙ g))) in
        rw z (get_or-set_other xs r c (get_or xs r 0 + v) 0 q ∙ h c ∙ omega arith)

-- no number of a list grows by more than one of the bound
raised_most : (xs : List ℕ) (r v b : ℕ) → v ≤ b → (i : ℕ) → ((c : ℕ) → get_or xs c 0 ≤ i * b) → r < length xs → (c : ℕ)
    → get_or (set xs r (get_or xs r 0 + v)) c 0 ≤ i * b + b
raised_most xs r v b l i f m c = by (ℕ_discrete c r)
  where
    by : Dec (c ≡ r) → get_or (set xs r (get_or xs r 0 + v)) c 0 ≤ i * b + b
    by (yes q) = let h = f r in rw (q, get_or-set_same xs r (get_or xs r 0 + v) 0 m) (omega arith)
    by (no q) = let h = f c in rw (get_or-set_other xs r c (get_or xs r 0 + v) 0 q) (omega arith)

module _ {ts us vs ds es cs ss : List ℕ} {i : ℕ} (k : FilledTo ts us vs ds es cs ss i) where
  module _ {x y r : ℕ} (f : CellFound ds es x y r) where
    count_there : r < length cs
    count_there = omega (arith, f.within, k.fit.counts)

    sum_there : r < length ss
    sum_there = omega (arith, f.within, k.fit.sums)

  module _ {r : ℕ} (f : CellFound ds es (get_or ts i 0) (get_or us i 0) r) where
    pub readings_go_on : (v : ℕ) → i < length ts → v ≡ get_or vs i 0 → ((j : ℕ) → Fits w16 (get_or vs j 0))
        → FilledTo ts us vs ds es (set cs r (get_or cs r 0 + 1)) (set ss r (get_or ss r 0 + v)) (i + 1)
    readings_go_on v l e w = record {
      fit = record {
        even = k.fit.even;
        even_values = k.fit.even_values;
        few = k.fit.few;
        few_cuts = k.fit.few_cuts;
        other_few_cuts = k.fit.other_few_cuts;
        counts = length-set cs r (get_or cs r 0 + 1) ∙ k.fit.counts;
        sums = length-set ss r (get_or ss r 0 + v) ∙ k.fit.sums;
      };
      few = omega arith;
      count_most = λ c. let h = raised_most cs r 1 1 (omega arith) i (λ d. let q = k.count_most d in omega arith) (count_there f) c in omega arith;
      sum_most = λ c. let h = raised_most ss r v 65535 (let h = w i in omega arith) i k.sum_most (sum_there f) c in omega arith;
      counts = λ ps qs R S. entered cs (λ j. 65 * strip ps (get_or ts j 0 + 65537) + strip qs (get_or us j 0 + 257)) one i r 1 refl (f.is ps qs R S)
          (count_there f) (k.counts ps qs R S);
      sums = λ ps qs R S. entered ss (λ j. 65 * strip ps (get_or ts j 0 + 65537) + strip qs (get_or us j 0 + 257)) (value vs) i r v e
          (f.is ps qs R S) (sum_there f) (k.sums ps qs R S);
    }

  pub readings_end : length ts ≤ i → CellsFilled ts us vs ds es cs ss
  readings_end l =
      let q : i ≡ length ts = omega (arith, k.few) in
      record {
        counts = λ zs hs ys ks R S. cells_listed zs hs ys ks one cs k.fit.counts
            (λ c. k.counts _ _ R S c ∙ ap (λ j. gathered (in_cell ts us (cuts_to 65537 zs hs (length zs)) (cuts_to 257 ys ks (length ys)) c) one j) q);
        sums = λ zs hs ys ks R S. cells_listed zs hs ys ks (value vs) ss k.fit.sums
            (λ c. k.sums _ _ R S c ∙ ap (λ j. gathered (in_cell ts us (cuts_to 65537 zs hs (length zs)) (cuts_to 257 ys ks (length ys)) c) (value vs) j) q);
      }
    where
      cells_listed : (zs hs ys ks : List ℕ) (w : ℕ → ℕ) (xs : List ℕ) → length xs ≡ 4225
          → ((c : ℕ) → get_or xs c 0 ≡ gathered (in_cell ts us (cuts_to 65537 zs hs (length zs)) (cuts_to 257 ys ks (length ys)) c) w (length ts))
          → xs ≡ cell_list (minute_axis ts zs hs) (temperature_axis us ys ks) w (length ts)
      cells_listed zs hs ys ks w xs e f =
          let A = minute_axis ts zs hs in
          let B = temperature_axis us ys ks in
          ext_get_or 0 xs (cell_list A B w (length ts)) (e ∙ sym (cell_list_length A B w (length ts)))
          (λ c u. f c ∙ cell_by_cuts ts us zs hs ys ks w (length ts) c ∙ sym (cell_list_at A B w (length ts) c (omega (arith, e))))
