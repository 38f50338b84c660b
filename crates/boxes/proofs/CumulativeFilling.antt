-- A row of the table is the row above and the running sum of its own cells. Cells of 32 bits keep every sum far below 2^64.
use Prim.Native.Nat.{ℕ, zero, suc, ◌+◌, ◌*◌, ◌≤◌, ◌<◌, zero-le}
use mathlib.Core.Path.{◌≡◌, refl, sym, ap, ◌∙◌}
use mathlib.Core.List.{List, ◌++◌}
use native.Mathlib.Decide.{ℕ_discrete}
use native.Mathlib.Numerals.{add-one}
use native.Mathlib.Nat.{zero-add}
use native.Mathlib.Omega.{arith}
use mir.Val.{Fits}
use mir.Syntax.{w32, w64}
use lib.ListN.{length, get_or, set, take, drop, replicate, length-set, length-replicate, get_or-append}
use Rattle.std.proofs.lemmas.List.{length-take-le, get_or-replicate}
use lib.Seq.{get_or-set_same, get_or-set_other}
use Rattle.meanings.specs.Lists.{total}
use Rattle.meanings.proofs.Totals.{total_zero}
use Rattle.boxes.specs.Tables.{row_sum, cumulative, RowsTo, Accumulated, Tried}

-- one cell more, and one row more
row_more : (cs : List ℕ) (a b : ℕ) → row_sum cs a (b + 1) ≡ row_sum cs a b + get_or cs (65 * a + b) 0
unfolding row_sum
row_more cs a b = rw (add-one b) (rw (zero-add b) refl)

row_none : (cs : List ℕ) (a : ℕ) → row_sum cs a 0 ≡ 0
unfolding row_sum
row_none cs a = refl

rows_more : (cs : List ℕ) (a b : ℕ) → cumulative cs (a + 1) b ≡ cumulative cs a b + row_sum cs a b
unfolding cumulative
rows_more cs a b = rw (add-one a) (rw (zero-add a) refl)

rows_none : (cs : List ℕ) (b : ℕ) → cumulative cs 0 b ≡ 0
unfolding cumulative
rows_none cs b = refl

rows_empty : (cs : List ℕ) (a : ℕ) → cumulative cs a 0 ≡ 0
unfolding cumulative
rows_empty cs a = total_zero _ 0 a (λ x u o. row_none cs x)

-- no more than the number of terms times the greatest
total_most : (g : ℕ → ℕ) (m a n : ℕ) → ((i : ℕ) → g i ≤ m) → total g a n ≤ n * m
total_most g m a zero f = zero-le
total_most g m a (suc n) f = let h = total_most g m a n f in let l = f (a + n) in omega arith

row_most : (cs : List ℕ) (a b : ℕ) → ((i : ℕ) → Fits w32 (get_or cs i 0)) → b ≤ 65 → row_sum cs a b ≤ 279172874240
unfolding row_sum
row_most cs a b f l =
    let h = total_most (λ y. get_or cs (65 * a + y) 0) 4294967296 0 b (λ y. let q = f (65 * a + y) in omega (arith, q)) in
    omega arith

pub rows_most : (cs : List ℕ) (a b : ℕ) → ((i : ℕ) → Fits w32 (get_or cs i 0)) → b ≤ 65 → cumulative cs a b ≤ a * 279172874240
unfolding cumulative
rows_most cs a b f l = total_most (λ x. row_sum cs x b) 279172874240 0 a (λ x. row_most cs x b f l)

-- The first row.
pub first_row : (ts : List ℕ) {cs us : List ℕ} → length ts ≡ 4356 → us ≡ replicate (length (take 66 ts)) 0 → RowsTo cs (us ++ drop 66 ts) 0
first_row ts {cs} {us} l e = record {
  holds = λ x y m n. let p : 66 * x + y ≡ y = omega arith in
      let q : x ≡ 0 = omega arith in
      rw (p, q) (get_or-append us (drop 66 ts) 0 y (omega (arith, long)) ∙ zero_at y n ∙ sym (rows_none cs y));
}
  where
    numbers : length (take 66 ts) ≡ 66
    numbers = length-take-le 66 ts (omega (arith, l))

    long : length us ≡ 66
    long = ap length e ∙ length-replicate (length (take 66 ts)) 0 ∙ numbers

    zero_at : (y : ℕ) → y ≤ 65 → get_or us y 0 ≡ 0
    zero_at y m = rw e (get_or-replicate (length (take 66 ts)) y 0 0 (omega (arith, numbers)))

-- A row: b of its numbers are stored behind the first one, and row is the sum of its first b cells.
pub record RowPart (cs ts : List ℕ) (a b row : ℕ) : Type 0 where
  pub room : length ts ≡ 4356
  pub more : a < 65
  pub before : (x y : ℕ) → x ≤ a → y ≤ 65 → get_or ts (66 * x + y) 0 ≡ cumulative cs x y
  pub here : (y : ℕ) → y ≤ b → get_or ts (66 * (a + 1) + y) 0 ≡ cumulative cs (a + 1) y
  pub sum : row ≡ row_sum cs a b

pub row_begins : (cs ts : List ℕ) (a : ℕ) → RowsTo cs ts a → a < 65 → length ts ≡ 4356 → RowPart cs (set ts (66 * (a + 1)) 0) a 0 0
row_begins cs ts a r m s = record {
  room = length-set ts (66 * (a + 1)) 0 ∙ s;
  more = m;
  before = λ x y l n. get_or-set_other ts (66 * (a + 1)) (66 * x + y) 0 0 (λ e. omega arith) ∙ r.holds x y l n;
  here = λ y l. let e : y ≡ 0 = omega arith in
      let q : 66 * (a + 1) + y ≡ 66 * (a + 1) = omega arith in
      rw (q, e) (get_or-set_same ts (66 * (a + 1)) 0 0 (omega (arith, m, s)) ∙ sym (rows_empty cs (a + 1)));
  sum = sym (row_none cs a);
}

module _ {cs ts : List ℕ} {a b row : ℕ} (r : RowPart cs ts a b row) where
  pub row_goes_on : b < 65
      → RowPart cs (set ts (66 * (a + 1) + b + 1) (get_or ts (66 * a + b + 1) 0 + (row + get_or cs (65 * a + b) 0))) a (b + 1)
      (row + get_or cs (65 * a + b) 0)
  row_goes_on l =
      let p = 66 * (a + 1) + b + 1 in
      let v = get_or ts (66 * a + b + 1) 0 + (row + get_or cs (65 * a + b) 0) in
      record {
        room = length-set ts p v ∙ r.room;
        more = r.more;
        before = λ x y m n. get_or-set_other ts p (66 * x + y) v 0 (λ e. omega arith) ∙ r.before x y m n;
        here = λ y m. by y m (ℕ_discrete y (b + 1));
        sum = ap (λ n. n + get_or cs (65 * a + b) 0) r.sum ∙ sym (row_more cs a b);
      }
    where
      added : get_or ts (66 * a + b + 1) 0 + (row + get_or cs (65 * a + b) 0) ≡ cumulative cs (a + 1) (b + 1)
      added =
          let q : 66 * a + (b + 1) ≡ 66 * a + b + 1 = omega arith in
          let u : get_or ts (66 * a + b + 1) 0 ≡ cumulative cs a (b + 1) = rw (← q) (r.before a (b + 1) (omega arith) (omega arith)) in
          let o = r.sum in
          let t = row_more cs a b in
          let w = rows_more cs a (b + 1) in
          omega arith

      by : (y : ℕ) → y ≤ b + 1 → Dec (y ≡ b + 1)
          → get_or (set ts (66 * (a + 1) + b + 1) (get_or ts (66 * a + b + 1) 0 + (row + get_or cs (65 * a + b) 0))) (66 * (a + 1) + y) 0
          ≡ cumulative cs (a + 1) y
      by y m (yes e) =
          let q : 66 * (a + 1) + (b + 1) ≡ 66 * (a + 1) + b + 1 = omega arith in
          rw (e, q) (get_or-set_same ts (66 * (a + 1) + b + 1) _ 0 (omega (arith, r.more, r.room)) ∙ added)
      by y m (no e) =
          get_or-set_other ts (66 * (a + 1) + b + 1) (66 * (a + 1) + y) _ 0 (λ f. omega (arith, e)) ∙ r.here y (omega (arith, e))

  pub running_fits : ((i : ℕ) → Fits w32 (get_or cs i 0)) → b < 65 → Fits w64 (row + get_or cs (65 * a + b) 0)
  running_fits f l =
      let m = row_most cs a (b + 1) f (omega arith) in
      let t = row_more cs a b in
      omega (arith, r.sum)

  pub number_fits : ((i : ℕ) → Fits w32 (get_or cs i 0)) → b < 65 → Fits w64 (get_or ts (66 * a + b + 1) 0 + (row + get_or cs (65 * a + b) 0))
  number_fits f l =
      let q : 66 * a + (b + 1) ≡ 66 * a + b + 1 = omega arith in
      let u : get_or ts (66 * a + b + 1) 0 ≡ cumulative cs a (b + 1) = rw (← q) (r.before a (b + 1) (omega arith) (omega arith)) in
      let m = row_most cs a (b + 1) f (omega arith) in
      let n = rows_most cs a (b + 1) f (omega arith) in
      let t = row_more cs a b in
      omega (arith, r.sum, r.more)

-- the call from both lists as arrays
pub filled_whole : {cs cs' ts us : List ℕ} → length cs ≡ 4225 → length ts ≡ 4356 → cs' ≡ cs → Accumulated cs' us → Tried cs ts us
filled_whole l m e f = record { filled = λ s. rw (← e) f; left = λ n. absurd (n (record { cells = l; room = m })) }
