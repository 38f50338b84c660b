-- Where the mark moves by e, every distance moves by at most e, and so does the k-th. So from mark to mark no edge goes back, and a sweep with
-- these half widths is refused with neither 9 nor 10. The readings need no order.
use Prim.Native.Nat.{ℕ, zero, suc, ◌+◌, ◌-◌, ◌≤◌, ◌<◌}
use mathlib.Core.Path.{◌≡◌, refl, sym, ap, ◌∙◌}
use mathlib.Core.Bool.{false}
use mathlib.Core.List.{List, [], ◌∷◌, ◌++◌}
use Rattle.std.specs.Prelude.{Option, None, Some}
use native.Mathlib.Decide.{dec_lt}
use native.Mathlib.Nat.{le_of_suc-le-suc, not-suc-le-zero}
use native.Mathlib.Omega.{arith}
use borrow.Author.Tests.{lt-ltb, leb-true, le-ltb, ne_eqb}
use lib.Dec.{ltb, leb}
use lib.ListN.{length, get_or}
use Rattle.meanings.specs.declared.Limits.{Limits}
use Rattle.meanings.specs.Limits.{max_u16, max_bandwidth, row_width}
use Rattle.meanings.specs.Lists.{distance, Ordered, AtMost}
use Rattle.meanings.specs.Reports.{Fault, refused, unless, Check, fault_or, first_of, outside_at, bad_bandwidth, edge_decreases, uneven_rows}
use Rattle.meanings.specs.Reports.{curve_size_checks, order_checks, windows_checks}
use Rattle.meanings.specs.Moves.{moves}
use Rattle.meanings.specs.Running.{fresh, passes}
use Rattle.meanings.specs.Calls.{smooth}
use Rattle.meanings.proofs.Checks.{first_of_front, first_of_rest}
use Rattle.meanings.proofs.Search.{none_lowest}
use Rattle.meanings.proofs.Window.{count_grows}
use Rattle.meanings.specs.neighbours.Neighbours.{kth_distance, neighbour_bandwidth, neighbour_bandwidths, nearer, within, Kth}
use Rattle.meanings.proofs.Counting.{run_counted}
use Rattle.meanings.proofs.Kth.{kth_distance_is_kth}

-- a distance moves by no more than the mark
distance_moves : (t z z' e : ℕ) → z' ≤ z + e → z ≤ z' + e → distance t z' ≤ distance t z + e
unfolding distance
distance_moves t z z' e a b = omega arith

within_moved : (ts : List ℕ) (z z' d d' e : ℕ) → z' ≤ z + e → z ≤ z' + e → d + e < d' → within ts z d ≤ nearer ts z' d'
unfolding nearer within
within_moved ts z z' d d' e a b l =
    count_grows (λ t. leb (distance t z) d) (λ t. ltb (distance t z') d')
    (λ t q. lt-ltb (distance t z') d' (let m = leb-true (distance t z) d q in let v = distance_moves t z z' e a b in omega arith)) ts

-- so the k-th distance does too
pub kth_moves : (ts : List ℕ) (z z' k d d' e : ℕ) → z' ≤ z + e → z ≤ z' + e → Kth ts z k d → Kth ts z' k d' → d' ≤ d + e
kth_moves ts z z' k d d' e a b p q = by (dec_lt (d + e) d')
  where
    by : Dec (d + e < d') → d' ≤ d + e
    by (yes l) = absurd (let w = within_moved ts z z' d d' e a b l in omega (arith, p.enough_within, q.few_nearer))
    by (no l) = omega arith

-- for minutes and a mark of 16 bits it is one of 16 bits
distance_small : (t z : ℕ) → t ≤ max_u16 → z ≤ max_u16 → distance t z ≤ max_u16
unfolding distance
distance_small t z a b = omega arith

all_nearer : (ts : List ℕ) (z d : ℕ) → AtMost max_u16 ts → z ≤ max_u16 → max_u16 < d → length ts ≤ nearer ts z d
unfolding nearer
all_nearer ts z d minutes point l =
    run_counted (λ t. ltb (distance t z) d) ts 0 (length ts) (omega arith)
    (λ i u v. lt-ltb (distance (get_or ts i 0) z) d (let m = distance_small (get_or ts i 0) z (minutes i (omega arith)) point in omega arith))

pub kth_small : (ts : List ℕ) (z k d : ℕ) → AtMost max_u16 ts → z ≤ max_u16 → k ≤ length ts → Kth ts z k d → d ≤ max_u16
kth_small ts z k d minutes point high p = by (dec_lt max_u16 d)
  where
    by : Dec (max_u16 < d) → d ≤ max_u16
    by (yes l) = absurd (let w = all_nearer ts z d minutes point l in omega (arith, p.few_nearer))
    by (no l) = omega arith

-- the list of half widths, one for each mark
pub bandwidths_length : (ts zs : List ℕ) (k : ℕ) → length (neighbour_bandwidths ts zs k) ≡ length zs
bandwidths_length ts [] k = refl
bandwidths_length ts (z ∷ zs) k = ap suc (bandwidths_length ts zs k)

pub bandwidth_at : (ts zs : List ℕ) (k i : ℕ) → i < length zs → get_or (neighbour_bandwidths ts zs k) i 0 ≡ neighbour_bandwidth ts (get_or zs i 0) k
bandwidth_at ts [] k i l = absurd (not-suc-le-zero l)
bandwidth_at ts (z ∷ zs) k zero l = refl
bandwidth_at ts (z ∷ zs) k (suc i) l = bandwidth_at ts zs k i (le_of_suc-le-suc l)

module _ (ts zs : List ℕ) (k : ℕ) (low : 1 ≤ k) (high : k ≤ length ts) where
  is_kth : (z : ℕ) → Kth ts z k (kth_distance ts z k)
  is_kth z = kth_distance_is_kth ts z k low high

  -- from a mark to one that is not before it neither edge falls
  edges_rise : (z z' : ℕ) → z ≤ z'
      → (z + neighbour_bandwidth ts z' k ≤ z' + neighbour_bandwidth ts z k) × (z + neighbour_bandwidth ts z k ≤ z' + neighbour_bandwidth ts z' k)
  edges_rise z z' l =
      let up = kth_moves ts z z' k (kth_distance ts z k) (kth_distance ts z' k) (z' - z) (omega arith) (omega arith) (is_kth z) (is_kth z') in
      let down = kth_moves ts z' z k (kth_distance ts z' k) (kth_distance ts z k) (z' - z) (omega arith) (omega arith) (is_kth z') (is_kth z) in
      (omega arith, omega arith)

  pub no_edge_back : Ordered zs → (i : ℕ) → i < length zs → edge_decreases zs (neighbour_bandwidths ts zs k) i ≡ false
  no_edge_back o zero l = refl
  no_edge_back o (suc i) l =
      let r = edges_rise (get_or zs i 0) (get_or zs (suc i) 0) (o i (suc i) (omega arith) l) in
      rw (bandwidth_at ts zs k i (omega arith), bandwidth_at ts zs k (suc i) l, le-ltb _ _ r.0, le-ltb _ _ r.1)

  pub no_bad_bandwidth : AtMost max_u16 ts → AtMost max_u16 zs → (i : ℕ) → i < length zs → bad_bandwidth (get_or (neighbour_bandwidths ts zs k) i 0) ≡ false
  no_bad_bandwidth minutes points i l =
      let s = kth_small ts (get_or zs i 0) k (kth_distance ts (get_or zs i 0) k) minutes (points i l) high (is_kth (get_or zs i 0)) in
      let h = neighbour_bandwidth ts (get_or zs i 0) k in
      rw (bandwidth_at ts zs k i l, ne_eqb h 0 (λ e. omega arith), le-ltb max_bandwidth h (omega arith))

  -- reports 9 and 10 find nothing
  pub windows_fit : AtMost max_u16 ts → AtMost max_u16 zs → Ordered zs → first_of (windows_checks zs (neighbour_bandwidths ts zs k)) ≡ None
  windows_fit minutes points o =
      let hs = neighbour_bandwidths ts zs k in
      rw (
        none_lowest (outside_at max_bandwidth hs) (length hs)
            (λ i l. no_bad_bandwidth minutes points i (let q = bandwidths_length ts zs k in omega arith)),
        none_lowest (edge_decreases zs hs) (length zs) (no_edge_back o),
      )

-- a fault has the number of one of the checks
HasNone : ℕ → List Check → Type 0
HasNone n [] = Unit
HasNone n (c ∷ cs) = ¬ (c.number ≡ n) × HasNone n cs

abbrev number_or : ℕ → Option Fault → ℕ
number_or n None = n
number_or n (Some f) = f.number

fault_numbered : (n : ℕ) (cs : List Check) → HasNone n cs → (e : Fault) → first_of cs ≡ Some e → ¬ (e.number ≡ n)
unfolding HasNone
fault_numbered n [] h e q m = let z : ◌≡◌ {A = ℕ} 0 1 = cc in omega arith
fault_numbered n (c ∷ cs) h e q m = by c.place q (fault_numbered n cs h.1 e)
  where
    by : (p : Option ℕ) → fault_or c.number p (first_of cs) ≡ Some e → (first_of cs ≡ Some e → ¬ (e.number ≡ n)) → ⊥
    by None r later = later r m
    by (Some p) r later = h.0 (ap (number_or c.number) r ∙ m)

refused_fault : {A : Type 0} (f : Option Fault) (a : A) (e : Fault) → unless f a ≡ refused e → f ≡ Some e
refused_fault None a e q = let z : ◌≡◌ {A = ℕ} 0 1 = cc in absurd (omega arith)
refused_fault (Some f) a e q = cc

-- the sweep with these half widths is refused for lengths and order alone
module _ (L : Limits) (ts vs zs rs : List ℕ) (k : ℕ) (minutes : AtMost max_u16 ts) (points : AtMost max_u16 zs) (low : 1 ≤ k) (high : k ≤ length ts)
    (o : Ordered zs) where
  sizes : List Check
  sizes = curve_size_checks L ts vs zs (neighbour_bandwidths ts zs k) (uneven_rows row_width (length rs) (length zs))

  not_numbered : (n : ℕ) → HasNone n sizes → HasNone n (order_checks ts zs) → (e : Fault)
      → smooth L ts vs zs (neighbour_bandwidths ts zs k) rs ≡ refused e → ¬ (e.number ≡ n)
  unfolding smooth sizes
  not_numbered n s r e q = by (first_of sizes) refl (first_of (order_checks ts zs)) refl
    where
      all : first_of (sizes ++ order_checks ts zs ++ windows_checks zs (neighbour_bandwidths ts zs k)) ≡ Some e
      all = refused_fault _ (passes ts vs fresh (moves zs (neighbour_bandwidths ts zs k))) e q

      windows : List Check
      windows = windows_checks zs (neighbour_bandwidths ts zs k)

      by : (f : Option Fault) → first_of sizes ≡ f → (g : Option Fault) → first_of (order_checks ts zs) ≡ g → ¬ (e.number ≡ n)
      by (Some f) u g v = fault_numbered n sizes s e (u ∙ sym (first_of_front sizes (order_checks ts zs ++ windows) f u) ∙ all)
      by None u (Some g) v =
          fault_numbered n (order_checks ts zs) r e
          (v ∙ sym (first_of_front (order_checks ts zs) windows g v) ∙ sym (first_of_rest sizes (order_checks ts zs ++ windows) u) ∙ all)
      by None u None v =
          let w : None ≡ Some e =
          sym (windows_fit ts zs k low high minutes points o)
          ∙ sym (first_of_rest (order_checks ts zs) windows v)
          ∙ sym (first_of_rest sizes (order_checks ts zs ++ windows) u)
          ∙ all in
          let z : ◌≡◌ {A = ℕ} 0 1 = cc in
          absurd (omega arith)

  pub never_nine_or_ten : (e : Fault) → smooth L ts vs zs (neighbour_bandwidths ts zs k) rs ≡ refused e → ¬ (e.number ≡ 9) × ¬ (e.number ≡ 10)
  unfolding HasNone sizes
  never_nine_or_ten e q = (
    not_numbered 9 (λ a. omega arith, (λ a. omega arith, (λ a. omega arith, tt))) (λ a. omega arith, (λ a. omega arith, tt)) e q,
    not_numbered 10 (λ a. omega arith, (λ a. omega arith, (λ a. omega arith, tt))) (λ a. omega arith, (λ a. omega arith, tt)) e q,
  )
