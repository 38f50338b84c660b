-- The k readings from the first start that stays are k nearest ones: those at their ends decide how far the k-th is, and none outside is nearer
-- than that. A start that one mark has passed every later mark passes too.
use Prim.Native.Nat.{ℕ, suc, ◌+◌, ◌-◌, ◌*◌, ◌≤◌, ◌<◌}
use mathlib.Core.Path.{◌≡◌, sym, ap, ◌∙◌}
use mathlib.Core.List.{List, [], ◌∷◌, ◌++◌}
use native.Mathlib.Decide.{dec_lt}
use native.Mathlib.Numerals.{add-one}
use native.Mathlib.Omega.{arith}
use borrow.Author.Tests.{ltb-true, le-leb}
use lib.Dec.{ltb, leb}
use lib.ListN.{length, get_or, take, set, length-set}
use lib.Seq.{take-suc, take-suc-set, take_all}
use Rattle.meanings.specs.Lists.{distance}
use Rattle.meanings.specs.neighbours.Neighbours.{neighbour_bandwidths, nearer, within, Kth}
use Rattle.meanings.proofs.Counting.{run_counted, no_more_counted}
use Rattle.meanings.proofs.Kth.{kth_is_kth_distance}
use Rattle.laws.proofs.neighbours.Edges.{bandwidths_length, bandwidth_at}
use Rattle.questions.specs.Nearest.{StartsPassed, NearestFrom, IsBandwidth, Fillable}

-- a reading is nearer than d, or no further, by where it lies
not_nearer_below : (t z d : ℕ) → t + d ≤ z → ¬ (distance t z < d)
unfolding distance
not_nearer_below t z d l m = omega arith

not_nearer_above : (t z d : ℕ) → z + d ≤ t → ¬ (distance t z < d)
unfolding distance
not_nearer_above t z d l m = omega arith

no_further : (t z d : ℕ) → z ≤ t + d → t ≤ z + d → distance t z ≤ d
unfolding distance
no_further t z d a b = omega arith

-- the k readings from a on lie within the distance of the further one of their ends, and fewer than k are nearer than that
module _ {ts : List ℕ} {k z a : ℕ} (w : NearestFrom ts k z a) where
  abbrev t : ℕ → ℕ
  t i = get_or ts i 0

  ends_in_order : t a ≤ t (a + k - 1)
  ends_in_order = w.passed.ordered a (a + k - 1) (omega (arith, w.passed.low)) (omega (arith, w.passed.room, w.passed.low))

  within_run : (d : ℕ) → z ≤ t a + d → t (a + k - 1) ≤ z + d → k ≤ within ts z d
  unfolding within
  within_run d u v =
      run_counted (λ x. leb (distance x z) d) ts a k w.passed.room
      (λ i b c. le-leb _ d (no_further (t i) z d (let p = w.passed.ordered a i b (omega (arith, w.passed.room)) in omega arith)
      (let q = w.passed.ordered i (a + k - 1) (omega arith) (omega (arith, w.passed.room, w.passed.low)) in omega arith)))

  nearer_run : (d b : ℕ) → ((i : ℕ) → i < length ts → distance (t i) z < d → (b ≤ i) × (i < b + (k - 1))) → nearer ts z d < k
  unfolding nearer
  nearer_run d b f =
      let m = no_more_counted (λ x. ltb (distance x z) d) ts b (k - 1) (λ i l e. f i l (ltb-true _ d e)) in
      omega (arith, w.passed.low)

  -- the first of the k is the further one: all nearer ones stand behind it, before the reading behind the run
  first_decides : t a + t (a + k - 1) ≤ 2 * z → Kth ts z k (z - t a)
  first_decides l = record {
    few_nearer = nearer_run (z - t a) (a + 1) (λ i m e. (after i m e (dec_lt a i), before i m e (dec_lt i (a + k))));
    enough_within = within_run (z - t a) (omega arith) (omega arith);
  }
    where
      after : (i : ℕ) → i < length ts → distance (t i) z < z - t a → Dec (a < i) → a + 1 ≤ i
      after i m e (yes b) = omega arith
      after i m e (no b) =
          absurd (not_nearer_below (t i) z (z - t a)
          (let p = w.passed.ordered i a (omega arith) (omega (arith, w.passed.room, w.passed.low)) in omega arith) e)

      before : (i : ℕ) → i < length ts → distance (t i) z < z - t a → Dec (i < a + k) → i < a + 1 + (k - 1)
      before i m e (yes b) = omega (arith, w.passed.low)
      before i m e (no b) =
          absurd (not_nearer_above (t i) z (z - t a)
          (let p = w.passed.ordered (a + k) i (omega arith) m in let q = w.stays (omega arith) in omega arith) e)

  -- the last of the k is: all nearer ones stand before it, and none before the run
  last_decides : 2 * z < t a + t (a + k - 1) → Kth ts z k (t (a + k - 1) - z)
  last_decides l = record {
    few_nearer = nearer_run d a (λ i m e. (after i m e (dec_lt i a), before i m e (dec_lt i (a + k - 1))));
    enough_within = within_run d (omega (arith, ends_in_order)) (omega (arith, ends_in_order));
  }
    where
      d : ℕ
      d = t (a + k - 1) - z

      after : (i : ℕ) → i < length ts → distance (t i) z < d → Dec (i < a) → a ≤ i
      after i m e (no b) = omega arith
      after i m e (yes b) =
          let q : a - 1 + k ≡ a + k - 1 = omega arith in
          let f : t (a - 1) + t (a - 1 + k) < 2 * z = w.passed.below (a - 1) (omega arith) in
          let g : t (a - 1) + t (a + k - 1) < 2 * z = rw (← q) f in
          let p = w.passed.ordered i (a - 1) (omega arith) (omega (arith, w.passed.room)) in
          absurd (not_nearer_below (t i) z d (omega (arith, ends_in_order)) e)

      before : (i : ℕ) → i < length ts → distance (t i) z < d → Dec (i < a + k - 1) → i < a + (k - 1)
      before i m e (yes b) = omega (arith, w.passed.low)
      before i m e (no b) =
          absurd (not_nearer_above (t i) z d
          (let p = w.passed.ordered (a + k - 1) i (omega arith) m in omega (arith, ends_in_order)) e)

  pub first_is_bandwidth : t a + t (a + k - 1) ≤ 2 * z → IsBandwidth ts z k (z - t a + 1)
  first_is_bandwidth l = record { is = ap (λ (d : ℕ). d + 1) (kth_is_kth_distance ts z k (z - t a) (first_decides l)) }

  pub last_is_bandwidth : 2 * z < t a + t (a + k - 1) → IsBandwidth ts z k (t (a + k - 1) - z + 1)
  last_is_bandwidth l = record { is = ap (λ (d : ℕ). d + 1) (kth_is_kth_distance ts z k (t (a + k - 1) - z) (last_decides l)) }

-- half widths are stored up to mark i, and the start passed so far is one that mark i passes too
pub record StoredTo (ts zs : List ℕ) (k : ℕ) (P₀ : List ℕ) (i start : ℕ) (P : List ℕ) : Type 0 where
  pub fit : Fillable ts zs k P₀
  pub upto : i ≤ length zs
  pub sized : length P ≡ length zs
  pub stored : take i P ≡ take i (neighbour_bandwidths ts zs k)
  pub passed : i < length zs → StartsPassed ts k (get_or zs i 0) start

module _ {ts zs : List ℕ} {k : ℕ} {P₀ : List ℕ} {i start : ℕ} {P : List ℕ} (w : StoredTo ts zs k P₀ i start P) where
  pub stored_length : length P ≡ length P₀
  stored_length = w.sized ∙ w.fit.even

  has_room : i < length zs → i < length P
  has_room l = omega (arith, w.sized)

  module _ (l : i < length zs) {start' h : ℕ} (s : NearestFrom ts k (get_or zs i 0) start') (b : IsBandwidth ts (get_or zs i 0) k h) where
    one_more : take (suc i) (set P i h) ≡ take (suc i) (neighbour_bandwidths ts zs k)
    one_more =
        take-suc-set P i h (has_room l)
        ∙ ap (λ (q : List ℕ). q ++ h ∷ []) w.stored
        ∙ ap (λ (n : ℕ). take i (neighbour_bandwidths ts zs k) ++ n ∷ []) (b.is ∙ sym (bandwidth_at ts zs k i l))
        ∙ sym (take-suc (neighbour_bandwidths ts zs k) i 0 (omega (arith, bandwidths_length ts zs k)))

    pub stores_go_on : StoredTo ts zs k P₀ (i + 1) start' (set P i h)
    stores_go_on = record {
      fit = w.fit;
      upto = omega arith;
      sized = length-set P i h ∙ w.sized;
      stored = rw (add-one i) one_more;
      passed = λ m. record {
        low = w.fit.low;
        ordered = w.fit.ordered;
        room = s.passed.room;
        below = λ j n.
            let f = s.passed.below j n in
            let o = w.fit.ordered_points i (i + 1) (omega arith) m in
            omega arith;
      };
    }

  pub stores_end : length zs ≤ i → P ≡ neighbour_bandwidths ts zs k
  stores_end l =
      sym (take_all i P (omega (arith, w.sized)))
      ∙ w.stored
      ∙ take_all i (neighbour_bandwidths ts zs k) (omega (arith, bandwidths_length ts zs k))
