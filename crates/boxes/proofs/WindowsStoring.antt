-- Mark by mark both places are stored. By ranked cuts they are the strips that the mark's window begins and ends with.
use Prim.Native.Nat.{ℕ, ◌+◌, ◌≤◌, ◌<◌}
use mathlib.Core.Path.{◌≡◌, sym, ap, ◌∙◌}
use mathlib.Core.List.{List, map}
use native.Mathlib.Decide.{ℕ_discrete}
use native.Mathlib.Omega.{arith}
use lib.ListN.{length, get_or, set, take, length-set}
use lib.Seq.{get_or-set_same, get_or-set_other}
use Rattle.std.proofs.lemmas.List.{length-map, get_or-map, map-set}
use Rattle.meanings.specs.declared.boxes.Window.{Window}
use Rattle.meanings.specs.boxes.Boxes.{Axis, shift, left_cut, right_cut, cuts_to, cuts}
use Rattle.meanings.specs.boxes.Lent.{firsts, ends}
use Rattle.laws.specs.boxes.Windows.{first_strip, end_strip}
use Rattle.boxes.specs.Cuts.{Place, Ranked}
use Rattle.boxes.proofs.Ranks.{ranked_front, place_is_strip}
use Rattle.boxes.specs.Windows.{Roomy, WindowsPut, WindowsTried}

-- the windows of the first i marks
pub record WindowsTo (zs hs : List ℕ) (s : ℕ) (ds : List ℕ) (ws₀ ws : List Window) (i : ℕ) : Type 0 where
  pub room : Roomy zs hs ws₀
  pub few : i ≤ length zs
  pub lent : length ws ≡ length ws₀
  pub first : (k : ℕ) → k < i → Place ds (length ds) (left_cut s (get_or zs k 0) (get_or hs k 0)) (get_or (firsts ws) k 0)
  pub end : (k : ℕ) → k < i → Place ds (length ds) (right_cut s (get_or zs k 0) (get_or hs k 0)) (get_or (ends ws) k 0)
  pub rest : (k : ℕ) (w : Window) → i ≤ k → get_or ws k w ≡ get_or ws₀ k w

-- one number more of a list by which a law holds at each position
stored_one_more : (P : ℕ → ℕ → Type 0) (xs : List ℕ) (i v : ℕ) → i < length xs → P i v → ((k : ℕ) → k < i → P k (get_or xs k 0))
    → (k : ℕ) → k < i + 1 → P k (get_or (set xs i v) k 0)
stored_one_more P xs i v l p f k m = by (ℕ_discrete k i)
  where
    by : Dec (k ≡ i) → P k (get_or (set xs i v) k 0)
    by (yes e) = rw (e, get_or-set_same xs i v 0 l) p
    by (no e) = rw (get_or-set_other xs i k v 0 e) (f k (omega (arith, e)))

module _ {zs hs : List ℕ} {s : ℕ} {ds : List ℕ} {ws₀ ws : List Window} {i : ℕ} (t : WindowsTo zs hs s ds ws₀ ws i) where
  there : i < length zs → i < length ws
  there l = omega (arith, t.room.windows, t.lent)

  windows_go_on : (c d : ℕ) (w : Window) → i < length zs → c ≡ left_cut s (get_or zs i 0) (get_or hs i 0)
      → d ≡ right_cut s (get_or zs i 0) (get_or hs i 0) → Place ds (length ds) c w.first → Place ds (length ds) d w.end
      → WindowsTo zs hs s ds ws₀ (set ws i w) (i + 1)
  windows_go_on c d w l e f P Q = record {
    room = t.room;
    few = omega arith;
    lent = length-set ws i w ∙ t.lent;
    first =
        rw (map-set (λ (v : Window). v.first) ws i w)
        (stored_one_more (λ k v. Place ds (length ds) (left_cut s (get_or zs k 0) (get_or hs k 0)) v) (firsts ws) i w.first
        (rw (length-map ws (λ (v : Window). v.first)) (there l)) (rw (← e) P) t.first);
    end =
        rw (map-set (λ (v : Window). v.end) ws i w)
        (stored_one_more (λ k v. Place ds (length ds) (right_cut s (get_or zs k 0) (get_or hs k 0)) v) (ends ws) i w.end
        (rw (length-map ws (λ (v : Window). v.end)) (there l)) (rw (← f) Q) t.end);
    rest = λ k u m. get_or-set_other ws i k w u (λ x. omega arith) ∙ t.rest k u (omega arith);
  }

  windows_end : length zs ≤ i → WindowsTried zs hs s ds ws₀ ws
  windows_end l = record {
    put = λ r. record {
      lent = t.lent;
      first = λ k m. t.first k (omega arith);
      end = λ k m. t.end k (omega arith);
      rest = λ k w m. t.rest k w (omega (arith, t.few));
    };
    left = λ r. absurd (r t.room);
  }

-- The numbers of marks.
module _ {T : Type 0} (f : T → ℕ) (ps : List T) {hs : List ℕ} {s : ℕ} {ds : List ℕ} {ws₀ ws : List Window} {i : ℕ}
    (t : WindowsTo (map f ps) hs s ds ws₀ ws i) where
  pub marks_go_on : (p : T) (z u u' c d : ℕ) (w : Window) → i < length ps → p ≡ get_or ps i p → z ≡ f p → u ≡ s → u' ≡ s
      → c ≡ left_cut u z (get_or hs i 0) → d ≡ right_cut u' z (get_or hs i 0) → Place ds (length ds) c w.first → Place ds (length ds) d w.end
      → WindowsTo (map f ps) hs s ds ws₀ (set ws i w) (i + 1)
  marks_go_on p z u u' c d w l e g h h' v v' P Q =
      let n : z ≡ get_or (map f ps) i 0 = g ∙ ap f e ∙ sym (get_or-map f ps i p 0 l) in
      windows_go_on t c d w (rw length-map l) (rw (n, h) at v) (rw (n, h') at v') P Q

  pub marks_end : length ps ≤ i → WindowsTried (map f ps) hs s ds ws₀ ws
  marks_end l = windows_end t (rw length-map l)

-- By ranked cuts: the strips of the windows of a direction.
module _ (A : Axis) (ds : List ℕ) (R : Ranked (cuts_to (shift A) A.points A.bandwidths (length A.points)) ds (length ds))
    {ws₀ ws : List Window} (W : WindowsPut A.points A.bandwidths (shift A) ds ws₀ ws) where
  pub window_begins_with : (k : ℕ) → k < length A.points → get_or (firsts ws) k 0 ≡ first_strip A k
  unfolding first_strip cuts
  window_begins_with k l = place_is_strip R _ _ (W.first k l)

  pub window_ends_before : (k : ℕ) → k < length A.points → get_or (ends ws) k 0 ≡ end_strip A k
  unfolding end_strip cuts
  window_ends_before k l = place_is_strip R _ _ (W.end k l)

-- The same of a list whose first n numbers are the cuts: a caller hands on those.
module _ (A : Axis) (ds : List ℕ) (n : ℕ) (R : Ranked (cuts_to (shift A) A.points A.bandwidths (length A.points)) ds n) (room : n ≤ length ds)
    {ws₀ ws : List Window} (W : WindowsPut A.points A.bandwidths (shift A) (take n ds) ws₀ ws) where
  pub front_begins_with : (k : ℕ) → k < length A.points → get_or (firsts ws) k 0 ≡ first_strip A k
  front_begins_with = window_begins_with A (take n ds) (ranked_front R room) W

  pub front_ends_before : (k : ℕ) → k < length A.points → get_or (ends ws) k 0 ≡ end_strip A k
  front_ends_before = window_ends_before A (take n ds) (ranked_front R room) W
