-- Of ranked cuts the first s lie at or below x and no other does, s being the strip of x. So counting each eighth one gives an eighth of s, and
-- counting the block behind gives the rest.
use Prim.Native.Nat.{ℕ, ◌+◌, ◌*◌, ◌/◌, ◌≤◌, ◌<◌, min}
use mathlib.Core.Path.{◌≡◌, ap, ◌∙◌}
use mathlib.Core.List.{List}
use native.Mathlib.Decide.{dec_lt, dec_le}
use native.Mathlib.Omega.{arith}
use borrow.Author.Tests.{le-leb, lt-leb}
use lib.Dec.{leb}
use lib.ListN.{length, get_or}
use Rattle.std.specs.Int.{from_bool}
use Rattle.meanings.specs.boxes.Boxes.{strip}
use Rattle.laws.proofs.boxes.Strips.{strip_grows, strip_rises}
use Rattle.boxes.specs.Cuts.{Ranked}
use Rattle.boxes.specs.Strips.{Split, Eighths, Block, StripFound, StripOrZero}

-- of the first n numbers of ds the first s lie at or below x, the others above it
pub record FrontSplit (ds : List ℕ) (n x s : ℕ) : Type 0 where
  pub few : s ≤ n
  pub below : (k : ℕ) → k < s → k < n → get_or ds k 0 ≤ x
  pub above : (k : ℕ) → s ≤ k → k < n → x < get_or ds k 0

pub front_split : (cs ds : List ℕ) (n x : ℕ) → Ranked cs ds n → FrontSplit ds n x (strip cs x)
front_split cs ds n x R = record {
  few = R.most x;
  below = λ k l m. below k l m (dec_le (get_or ds k 0) x);
  above = λ k l m. above k l m (dec_lt x (get_or ds k 0));
}
  where
    below : (k : ℕ) → k < strip cs x → k < n → Dec (get_or ds k 0 ≤ x) → get_or ds k 0 ≤ x
    below k l m (yes d) = d
    below k l m (no d) =
        absurd (let r = strip_rises cs x (get_or ds k 0) (R.cut k m) (omega arith) in let e = R.rank k m in omega arith)

    above : (k : ℕ) → strip cs x ≤ k → k < n → Dec (x < get_or ds k 0) → x < get_or ds k 0
    above k l m (yes d) = d
    above k l m (no d) = absurd (let g = strip_grows cs (get_or ds k 0) x (omega arith) in let e = R.rank k m in omega arith)

-- of a list that is cuts whole
pub ranked_split : (cs ds : List ℕ) (x : ℕ) → Ranked cs ds (length ds) → Split ds x (strip cs x)
ranked_split cs ds x R =
    let S = front_split cs ds (length ds) x R in
    record { few = S.few; below = λ k l. S.below k l (omega (arith, S.few)); above = S.above }

-- f is 1 for a cut at or below x, else 0
flag : (c x f : ℕ) → f ≡ from_bool (leb c x) → (f ≤ 1) × (c ≤ x → f ≡ 1) × (x < c → f ≡ 0)
flag c x f e = by (dec_le c x)
  where
    by : Dec (c ≤ x) → (f ≤ 1) × (c ≤ x → f ≡ 1) × (x < c → f ≡ 0)
    by (yes l) = let q : f ≡ 1 = e ∙ ap from_bool (le-leb c x l) in (omega arith, λ m. q, λ m. absurd (omega arith))
    by (no l) = let q : f ≡ 0 = e ∙ ap from_bool (lt-leb c x (omega (arith, l))) in (omega arith, λ m. absurd (l m), λ m. q)

-- Each eighth cut; i of them have been looked at.
pub record EighthsTo (ds : List ℕ) (x a i : ℕ) : Type 0 where
  pub counted : a ≤ i
  pub all : (s : ℕ) → Split ds x s → 8 * i ≤ s → a ≡ i
  pub least : (s : ℕ) → Split ds x s → s < 8 * i → 8 * a ≤ s
  pub most : (s : ℕ) → Split ds x s → s < 8 * i → s < 8 * a + 8

module _ {ds : List ℕ} {x a i : ℕ} (t : EighthsTo ds x a i) where
  pub eighths_go_on : (f : ℕ) → i < length ds / 8 → f ≡ from_bool (leb (get_or ds (8 * i + 7) 0) x) → EighthsTo ds x (a + f) (i + 1)
  eighths_go_on f l e = let F = flag (get_or ds (8 * i + 7) 0) x f e in record {
    counted = omega (arith, t.counted, F.0);
    all = λ s S u. let p = t.all s S (omega arith) in let g = F.1 (S.below (8 * i + 7) (omega arith)) in omega arith;
    least = λ s S u. let z = F.2 (S.above (8 * i + 7) (omega arith) (omega arith)) in low s S z (dec_lt s (8 * i));
    most = λ s S u. let z = F.2 (S.above (8 * i + 7) (omega arith) (omega arith)) in high s S z u (dec_lt s (8 * i));
  }
    where
      low : (s : ℕ) → Split ds x s → f ≡ 0 → Dec (s < 8 * i) → 8 * (a + f) ≤ s
      low s S z (yes d) = let h = t.least s S d in omega arith
      low s S z (no d) = let p = t.all s S (omega arith) in omega arith

      high : (s : ℕ) → Split ds x s → f ≡ 0 → s < 8 * (i + 1) → Dec (s < 8 * i) → s < 8 * (a + f) + 8
      high s S z u (yes d) = let h = t.most s S d in omega arith
      high s S z u (no d) = let p = t.all s S (omega arith) in omega arith

  pub eighths_end : length ds / 8 ≤ i → i ≤ length ds / 8 → Eighths ds x a
  eighths_end l m = record {
    few = omega (arith, t.counted);
    least = λ s S. low s S (dec_lt s (8 * i));
    most = λ s S. high s S (dec_lt s (8 * i));
  }
    where
      low : (s : ℕ) → Split ds x s → Dec (s < 8 * i) → 8 * a ≤ s
      low s S (yes d) = t.least s S d
      low s S (no d) = let e = t.all s S (omega arith) in omega arith

      high : (s : ℕ) → Split ds x s → Dec (s < 8 * i) → s < 8 * a + 8
      high s S (yes d) = t.most s S d
      high s S (no d) = let e = t.all s S (omega arith) in omega (arith, S.few)

-- The block behind p, up to i.
pub record BlockTo (ds : List ℕ) (p x c i : ℕ) : Type 0 where
  pub counted : p + c ≤ i
  pub all : (s : ℕ) → Split ds x s → i ≤ s → p + c ≡ i
  pub rest : (s : ℕ) → Split ds x s → p ≤ s → s ≤ i → p + c ≡ s

module _ {ds : List ℕ} {p x c i : ℕ} (t : BlockTo ds p x c i) where
  pub block_goes_on : (e f : ℕ) → e ≡ min (length ds) (p + 8) → i < e → f ≡ from_bool (leb (get_or ds i 0) x) → BlockTo ds p x (c + f) (i + 1)
  block_goes_on e f q l g = let F = flag (get_or ds i 0) x f g in record {
    counted = omega (arith, t.counted, F.0);
    all = λ s S u. let g = F.1 (S.below i (omega arith)) in let h = t.all s S (omega arith) in omega arith;
    rest = λ s S u v. by F s S u v (dec_le s i);
  }
    where
      by : (f ≤ 1) × (get_or ds i 0 ≤ x → f ≡ 1) × (x < get_or ds i 0 → f ≡ 0) → (s : ℕ) → Split ds x s → p ≤ s → s ≤ i + 1 → Dec (s ≤ i)
          → p + (c + f) ≡ s
      by F s S u v (yes d) = let z = F.2 (S.above i d (omega arith)) in let h = t.rest s S u d in omega arith
      by F s S u v (no d) = let g = F.1 (S.below i (omega arith)) in let h = t.all s S (omega arith) in omega arith

  pub block_ends : (e : ℕ) → e ≡ min (length ds) (p + 8) → p ≤ length ds → (p ≤ e → i ≤ e) → e ≤ i → Block ds p x c
  block_ends e q m n l = record {
    few = omega (arith, t.counted, n (omega arith));
    is = λ s S u v. t.rest s S u (omega (arith, S.few));
  }

-- Both.
pub strip_found : (ds : List ℕ) (x a c : ℕ) → Eighths ds x a → Block ds (8 * a) x c → StripFound ds x (8 * a + c)
strip_found ds x a c E B = record {
  few = B.few;
  is = λ cs R. let S = ranked_split cs ds x R in B.is (strip cs x) S (E.least (strip cs x) S) (E.most (strip cs x) S);
}

pub strip_or_zero : (ds : List ℕ) (x a c : ℕ) → ¬ (64 < length ds) → Eighths ds x a → Block ds (8 * a) x c → StripOrZero ds x (8 * a + c)
strip_or_zero ds x a c few E B = record { found = λ l. strip_found ds x a c E B; many = λ l. absurd (few l) }
