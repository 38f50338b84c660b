-- Sums with something more and something less, modulo 2^w: what is more on both sides may be left out, so gains and losses of several moves add
-- up, and only their difference counts. No case for direction, overlap or disjoint runs.
use Prim.Native.Nat.{ℕ, ◌+◌, ◌-◌, ◌%◌, ◌^◌, ◌<◌}
use mathlib.Core.Path.{◌≡◌, refl, sym, ap, ◌∙◌}
use native.Mathlib.Nat.{mod-lt, mod-mod, mod-add-mod}
use native.Mathlib.Omega.{arith}
use lib.Pow.{pow_pos}
use Rattle.meanings.specs.Running.{plus, minus}
use Rattle.meanings.proofs.Modulo.{minus_below, minus_undone}
use Rattle.arithmetic.specs.Wrapping.{plus_full_turn, wraps_back_is_minus}
use Rattle.regression.specs.Travels.{Alike, Settles}

module _ {w : ℕ} where
  -- the same numbers in other words
  regrouped : {a b a' b' : ℕ} → Alike w a b → a' ≡ a → b ≡ b' → Alike w a' b'
  regrouped e l r = record { remainders = ap (λ (n : ℕ). n % 2 ^ w) l ∙ e.remainders ∙ ap (λ (n : ℕ). n % 2 ^ w) r }

  turned_round : {a b : ℕ} → Alike w a b → Alike w b a
  turned_round e = record { remainders = sym e.remainders }

  on_to : {a b c d : ℕ} → Alike w a b → Alike w c d → b ≡ c → Alike w a d
  on_to e f q = record { remainders = e.remainders ∙ ap (λ (n : ℕ). n % 2 ^ w) q ∙ f.remainders }

  with_more : {a b : ℕ} (c : ℕ) → Alike w a b → Alike w (a + c) (b + c)
  with_more {a} {b} c e = record {
    remainders = sym (mod-add-mod a (2 ^ w) c) ∙ ap (λ (n : ℕ). (n + c) % 2 ^ w) e.remainders ∙ mod-add-mod b (2 ^ w) c;
  }

  without_more : {a b : ℕ} (c : ℕ) → Alike w (a + c) (b + c) → Alike w a b
  without_more {a} {b} c e = record {
    remainders = sym (plus_full_turn w a c) ∙ (with_more (2 ^ w - c % 2 ^ w) e).remainders ∙ plus_full_turn w b c;
  }

  sum_alike : (a b : ℕ) → Alike w (plus w a b) (a + b)
  sum_alike a b = record { remainders = mod-mod (a + b) (2 ^ w) }

  difference_alike : (a b : ℕ) → Alike w (minus w a b + b) a
  difference_alike a b = record { remainders = minus_undone w a b }

  pub settles_at_first : {s u : ℕ} → s < 2 ^ w → Settles w s u u s
  settles_at_first l = record { below = l; settled = record { remainders = refl } }

  module _ {s u v x : ℕ} (a : Settles w s u v x) where
    pub settles_is_minus : x ≡ minus w (plus w s u) v
    settles_is_minus = wraps_back_is_minus w (plus w s u) v x a.below a.settled.remainders

    -- g more
    pub settles_gains : (g : ℕ) → Settles w s (u + g) v (plus w x g)
    settles_gains g = record {
      below = mod-lt _ (pow_pos w);
      settled = regrouped (on_to (with_more v (sum_alike x g)) (with_more g a.settled) (omega arith)) refl (omega arith);
    }

    -- one move after another
    pub settles_on : {u' v' y : ℕ} → Settles w x u' v' y → Settles w s (u + u') (v + v') y
    settles_on {u'} b = record {
      below = b.below;
      settled = regrouped (on_to (with_more v b.settled) (with_more u' a.settled) (omega arith)) (omega arith) (omega arith);
    }

    -- what is gained and lost, in other words
    pub settles_alike : (u' v' : ℕ) → u + v' ≡ u' + v → Settles w s u' v' x
    settles_alike u' v' e = record {
      below = a.below;
      settled = without_more v (regrouped (with_more v' a.settled) (omega arith) (omega arith));
    }

  -- g less, where it was gained
  pub settles_loses : {s u v x : ℕ} (g : ℕ) → Settles w s (u + g) v x → Settles w s u v (minus w x g)
  settles_loses {s} {u} {v} {x} g a = record {
    below = minus_below w x g;
    settled = without_more g (regrouped (on_to (with_more v (difference_alike x g)) a.settled refl) (omega arith) (omega arith));
  }

  -- x has gained u and lost v; y, from 0, has gained u' and lost v': x without y has gained v' and lost u' too
  pub settles_apart : {s u v x u' v' y : ℕ} → Settles w s u v x → Settles w 0 u' v' y → Settles w s (u + v') (v + u') (minus w x y)
  settles_apart {s} {u} {v} {x} {u'} {v'} {y} a b = record {
    below = minus_below w x y;
    settled = regrouped (on_to (turned_round (with_more (minus w x y + v) b.settled)) lost (omega arith)) (omega arith) (omega arith);
  }
    where
      lost : Alike w (minus w x y + y + (v + v')) (s + u + v')
      lost = on_to (with_more (v + v') (difference_alike x y)) (with_more v' a.settled) (omega arith)
