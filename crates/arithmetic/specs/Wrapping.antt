-- Sums and differences modulo 2^w: what is added or let go in parts is so at once, and a difference is the number that leads back.
use Rattle.std.proofs.Common.{◌≡◌, ℕ, ◌+◌, ◌-◌, ◌%◌, ◌^◌, ◌<◌, sym, ap, ◌∙◌, add-zero, add_assoc, mod-lt, mod-eq_of_lt, arith, pow_pos}
use native.Mathlib.Nat.{mod-mod, mod-add-mod, add-mod-mod, add-mod_right}
use Rattle.meanings.specs.Running.{plus, minus}
use Rattle.meanings.proofs.Modulo.{minus_undone}

pub plus_zero : (w a : ℕ) → a < 2 ^ w → plus w a 0 ≡ a
plus_zero w a l = rw (add-zero a) (mod-eq_of_lt l)

pub plus_plus : (w a b c : ℕ) → plus w (plus w a b) c ≡ plus w a (b + c)
plus_plus w a b c = mod-add-mod (a + b) (2 ^ w) c ∙ rw add_assoc

-- b and what b lacks of 2^w, added
pub plus_full_turn : (w a b : ℕ) → (a + b + (2 ^ w - b % 2 ^ w)) % 2 ^ w ≡ a % 2 ^ w
plus_full_turn w a b =
    let turn : a + b % 2 ^ w + (2 ^ w - b % 2 ^ w) ≡ a + 2 ^ w = omega (arith, mod-lt b (pow_pos w)) in
    sym (mod-add-mod (a + b) (2 ^ w) _) ∙ rw (← (add-mod-mod a b (2 ^ w)), mod-add-mod, turn) (add-mod_right a (2 ^ w))

minus_unique : (w a b r : ℕ) → r < 2 ^ w → (r + b) % 2 ^ w ≡ a % 2 ^ w → r ≡ minus w a b
minus_unique w a b r l e = sym (sym (mod-add-mod a (2 ^ w) _) ∙ rw (← e, mod-add-mod) (plus_full_turn w r b ∙ mod-eq_of_lt l))

-- the number that b added to wraps back to a
pub wraps_back_is_minus : (w a b r : ℕ) → r < 2 ^ w → (r + b) % 2 ^ w ≡ a → r ≡ minus w a b
wraps_back_is_minus w a b r l e = minus_unique w a b r l (sym (mod-mod (r + b) (2 ^ w)) ∙ ap (λ n. n % 2 ^ w) e)

pub minus_zero : (w a : ℕ) → a < 2 ^ w → minus w a 0 ≡ a
minus_zero w a l = sym (minus_unique w a 0 a l (rw (add-zero a)))

pub minus_minus : (w a b c : ℕ) → minus w (minus w a b) c ≡ minus w a (b + c)
minus_minus w a b c =
    minus_unique w a (b + c) _ (mod-lt _ (pow_pos w))
    (both (minus w a b) _ (minus_undone w a b) (minus_undone w (minus w a b) c))
  where
    both : (m r : ℕ) → (m + b) % 2 ^ w ≡ a % 2 ^ w → (r + c) % 2 ^ w ≡ m % 2 ^ w → (r + (b + c)) % 2 ^ w ≡ a % 2 ^ w
    both m r e d =
        let regroup : r + (b + c) ≡ r + c + b = omega arith in
        rw (regroup, ← (mod-add-mod (r + c) (2 ^ w) b), d, mod-add-mod m (2 ^ w) b) e
