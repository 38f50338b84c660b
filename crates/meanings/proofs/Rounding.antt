-- The rounded quotient is the nearest whole number, a half to the even neighbour: with s = q w + r it is q where 2 r is below w, q + 1 where it is
-- above, and of both the even one where 2 r is w. No other number is nearest. What else is said of it follows from Nearest alone.
use Prim.Native.Nat.{ℕ, ◌+◌, ◌*◌, ◌/◌, ◌%◌, ◌≤◌, ◌<◌}
use mathlib.Core.Path.{◌≡◌, refl, sym, ◌∙◌}
use mathlib.Core.Logic.{◌↔◌}
use native.Mathlib.Nat.{div-add-mod', mod-lt, mul-le-mul_right, mul_comm, le_refl}
use native.Mathlib.Decide.{dec_le, dec_lt, ℕ_discrete}
use native.Mathlib.Omega.{arith}
use borrow.Author.Tests.{lt-ltb, le-ltb, le-leb, lt-leb, ne_eqb}
use lib.Dec.{leb}
use Rattle.meanings.specs.Lists.{pick}
use Rattle.meanings.specs.PublishedRow.{Nearest}
use Rattle.meanings.specs.Estimate.{rounded, value_of, missing}

-- below, above or at a half
data Half (r w : ℕ) : Type 0 where
  below : 2 * r < w → Half r w
  above : w < 2 * r → Half r w
  half : 2 * r ≡ w → Half r w

half_of : (r w : ℕ) → Half r w
half_of r w = by (dec_lt (2 * r) w) (dec_lt w (2 * r))
  where
    by : Dec (2 * r < w) → Dec (w < 2 * r) → Half r w
    by (yes l) d = below l
    by (no n) (yes l) = above l
    by (no n) (no m) = half (omega arith)

-- which number is nearest, by the rest
module _ (s w q r : ℕ) (e : q * w + r ≡ s) (l : r < w) where
  kept : 2 * r < w → Nearest s w q
  kept h = record { low = omega arith; high = omega arith; low_even = λ m. let k = m in omega arith; high_even = λ m. let k = m in omega arith }

  raised : w < 2 * r → Nearest s w (q + 1)
  raised h = record { low = omega arith; high = omega arith; low_even = λ m. let k = m in omega arith; high_even = λ m. let k = m in omega arith }

  made_even : 2 * r ≡ w → Nearest s w (q + q % 2)
  made_even h = by (ℕ_discrete (q % 2) 0)
    where
      by : Dec (q % 2 ≡ 0) → Nearest s w (q + q % 2)
      by (yes z) = rw z (record { low = omega arith; high = omega arith; low_even = λ m. omega arith; high_even = λ m. omega arith })
      by (no n) =
          let o : q % 2 ≡ 1 = omega arith in
          rw o (record { low = omega arith; high = omega arith; low_even = λ m. omega arith; high_even = λ m. omega arith })

pub rounded_nearest : (s w : ℕ) → 0 < w → Nearest s w (rounded s w)
unfolding rounded
rounded_nearest s w p = by (half_of (s % w) w)
  where
    by : Half (s % w) w → Nearest s w (rounded s w)
    by (below l) = rw (lt-ltb (2 * (s % w)) w l) (kept s w (s / w) (s % w) (div-add-mod' s w) (mod-lt s p) l)
    by (above l) =
        rw (le-ltb (2 * (s % w)) w (omega arith), lt-ltb w (2 * (s % w)) l) (raised s w (s / w) (s % w) (div-add-mod' s w) (mod-lt s p) l)
    by (half e) =
        rw (le-ltb (2 * (s % w)) w (omega arith), le-ltb w (2 * (s % w)) (omega arith))
        (made_even s w (s / w) (s % w) (div-add-mod' s w) (mod-lt s p) e)

-- of two quotients by one weight the larger has no smaller nearest number: u above v would be v + 1, s / w and t / w both the half between
-- them, and so both even
pub nearest_monotone : (s t w u v : ℕ) → 0 < w → s ≤ t → Nearest s w u → Nearest t w v → u ≤ v
nearest_monotone s t w u v p l a b = by (dec_le u v)
  where
    -- u is not above v + 1
    not_far : ¬ (v + 2 ≤ u)
    not_far g = let k = mul-le-mul_right w g in omega arith

    next : u ≡ v + 1 → ⊥
    next e =
        let m : u * w ≡ v * w + w = rw e (omega arith) in
        let x : u % 2 ≡ 0 = a.low_even (omega arith) in
        let y : v % 2 ≡ 0 = b.high_even (omega arith) in
        omega arith

    by : Dec (u ≤ v) → u ≤ v
    by (yes h) = h
    by (no n) = absurd (next (let f = not_far in omega arith))

-- two numbers that are nearest are one
pub nearest_unique : (s w u v : ℕ) → 0 < w → Nearest s w u → Nearest s w v → u ≡ v
nearest_unique s w u v p a b =
    let l = nearest_monotone s s w u v p (le_refl s) a b in
    let g = nearest_monotone s s w v u p (le_refl s) b a in
    omega arith

-- so the rest tells the rounded quotient
module _ (s w : ℕ) (p : 0 < w) where
  the_nearest : (v : ℕ) → Nearest s w v → rounded s w ≡ v
  the_nearest v n = nearest_unique s w (rounded s w) v p (rounded_nearest s w p) n

  pub below_half : 2 * (s % w) < w → rounded s w ≡ s / w
  below_half l = the_nearest _ (kept s w (s / w) (s % w) (div-add-mod' s w) (mod-lt s p) l)

  pub above_half : w < 2 * (s % w) → rounded s w ≡ s / w + 1
  above_half l = the_nearest _ (raised s w (s / w) (s % w) (div-add-mod' s w) (mod-lt s p) l)

  pub at_half : 2 * (s % w) ≡ w → rounded s w ≡ s / w + s / w % 2
  at_half e = the_nearest _ (made_even s w (s / w) (s % w) (div-add-mod' s w) (mod-lt s p) e)

-- a whole quotient is nearest to itself
whole_nearest : (w m : ℕ) → 0 < w → Nearest (w * m) w m
whole_nearest w m p = kept (w * m) w m 0 (omega (arith, mul_comm w m)) p p

pub rounded_monotone : (s t w : ℕ) → 0 < w → s ≤ t → rounded s w ≤ rounded t w
rounded_monotone s t w p l = nearest_monotone s t w _ _ p l (rounded_nearest s w p) (rounded_nearest t w p)

-- a quotient of at most m is rounded to at most m
pub rounded_at_most : (s w m : ℕ) → 0 < w → s ≤ w * m → rounded s w ≤ m
rounded_at_most s w m p l = nearest_monotone s (w * m) w _ m p l (rounded_nearest s w p) (whole_nearest w m p)

-- and one of at least m to at least m
pub rounded_at_least : (s w m : ℕ) → 0 < w → w * m ≤ s → m ≤ rounded s w
rounded_at_least s w m p l = nearest_monotone (w * m) s w m _ p l (whole_nearest w m p) (rounded_nearest s w p)

-- Halves upward, v, stands here alone: the rounded quotient is another number exactly at a half over an even quotient, and is then one less.
pub differs_from_upward : (s w v : ℕ) → 0 < w → v ≡ pick (leb w (2 * (s % w))) (s / w + 1) (s / w)
    → (¬ (rounded s w ≡ v) ↔ ((2 * (s % w) ≡ w) × (s / w % 2 ≡ 0))) × (¬ (rounded s w ≡ v) → rounded s w + 1 ≡ v)
differs_from_upward s w v p e = by (half_of (s % w) w)
  where
    Law : Type 0
    Law = (¬ (rounded s w ≡ v) ↔ ((2 * (s % w) ≡ w) × (s / w % 2 ≡ 0))) × (¬ (rounded s w ≡ v) → rounded s w + 1 ≡ v)

    same : ¬ (2 * (s % w) ≡ w) → rounded s w ≡ v → Law
    same n e = ((λ d. absurd (d e), λ h. absurd (n h.0)), λ d. absurd (d e))

    at_half_even : 2 * (s % w) ≡ w → Dec (s / w % 2 ≡ 0) → v ≡ s / w + 1 → rounded s w ≡ s / w + s / w % 2 → Law
    at_half_even h (yes z) up r = ((λ d. (h, z), λ k f. let x = f in omega arith), λ d. omega arith)
    at_half_even h (no n) up r = let e : rounded s w ≡ v = omega arith in ((λ d. absurd (d e), λ k. absurd (n k.1)), λ d. absurd (d e))

    by : Half (s % w) w → Law
    by (below l) = same (λ h. let x = h in omega arith) (below_half s w p l ∙ sym (rw (lt-leb w (2 * (s % w)) l) at e))
    by (above l) = same (λ h. let x = h in omega arith) (above_half s w p l ∙ sym (rw (le-leb w (2 * (s % w)) (omega arith)) at e))
    by (half h) = at_half_even h (ℕ_discrete (s / w % 2) 0) (rw (le-leb w (2 * (s % w)) (omega arith)) at e) (at_half s w p h)

-- the value of a weight above 0 is the rounded quotient
pub value_present : (s w : ℕ) → 0 < w → value_of s w ≡ rounded s w
unfolding value_of
value_present s w p = rw (ne_eqb w 0 (λ e. let z = e in omega arith))

-- the value of a weight of 0 is missing
pub value_missing : (s : ℕ) → value_of s 0 ≡ missing
unfolding value_of
value_missing s = refl
