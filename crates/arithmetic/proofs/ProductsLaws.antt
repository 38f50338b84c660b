-- Products modulo 2^w. A number of two halves times k is, up to whole multiples of 2^(w + w), the lower half's product and the lower half of the
-- upper half's product, moved up. A factor may be taken modulo 2^w first, so a product of three is had two by two.
use Rattle.std.proofs.Common.{◌≡◌, ℕ, ◌+◌, ◌-◌, ◌*◌, ◌/◌, ◌%◌, ◌^◌, ◌<◌, refl, sym, ap, ◌∙◌, mul_assoc, mul_comm, add-mul}
use Rattle.std.proofs.Common.{div-add-mod', mul-add, mul_left_comm, two-mul, arith, pow-add}
use native.Mathlib.Nat.{div-add-mod, mod-mod}
use native.Mathlib.Nat.{mod-add-mod, add-mod-mod, add-mul-mod_self_left}
use Rattle.meanings.specs.Running.{combined, minus}
use Rattle.arithmetic.proofs.Wrapping.{wraps_back_is_minus}

-- with halves q and m of s over the base b, and q k again of two halves
regrouped : (b k q m d e : ℕ) → d * b + e ≡ q * k → k * (q * b + m) ≡ (e * b + m * k) + b * b * d
regrouped b k q m d e f =
    let split = mul-add k (q * b) m in
    let turned : k * (q * b) ≡ q * k * b = mul_left_comm k q b ∙ sym (mul_assoc q k b) in
    let upper : q * k * b ≡ d * b * b + e * b = ap (λ (n : ℕ). n * b) (sym f) ∙ add-mul (d * b) e b in
    let whole : d * b * b ≡ b * b * d = mul_assoc d b b ∙ mul_comm d (b * b) in
    omega (arith, split, turned, upper, whole, mul_comm k m)

pub product_in_halves : (w k s : ℕ) → (s / 2 ^ w * k % 2 ^ w * 2 ^ w + s % 2 ^ w * k) % 2 ^ (w + w) ≡ k * s % 2 ^ (w + w)
product_in_halves w k s =
    rw (pow-add 2 w w)
    (sym (ap (λ (n : ℕ). n % (2 ^ w * 2 ^ w)) whole ∙ add-mul-mod_self_left _ (2 ^ w * 2 ^ w) (s / 2 ^ w * k / 2 ^ w)))
  where
    whole : k * s ≡ (s / 2 ^ w * k % 2 ^ w * 2 ^ w + s % 2 ^ w * k) + 2 ^ w * 2 ^ w * (s / 2 ^ w * k / 2 ^ w)
    whole =
        ap (λ (n : ℕ). k * n) (sym (div-add-mod' s (2 ^ w)))
        ∙ regrouped (2 ^ w) k (s / 2 ^ w) (s % 2 ^ w) (s / 2 ^ w * k / 2 ^ w) (s / 2 ^ w * k % 2 ^ w) (div-add-mod' (s / 2 ^ w * k) (2 ^ w))

-- a factor taken modulo p first
factor_wraps : (p k n : ℕ) → k * (n % p) % p ≡ k * n % p
factor_wraps p k n = sym (ap (λ (x : ℕ). x % p) whole ∙ add-mul-mod_self_left (k * (n % p)) p (k * (n / p)))
  where
    whole : k * n ≡ k * (n % p) + p * (k * (n / p))
    whole =
        ap (λ (x : ℕ). k * x) (sym (div-add-mod n p))
        ∙ mul-add k (p * (n / p)) (n % p)
        ∙ (let turned = mul_left_comm k p (n / p) in omega arith)

square_wraps : (p k n m r : ℕ) → m ≡ k * n % p → r ≡ k * m % p → r ≡ k * k * n % p
square_wraps p k n m r e f = f ∙ ap (λ (x : ℕ). k * x % p) e ∙ factor_wraps p k (k * n) ∙ ap (λ (x : ℕ). x % p) (sym (mul_assoc k k n))

-- both terms of a sum taken modulo p first
sum_wraps : (p x y a b r : ℕ) → x ≡ a % p → y ≡ b % p → r ≡ (x + y) % p → r ≡ (a + b) % p
sum_wraps p x y a b r e f g = g ∙ rw (e, f) (mod-add-mod a p (b % p) ∙ add-mod-mod a b p)

-- weight or sum, product by product
pub combined_wraps : (w z h a b c wide₁ wide cross twice gained near₁ near lost r : ℕ) → wide₁ ≡ h * a % 2 ^ w → wide ≡ h * wide₁ % 2 ^ w
    → cross ≡ z * b % 2 ^ w → twice ≡ (cross + cross) % 2 ^ w → gained ≡ (wide + twice) % 2 ^ w
    → near₁ ≡ z * a % 2 ^ w → near ≡ z * near₁ % 2 ^ w → lost ≡ (near + c) % 2 ^ w
    → (r < 2 ^ w) × ((r + lost) % 2 ^ w ≡ gained) → r ≡ combined w z h a b c
combined_wraps w z h a b c wide₁ wide cross twice gained near₁ near lost r e₁ e₂ e₃ e₄ e₅ e₆ e₇ e₈ back =
    wraps_back_is_minus w gained lost r back.0 back.1 ∙ ap (λ (n : ℕ). minus w n lost) gains ∙ loses
  where
    p : ℕ
    p = 2 ^ w

    doubled : twice ≡ 2 * z * b % p
    doubled = sum_wraps p cross cross (z * b) (z * b) twice e₃ e₃ e₄ ∙ ap (λ (n : ℕ). n % p) (sym (two-mul (z * b)) ∙ sym (mul_assoc 2 z b))

    gains : gained ≡ (h * h * a + 2 * z * b) % p
    gains = sum_wraps p wide twice (h * h * a) (2 * z * b) gained (square_wraps p h a wide₁ wide e₁ e₂) doubled e₅

    lost_is : lost ≡ (z * z * a + c) % p
    lost_is = e₈ ∙ ap (λ (n : ℕ). (n + c) % p) (square_wraps p z a near₁ near e₆ e₇) ∙ mod-add-mod (z * z * a) p c

    loses : minus w ((h * h * a + 2 * z * b) % p) lost ≡ minus w ((h * h * a + 2 * z * b) % p) (z * z * a + c)
    loses = rw (lost_is, mod-mod (z * z * a + c) p)

-- weight or sum as the code makes it: each product of three is taken modulo 2^w once, so are both sums, and what is let go is what 2^w has above it
pub combined_once : (w z h a b c : ℕ)
    → ((h * h * a % 2 ^ w + 2 * z * b % 2 ^ w) % 2 ^ w + (2 ^ w - (z * z * a % 2 ^ w + c) % 2 ^ w)) % 2 ^ w ≡ combined w z h a b c
combined_once w z h a b c = rw (gains, loses)
  where
    p : ℕ
    p = 2 ^ w

    gains : (h * h * a % p + 2 * z * b % p) % p ≡ (h * h * a + 2 * z * b) % p
    gains = sum_wraps p _ _ (h * h * a) (2 * z * b) _ refl refl refl

    loses : (z * z * a % p + c) % p ≡ (z * z * a + c) % p
    loses = mod-add-mod (z * z * a) p c
