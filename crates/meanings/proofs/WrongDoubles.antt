-- Wrong programs, each shut out on a concrete input: what it would hand over is not what the meaning says. And wrong ways of having back.
use Prim.Native.Nat.{ℕ, ◌+◌, ◌-◌, ◌/◌, ◌^◌}
use mathlib.Core.Path.{◌≡◌, refl, ap}
use mathlib.Core.Bool.{false}
use native.Mathlib.Omega.{arith}
use lib.Count.{count_trailing_zeros}
use lib.IntN.{pos, negsuc}
use lib.Ieee.{Float, fin, binary64, of_int, to_bits, round, size, span, climb, units, odd, add, sum, neg, to_unsigned}
use Rattle.meanings.specs.declared.Estimate.{Estimate}
use Rattle.meanings.specs.doubles.Doubles.{Doubles, empty, one, pair, double, handed, row_handed, HadBack}
use Rattle.meanings.specs.doubles.Cases.{pattern}

-- the numbers that tell doubles apart: how many there are, and the patterns of the first and of the last
how_many : Doubles → ℕ
how_many empty = 0
how_many (one d) = 1
how_many (pair high low) = 2

first : Doubles → ℕ
first empty = 0
first (one d) = pattern d
first (pair high low) = pattern high

last : Doubles → ℕ
last empty = 0
last (one d) = pattern d
last (pair high low) = pattern low

pub not_2⁵³_as_one_double : ¬ (handed 5 (2 ^ 53) ≡ one (double (2 ^ 53)))
unfolding handed how_many
not_2⁵³_as_one_double e = let n : ◌≡◌ {A = ℕ} 2 1 = ap how_many e in omega arith

pub not_the_nearest_double : ¬ (handed 5 (2 ^ 53 + 1) ≡ one (double (2 ^ 53 + 1)))
unfolding handed how_many
not_the_nearest_double e = let n : ◌≡◌ {A = ℕ} 2 1 = ap how_many e in omega arith

pub not_empty_for_a_sum_of_0 : ¬ (handed 5 0 ≡ empty)
unfolding handed how_many
not_empty_for_a_sum_of_0 e = let n : ◌≡◌ {A = ℕ} 1 0 = ap how_many e in omega arith

pub not_0_without_weight : ¬ (handed 0 0 ≡ one (double 0))
unfolding handed how_many
not_0_without_weight e = let n : ◌≡◌ {A = ℕ} 0 1 = ap how_many e in omega arith

-- how often 2^32 goes into it
pub not_the_quotient_as_high : ¬ (handed 5 (2 ^ 53) ≡ pair (double (2 ^ 53 / 2 ^ 32)) (double 0))
unfolding handed first of_int to_bits round size span climb units odd count_trailing_zeros
not_the_quotient_as_high e = let n : ◌≡◌ {A = ℕ} 0x4340000000000000 0x4140000000000000 = ap first e in omega arith

pub not_split_at_2⁵³ : ¬ (handed 5 (2 ^ 53 + 2 ^ 32) ≡ pair (double (2 ^ 53)) (double (2 ^ 32)))
unfolding handed first of_int to_bits round size span climb units odd count_trailing_zeros
not_split_at_2⁵³ e = let n : ◌≡◌ {A = ℕ} 0x4340000080000000 0x4340000000000000 = ap first e in omega arith

-- 2^53 + 2^32 with −(2^31 − 1)
pub not_high_rounded_up : ¬ (handed 5 (2 ^ 53 + 2 ^ 31 + 1) ≡ pair (double (2 ^ 53 + 2 ^ 32)) (neg (double (2 ^ 31 - 1))))
unfolding handed first of_int to_bits round size span climb units odd count_trailing_zeros neg
not_high_rounded_up e = let n : ◌≡◌ {A = ℕ} 0x4340000000000000 0x4340000080000000 = ap first e in omega arith

pub not_minus_0_as_low : ¬ (handed 5 (2 ^ 53) ≡ pair (double (2 ^ 53)) (neg (double 0)))
unfolding handed last of_int to_bits round size span climb units odd count_trailing_zeros neg
not_minus_0_as_low e = let n : ◌≡◌ {A = ℕ} 0 0x8000000000000000 = ap last e in omega arith

pub not_low_before_high : ¬ (handed 5 (2 ^ 53 + 1) ≡ pair (double 1) (double (2 ^ 53)))
unfolding handed first of_int to_bits round size span climb units odd count_trailing_zeros
not_low_before_high e = let n : ◌≡◌ {A = ℕ} 0x4340000000000000 0x3ff0000000000000 = ap first e in omega arith

-- the sum's doubles made from the weight
pub not_the_weight_for_the_sum : ¬ ((e : Estimate) → (row_handed e).sum ≡ handed e.weight e.weight)
unfolding handed first of_int to_bits round size span climb units odd count_trailing_zeros
not_the_weight_for_the_sum f =
    let n : ◌≡◌ {A = ℕ} 0 0x4014000000000000 = ap first (f (record { left = 0; right = 1; weight = 5; sum = 0; value = 0 })) in omega arith

pub no_fixed_doubles : (d : Doubles) → ¬ ((w n : ℕ) → handed w n ≡ d)
unfolding handed how_many
no_fixed_doubles d f =
    let none : 0 ≡ how_many d = ap how_many (f 0 0) in
    let some : 1 ≡ how_many d = ap how_many (f 5 0) in
    omega arith

-- Added as doubles, 2^53 and 1 are 2^53: both numbers are added as whole numbers.
abbrev two_to_the_53 : Float
two_to_the_53 = fin false 1 (pos 53)

abbrev unit : Float
unit = fin false 1 (pos 0)

is_2⁵³ : double (2 ^ 53) ≡ two_to_the_53
unfolding of_int round size span climb units odd count_trailing_zeros
is_2⁵³ = refl

is_1 : double 1 ≡ unit
unfolding of_int round size span climb units odd count_trailing_zeros
is_1 = refl

rounded_down : add binary64 two_to_the_53 unit ≡ two_to_the_53
unfolding round size span climb units odd count_trailing_zeros add sum
rounded_down = refl

pub added_as_doubles : add binary64 (double (2 ^ 53)) (double 1) ≡ double (2 ^ 53)
added_as_doubles = rw (is_2⁵³, is_1) rounded_down

-- 5.5, which the cast to a whole number makes 5, is no whole number
abbrev five_and_a_half : Float
five_and_a_half = fin false 11 (negsuc 0)

pub cut_to_five : to_unsigned 64 five_and_a_half ≡ 5
unfolding to_unsigned
cut_to_five = refl

pub no_fraction_had_back : (n : ℕ) → ¬ HadBack (one five_and_a_half) n
no_fraction_had_back n v = let e = v.1 in omega arith

-- the low part left out: 2^53 for 2^53 and 1
pub no_low_part_left_out : ¬ HadBack (pair two_to_the_53 unit) (2 ^ 53)
no_low_part_left_out p =
    let high = p.2.0.1 in
    let low = p.2.1.1 in
    let both = p.2.2 in
    omega arith

-- a sum above 0 without weight, which no row of a window has, cannot be had back
pub lost_without_weight : ¬ HadBack (handed 0 9) 9
unfolding handed
lost_without_weight e = omega arith
