-- A double that equals itself is a number, so it has a bit pattern.
use mathlib.Core.Path.{◌≡◌}
use mathlib.Core.Bool.{false, not, true≢false}
use lib.Dec.{T}
use lib.Ieee.{Float, nan, inf, fin, is_nan, ne}

pub is_a_number : (x : Float) → ne x x ≡ false → T (not (is_nan x))
unfolding ne is_nan
is_a_number (fin s m e) q = tt
is_a_number (inf s) q = tt
is_a_number nan q = absurd (true≢false q)
