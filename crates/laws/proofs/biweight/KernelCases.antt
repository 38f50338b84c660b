-- The biweight kernel at one distance: at half of the half width it is 15/16 times the square of 3/4. Its factor and that of the other kernel are
-- `biweight_factor` and `epanechnikov_factor` of BetaKernels.antt.
use mathlib.Core.Path.{◌≡◌, refl}
use Rattle.laws.specs.biweight.BetaKernels.{over, biweight_shape}

pub biweight_at_a_half : biweight_shape (over 1 2) ≡ over 135 256
biweight_at_a_half = refl
