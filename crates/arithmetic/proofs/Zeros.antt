-- The sums that a derived default makes.
use Rattle.std.proofs.Common.{◌≡◌}
use Rattle.meanings.specs.declared.PowerSums.{PowerSums}
use Rattle.meanings.specs.Running.{six}

abbrev pub IsZeros : PowerSums → Type 0
IsZeros z = (z.s00 ≡ 0) × ((z.s10 ≡ 0) × ((z.s20 ≡ 0) × ((z.s01 ≡ 0) × ((z.s11 ≡ 0) × (z.s21 ≡ 0)))))

pub zeros : {z : PowerSums} → IsZeros z → z ≡ six (λ p q. 0)
zeros (a, (b, (c, (d, (e, f))))) = λ i. record { s00 = a i; s10 = b i; s20 = c i; s01 = d i; s11 = e i; s21 = f i }
