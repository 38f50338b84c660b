-- A step in six parts is the meaning's step: new right, new left, what is taken in, what is let go, and the way of each edge.
use Prim.Native.Nat.{ℕ, ◌+◌, ◌-◌}
use mathlib.Core.Path.{◌≡◌, ap, ◌∙◌}
use mathlib.Core.List.{List}
use lib.ListN.{length}
use Rattle.meanings.specs.declared.PowerSums.{PowerSums}
use Rattle.meanings.specs.declared.RunningSums.{RunningSums}
use Rattle.meanings.specs.Lists.{distance}
use Rattle.meanings.specs.Running.{six, sum_at, plus, minus, power_sum, new_left, new_sums, new_passes, moved_to, moved}
use Rattle.arithmetic.specs.Wrapping.{plus_plus}
use Rattle.regression.specs.Rows.{RunJoined, FoundFrom}
use Rattle.regression.proofs.Searches.{right_is_new, left_is_new}

pub six_parts_move : (ts vs : List ℕ) (r : RunningSums) (z h : ℕ) {right low left n passes : ℕ} {taken sums : PowerSums}
    → FoundFrom ts r.right (length ts) (z + h + 1) right
    → low ≡ z - h
    → FoundFrom ts r.left right low left
    → RunJoined (plus 64) r.sums ts vs r.right right taken
    → RunJoined (minus 64) taken ts vs r.left left sums
    → n ≡ plus 64 r.passes (distance r.left left)
    → passes ≡ plus 64 n (distance r.right right)
    → record { left = left; right = right; sums = sums; passes = passes } ≡ moved ts vs r z h
unfolding moved
six_parts_move ts vs r z h {right} {low} {left} {n} {passes} {taken} {sums} a e b c d f g =
    (λ i. record { left = left; right = right; sums = both i; passes = travelled i })
    ∙ ap (λ (l : ℕ). moved_to ts vs r l right) (left_is_new z h e b)
    ∙ ap (λ (q : ℕ). moved_to ts vs r (new_left ts r.left q z h) q) (right_is_new z h a)
  where
    travelled : passes ≡ new_passes r left right
    travelled =
        g
        ∙ ap (λ (m : ℕ). plus 64 m (distance r.right right)) f
        ∙ plus_plus 64 r.passes (distance r.left left) (distance r.right right)

    both : sums ≡ new_sums ts vs r left right
    both = d.sums ∙ ap (λ (t : PowerSums). six (λ p q. minus 64 (sum_at t p q) (power_sum ts vs r.left (left - r.left) p q))) c.sums
