-- The rule of the table, by one computed test: each entry is the weight by the rule at its distance. A law for any list that passes it reads the
-- rule off at each entry. Beyond the table the rule gives 0, and the reader too.
use Prim.Native.Nat.{ℕ, zero, suc, ◌+◌, ◌*◌, ◌-◌, ◌≤◌, ◌<◌}
use mathlib.Core.Path.{◌≡◌, refl, sym, ◌∙◌}
use mathlib.Core.Bool.{Bool, true, false, ◌&&◌, false≢true}
use mathlib.Core.List.{List, [], ◌∷◌}
use native.Mathlib.Nat.{zero-add, add-zero, add-suc, suc-add, le_of_suc-le-suc, not-suc-le-zero, mul-le-mul, sub-eq-zero_of_le}
use native.Mathlib.Decide.{dec_lt}
use native.Mathlib.Omega.{arith}
use lib.Dec.{eqb}
use lib.ListN.{length, get_or}
use borrow.Author.Tests.{eqb-true}
use Rattle.meanings.specs.biweight.Biweight.{biweight_at}
use Rattle.questions.specs.Table.{IsTable}

abbrev weight : ℕ → ℕ
weight u = (518400 - u * u) * (518400 - u * u)

-- the test: whether the entries are the weights at distance u, u + 1, ..
abbrev pub all_by_rule : ℕ → List ℕ → Bool
all_by_rule u [] = true
all_by_rule u (x ∷ xs) = eqb x (weight u) && all_by_rule (suc u) xs

both : (a b : Bool) → (a && b) ≡ true → (a ≡ true) × (b ≡ true)
both true b e = (refl, e)
both false b e = absurd (false≢true e)

rule_at : (u : ℕ) (xs : List ℕ) → all_by_rule u xs ≡ true → (k : ℕ) → k < length xs → get_or xs k 0 ≡ weight (u + k)
rule_at u [] e k l = absurd (not-suc-le-zero l)
rule_at u (x ∷ xs) e zero l = eqb-true x (weight u) (both (eqb x (weight u)) (all_by_rule (suc u) xs) e).0 ∙ rw (add-zero u)
rule_at u (x ∷ xs) e (suc k) l =
    rule_at (suc u) xs (both (eqb x (weight u)) (all_by_rule (suc u) xs) e).1 k (le_of_suc-le-suc l)
    ∙ rw (suc-add u k, add-suc u k)

beyond : (u : ℕ) → 720 < u → weight u ≡ 0
beyond u l =
    let s = mul-le-mul l l in
    let z : 518400 - u * u ≡ 0 = sub-eq-zero_of_le (omega arith) in
    rw z

-- what the reader finds
pub not_there : (xs : List ℕ) (u : ℕ) → length xs ≤ u → 0 ≡ get_or xs u 0
not_there [] u l = refl
not_there (x ∷ xs) zero l = absurd (not-suc-le-zero l)
not_there (x ∷ xs) (suc u) l = not_there xs u (le_of_suc-le-suc l)

-- for any length above 720, so that no law goes through the list
holds : (n : ℕ) (xs : List ℕ) → n ≡ length xs → all_by_rule 0 xs ≡ true → 720 < n → (u : ℕ) → Dec (u < length xs) → get_or xs u 0 ≡ weight u
holds n xs m e q u (yes l) = rule_at 0 xs e u l ∙ rw (zero-add u)
holds n xs m e q u (no l) = sym (not_there xs u (omega arith)) ∙ sym (beyond u (omega arith))

pub table_by_test : (xs : List ℕ) → length xs ≡ 721 → all_by_rule 0 xs ≡ true → IsTable xs
unfolding biweight_at
table_by_test xs m e = record { entries = m; rule = λ u. holds (length xs) xs refl e (omega arith) u (dec_lt u (length xs)) }
