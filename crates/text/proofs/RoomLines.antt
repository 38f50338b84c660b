-- What follows the first k numbers of a line.
use Rattle.std.proofs.Common.{◌≡◌, ℕ, ◌+◌, ◌≤◌, ◌<◌, List, [], ◌∷◌, length, get_or, drop, map}
use Rattle.std.proofs.lemmas.List.{at_drop_more, at_drop_all}
use Rattle.meanings.specs.Output.{decimal, value_text}
use Rattle.text.specs.Line.{fields}

module _ (ns vs : List ℕ) (k : ℕ) where
  pub number_next : k < length ns → fields (drop k ns) vs ≡ decimal (get_or ns k 0) ∷ fields (drop (k + 1) ns) vs
  number_next l = at_drop_more (λ (xs : List ℕ). fields xs vs) ns k 0 l

  pub no_number_left : length ns ≤ k → fields (drop k ns) vs ≡ map value_text vs
  no_number_left l = at_drop_all (λ (xs : List ℕ). fields xs vs) ns k l

module _ (vs : List ℕ) (k : ℕ) where
  pub value_next : k < length vs → map value_text (drop k vs) ≡ value_text (get_or vs k 0) ∷ map value_text (drop (k + 1) vs)
  value_next l = at_drop_more (λ (xs : List ℕ). map value_text xs) vs k 0 l

  pub no_value_left : length vs ≤ k → map value_text (drop k vs) ≡ []
  no_value_left l = at_drop_all (λ (xs : List ℕ). map value_text xs) vs k l
