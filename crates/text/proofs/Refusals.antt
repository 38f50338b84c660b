-- The parts of a refusal's text, stored one behind the other; a buffer of the right length has room for them, one of another length is refused.
use Prim.Native.Nat.{ℕ, ◌^◌, ◌≤◌, ◌<◌}
use mathlib.Core.Path.{◌≡◌, refl}
use mathlib.Core.List.{List, [], ◌∷◌, ◌++◌, append-nil}
use Rattle.std.specs.Prelude.{Some}
use native.Mathlib.Omega.{arith}
use lib.ListN.{length}
use Rattle.meanings.specs.Bytes.{refusal_header}
use Rattle.meanings.specs.Limits.{max_output}
use Rattle.meanings.specs.Output.{decimal, text_line, refusal_text}
use Rattle.laws.proofs.output.Refusals.{any_refusal_fits}
use Rattle.text.specs.Written.{joined, written, put_size, put_list}
use Rattle.text.proofs.RoomLaws.{put_is_stored}
use Rattle.text.proofs.Writing.{rest_of, given_back, first_fits, Left, left_first, part_fits, left_behind, all_stored}

-- a buffer of the right length holds the text of any two numbers of 64 bits
module _ (n p : ℕ) (out : List ℕ) (right : length out ≡ max_output) (a : n < 2 ^ 64) (b : p < 2 ^ 64) where
  pub refusal_fits : length (refusal_text (record { number = n; place = p })) ≤ length out
  refusal_fits = omega (arith, any_refusal_fits n p a b)

-- the header line, and right behind it the line of the number and the place
abbrev pair : ℕ → ℕ → List ℕ
pair a b = text_line (decimal a) (decimal b ∷ [])

abbrev header : List ℕ
header = text_line refusal_header []

module _ (n p : ℕ) (out : List ℕ) (fits : length (refusal_text (record { number = n; place = p })) ≤ length out) where
  refusal_parts : refusal_text (record { number = n; place = p }) ≡ header ++ joined (pair n p ∷ [])
  unfolding refusal_text
  refusal_parts = simp append-nil

  header_fits : length header ≤ length out
  header_fits = first_fits out _ header (joined (pair n p ∷ [])) fits refusal_parts

  module _ (q₁ : ℕ) (size₁ : Some q₁ ≡ put_size out header) (out₁ : List ℕ) (list₁ : out₁ ≡ put_list out header) where
    header_left : Left out (refusal_text (record { number = n; place = p })) out₁ q₁ (pair n p ∷ [])
    header_left = left_first refusal_parts fits (put_is_stored out header header_fits (Some q₁) size₁ q₁ refl out₁ list₁)

    pub lines_written : (q₂ : ℕ) → Some q₂ ≡ put_size (rest_of q₁ out₁) (pair n p) → (out₂ : List ℕ) → out₂ ≡ put_list (rest_of q₁ out₁) (pair n p)
        → given_back q₁ out₁ out₂ ≡ written out (refusal_text (record { number = n; place = p }))
    lines_written q₂ size₂ out₂ list₂ =
        (all_stored (left_behind header_left (put_is_stored _ _ (part_fits header_left) (Some q₂) size₂ q₂ refl out₂ list₂))).text
