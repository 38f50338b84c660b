-- The lines of a curve's text are put one behind the other. The text fits, so each of them is stored.
use Prim.Native.Nat.{ℕ, zero, suc, ◌+◌, ◌-◌, ◌≤◌, ◌<◌}
use mathlib.Core.Path.{◌≡◌}
use mathlib.Core.List.{List, [], ◌∷◌, ◌++◌, append_assoc, append-nil}
use Rattle.std.specs.Prelude.{Option, Some}
use native.Mathlib.Numerals.{add-one}
use native.Mathlib.Omega.{arith}
use lib.ListN.{length, length-append}
use Rattle.meanings.specs.Bytes.{line_feed, totals_header}
use Rattle.meanings.specs.Output.{decimal, text_line}
use Rattle.text.specs.Written.{joined, Stored, put_size, put_list, Put}
use Rattle.text.proofs.RoomLaws.{stored_put, put_is_stored}
use Rattle.text.proofs.Writing.{rest_of, given_back, inside, room_behind, stored_behind, first_fits}
use Rattle.text.proofs.Writing.{Left, left_first, part_fits, left_behind, all_stored}
use Rattle.text.specs.Whole.{lines_of, whole_text}

-- the first lines are no longer than all of them
lines_grow : (line : ℕ → List ℕ) (k d : ℕ) → length (lines_of line k) ≤ length (lines_of line (k + d))
lines_grow line k zero = let e : k + zero ≡ k = omega arith in rw e (omega arith)
lines_grow line k (suc d) =
    let e : k + suc d ≡ suc (k + d) = omega arith in
    let l = lines_grow line k d in
    let a = length-append (lines_of line (k + d)) (line (k + d)) in
    rw e (omega arith)

-- the lines of the first k of n marks are stored, and all fit
pub record LinesTo (line : ℕ → List ℕ) (n : ℕ) (out now : List ℕ) (q k : ℕ) : Type 0 where
  pub inside : q ≤ length now
  pub same : length now ≡ length out
  pub fits : length (lines_of line n) ≤ length out
  pub far : k ≤ n
  pub so_far : Stored out (lines_of line k) now q

lines_to : {line : ℕ → List ℕ} {n : ℕ} {out now : List ℕ} {q k : ℕ} → length (lines_of line n) ≤ length out → k ≤ n
    → Stored out (lines_of line k) now q → LinesTo line n out now q k
lines_to fits far s = record { inside = inside s; same = s.same; fits = fits; far = far; so_far = s }

module _ {line : ℕ → List ℕ} {n : ℕ} {out now : List ℕ} {q k : ℕ} (w : LinesTo line n out now q k) where
  module _ (more : k < n) where
    both : length (lines_of line k ++ line k) ≤ length out
    both =
        let all : suc k + (n - suc k) ≡ n = omega arith in
        let l = rw all at (lines_grow line (suc k) (n - suc k)) in
        omega (arith, l, w.fits)

    -- the next line fits
    pub next_fits : length (line k) ≤ length (rest_of q now)
    next_fits = room_behind w.so_far (line k) both

    -- one more
    pub lines_go_on : {next : List ℕ} {r : ℕ} → Stored (rest_of q now) (line k) next r → LinesTo line n out (given_back q now next) (q + r) (k + 1)
    lines_go_on s = lines_to w.fits (omega arith) (rw (add-one k) (stored_behind w.so_far s))

-- the whole text in four parts
regroup : (a b c d : List ℕ) (x : ℕ) → a ++ b ++ x ∷ c ++ d ≡ a ++ joined (b ∷ (x ∷ c) ∷ d ∷ [])
regroup a b c d x = simp (append_assoc, append-nil)

abbrev totals : ℕ → ℕ → List ℕ
totals kept passes = text_line (decimal kept) (decimal passes ∷ [])

abbrev totals_names : List ℕ
totals_names = line_feed ∷ text_line totals_header []

module _ (names lines : List ℕ) (kept passes : ℕ) (out : List ℕ) (fits : length (whole_text names lines kept passes) ≤ length out) where
  whole_parts : whole_text names lines kept passes ≡ text_line names [] ++ joined (lines ∷ totals_names ∷ totals kept passes ∷ [])
  unfolding whole_text
  whole_parts = regroup (text_line names []) lines (text_line totals_header []) (totals kept passes) line_feed

  names_fit : length (text_line names []) ≤ length out
  names_fit = first_fits out _ _ (joined (lines ∷ totals_names ∷ totals kept passes ∷ [])) fits whole_parts

  module _ (o₁ : Option ℕ) (size₁ : o₁ ≡ put_size out (text_line names [])) where
    module _ (q₁ : ℕ) (some₁ : o₁ ≡ Some q₁) (out₁ : List ℕ) (list₁ : out₁ ≡ put_list out (text_line names [])) where
      names_put : Left out (whole_text names lines kept passes) out₁ q₁ (lines ∷ totals_names ∷ totals kept passes ∷ [])
      names_put = left_first whole_parts fits (put_is_stored out _ names_fit o₁ size₁ q₁ some₁ out₁ list₁)

      lines_fit : length lines ≤ length (rest_of q₁ out₁)
      lines_fit = part_fits names_put

      module _ (o₂ : Option ℕ) (out₂ : List ℕ) (put₂ : Put (rest_of q₁ out₁) lines out₂ o₂) where
        module _ (q₂ : ℕ) (some₂ : o₂ ≡ Some q₂) where
          lines_put : Left out (whole_text names lines kept passes) (given_back q₁ out₁ out₂) (q₁ + q₂) (totals_names ∷ totals kept passes ∷ [])
          lines_put = left_behind names_put (put_is_stored _ _ lines_fit o₂ put₂.size q₂ some₂ out₂ put₂.list)

          totals_names_fit : length totals_names ≤ length (rest_of (q₁ + q₂) (given_back q₁ out₁ out₂))
          totals_names_fit = part_fits lines_put

          module _ (o₃ : Option ℕ) (size₃ : o₃ ≡ put_size (rest_of (q₁ + q₂) (given_back q₁ out₁ out₂)) totals_names) where
            module _ (q₃ : ℕ) (some₃ : o₃ ≡ Some q₃) (out₃ : List ℕ)
                (list₃ : out₃ ≡ put_list (rest_of (q₁ + q₂) (given_back q₁ out₁ out₂)) totals_names) where
              abbrev last : List ℕ
              last = given_back (q₁ + q₂) (given_back q₁ out₁ out₂) out₃

              totals_left : Left out (whole_text names lines kept passes) last (q₁ + q₂ + q₃) (totals kept passes ∷ [])
              totals_left = left_behind lines_put (put_is_stored _ _ totals_names_fit o₃ size₃ q₃ some₃ out₃ list₃)

              totals_fit : length (totals kept passes) ≤ length (rest_of (q₁ + q₂ + q₃) last)
              totals_fit = part_fits totals_left

              module _ (o₄ : Option ℕ) (size₄ : o₄ ≡ put_size (rest_of (q₁ + q₂ + q₃) last) (totals kept passes)) where
                module _ (q₄ : ℕ) (some₄ : o₄ ≡ Some q₄) (out₄ : List ℕ) (list₄ : out₄ ≡ put_list (rest_of (q₁ + q₂ + q₃) last) (totals kept passes)) where
                  whole_stored : Stored out (whole_text names lines kept passes) (given_back (q₁ + q₂ + q₃) last out₄) (q₁ + q₂ + q₃ + q₄)
                  whole_stored = all_stored (left_behind totals_left (put_is_stored _ _ totals_fit o₄ size₄ q₄ some₄ out₄ list₄))

                  pub whole_put : Put out (whole_text names lines kept passes) (given_back (q₁ + q₂ + q₃) last out₄) (Some (q₁ + q₂ + q₃ + q₄))
                  whole_put = stored_put whole_stored
