-- Worked cases: the first byte is the lowest; a word ends with its list, and none begins nearer to the end or behind it. Of a line ending the one
-- carriage return before the line feed is no text, if it stands in the line. A list is stored before what stood behind it, or not at all.
use Rattle.std.proofs.Common.{◌≡◌, ℕ, suc, List, [], ◌∷◌, refl, Some, None}
use Rattle.sheet.specs.Words.{word, byte, word_at}
use Rattle.sheet.specs.Lines.{text_before}
use Rattle.sheet.specs.Copied.{copied}

abbrev pub nine_bytes : List ℕ
nine_bytes = 1 ∷ 2 ∷ 0 ∷ 0 ∷ 0 ∷ 0 ∷ 0 ∷ 0 ∷ 128 ∷ []

pub record WordCases : Type 0 where
  pub first_lowest : word (λ k. suc k) 3 ≡ 197121
  pub lowest_byte : byte 197121 0 ≡ 1
  pub third_byte : byte 197121 2 ≡ 3
  pub no_fourth_byte : byte 197121 3 ≡ 0
  pub at_the_start : word_at nine_bytes 0 ≡ Some 513
  pub up_to_the_end : word_at nine_bytes 1 ≡ Some 9223372036854775810
  pub one_missing : word_at nine_bytes 2 ≡ None
  pub at_the_end : word_at nine_bytes 9 ≡ None
  pub behind_the_end : word_at nine_bytes 10 ≡ None
  pub empty_list : word_at [] 0 ≡ None

pub word_cases_hold : WordCases
unfolding word byte word_at
word_cases_hold = record {
  first_lowest = refl;
  lowest_byte = refl;
  third_byte = refl;
  no_fourth_byte = refl;
  at_the_start = refl;
  up_to_the_end = refl;
  one_missing = refl;
  at_the_end = refl;
  behind_the_end = refl;
  empty_list = refl;
}

pub record LineCases : Type 0 where
  pub without_return : text_before (97 ∷ 97 ∷ 10 ∷ []) 0 2 ≡ 2
  pub with_return : text_before (97 ∷ 13 ∷ 10 ∷ []) 0 2 ≡ 1
  pub return_in_the_text : text_before (13 ∷ 97 ∷ 10 ∷ []) 0 2 ≡ 2
  pub return_of_the_line_before : text_before (13 ∷ 10 ∷ []) 1 1 ≡ 1

pub line_cases_hold : LineCases
unfolding text_before
line_cases_hold = record { without_return = refl; with_return = refl; return_in_the_text = refl; return_of_the_line_before = refl }

pub record CopyCases : Type 0 where
  pub tail_stays : copied {A = ℕ} (5 ∷ []) 1 (7 ∷ 8 ∷ []) ≡ 5 ∷ 8 ∷ []
  pub no_tail : copied {A = ℕ} (5 ∷ 6 ∷ []) 2 (7 ∷ 8 ∷ []) ≡ 5 ∷ 6 ∷ []
  pub no_room : copied {A = ℕ} (5 ∷ 6 ∷ []) 2 (7 ∷ []) ≡ 7 ∷ []
  pub no_element : copied {A = ℕ} (5 ∷ []) 2 (7 ∷ 8 ∷ []) ≡ 7 ∷ 8 ∷ []

pub copy_cases_hold : CopyCases
unfolding copied
copy_cases_hold = record { tail_stays = refl; no_tail = refl; no_room = refl; no_element = refl }
