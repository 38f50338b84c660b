-- The word holds both pairs of digits; two tenths at once part each pair into its digits.
use Rattle.text.proofs.DigitWords.{word_of_four}
use Rattle.text.proofs.decimal.digit_word.Goals as goal

pub returns : goal.returns
returns c = search word_of_four
