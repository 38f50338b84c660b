-- A line that fits is stored; for any other the list stays.
use Prim.Native.Nat.{ℕ, ◌≤◌}
use mathlib.Core.Path.{◌≡◌, sym, ◌∙◌}
use mathlib.Core.Bool.{Bool, true, false}
use mathlib.Core.List.{List}
use Rattle.std.specs.Prelude.{None}
use borrow.Author.Tests.{leb-true}
use lib.Dec.{leb}
use lib.ListN.{length}
use Rattle.text.specs.Written.{fits, put_size, put_list}

module _ (out t : List ℕ) (b : Bool) (told : b ≡ leb (length t) (length out)) where
  pub line_fits : b ≡ true → length t ≤ length out
  line_fits does = leb-true (length t) (length out) (sym told ∙ does)

  module _ (no : b ≡ false) where
    pub no_line_size : None ≡ put_size out t
    unfolding put_size fits
    no_line_size = rw (← told, no)

    pub no_line_listed : out ≡ put_list out t
    unfolding put_list fits
    no_line_listed = rw (← told, no)
