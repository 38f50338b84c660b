-- What the parts and the lines of a text are, and which text they come from: one that has no comma, or no line feed, is one part, or one line,
-- and the parts and the lines give the text back. What other laws know of a line ending stands here: that it is not empty, that it is the
-- empty line by itself and ends a plain text before it, and that each line's text has one behind it.
use Prim.Native.Nat.{ℕ, ◌≤◌, ◌<◌}
use mathlib.Core.Path.{◌≡◌, refl, sym, ap, ◌∙◌}
use mathlib.Core.Bool.{Bool, true, false}
use mathlib.Core.List.{List, [], ◌∷◌, ◌++◌}
use native.Mathlib.Omega.{arith}
use borrow.Author.Tests.{leb-true, eqb-true, eqb-false, ne_eqb}
use lib.Dec.{leb, eqb}
use lib.ListN.{length}
use Rattle.meanings.specs.Bytes.{line_feed, carriage_return, LineEnding, feed, return_feed, ending_bytes, comma, zero_digit, nine_digit}
use Rattle.meanings.specs.Sheet.{Lines, end, unended, line, with_text_byte, lines, with_part_byte, parts, digit, digits}
use Rattle.meanings.specs.Output.{decimal}
use Rattle.laws.proofs.text.Numbers.{and_true_both, decimal_digits}

-- no byte of the text is x
abbrev pub Free : ℕ → List ℕ → Type 0
Free x [] = Unit {0}
Free x (b ∷ t) = (eqb b x ≡ false) × Free x t

pub free_append : (x : ℕ) (s t : List ℕ) → Free x s → Free x t → Free x (s ++ t)
free_append x [] t f g = g
free_append x (b ∷ s) t f g = (f.0, free_append x s t f.1 g)

pub digits_free : (x : ℕ) (t : List ℕ) → x < zero_digit → digits t ≡ true → Free x t
digits_free x [] l e = tt
digits_free x (b ∷ t) l e =
    let o = and_true_both (digit b) (digits t) e in
    let r = and_true_both (leb zero_digit b) (leb b nine_digit) o.0 in
    let low = leb-true zero_digit b r.0 in
    (ne_eqb b x (λ e. omega arith), digits_free x t l o.1)

-- a number's text has neither comma nor line feed
pub decimal_free : (x n : ℕ) → x < zero_digit → Free x (decimal n)
decimal_free x n l = digits_free x (decimal n) l (decimal_digits n)

pub parts_before_comma : (a b : List ℕ) → Free comma a → parts (a ++ comma ∷ b) ≡ a ∷ parts b
parts_before_comma [] b f = refl
parts_before_comma (c ∷ a) b f = rw (f.0, parts_before_comma a b f.1)

pub parts_of_one : (a : List ℕ) → Free comma a → parts a ≡ a ∷ []
parts_of_one [] f = refl
parts_of_one (c ∷ a) f = rw (f.0, parts_of_one a f.1)

pub parts_some : (t : List ℕ) → parts t ≡ [] → ⊥
parts_some [] e = let z : ◌≡◌ {A = ℕ} 0 1 = cc in omega arith
parts_some (c ∷ t) e = by (eqb c comma) (parts t) e
  where
    by : (b : Bool) (ps : List (List ℕ)) → with_part_byte b c ps ≡ [] → ⊥
    by true ps e = let z : ◌≡◌ {A = ℕ} 0 1 = cc in omega arith
    by false [] e = let z : ◌≡◌ {A = ℕ} 0 1 = cc in omega arith
    by false (p ∷ ps) e = let z : ◌≡◌ {A = ℕ} 0 1 = cc in omega arith

-- a text of one part is that part
pub one_part : (t a : List ℕ) → parts t ≡ a ∷ [] → (t ≡ a) × Free comma a
one_part [] a e = let h : [] ≡ a = cc in (h, rw (← h) tt)
one_part (c ∷ t) a e = by (eqb c comma) refl (parts t) refl e (one_part t)
  where
    by : (b : Bool) → eqb c comma ≡ b → (ps : List (List ℕ)) → parts t ≡ ps → with_part_byte b c ps ≡ a ∷ []
        → ((a : List ℕ) → parts t ≡ a ∷ [] → (t ≡ a) × Free comma a) → (c ∷ t ≡ a) × Free comma a
    by true f ps g e k = absurd (parts_some t (cc))
    by false f [] g e k = absurd (parts_some t g)
    by false f (p ∷ ps) g e k =
        let h : c ∷ p ≡ a = cc in
        let o = k p (cc) in
        (ap (λ (s : List ℕ). c ∷ s) o.0 ∙ h, rw (← h) (f, o.1))

-- the first part, and the text after its comma
pub first_part : (t a b : List ℕ) (ps : List (List ℕ)) → parts t ≡ a ∷ b ∷ ps
    → (r : List ℕ) × ((t ≡ a ++ comma ∷ r) × Free comma a × (parts r ≡ b ∷ ps))
first_part [] a b ps e = let z : ◌≡◌ {A = ℕ} 0 1 = cc in absurd (omega arith)
first_part (c ∷ t) a b ps e = by (eqb c comma) refl (parts t) refl e (first_part t)
  where
    by : (d : Bool) → eqb c comma ≡ d → (qs : List (List ℕ)) → parts t ≡ qs → with_part_byte d c qs ≡ a ∷ b ∷ ps
        → ((a b : List ℕ) (ps : List (List ℕ)) → parts t ≡ a ∷ b ∷ ps → (r : List ℕ) × ((t ≡ a ++ comma ∷ r) × Free comma a × (parts r ≡ b ∷ ps)))
        → (r : List ℕ) × ((c ∷ t ≡ a ++ comma ∷ r) × Free comma a × (parts r ≡ b ∷ ps))
    by true f qs g e k =
        let h : [] ≡ a = cc in
        let i = eqb-true c comma f in
        (t, (rw (← h, i), rw (← h) tt, cc))
    by false f [] g e k = absurd (parts_some t g)
    by false f (q ∷ qs) g e k =
        let h : c ∷ q ≡ a = cc in
        let o = k q b ps (cc) in
        (o.0, (rw (← h) (ap (λ (s : List ℕ). c ∷ s) o.1.0), rw (← h) (f, o.1.1), o.1.2))

pub two_parts_text : (t a b : List ℕ) → parts t ≡ a ∷ b ∷ [] → (t ≡ a ++ comma ∷ b) × Free comma a × Free comma b
two_parts_text t a b e =
    let o = first_part t a b [] e in
    let l = one_part o.0 b o.1.2 in
    (rw l.0 at o.1.0, o.1.1, l.1)

pub three_parts_text : (t a b c : List ℕ) → parts t ≡ a ∷ b ∷ c ∷ []
    → (t ≡ a ++ comma ∷ (b ++ comma ∷ c)) × Free comma a × Free comma b × Free comma c
three_parts_text t a b c e =
    let o = first_part t a b (c ∷ []) e in
    let l = two_parts_text o.0 b c o.1.2 in
    (rw l.0 at o.1.0, o.1.1, l.1, l.2)

pub ending_some : (e : LineEnding) → 1 ≤ length (ending_bytes e)
ending_some feed = omega arith
ending_some return_feed = omega arith

-- a line ending alone is the empty line
pub lines_of_ending : (e : LineEnding) (s : List ℕ) → lines (ending_bytes e ++ s) ≡ line [] e (lines s)
lines_of_ending feed s = refl
lines_of_ending return_feed s = refl

-- no byte of the text belongs to a line ending
abbrev pub Plain : List ℕ → Type 0
Plain t = Free line_feed t × Free carriage_return t

pub lines_of_line : (t : List ℕ) (e : LineEnding) (s : List ℕ) → Plain t → lines (t ++ (ending_bytes e ++ s)) ≡ line t e (lines s)
lines_of_line [] e s f = lines_of_ending e s
lines_of_line (b ∷ t) e s f = rw (f.0.0, f.1.0, lines_of_line t e s (f.0.1, f.1.1))

-- what a byte before the bytes s is: a line feed; a carriage return directly before one; or a byte of the text
pub data FirstByte (b : ℕ) (s : List ℕ) : Type 0 where
  is_feed : b ≡ line_feed → lines (b ∷ s) ≡ line [] feed (lines s) → FirstByte b s
  is_return : b ≡ carriage_return → (ls : Lines) → lines s ≡ line [] feed ls → lines (b ∷ s) ≡ line [] return_feed ls → FirstByte b s
  is_text : eqb b line_feed ≡ false → lines (b ∷ s) ≡ with_text_byte b (lines s)
      → (b ≡ carriage_return → (ls : Lines) → ¬ (lines s ≡ line [] feed ls)) → FirstByte b s

pub first_byte : (b : ℕ) (s : List ℕ) → FirstByte b s
first_byte b s = by (eqb b line_feed) (eqb b carriage_return) (lines s) refl refl refl
  where
    by : (f r : Bool) (ls : Lines) → eqb b line_feed ≡ f → eqb b carriage_return ≡ r → lines s ≡ ls → FirstByte b s
    by true r ls e d g = is_feed (eqb-true b line_feed e) (rw (e))
    by false false ls e d g = is_text e (rw (e, d)) (λ q. absurd (eqb-false b carriage_return d q))
    by false true end e d g =
        let q = eqb-true b carriage_return d in
        is_text e (rw (e, d, g, q)) (λ q ls (h : lines s ≡ line [] feed ls). let z : ◌≡◌ {A = ℕ} 0 1 = cc in omega arith)
    by false true (unended t) e d g =
        let q = eqb-true b carriage_return d in
        is_text e (rw (e, d, g, q)) (λ q ls (h : lines s ≡ line [] feed ls). let z : ◌≡◌ {A = ℕ} 0 1 = cc in omega arith)
    by false true (line [] feed ls) e d g = is_return (eqb-true b carriage_return d) ls g (rw (e, d, g))
    by false true (line [] return_feed ls) e d g =
        let q = eqb-true b carriage_return d in
        is_text e (rw (e, d, g, q)) (λ q ls (h : lines s ≡ line [] feed ls). let z : ◌≡◌ {A = ℕ} 0 1 = cc in omega arith)
    by false true (line (c ∷ t) k ls) e d g =
        let q = eqb-true b carriage_return d in
        is_text e (rw (e, d, g, q)) (λ q ls (h : lines s ≡ line [] feed ls). let z : ◌≡◌ {A = ℕ} 0 1 = cc in omega arith)

-- only the empty text has no line
pub no_lines : (s : List ℕ) → lines s ≡ end → s ≡ []
no_lines [] e = refl
no_lines (b ∷ s) e = by (first_byte b s)
  where
    by : FirstByte b s → b ∷ s ≡ []
    by (is_feed f g) = let z : ◌≡◌ {A = ℕ} 0 1 = cc in absurd (omega arith)
    by (is_return f ls h g) = let z : ◌≡◌ {A = ℕ} 0 1 = cc in absurd (omega arith)
    by (is_text f g h) = absurd (some_text (lines s) (sym g ∙ e))
      where
        some_text : (ls : Lines) → with_text_byte b ls ≡ end → ⊥
        some_text end e = let z : ◌≡◌ {A = ℕ} 0 1 = cc in omega arith
        some_text (unended t) e = let z : ◌≡◌ {A = ℕ} 0 1 = cc in omega arith
        some_text (line t d ls) e = let z : ◌≡◌ {A = ℕ} 0 1 = cc in omega arith

-- the first line, and what follows it
pub first_line : (s t : List ℕ) (e : LineEnding) (ls : Lines) → lines s ≡ line t e ls
    → (r : List ℕ) × ((s ≡ t ++ (ending_bytes e ++ r)) × Free line_feed t × (lines r ≡ ls))
first_line [] t e ls q = let z : ◌≡◌ {A = ℕ} 0 1 = cc in absurd (omega arith)
first_line (b ∷ s) t e ls q = by (first_byte b s) (first_line s)
  where
    by : FirstByte b s
        → ((t : List ℕ) (e : LineEnding) (ls : Lines) → lines s ≡ line t e ls
        → (r : List ℕ) × ((s ≡ t ++ (ending_bytes e ++ r)) × Free line_feed t × (lines r ≡ ls)))
        → (r : List ℕ) × ((b ∷ s ≡ t ++ (ending_bytes e ++ r)) × Free line_feed t × (lines r ≡ ls))
    by (is_feed f g) k =
        let h : [] ≡ t = cc in
        let j : feed ≡ e = cc in
        (s, (rw (← h, ← j, f), rw (← h) tt, cc))
    by (is_return f ms m g) k =
        let h : [] ≡ t = cc in
        let j : return_feed ≡ e = cc in
        let o = k [] feed ms m in
        (o.0, (rw (← h, ← j, f, o.1.0), rw (← h) tt, cc))
    by (is_text f g n) k = in_text (lines s) refl (sym g ∙ q)
      where
        in_text : (ms : Lines) → lines s ≡ ms → with_text_byte b ms ≡ line t e ls
            → (r : List ℕ) × ((b ∷ s ≡ t ++ (ending_bytes e ++ r)) × Free line_feed t × (lines r ≡ ls))
        in_text end g q = let z : ◌≡◌ {A = ℕ} 0 1 = cc in absurd (omega arith)
        in_text (unended u) g q = let z : ◌≡◌ {A = ℕ} 0 1 = cc in absurd (omega arith)
        in_text (line u d ms) g q =
            let h : b ∷ u ≡ t = cc in
            let o = k u e ls (cc) in
            (o.0, (rw (← h) (ap (λ (r : List ℕ). b ∷ r) o.1.0), rw (← h) (f, o.1.1), o.1.2))
