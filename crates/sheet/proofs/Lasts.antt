-- The last of the marks is at the position before their number: the checks of one more against it, in their order.
use Prim.Native.Nat.{ℕ, ◌-◌, ◌≤◌, ◌<◌}
use mathlib.Core.Path.{◌≡◌, refl, sym, ◌∙◌}
use mathlib.Core.Bool.{Bool, true, false}
use mathlib.Core.List.{List, [], ◌∷◌, ◌++◌}
use native.Mathlib.Omega.{arith}
use borrow.Author.Tests.{leb-false, le-leb, lt-leb}
use lib.Dec.{ltb, leb}
use lib.ListN.{length, get_or, take, get_or-append}
use lib.Seq.{length-take-le, get_or_at}
use Rattle.std.specs.List.{slice_get}
use Rattle.std.proofs.lemmas.Option.{slice_get_within, slice_get-get_or, get_or_from_slice_get}
use Rattle.meanings.specs.declared.Mark.{Mark}
use Rattle.meanings.specs.declared.Report.TheVariants.{PointOutOfOrder, BandwidthOutOfRange, EdgeDecreases, TooMany}
use Rattle.meanings.specs.declared.Refusal.{Refusal}
use Rattle.std.specs.Prelude.{Some, None, Ok, Err}
use Rattle.meanings.specs.Limits.{full}
use Rattle.meanings.specs.Reports.{bad_bandwidth, edge_below}
use Rattle.meanings.specs.Sheet.{point_checks}
use Rattle.meanings.proofs.Checks.{none_holds, at_none, decreases_at, edge_decreases_at}
use Rattle.sheet.specs.FrontStages.{below_last, edge_below_last, PointChecked}

none_at_last : (xs : List ℕ) → None ≡ slice_get xs (length xs - 1) → length xs ≡ 0
none_at_last [] e = refl
none_at_last (x ∷ xs) e =
    let s = slice_get-get_or (x ∷ xs) (length (x ∷ xs) - 1) 0 (omega arith) in
    let z : ◌≡◌ {A = ℕ} 0 1 = cc in
    absurd (omega arith)

-- what stands behind one more element, at its place and before it
module _ (xs : List ℕ) (x y : ℕ) (last : Some y ≡ slice_get xs (length xs - 1)) where
  some_element : 1 ≤ length xs
  some_element = let l = slice_get_within xs (length xs - 1) y (sym last) in omega arith

  last_of_front : get_or (xs ++ x ∷ []) (length xs - 1) 0 ≡ y
  last_of_front =
      let l = some_element in
      get_or-append xs (x ∷ []) 0 (length xs - 1) (omega arith) ∙ get_or_from_slice_get xs (length xs - 1) y 0 (sym last)

pub no_last_below : (zs : List ℕ) (z : ℕ) → None ≡ slice_get zs (length zs - 1) → false ≡ below_last zs z
unfolding below_last
no_last_below zs z e = rw (none_at_last zs e)

pub last_below : (zs : List ℕ) (z x : ℕ) → Some x ≡ slice_get zs (length zs - 1) → ltb z x ≡ below_last zs z
unfolding below_last
last_below zs z x e =
    sym (rw (decreases_at (zs ++ z ∷ []) (length zs) (some_element zs z x e), get_or_at zs z [] 0 (length zs) refl, last_of_front zs z x e))

pub no_last_edge_below : (zs hs : List ℕ) (m : Mark) → None ≡ slice_get zs (length zs - 1) → false ≡ edge_below_last zs hs m
unfolding edge_below_last
no_last_edge_below zs hs m e = rw (none_at_last zs e)

pub last_edge_below : (zs hs : List ℕ) (m : Mark) (z h : ℕ) {b : Bool} → length zs ≡ length hs → Some z ≡ slice_get zs (length zs - 1)
    → Some h ≡ slice_get hs (length hs - 1) → b ≡ edge_below m.point m.bandwidth z h → b ≡ edge_below_last zs hs m
unfolding edge_below_last
last_edge_below zs hs m z h l d f e =
    e
    ∙ sym
    (rw (
      edge_decreases_at (zs ++ m.point ∷ []) (hs ++ m.bandwidth ∷ []) (length zs) (some_element zs m.point z d),
      get_or_at zs m.point [] 0 (length zs) refl,
      get_or_at hs m.bandwidth [] 0 (length zs) (sym l),
      last_of_front zs m.point z d,
      l,
      last_of_front hs m.bandwidth h f,
    ))

-- the checks of a mark line: each is made where those before it have found nothing
module _ {p : ℕ} {zs hs : List ℕ} {m : Mark} {a : Bool} (falls : a ≡ below_last zs m.point) where
  pub point_falls : a ≡ true → {r : Refusal} → r ≡ (record { report = PointOutOfOrder; place = p }) → PointChecked p zs hs m (Err r)
  unfolding below_last
  point_falls t e = record { found = rw e (sym (rw (← falls, t))) }

  module _ {b : Bool} (a-false : a ≡ false) (off : b ≡ bad_bandwidth m.bandwidth) where
    pub bandwidth_off : b ≡ true → {r : Refusal} → r ≡ (record { report = BandwidthOutOfRange; place = p }) → PointChecked p zs hs m (Err r)
    unfolding below_last
    bandwidth_off t e = record { found = rw e (sym (rw (← falls, a-false, ← off, t))) }

    module _ {c : Bool} (b-false : b ≡ false) (edge : c ≡ edge_below_last zs hs m) where
      pub edge_falls : c ≡ true → {r : Refusal} → r ≡ (record { report = EdgeDecreases; place = p }) → PointChecked p zs hs m (Err r)
      unfolding below_last edge_below_last
      edge_falls t e = record { found = rw e (sym (rw (← falls, a-false, ← off, b-false, ← edge, t))) }

      pub points_full : c ≡ false → 512 ≤ length zs → {r : Refusal} → r ≡ (record { report = TooMany; place = p }) → PointChecked p zs hs m (Err r)
      unfolding below_last edge_below_last
      points_full f l e = record { found = rw e (sym (rw (← falls, a-false, ← off, b-false, ← edge, f, le-leb 512 (length zs) l))) }

      pub point_fits : c ≡ false → length zs < 512 → PointChecked p zs hs m (Ok tt)
      unfolding below_last edge_below_last
      point_fits f l = record { found = sym (rw (← falls, a-false, ← off, b-false, ← edge, f, lt-leb 512 (length zs) l)) }

-- a mark line that earns nothing after the first n marks finds room
pub point_room : (zs hs : List ℕ) (n : ℕ) {p : ℕ} {m : Mark} {u : Unit {0}} → PointChecked p (take n zs) (take n hs) m (Ok u) → n ≤ length zs → n < 512
point_room zs hs n {p} {m} o l =
    let k = length-take-le n zs l in
    let f = none_holds (point_checks full p (take n zs) (take n hs) (record { point = m.point; bandwidth = m.bandwidth })) (sym o.found) in
    let r = leb-false 512 (length (take n zs)) (at_none p (leb 512 (length (take n zs))) f.1.1.1.0) in
    omega arith
