-- SPECIFICATION, "Two tanks": where the curves of two tanks part over the same marks, which of them is higher there, and that tank's run.
-- ts and vs are minutes and values of the first tank's readings, us and ws those of the second, zs and hs the marks and their half widths.
use Rattle.std.specs.Prelude.{ℕ, Bool, true, false, List, [], ◌∷◌, ◌++◌, ltb, eqb, length, get_or, Option, None, Some}
use Rattle.meanings.specs.declared.pair.Bounded.{Bounded}
use Rattle.meanings.specs.declared.pair.Parting.{Parting}
use Rattle.meanings.specs.declared.Estimate.{Estimate}
use Rattle.meanings.specs.declared.Limits.{Limits}
use Rattle.meanings.specs.Lists.{pick, lowest}
use Rattle.meanings.specs.Reports.{Fault, Answer, given, refused, unless}
use Rattle.meanings.specs.Reports.{Check, check, first_of, differ, series_checks, curve_checks}
use Rattle.meanings.specs.Estimate.{left_of, right_of, run_of, estimate}
use Rattle.meanings.specs.declared.pair.Tank.{Tank}
use Rattle.meanings.specs.declared.pair.Tank.TheVariants.{First, Second}

-- a where the first tank is meant, b where the second
abbrev pub of_tank : {A : Type 0} → Tank → A → A → A
of_tank First a b = a
of_tank Second a b = b

-- the row's value is missing: its weight is 0
abbrev pub lacks_value : Estimate → Bool
lacks_value e = eqb e.weight 0

-- row e reads higher than row f: nothing is above a missing value, which is above every present one, and of two present ones the number decides
unfoldable pub above : Estimate → Estimate → Bool
above e f = pick (lacks_value f) false (pick (lacks_value e) true (ltb f.value e.value))

-- the tank that reads higher, by its row and the other's, where their values differ
unfoldable pub higher_of : Estimate → Estimate → Tank
higher_of e f = pick (above e f) First Second

-- two rows have different values
unfoldable pub unlike : Estimate → Estimate → Bool
unlike e f = differ e.value f.value

-- the rows of mark k have
unfoldable pub unlike_at : List ℕ → List ℕ → List ℕ → List ℕ → List ℕ → List ℕ → ℕ → Bool
unlike_at ts vs us ws zs hs k = unlike (estimate ts vs (get_or zs k 0) (get_or hs k 0)) (estimate us ws (get_or zs k 0) (get_or hs k 0))

-- the first mark with differing values decides
abbrev pub parting_at : List ℕ → List ℕ → List ℕ → List ℕ → List ℕ → List ℕ → Option ℕ → Option Parting
parting_at ts vs us ws zs hs None = None
parting_at ts vs us ws zs hs (Some k) =
    Some (record { position = k; higher = higher_of (estimate ts vs (get_or zs k 0) (get_or hs k 0)) (estimate us ws (get_or zs k 0) (get_or hs k 0)) })

abbrev pub parted : List ℕ → List ℕ → List ℕ → List ℕ → List ℕ → List ℕ → Option Parting
parted ts vs us ws zs hs = parting_at ts vs us ws zs hs (lowest (unlike_at ts vs us ws zs hs) (length zs))

-- report 16: the second tank's own lists are unfit, at the place where the first of 8, 6 and 4 finds it
abbrev pub fault_place : Option Fault → Option ℕ
fault_place None = None
fault_place (Some e) = Some e.place

abbrev pub second_checks : Limits → List ℕ → List ℕ → List Check
second_checks L us ws = check 16 (fault_place (first_of (series_checks L us ws))) ∷ []

-- what the sweep checks with the first tank, without a rows list, then that: 8, 6, 7, 4, 5, 9, 10, 16
abbrev pub compare_checks : Limits → List ℕ → List ℕ → List ℕ → List ℕ → List ℕ → List ℕ → List Check
compare_checks L ts vs us ws zs hs = curve_checks L ts vs zs hs false ++ second_checks L us ws

abbrev pub compare_refusal : Limits → List ℕ → List ℕ → List ℕ → List ℕ → List ℕ → List ℕ → Option Fault
compare_refusal L ts vs us ws zs hs = first_of (compare_checks L ts vs us ws zs hs)

-- the whole call
unfoldable pub compare : Limits → List ℕ → List ℕ → List ℕ → List ℕ → List ℕ → List ℕ → Answer (Option Parting)
compare L ts vs us ws zs hs = unless (compare_refusal L ts vs us ws zs hs) (parted ts vs us ws zs hs)

-- its run: that of the tank that is higher, at the mark at which they part; else empty
abbrev pub run_in : List ℕ → List ℕ → List ℕ → List ℕ → List ℕ → List ℕ → Answer (Option Parting) → List ℕ
run_in ts vs us ws zs hs (given (Some p)) =
    let z = get_or zs p.position 0 in
    let h = get_or hs p.position 0 in
    of_tank p.higher (run_of ts vs z h) (run_of us ws z h)
run_in ts vs us ws zs hs (given None) = []
run_in ts vs us ws zs hs (refused e) = []

unfoldable pub compare_run : Limits → List ℕ → List ℕ → List ℕ → List ℕ → List ℕ → List ℕ → List ℕ
compare_run L ts vs us ws zs hs = run_in ts vs us ws zs hs (compare L ts vs us ws zs hs)

-- whose list of values the run is a part of: the first tank's where it is empty for want of a parting
abbrev pub tank_in : Answer (Option Parting) → Tank
tank_in (given (Some p)) = p.higher
tank_in (given None) = First
tank_in (refused e) = First

unfoldable pub run_tank : Limits → List ℕ → List ℕ → List ℕ → List ℕ → List ℕ → List ℕ → Tank
run_tank L ts vs us ws zs hs = tank_in (compare L ts vs us ws zs hs)

-- and the position in that list at which it begins: left, else 0
abbrev pub start_in : List ℕ → List ℕ → List ℕ → List ℕ → Answer (Option Parting) → ℕ
start_in ts us zs hs (given (Some p)) =
    let z = get_or zs p.position 0 in
    let h = get_or hs p.position 0 in
    of_tank p.higher (left_of ts z h) (left_of us z h)
start_in ts us zs hs (given None) = 0
start_in ts us zs hs (refused e) = 0

unfoldable pub run_start : Limits → List ℕ → List ℕ → List ℕ → List ℕ → List ℕ → List ℕ → ℕ
run_start L ts vs us ws zs hs = start_in ts us zs hs (compare L ts vs us ws zs hs)

-- a parting at mark k, by the rows of both tanks there
unfoldable pub split_of : ℕ → Estimate → Estimate → Bounded
split_of k e f =
    let t = higher_of e f in
    record { parting = record { position = k; higher = t }; left = of_tank t e.left f.left; right = of_tank t e.right f.right }

-- left and right of the higher tank's row there
abbrev pub bounded : List ℕ → List ℕ → List ℕ → List ℕ → Parting → Bounded
bounded ts us zs hs p =
    let z = get_or zs p.position 0 in
    let h = get_or hs p.position 0 in
    record {
      parting = p;
      left = of_tank p.higher (left_of ts z h) (left_of us z h);
      right = of_tank p.higher (right_of ts z h) (right_of us z h);
    }

abbrev pub with_bounds : List ℕ → List ℕ → List ℕ → List ℕ → Answer (Option Parting) → Answer (Option Bounded)
with_bounds ts us zs hs (given (Some p)) = given (Some (bounded ts us zs hs p))
with_bounds ts us zs hs (given None) = given None
with_bounds ts us zs hs (refused e) = refused e

unfoldable pub compare_bounds : Limits → List ℕ → List ℕ → List ℕ → List ℕ → List ℕ → List ℕ → Answer (Option Bounded)
compare_bounds L ts vs us ws zs hs = with_bounds ts us zs hs (compare L ts vs us ws zs hs)
