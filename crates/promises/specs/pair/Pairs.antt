-- What is promised of the comparison of two tanks, of the calls as a caller has them: the two in Rattle, and the one for C and Rust.
-- SPECIFICATION, "Two tanks".
use Rattle.std.specs.Prelude.{ℕ, ◌+◌, ◌*◌, ◌<◌, ◌≡◌, ◌⊎◌, ◌↔◌, List, [], ◌∷◌, length, get_or}
use Rattle.std.specs.Prelude.{Option, Result, Ok}
use Rattle.meanings.specs.declared.pair.Parting.{Parting}
use Rattle.meanings.specs.declared.Refusal.{Refusal}
use Rattle.meanings.specs.Calls.{answer_of}
use Rattle.std.specs.Prelude.{None, Some}
use Rattle.std.specs.Borrow.{Bor}
use contract.Lifetimes.{Lfts}
use borrow.Fn.Kinds.{Dens}
use Rattle.meanings.specs.Claim.{refusal}
use Rattle.meanings.specs.Codes.{detail_unit}
use Rattle.meanings.specs.Estimate.{left_of, right_of, run_of}
use Rattle.meanings.specs.Limits.{full, max_u16}
use Rattle.meanings.specs.Lists.{AtMost}
use Rattle.meanings.specs.declared.pair.Tank.{Tank}
use Rattle.meanings.specs.declared.pair.Tank.TheVariants.{First}
use Rattle.meanings.specs.pair.Comparison.{of_tank}
use Rattle.meanings.specs.pair.Order.{NoHigher, exchanged, SameValues, position_in, value_field, RowsPartAt}
use Rattle.questions.proofs.pair.compare.Reads as compare
use Rattle.questions.proofs.pair.compare.Kinds as compare_kinds
use Rattle.questions.proofs.pair.compare.Statement as compare_code
use Rattle.questions.proofs.pair.compare_run.Reads as compare_run
use Rattle.questions.proofs.pair.compare_run.Kinds as compare_run_kinds
use Rattle.questions.proofs.pair.compare_run.Statement as compare_run_code
use Rattle.exports.proofs.pair.tankcurve_compare.Reads as exported_compare
use Rattle.exports.proofs.pair.tankcurve_compare.Kinds as exported_compare_kinds
use Rattle.exports.proofs.pair.tankcurve_compare.Statement as exported_compare_code
use Rattle.promises.specs.Calls.{Place, lent, lent_mut, readings, marks, SmoothCall}
use Rattle.promises.specs.conditions.Conditions.{Conditions, no_more, condition, FirstFault, RefusedExactly, series_conditions, curve_size_conditions}
use Rattle.promises.specs.conditions.Conditions.{order_conditions}
use Rattle.promises.specs.conditions.Conditions.{windows_conditions, length_first, code_refusal}
use Rattle.promises.specs.Demands.{RefusedAndStays}

-- a call of the comparison: the first tank's minutes and values, the second's, marks and half widths
pub record CompareCall (ts vs us ws zs hs : List ℕ) (a : Result (Option Parting) Refusal) : Type 0 where
  pub lifetimes : Lfts 3
  pub minutes_at : Place
  pub values_at : Place
  pub others_at : Place
  pub other_values_at : Place
  pub points_at : Place
  pub bandwidths_at : Place
  pub ensured :
      compare.Post lifetimes (
        readings minutes_at values_at ts vs,
        (readings others_at other_values_at us ws, (marks points_at bandwidths_at zs hs, tt)),
      ) a (
        readings minutes_at values_at ts vs,
        (readings others_at other_values_at us ws, (marks points_at bandwidths_at zs hs, tt)),
      )

-- of its run: the answer is a part of the values lent from first_at or from second_at
pub record CompareRunCall (ts vs us ws zs hs : List ℕ) (first_at second_at : Place) (part : Bor (List ℕ)) : Type 0 where
  pub lifetimes : Lfts 4
  pub minutes_at : Place
  pub others_at : Place
  pub points_at : Place
  pub bandwidths_at : Place
  pub ensured :
      compare_run.Post lifetimes (
        lent minutes_at ts,
        (lent first_at vs, (lent others_at us, (lent second_at ws, (marks points_at bandwidths_at zs hs, tt)))),
      ) part (
        lent minutes_at ts,
        (lent first_at vs, (lent others_at us, (lent second_at ws, (marks points_at bandwidths_at zs hs, tt)))),
      )

-- a call for C and Rust, with the lent list out at entry and out' at exit
pub record ExportedCompare (ts vs us ws zs hs out : List ℕ) (c : ℕ) (out' : List ℕ) : Type 0 where
  pub lifetimes : Lfts 7
  pub minutes_at : Place
  pub values_at : Place
  pub others_at : Place
  pub other_values_at : Place
  pub points_at : Place
  pub bandwidths_at : Place
  pub out_at : Place
  pub ensured :
      exported_compare.Post lifetimes (
        lent minutes_at ts,
        (
          lent values_at vs,
          (lent others_at us, (lent other_values_at ws, (lent points_at zs, (lent bandwidths_at hs, (lent_mut out_at out, tt))))),
        ),
      ) c (
        lent minutes_at ts,
        (
          lent values_at vs,
          (lent others_at us, (lent other_values_at ws, (lent points_at zs, (lent bandwidths_at hs, (lent_mut out_at out', tt))))),
        ),
      )

-- report 16: at p the second tank's lists have the first of the conditions of 8, 6 and 4 that holds
abbrev pub SecondEarns : List ℕ → List ℕ → ℕ → Type 0
SecondEarns us ws p = (n : ℕ) × FirstFault (series_conditions full us ws no_more) n p

-- what the sweep looks at with the first tank, where no further list has to fit, and then the second tank: 8, 6, 7, 4, 5, 9, 10, 16
abbrev pub compare_conditions : List ℕ → List ℕ → List ℕ → List ℕ → List ℕ → List ℕ → Conditions
compare_conditions ts vs us ws zs hs =
    curve_size_conditions full ts vs zs hs Unit
    (order_conditions ts zs (windows_conditions zs hs (condition 16 (SecondEarns us ws) no_more)))

-- the part is empty, at the start of the first tank's values
pub record EmptyAtFirst (first_at : Place) (part : Bor (List ℕ)) : Type 0 where
  pub empty : part.now ≡ []
  pub block : part.ref_ptr.0 ≡ first_at.ref_ptr.0
  pub start : part.ref_ptr.1 ≡ first_at.ref_ptr.1

-- the part is the run of tank t at mark z with half width h, in that tank's own values, two bytes each
pub record RunOfTank (ts vs us ws : List ℕ) (t : Tank) (z h : ℕ) (first_at second_at : Place) (part : Bor (List ℕ)) : Type 0 where
  pub values : part.now ≡ of_tank t (run_of ts vs z h) (run_of us ws z h)
  pub block : part.ref_ptr.0 ≡ of_tank t first_at.ref_ptr.0 second_at.ref_ptr.0
  pub start : part.ref_ptr.1 ≡ of_tank t first_at.ref_ptr.1 second_at.ref_ptr.1 + of_tank t (left_of ts z h) (left_of us z h) * 2

-- every input is taken, and the calls come to an end
pub record EveryPairTaken : Type 2 where
  pub compare_ends : {M : Type 1} → compare_code.statement M
  pub compare_asks_nothing : (κs : Lfts 3) (a : Dens κs compare_kinds.ps) → compare.Asked κs a
  pub compare_run_ends : {M : Type 1} → compare_run_code.statement M
  pub compare_run_asks_nothing : (κs : Lfts 4) (a : Dens κs compare_run_kinds.ps) → compare_run.Asked κs a
  pub exported_compare_ends : {M : Type 1} → exported_compare_code.statement M
  pub exported_compare_asks_nothing : (κs : Lfts 7) (a : Dens κs exported_compare_kinds.ps) → exported_compare.Asked κs a

pub record Pairs : Type 0 where
  -- refused exactly for the first report whose condition holds
  pub compare_refused : (ts vs us ws zs hs : List ℕ) (a : Result (Option Parting) Refusal) → CompareCall ts vs us ws zs hs a
      → RefusedExactly (refusal (answer_of a)) (FirstFault (compare_conditions ts vs us ws zs hs))
  pub exported_compare_refused : (ts vs us ws zs hs out : List ℕ) (c : ℕ) (out' : List ℕ) → ExportedCompare ts vs us ws zs hs out c out'
      → RefusedAndStays (code_refusal c) (FirstFault (length_first 3 out (compare_conditions ts vs us ws zs hs))) (out' ≡ out)
  -- the two calls agree: the run is empty, at the first list's start, where the comparison is refused or alike, and else the higher tank's
  pub run_refused : (ts vs us ws zs hs : List ℕ) (first_at second_at : Place) (part : Bor (List ℕ))
      → CompareRunCall ts vs us ws zs hs first_at second_at part → (n p : ℕ) → FirstFault (compare_conditions ts vs us ws zs hs) n p
      → EmptyAtFirst first_at part
  pub run_alike : (ts vs us ws zs hs : List ℕ) (first_at second_at : Place) (part : Bor (List ℕ)) → CompareCall ts vs us ws zs hs (Ok None)
      → CompareRunCall ts vs us ws zs hs first_at second_at part → EmptyAtFirst first_at part
  pub run_apart : (ts vs us ws zs hs : List ℕ) (k : ℕ) (t : Tank) (first_at second_at : Place) (part : Bor (List ℕ))
      → CompareCall ts vs us ws zs hs (Ok (Some (record { position = k; higher = t }))) → CompareRunCall ts vs us ws zs hs first_at second_at part
      → RunOfTank ts vs us ws t (get_or zs k 0) (get_or hs k 0) first_at second_at part
  -- the call for C and Rust tells the same
  pub exported_alike : (ts vs us ws zs hs out : List ℕ) (c : ℕ) (out' : List ℕ) → length out ≡ 3 → CompareCall ts vs us ws zs hs (Ok None)
      → ExportedCompare ts vs us ws zs hs out c out' → (c ≡ 0) × (out' ≡ out)
  pub exported_apart : (ts vs us ws zs hs out : List ℕ) (k : ℕ) (t : Tank) (c : ℕ) (out' : List ℕ) → length out ≡ 3
      → CompareCall ts vs us ws zs hs (Ok (Some (record { position = k; higher = t }))) → ExportedCompare ts vs us ws zs hs out c out'
      → (c ≡ detail_unit * of_tank t 1 2)
      × (out'
      ≡ k
      ∷ of_tank t (left_of ts (get_or zs k 0) (get_or hs k 0)) (left_of us (get_or zs k 0) (get_or hs k 0))
      ∷ of_tank t (right_of ts (get_or zs k 0) (get_or hs k 0)) (right_of us (get_or zs k 0) (get_or hs k 0))
      ∷ [])
  -- with the sweep: the tanks part at k exactly if the value fields of both sweeps' rows agree before k and differ at k
  pub parts_with_sweeps : (ts vs us ws zs hs rs qs : List ℕ) (n m : ℕ) (rs' qs' : List ℕ) (a : Result (Option Parting) Refusal) → AtMost max_u16 vs
      → AtMost max_u16 ws
      → SmoothCall ts vs zs hs rs (Ok n) rs' → SmoothCall us ws zs hs qs (Ok m) qs' → CompareCall ts vs us ws zs hs a → (k : ℕ)
      → (position_in (answer_of a) ≡ Some k) ↔ RowsPartAt rs' qs' (length zs) k
  -- and the higher tank is the one whose value field is greater there, 65,536 of a missing value above all others
  pub higher_with_sweeps : (ts vs us ws zs hs rs qs : List ℕ) (n m : ℕ) (rs' qs' : List ℕ) (k : ℕ) (t : Tank) → AtMost max_u16 vs → AtMost max_u16 ws
      → SmoothCall ts vs zs hs rs (Ok n) rs' → SmoothCall us ws zs hs qs (Ok m) qs'
      → CompareCall ts vs us ws zs hs (Ok (Some (record { position = k; higher = t })))
      → (t ≡ First) ↔ (value_field qs' k < value_field rs' k)
  -- for fixed marks "no higher" is an order up to equal curves: reflexive, transitive, total, and both ways exactly if all values agree
  pub reflexive : (ts vs zs hs : List ℕ) (a : Result (Option Parting) Refusal) → AtMost max_u16 vs → CompareCall ts vs ts vs zs hs a
      → refusal (answer_of a) ≡ None → NoHigher (answer_of a)
  pub transitive : (ts vs us ws xs ys zs hs : List ℕ) (a b c : Result (Option Parting) Refusal) → AtMost max_u16 vs → AtMost max_u16 ws → AtMost max_u16 ys
      → CompareCall ts vs us ws zs hs a → CompareCall us ws xs ys zs hs b → CompareCall ts vs xs ys zs hs c → NoHigher (answer_of a)
      → NoHigher (answer_of b) → NoHigher (answer_of c)
  pub total : (ts vs us ws zs hs : List ℕ) (a b : Result (Option Parting) Refusal) → AtMost max_u16 vs → AtMost max_u16 ws → CompareCall ts vs us ws zs hs a
      → CompareCall us ws ts vs zs hs b → refusal (answer_of a) ≡ None → NoHigher (answer_of a) ⊎ NoHigher (answer_of b)
  pub both_ways : (ts vs us ws zs hs : List ℕ) (a b : Result (Option Parting) Refusal) → AtMost max_u16 vs → AtMost max_u16 ws → CompareCall ts vs us ws zs hs a
      → CompareCall us ws ts vs zs hs b → refusal (answer_of a) ≡ None
      → (NoHigher (answer_of a) × NoHigher (answer_of b)) ↔ SameValues ts vs us ws zs hs
  -- such tanks are there: one reading, and none
  pub some_accepted : (a : Result (Option Parting) Refusal) → CompareCall (50 ∷ []) (9 ∷ []) [] [] (50 ∷ []) (1 ∷ []) a → refusal (answer_of a) ≡ None
  -- accepted tanks that are exchanged are accepted, with the exchanged answer
  pub mirrored : (ts vs us ws zs hs : List ℕ) (a b : Result (Option Parting) Refusal) → AtMost max_u16 vs → AtMost max_u16 ws → CompareCall ts vs us ws zs hs a
      → CompareCall us ws ts vs zs hs b → refusal (answer_of a) ≡ None → answer_of b ≡ exchanged (answer_of a)
