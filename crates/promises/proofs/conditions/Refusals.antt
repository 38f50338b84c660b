-- From the meaning of a call to its refusals: an answer that a list of checks decides is refused exactly by the list's conditions, a reader's
-- by its lists' lengths and then by the sheet, and the one number of an exported answer says the same.
use Prim.Native.Nat.{ℕ, ◌*◌, ◌%◌}
use mathlib.Core.Path.{◌≡◌, refl, sym, ap, ◌∙◌}
use mathlib.Core.Bool.{Bool, true, false, true≢false, not, ◌&&◌, and-eq-true_iff}
use mathlib.Core.Logic.{inl, inr}
use mathlib.Core.List.{List, [], ◌∷◌}
use Rattle.std.specs.Prelude.{Option, None, Some}
use native.Mathlib.Omega.{arith}
use borrow.Author.Tests.{eq-eqb, ne_eqb, eqb-true, eqb-false, leb-true, ltb-true}
use lib.Dec.{eqb, ltb, leb}
use lib.ListN.{length}
use Rattle.meanings.specs.Lists.{pick}
use Rattle.meanings.specs.Limits.{full, row_width}
use Rattle.meanings.specs.Sheet.{EvaluationPoint}
use Rattle.meanings.specs.Reports.{Fault, Answer, given, refused, unless, accepted_or, Check, at, check, first_of}
use Rattle.meanings.specs.Claim.{refusal}
use Rattle.meanings.specs.Sheet.{Injection, Contents, Outcome, or_next, read_sheet}
use Rattle.meanings.specs.Calls.{counts, filled_front}
use Rattle.meanings.specs.SheetForm.{PointFault, SampleFault, Refused, too_long, no_point_header, no_empty_line}
use Rattle.meanings.specs.SheetForm.{malformed_point, faulty_point, no_point, no_sample_header, malformed_sample, faulty_sample}
use Rattle.meanings.proofs.Claim.{refusal_unless}
use Rattle.laws.proofs.sheet.Outcomes.{never_both, one_report, read_is_printed, refused_is_refused}
use Rattle.meanings.specs.Codes.{detail_unit, answered}
use Rattle.exports.specs.Answers.{sized, stored, record_length}
use Rattle.meanings.proofs.Codes.{Numbered, code_read_back, accepted_read_back}
use Rattle.promises.specs.conditions.Conditions.{Conditions, no_more, AtZero, FirstFault, FirstOrElse, RefusedExactly, length_first, code_refusal}
use Rattle.promises.specs.conditions.Conditions as conditions
use Rattle.promises.specs.conditions.Conditions.{RefusedAndStays, record_row_conditions}
use Rattle.promises.proofs.conditions.FirstFaults.{Finds, FindAll, first_found, none_found, one_first, none_or_first, exactly, refused_exactly, at_finds}

-- an answer t that the checks ks decide
module _ {A : Type 0} {t : Answer A} (a : A) {ks : List Check} {cs : Conditions} (finds : FindAll ks cs) (answer : t ≡ unless (first_of ks) a) where
  pub refusal_is_first : refusal t ≡ first_of ks
  refusal_is_first = ap refusal answer ∙ refusal_unless (first_of ks) a

  pub decided_exactly : RefusedExactly (refusal t) (FirstFault cs)
  decided_exactly = rw refusal_is_first (refused_exactly finds)

  -- a lent list that such a call writes only where it accepts
  pub decided_stays : (ys xs xs' : List ℕ) → xs' ≡ accepted_or (first_of ks) ys xs → (e : Fault) → refusal t ≡ Some e → xs' ≡ xs
  decided_stays ys xs xs' q e r = q ∙ ap (λ (f : Option Fault). accepted_or f ys xs) (sym refusal_is_first ∙ r)

-- what the reader makes of a sheet, after the checks ks
module _ {ks : List Check} {cs : Conditions} (finds : FindAll ks cs) (s : List ℕ) where
  pub sheet_exactly : RefusedExactly (refusal (or_next (first_of ks) (read_sheet full s))) (FirstOrElse cs (Refused full s))
  sheet_exactly =
      exactly _ (FirstOrElse cs (Refused full s)) (found (first_of ks) refl (read_sheet full s) refl)
      (absent (first_of ks) refl (read_sheet full s) refl) one
    where
      found : (f : Option Fault) → first_of ks ≡ f → (o : Outcome) → read_sheet full s ≡ o → (n p : ℕ)
          → refusal (or_next f o) ≡ Some (record { number = n; place = p }) → FirstOrElse cs (Refused full s) n p
      found None q (given c) r n p e = let z : ◌≡◌ {A = ℕ} 0 1 = cc in absurd (omega arith)
      found None q (refused g) r n p e =
          let same : g ≡ record { number = n; place = p } = cc in
          inr (none_found ks cs finds.each q, refused_is_refused full s n p (r ∙ ap refused same))
      found (Some g) q o r n p e = inl (first_found ks cs finds.each n p (q ∙ e))

      absent : (f : Option Fault) → first_of ks ≡ f → (o : Outcome) → read_sheet full s ≡ o → refusal (or_next f o) ≡ None → (n p : ℕ)
          → ¬ FirstOrElse cs (Refused full s) n p
      absent None q (given c) r e n p (inl a) = none_or_first cs n p (none_found ks cs finds.each q) a
      absent None q (given c) r e n p (inr b) = never_both full s c n p (read_is_printed full s c r) b.1
      absent None q (refused g) r e n p a = let z : ◌≡◌ {A = ℕ} 0 1 = cc in omega arith
      absent (Some g) q o r e n p a = let z : ◌≡◌ {A = ℕ} 0 1 = cc in omega arith

      one : (n p m q : ℕ) → FirstOrElse cs (Refused full s) n p → FirstOrElse cs (Refused full s) m q → (n ≡ m) × (p ≡ q)
      one n p m q (inl a) (inl b) = one_first cs n p m q a b
      one n p m q (inl a) (inr b) = absurd (none_or_first cs n p b.0 a)
      one n p m q (inr a) (inl b) = absurd (none_or_first cs m q a.0 b)
      one n p m q (inr a) (inr b) = one_report full s n p m q a.1 b.1

-- a list that must have n numbers, as a check in front of others
abbrev pub length_check : ℕ → List ℕ → Check
length_check n xs = check 8 (at 0 (not (eqb (length xs) n)))

length_finds : (n : ℕ) (xs : List ℕ) → Finds (length_check n xs) 8 (AtZero (¬ (length xs ≡ n)))
length_finds n xs = at_finds 8 (not (eqb (length xs) n)) (¬ (length xs ≡ n)) (holds (eqb (length xs) n) refl) (fails (eqb (length xs) n) refl)
  where
    holds : (b : Bool) → eqb (length xs) n ≡ b → not b ≡ true → ¬ (length xs ≡ n)
    holds true e q = absurd (true≢false (sym q))
    holds false e q = eqb-false (length xs) n e

    fails : (b : Bool) → eqb (length xs) n ≡ b → not b ≡ false → ¬ (¬ (length xs ≡ n))
    fails true e q k = k (eqb-true (length xs) n e)
    fails false e q k = true≢false q

-- such a check in front finds its condition in front
pub length_first_finds : (n : ℕ) (xs : List ℕ) {ks : List Check} {cs : Conditions} → FindAll ks cs → FindAll (length_check n xs ∷ ks) (length_first n xs cs)
length_first_finds n xs f = record { each = (length_finds n xs, f.each) }

pub sized_is_checked : {A : Type 0} (n : ℕ) (xs : List ℕ) (ks : List Check) (a : A)
    → sized n xs (unless (first_of ks) a) ≡ unless (first_of (length_check n xs ∷ ks)) a
unfolding sized
sized_is_checked {A} n xs ks a = by (eqb (length xs) n)
  where
    by : (b : Bool) → pick b (unless (first_of ks) a) (refused (record { number = 8; place = 0 })) ≡ unless (first_of (check 8 (at 0 (not b)) ∷ ks)) a
    by true = refl
    by false = refl

-- the row of a record of nine numbers, behind a list of five
pub record_row_exactly : {A : Type 0} (xs row : List ℕ) (a : A)
    → RefusedExactly (refusal (sized record_length xs (sized row_width row (given a)))) (FirstFault (record_row_conditions xs row))
record_row_exactly xs row a =
    let nothing : FindAll [] no_more = record { each = tt } in
    decided_exactly a (length_first_finds record_length xs (length_first_finds row_width row nothing))
    (ap (sized record_length xs) (sized_is_checked row_width row [] a) ∙ sized_is_checked record_length xs (length_check row_width row ∷ []) a)

pub sized_sheet_is_checked : (n : ℕ) (xs : List ℕ) (ks : List Check) (o : Outcome)
    → sized n xs (or_next (first_of ks) o) ≡ or_next (first_of (length_check n xs ∷ ks)) o
unfolding sized
sized_sheet_is_checked n xs ks o = by (eqb (length xs) n)
  where
    by : (b : Bool) → pick b (or_next (first_of ks) o) (refused (record { number = 8; place = 0 })) ≡ or_next (first_of (check 8 (at 0 (not b)) ∷ ks)) o
    by true = refl
    by false = refl

-- a lent list that an exported call stores its answer in stays where the answer is a refusal
pub stored_stays : {A : Type 0} (numbers : A → List ℕ) (t : Answer A) (xs : List ℕ) (e : Fault) → refusal t ≡ Some e → stored numbers t xs ≡ xs
stored_stays numbers (given a) xs e q = let z : ◌≡◌ {A = ℕ} 0 1 = cc in absurd (omega arith)
stored_stays numbers (refused f) xs e q = refl

-- reports whose numbers an exported answer can tell
abbrev pub numbered : Conditions → Bool
numbered no_more = true
numbered (conditions.condition n At cs) = (leb 1 n && ltb n detail_unit) && numbered cs

pub first_numbered : (cs : Conditions) → numbered cs ≡ true → (n p : ℕ) → FirstFault cs n p → Numbered n
first_numbered no_more a n p f = absurd f
first_numbered (conditions.condition m At cs) a n p (inl f) =
    let b = (and-eq-true_iff (leb 1 m) (ltb m detail_unit)).0 ((and-eq-true_iff (leb 1 m && ltb m detail_unit) (numbered cs)).0 a).0 in
    rw f.0 (leb-true 1 m b.0, ltb-true m detail_unit b.1)
first_numbered (conditions.condition m At cs) a n p (inr f) =
    first_numbered cs ((and-eq-true_iff (leb 1 m && ltb m detail_unit) (numbered cs)).0 a).1 n p f.1

point_fault_numbered : {ms : List EvaluationPoint} {m : EvaluationPoint} (n : ℕ) → PointFault full ms m n → Numbered n
point_fault_numbered n (PointFault.out_of_order before m₀ e l) = (omega arith, omega arith)
point_fault_numbered n (PointFault.bandwidth o b) = (omega arith, omega arith)
point_fault_numbered n (PointFault.edge o b e) = (omega arith, omega arith)
point_fault_numbered n (PointFault.too_many o b l) = (omega arith, omega arith)

sample_fault_numbered : {js : List Injection} {j : Injection} (n : ℕ) → SampleFault full js j n → Numbered n
sample_fault_numbered n (SampleFault.out_of_order before j₀ e l) = (omega arith, omega arith)
sample_fault_numbered n (SampleFault.too_many o b l) = (omega arith, omega arith)

pub sheet_numbered : (s : List ℕ) (n p : ℕ) → Refused full s n p → Numbered n
sheet_numbered s n p (too_long l) = (omega arith, omega arith)
sheet_numbered s n p (no_point_header l w) = (omega arith, omega arith)
sheet_numbered s n p (no_empty_line l e ms f q) = (omega arith, omega arith)
sheet_numbered s n p (malformed_point l e ms f b rest q c w) = (omega arith, omega arith)
sheet_numbered s n p (faulty_point l e ms f m k b x) = point_fault_numbered n x
sheet_numbered s n p (no_point l e d b) = (omega arith, omega arith)
sheet_numbered s n p (no_sample_header l e ms f o d rest q w) = (omega arith, omega arith)
sheet_numbered s n p (malformed_sample l e ms fit o d f js g b rest q w) = (omega arith, omega arith)
sheet_numbered s n p (faulty_sample l e ms fit o d f js g j k b x) = sample_fault_numbered n x

-- the one number of an answer tells what it was refused with
pub code_reads : {A : Type 0} (detail : A → ℕ) (t : Answer A) → ((e : Fault) → refusal t ≡ Some e → Numbered e.number)
    → code_refusal (answered detail t) ≡ refusal t
code_reads detail (given a) f = rw (eq-eqb (detail_unit * detail a % detail_unit) 0 (accepted_read_back (detail a)).0)
code_reads detail (refused e) f =
    let n = f e refl in
    let b = code_read_back e n.1 in
    rw (b.0, b.1, ne_eqb e.number 0 (λ z. omega (arith, n.0)))

-- so an exported call is refused exactly as its answer is
pub exported_refusal : {A : Type 0} (detail : A → ℕ) (t : Answer A) (c : ℕ) (R : ℕ → ℕ → Type 0) → c ≡ answered detail t
    → ((n p : ℕ) → R n p → Numbered n) → RefusedExactly (refusal t) R → code_refusal c ≡ refusal t
exported_refusal detail t c R q small r =
    ap code_refusal q ∙ code_reads detail t (λ e k. small e.number e.place ((r.refused e.number e.place).0 k))

-- and what it is lent stays where its answer is a refusal
pub exported_stays : {A : Type 0} (t : Answer A) (c : ℕ) (R : ℕ → ℕ → Type 0) → code_refusal c ≡ refusal t → RefusedExactly (refusal t) R
    → (Stays : Type 0) → ((e : Fault) → refusal t ≡ Some e → Stays) → RefusedAndStays (code_refusal c) R Stays
exported_stays t c R same r Stays stays = record { exactly = rw same r; stays = λ e k. stays e (sym same ∙ k) }

-- an answer that is no refusal is given, and behind a list of fixed length it is the answer itself
pub accepted_given : {A : Type 0} (t : Answer A) → refusal t ≡ None → (a : A) × (t ≡ given a)
accepted_given (given a) q = (a, refl)
accepted_given (refused e) q = let z : ◌≡◌ {A = ℕ} 0 1 = cc in absurd (omega arith)

pub sized_opens : {A : Type 0} (n : ℕ) (xs : List ℕ) (t : Answer A) → refusal (sized n xs t) ≡ None → sized n xs t ≡ t
unfolding sized
sized_opens {A} n xs t = by (eqb (length xs) n)
  where
    by : (b : Bool) → refusal (pick b t (refused (record { number = 8; place = 0 }))) ≡ None
        → pick b t (refused (record { number = 8; place = 0 })) ≡ t
    by true q = refl
    by false q = let z : ◌≡◌ {A = ℕ} 0 1 = cc in absurd (omega arith)

-- the sheet's reports after others
pub first_or_else_numbered : (cs : Conditions) → numbered cs ≡ true → (s : List ℕ) (n p : ℕ) → FirstOrElse cs (Refused full s) n p → Numbered n
first_or_else_numbered cs a s n p (inl f) = first_numbered cs a n p f
first_or_else_numbered cs a s n p (inr f) = sheet_numbered s n p f.1

-- a reader's counts and its lists at exit go by the outcome
pub counts_refused : (o : Outcome) → refusal (counts o) ≡ refusal o
counts_refused (given c) = refl
counts_refused (refused e) = refl

pub front_stays : (o : Outcome) (part : Contents → List ℕ) (xs : List ℕ) (e : Fault) → refusal o ≡ Some e → filled_front o part xs ≡ xs
front_stays (given c) part xs e q = let z : ◌≡◌ {A = ℕ} 0 1 = cc in absurd (omega arith)
front_stays (refused f) part xs e q = refl
