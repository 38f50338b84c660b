-- A list of checks finds the first condition that holds, at its lowest place, if each check finds its own condition at its lowest place. A
-- check with one place finds it by its test, a search for the lowest position by its test at each position.
use Prim.Native.Nat.{ℕ, ◌<◌}
use mathlib.Core.Path.{◌≡◌, refl, sym, ap, ◌∙◌}
use mathlib.Core.Bool.{Bool, true, false, true≢false}
use mathlib.Core.Logic.{inl, inr}
use mathlib.Core.List.{List, [], ◌∷◌}
use Rattle.std.specs.Prelude.{Option, None, Some}
use native.Mathlib.Omega.{arith}
use Rattle.meanings.specs.Lists.{lowest}
use Rattle.meanings.specs.Reports.{Fault, Check, at, fault_or, first_of}
use Rattle.meanings.specs.Reports as reports
use Rattle.meanings.proofs.Search.{lowest_some, lowest_none}
use Rattle.promises.specs.conditions.Conditions.{Conditions, no_more, condition, NoFault, FirstFault, RefusedExactly, AtZero}

-- the check finds report n where its condition holds, lowest place first, and nothing where it holds nowhere
pub record Finds (k : Check) (n : ℕ) (At : ℕ → Type 0) : Type 0 where
  pub number : k.number ≡ n
  pub found : (p : ℕ) → k.place ≡ Some p → At p × ((q : ℕ) → q < p → ¬ At q)
  pub absent : k.place ≡ None → (q : ℕ) → ¬ At q

abbrev pub FindEach : List Check → Conditions → Type 0
FindEach [] no_more = Unit {0}
FindEach [] (condition n At cs) = ⊥
FindEach (k ∷ ks) no_more = ⊥
FindEach (k ∷ ks) (condition n At cs) = Finds k n At × FindEach ks cs

-- the checks find the conditions, one by one
pub record FindAll (ks : List Check) (cs : Conditions) : Type 0 where
  pub each : FindEach ks cs

-- number and place as a refusal
abbrev fault : ℕ → ℕ → Fault
fault n p = record { number = n; place = p }

some_same : (n p m q : ℕ) → Some (fault n p) ≡ Some (fault m q) → (n ≡ m) × (p ≡ q)
some_same n p m q e = let f : fault n p ≡ fault m q = cc in (ap (λ (f : Fault). f.number) f, ap (λ (f : Fault). f.place) f)

pub first_found : (ks : List Check) (cs : Conditions) → FindEach ks cs → (n p : ℕ) → first_of ks ≡ Some (fault n p) → FirstFault cs n p
first_found [] no_more f n p e = let z : ◌≡◌ {A = ℕ} 0 1 = cc in absurd (omega arith)
first_found [] (condition m At cs) f n p e = elim f [ ]
first_found (k ∷ ks) no_more f n p e = elim f [ ]
first_found (k ∷ ks) (condition m At cs) f n p e = by k.place refl e (first_found ks cs f.1 n p)
  where
    by : (o : Option ℕ) → k.place ≡ o → fault_or k.number o (first_of ks) ≡ Some (fault n p)
        → (first_of ks ≡ Some (fault n p) → FirstFault cs n p) → FirstFault (condition m At cs) n p
    by None q e rest = inr (f.0.absent q, rest e)
    by (Some i) q e rest =
        let s = some_same k.number i n p e in
        let g = rw s.1 at (f.0.found i q) in
        inl (sym s.0 ∙ f.0.number, g.0, g.1)

pub none_found : (ks : List Check) (cs : Conditions) → FindEach ks cs → first_of ks ≡ None → NoFault cs
none_found [] no_more f e = tt
none_found [] (condition m At cs) f e = elim f [ ]
none_found (k ∷ ks) no_more f e = elim f [ ]
none_found (k ∷ ks) (condition m At cs) f e = by k.place refl e (none_found ks cs f.1)
  where
    by : (o : Option ℕ) → k.place ≡ o → fault_or k.number o (first_of ks) ≡ None → (first_of ks ≡ None → NoFault cs) → NoFault (condition m At cs)
    by None q e rest = (f.0.absent q, rest e)
    by (Some i) q e rest = let z : ◌≡◌ {A = ℕ} 0 1 = cc in absurd (omega arith)

-- there is one first fault
pub one_first : (cs : Conditions) (n p m q : ℕ) → FirstFault cs n p → FirstFault cs m q → (n ≡ m) × (p ≡ q)
one_first no_more n p m q a b = absurd a
one_first (condition k At cs) n p m q (inl a) (inl b) = (a.0 ∙ sym b.0, same a.2 b.2)
  where
    same : ((i : ℕ) → i < p → ¬ At i) → ((i : ℕ) → i < q → ¬ At i) → p ≡ q
    same f g = let x : ¬ (p < q) = λ l. g p l a.1 in let y : ¬ (q < p) = λ l. f q l b.1 in omega arith
one_first (condition k At cs) n p m q (inl a) (inr b) = absurd (b.0 p a.1)
one_first (condition k At cs) n p m q (inr a) (inl b) = absurd (a.0 q b.1)
one_first (condition k At cs) n p m q (inr a) (inr b) = one_first cs n p m q a.1 b.1

pub none_or_first : (cs : Conditions) (n p : ℕ) → NoFault cs → ¬ FirstFault cs n p
none_or_first no_more n p a b = b
none_or_first (condition k At cs) n p a (inl b) = a.0 p b.1
none_or_first (condition k At cs) n p a (inr b) = none_or_first cs n p a.1 b.1

-- what finds every refusal that R knows, and none where it knows none, is R, where R knows one at most
pub exactly : (f : Option Fault) (R : ℕ → ℕ → Type 0) → ((n p : ℕ) → f ≡ Some (fault n p) → R n p) → (f ≡ None → (n p : ℕ) → ¬ R n p)
    → ((n p m q : ℕ) → R n p → R m q → (n ≡ m) × (p ≡ q)) → RefusedExactly f R
exactly f R found absent one = record {
  refused = λ n p. (found n p, λ r. by f refl n p r);
  accepted = (absent, λ none-known. all f refl none-known);
}
  where
    by : (o : Option Fault) → f ≡ o → (n p : ℕ) → R n p → f ≡ Some (fault n p)
    by None e n p r = absurd (absent e n p r)
    by (Some g) e n p r =
        let s = one g.number g.place n p (found g.number g.place e) r in
        e ∙ (λ i. Some (record { number = s.0 i; place = s.1 i }))

    all : (o : Option Fault) → f ≡ o → ((n p : ℕ) → ¬ R n p) → f ≡ None
    all None e k = e
    all (Some g) e k = absurd (k g.number g.place (found g.number g.place e))

pub refused_exactly : {ks : List Check} {cs : Conditions} → FindAll ks cs → RefusedExactly (first_of ks) (FirstFault cs)
refused_exactly {ks} {cs} f =
    exactly (first_of ks) (FirstFault cs) (first_found ks cs f.each) (λ e n p. none_or_first cs n p (none_found ks cs f.each e)) (one_first cs)

-- a check of the whole call, by its test
pub at_finds : (n : ℕ) (b : Bool) (C : Type 0) → (b ≡ true → C) → (b ≡ false → ¬ C) → Finds (reports.check n (at 0 b)) n (AtZero C)
at_finds n true C holds fails = record {
  number = refl;
  found = λ p e. ((holds refl, let z : 0 ≡ p = cc in sym z), λ q l a. let z : 0 ≡ p = cc in omega arith);
  absent = λ e. let z : ◌≡◌ {A = ℕ} 0 1 = cc in absurd (omega arith);
}
at_finds n false C holds fails = record {
  number = refl;
  found = λ p e. let z : ◌≡◌ {A = ℕ} 0 1 = cc in absurd (omega arith);
  absent = λ e q a. fails refl a.0;
}

-- a search for the lowest position, by its test at each
pub lowest_finds : (n : ℕ) (t : ℕ → Bool) (size : ℕ) (At : ℕ → Type 0) → ((i : ℕ) → i < size → t i ≡ true → At i)
    → ((i : ℕ) → At i → (i < size) × (t i ≡ true)) → Finds (reports.check n (lowest t size)) n At
lowest_finds n t size At holds back = record {
  number = refl;
  found = λ p e.
      let l = lowest_some t size p e in
      (holds p l.0 (l.1.there (omega arith)), λ q m a. true≢false (sym (back q a).1 ∙ l.1.before q (omega arith) m));
  absent = λ e q a. let l = back q a in true≢false (sym l.1 ∙ lowest_none t size e q l.0);
}
