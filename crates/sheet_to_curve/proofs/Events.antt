-- What is known of several calls in a row.
use Rattle.std.proofs.Common.{◌≡◌, ℕ, ◌<◌, List, [], ◌∷◌, ◌++◌, length, refl, sym, ap, ◌∙◌, subst, append_assoc, append-nil}
use Rattle.std.proofs.lemmas.List.Elements.{All-nil, All-cons, All-append}
use Rattle.std.specs.Prelude.{Option, None, Some, Ok, Err}
use Rattle.sheet_to_curve.specs.Ends.{Event, Logs, GoesOn, bytes_of, Moved, MovedThen}

Logs-trans : (a b c : Option (List Event)) (xs ys : List Event) → Logs a b xs → Logs b c ys → Logs a c (xs ++ ys)
Logs-trans None b c xs ys p q = tt
Logs-trans (Some l) None c xs ys p q = absurd p
Logs-trans (Some l) (Some m) None xs ys p q = absurd q
Logs-trans (Some l) (Some m) (Some n) xs ys p q = q ∙ ap (λ k. k ++ ys) p ∙ append_assoc l xs ys

Logs-none : (a : Option (List Event)) → Logs a a []
Logs-none None = tt
Logs-none (Some l) = sym (append-nil l)

bytes_of-append : (xs ys : List Event) → bytes_of (xs ++ ys) ≡ bytes_of xs ++ bytes_of ys
bytes_of-append [] ys = refl
bytes_of-append (Ok bs ∷ xs) ys = ap (λ l. bs ++ l) (bytes_of-append xs ys) ∙ sym (append_assoc bs (bytes_of xs) (bytes_of ys))
bytes_of-append (Err e ∷ xs) ys = bytes_of-append xs ys

-- before the first call
pub moved_none : (a : Option (List Event)) → Moved a a []
moved_none a = record { events = []; each_goes_on = All-nil GoesOn; bytes_are = refl; logged = Logs-none a }

pub moved_trans : {a b c : Option (List Event)} {xs ys : List ℕ} → Moved a b xs → Moved b c ys → Moved a c (xs ++ ys)
moved_trans {a} {b} {c} {xs} {ys} m n = record {
  events = m.events ++ n.events;
  each_goes_on = All-append GoesOn m.events n.events m.each_goes_on n.each_goes_on;
  bytes_are = bytes_of-append m.events n.events ∙ ap (λ l. l ++ bytes_of n.events) m.bytes_are ∙ ap (λ l. xs ++ l) n.bytes_are;
  logged = Logs-trans a b c m.events n.events m.logged n.logged;
}

-- after an interruption nothing more has been moved
pub moved_interrupted : {a b c : Option (List Event)} {xs : List ℕ} (e : Event) → Moved a b xs → Logs b c (e ∷ []) → GoesOn e → bytes_of (e ∷ []) ≡ []
    → Moved a c xs
moved_interrupted {a} {b} {c} {xs} e m l g none = subst (Moved a c) (append-nil xs) (moved_trans m (record {
  events = e ∷ [];
  each_goes_on = All-cons GoesOn e [] g (All-nil GoesOn);
  bytes_are = none;
  logged = l;
}))

-- one call more, which moved these bytes
pub moved_more : {a b c : Option (List Event)} {xs : List ℕ} (ys : List ℕ) → Moved a b xs → MovedThen b c [] (Ok ys) → 0 < length ys → Moved a c (xs ++ ys)
moved_more {a} {b} {c} {xs} ys m t moves = moved_trans m (moved_trans t.moved (record {
  events = Ok ys ∷ [];
  each_goes_on = All-cons GoesOn (Ok ys) [] moves (All-nil GoesOn);
  bytes_are = append-nil ys;
  logged = t.logged;
}))

-- and one that ended it
pub moved_then : {a b c : Option (List Event)} {xs : List ℕ} {last : Event} → Moved a b xs → MovedThen b c [] last → MovedThen a c xs last
moved_then {a} {b} {c} {xs} {last} m t = record {
  between = t.between;
  moved = subst (Moved a t.between) (append-nil xs) (moved_trans m t.moved);
  logged = t.logged;
}
