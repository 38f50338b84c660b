-- What is read or written in pieces, one after the other, with the log of the calls.
use Rattle.std.proofs.Common.{◌≡◌, ℕ, ◌+◌, ◌-◌, ◌<◌, ◌≤◌, List, [], ◌++◌, length, take, drop, refl, sym, ap, ◌∙◌, subst, arith, length-take-le, length-append}
use mathlib.Core.Logic.{inl, inr}
use Rattle.std.specs.Prelude.{Option, Result, Ok, Err, IsErrAnd, IfErr}
use lib.Seq.{take-add, take-append-add, take-append-le}
use borrow.Rule.Slice.PartMut.{put_mid, post_of, take_put}
use Rattle.std.proofs.lemmas.List.{take_rest}
use Rattle.std.proofs.KnownBytes.{Consumes-trans, Consumes-kept, Appends-trans, Appends-kept}
use Rattle.std.specs.IoError.{error_kind}
use Rattle.std.specs.declared.io.Error.{Error}
use Rattle.std.specs.declared.io.ErrorKind.TheVariants.{WriteZero}
use Rattle.std.specs.Io.KnownBytes.{Keeps, Consumes, Appends}
use Rattle.meanings.specs.Limits.{max_sheet}
use Rattle.sheet_to_curve.specs.Ends.{Event, Moved, MovedThen, ReadWhole, WrittenUntil}
use Rattle.sheet_to_curve.specs.Run.{ReadUntil, WrittenFront}
use Rattle.sheet_to_curve.proofs.Events.{moved_more, moved_then}

-- what holds of an error holds of the same error handed on
pub handed_on : {T : Type 0} (r : Result T Error) (e : Error) (Q : Error → Type 0) → IsErrAnd r (λ x. x ≡ e) → Q e → IfErr r Q
handed_on (Ok x) e Q is holds = tt
handed_on (Err y) e Q is holds = subst Q (sym is) holds

-- n bytes more lie in the part of a buffer behind those that have been read
read_joined : (done n k : ℕ) (buf part : List ℕ) → done ≤ length buf → n ≤ length part
    → take (done + n) (put_mid done k buf part) ≡ take done buf ++ take n part
read_joined done n k buf part within fits =
    let front = take done buf in
    let rest = post_of done k buf in
    let size : done + n ≡ length front + n = omega (arith, length-take-le done buf within) in
    ap (λ m. take m (front ++ (part ++ rest))) size ∙ take-append-add front (part ++ rest) n ∙ ap (λ l. front ++ l) (take-append-le n part rest fits)

-- n bytes more of the part of a text behind those that have been written
write_joined : (done n : ℕ) (text : List ℕ) → take (done + n) text ≡ take done text ++ take n (take (length text - done) (drop done text))
write_joined done n text = take-add done n text ∙ ap (λ l. take done text ++ take n l) (sym (take_rest text done))

module _ (a b c : Option (List ℕ)) (done n : ℕ) where
  -- they are read
  pub read_more : (k : ℕ) (buf part : List ℕ) → done ≤ length buf → n ≤ length part → Consumes a b (take done buf) → Consumes b c (take n part)
      → Consumes a c (take (done + n) (put_mid done k buf part))
  read_more k buf part within fits first second =
      subst (Consumes a c) (sym (read_joined done n k buf part within fits)) (Consumes-trans a b c (take done buf) (take n part) first second)

  -- they are written
  pub write_more : (text : List ℕ) → Appends a b (take done text) → Appends b c (take n (take (length text - done) (drop done text)))
      → Appends a c (take (done + n) text)
  write_more text first second =
      subst (Appends a c) (sym (write_joined done n text)) (Appends-trans a b c (take done text) _ first second)

module _ (l m o : Option (List Event)) (done n : ℕ) where
  pub read_more_logged : (k : ℕ) (buf part : List ℕ) → done ≤ length buf → n ≤ length part → 0 < n → Moved l m (take done buf)
      → MovedThen m o [] (Ok (take n part)) → Moved l o (take (done + n) (put_mid done k buf part))
  read_more_logged k buf part within fits moves first second =
      subst (Moved l o) (sym (read_joined done n k buf part within fits))
      (moved_more (take n part) first second (rw (length-take-le n part fits) moves))

  -- a read of no byte met the end
  pub read_whole : (k room : ℕ) (buf part : List ℕ) → done ≤ length buf → n ≡ 0 → Moved l m (take done buf) → MovedThen m o [] (Ok (take n part))
      → ReadWhole l o (take done (put_mid done k buf part)) room
  read_whole k room buf part within none first second =
      inr (subst (λ bs. MovedThen l o bs (Ok [])) (sym (take_put done k buf part within))
      (moved_then first (subst (λ i. MovedThen m o [] (Ok (take i part))) none second)))

  pub write_more_logged : (text : List ℕ) → n ≤ length (take (length text - done) (drop done text)) → 0 < n → Moved l m (take done text)
      → MovedThen m o [] (Ok (take n (take (length text - done) (drop done text)))) → Moved l o (take (done + n) text)
  write_more_logged text fits moves first second =
      let part = take (length text - done) (drop done text) in
      subst (Moved l o) (sym (write_joined done n text)) (moved_more (take n part) first second (rw (length-take-le n part fits) moves))

module _ (a b c : Option (List ℕ)) (l m o : Option (List Event)) (done : ℕ) where
  -- a read that failed ended it
  pub read_until : (k : ℕ) (buf part : List ℕ) (e : Error) → length (put_mid done k buf part) ≤ max_sheet + 1 → Consumes a b (take done buf) → Keeps b c
      → Moved l m (take done buf) → MovedThen m o [] (Err e) → ReadUntil a c l o e
  read_until k buf part e small first kept moved last = record {
    front = take done buf;
    within = omega (arith, length-append (take done buf) (part ++ post_of done k buf));
    bytes = Consumes-kept a b c (take done buf) first kept;
    reads = moved_then moved last;
  }

  -- a write that failed ended it, and what was written is a front of the text
  pub written_front : (text : List ℕ) (e : Error) → done < length text → Appends a b (take done text) → Keeps b c → Moved l m (take done text)
      → MovedThen m o [] (Err e) → WrittenFront a c l o text e
  written_front text e part first kept moved last = record {
    size = done;
    part = part;
    bytes = Appends-kept a b c (take done text) first kept;
    writes = inl (moved_then moved last);
  }

  -- one that moved nothing ended it too
  pub written_zero : (n : ℕ) (text : List ℕ) (e : Error) → done < length text → Appends a b (take done text)
      → Appends b c (take n (take (length text - done) (drop done text))) → n ≡ 0 → Moved l m (take done text)
      → MovedThen m o [] (Ok (take n (take (length text - done) (drop done text)))) → error_kind e ≡ WriteZero → WrittenFront a c l o text e
  written_zero n text e part first second none moved last kind = record {
    size = done;
    part = part;
    bytes = subst (λ i. Appends a c (take i text)) (omega (arith, none)) (write_more a b c done n text first second);
    writes = inr (moved_then moved (subst (λ i. MovedThen m o [] (Ok (take i (take (length text - done) (drop done text))))) none last), kind);
  }
