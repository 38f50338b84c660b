-- The header line passes on whatever is read behind it, so with lists of full length the call says what the sheet is from that line on.
use Prim.Native.Nat.{ℕ}
use mathlib.Core.Path.{◌≡◌, refl, sym, ◌∙◌}
use mathlib.Core.Bool.{Bool, true, false}
use mathlib.Core.List.{List}
use lib.ListN.{drop}
use Rattle.meanings.specs.declared.Refusal.{Refusal}
use Rattle.std.specs.Prelude.{Result}
use Rattle.meanings.specs.Lists.{pick}
use Rattle.meanings.specs.Limits.{full}
use Rattle.meanings.specs.Bytes.{sample_header}
use Rattle.meanings.specs.Reports.{Answer, given}
use Rattle.meanings.specs.Sheet.{Lines, end, unended, line, lines, next_place, same, refused_at}
use Rattle.meanings.proofs.Checks.{differ_same}
use Rattle.meanings.specs.declared.ranges.Kind.{Kind}
use Rattle.meanings.specs.declared.ranges.Kind.TheVariants.{Plain, Ranges}
use Rattle.meanings.specs.ranges.RangeSheet.{range_header, second_header, no_readings, RangeContents, read_readings, range_contents, read_either_from}
use Rattle.meanings.proofs.ReadingLines.{read_readings_over}
use Rattle.sheet.specs.ReadingsStages.{kept_readings}
use Rattle.sheet.specs.declared.names.Named.{Named}
use Rattle.sheet.specs.NamesStages.{named_read, with_front, named_call, NamedOutcome}

-- from the header line on, whatever stands behind it
names_over : (p : ℕ) (ls : Lines) (next next' : Kind → ℕ → Lines → Answer RangeContents) → ((k : Kind) (q : ℕ) (r : Lines) → next k q r ≡ next' k q r)
    → second_header p ls next ≡ second_header p ls next'
names_over p end next next' h = refl
names_over p (unended t) next next' h = refl
names_over p (line t e ls) next next' h = by (same t sample_header) (same t range_header)
  where
    by : (b d : Bool)
        → pick b (next Plain (next_place p t e) ls) (pick d (next Ranges (next_place p t e) ls) (refused_at p 2))
        ≡ pick b (next' Plain (next_place p t e) ls) (pick d (next' Ranges (next_place p t e) ls) (refused_at p 2))
    by true d = h Plain (next_place p t e) ls
    by false true = h Ranges (next_place p t e) ls
    by false false = refl

-- the call with lists of full length says what the sheet is from there on
module _ {s : List ℕ} {p a b c : ℕ} {r : Result Named Refusal} {ts ls us : List ℕ} (call : NamedOutcome s p a b c r ts ls us) where
  pub named_of_call : a ≡ 1024 → b ≡ 1024 → c ≡ 1024 → (zs hs : List ℕ)
      → read_either_from full (record { place = p; rest = lines (drop p s); points = zs; bandwidths = hs }) ≡ named_read r ts ls us zs hs
  unfolding named_call
  named_of_call x y z zs hs =
      names_over p (lines (drop p s))
      (λ k q rest.
      read_readings full k q no_readings rest
      (λ r. given (range_contents k (record { place = p; rest = lines (drop p s); points = zs; bandwidths = hs }) r)))
      (λ k q rest. with_front k zs hs (read_readings full k q no_readings rest kept_readings))
      (λ k q rest.
      sym
      (read_readings_over (with_front k zs hs) (λ e. refl) full k q no_readings rest kept_readings
      (λ r. given (range_contents k (record { place = p; rest = lines (drop p s); points = zs; bandwidths = hs }) r)) (λ r. refl)))
      ∙ (rw (differ_same a 1024 x, differ_same b 1024 y, differ_same c 1024 z) at (call.outcome zs hs))
