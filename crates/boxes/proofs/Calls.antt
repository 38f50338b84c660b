-- What the check finds is what the call is refused for, and then nothing has been stored. Where it finds nothing the cuts are ranked, the cells are
-- those of the meaning, and so are the boxes.
use Prim.Native.Nat.{ℕ, ◌+◌, ◌≤◌, ◌<◌}
use Rattle.std.specs.Prelude.{Result, Ok}
use mathlib.Core.Path.{◌≡◌, sym, ap, ◌∙◌}
use mathlib.Core.List.{List, map}
use native.Mathlib.Omega.{arith}
use lib.ListN.{length, get_or, take}
use Rattle.std.proofs.lemmas.List.{map-id, length-map, length-take-le, get_or-map, get_or-take}
use Rattle.meanings.specs.declared.Refusal.{Refusal}
use Rattle.meanings.specs.Reports.{verdict_fault, first_of}
use Rattle.meanings.specs.declared.boxes.Question.{Question}
use Rattle.meanings.specs.declared.boxes.Window.{Window}
use Rattle.meanings.specs.boxes.Boxes.{Axis, box_checks}
use Rattle.meanings.specs.boxes.Lent.{along_minutes, along_temperatures, firsts, ends}
use Rattle.laws.proofs.boxes.Refusals.{boxes_accept}
use Rattle.boxes.specs.declared.cells.Cuts.{Cuts}
use Rattle.boxes.specs.Windows.{WindowsTried}
use Rattle.boxes.proofs.WindowsStoring.{window_begins_with, window_ends_before}
use Rattle.boxes.specs.Filling.{StripsOf, BoxesByStrips, CutsOf, BoxesByCuts, ListsAccepted}

-- a number of the first n windows
module _ (f : Window → ℕ) (n : ℕ) (ws : List Window) (k : ℕ) where
  at_front : k < n → n ≤ length ws → get_or (map f (take n ws)) k 0 ≡ get_or (map f ws) k 0
  at_front l m =
      let w : Window = record { first = 0; end = 0 } in
      let e = length-take-le n ws m in
      get_or-map f (take n ws) k w 0 (omega arith) ∙ ap f (get_or-take n ws k w l) ∙ sym (get_or-map f ws k w 0 (omega arith))

-- The strips of a direction's windows, by its cuts.
module _ (A : Axis) (ds : List ℕ) (c : CutsOf A.points A.bandwidths (A.widest + 1) ds) {ws₀ ws : List Window} (a : length ws₀ ≡ 32)
    (t : WindowsTried A.points A.bandwidths (A.widest + 1) ds ws₀ ws) where
  all_there : length A.points ≤ length ws
  all_there =
      let w = t.put (record { even = omega (arith, c.even); windows = omega (arith, c.few) }) in
      omega (arith, c.few, w.lent)

  cut_there : length (take (length A.points) ws) ≡ length A.points
  cut_there = length-take-le (length A.points) ws all_there

  strips_of : StripsOf (firsts (take (length A.points) ws)) (ends (take (length A.points) ws)) (length (take (length A.points) ws)) A
  strips_of =
      let w = t.put (record { even = omega (arith, c.even); windows = omega (arith, c.few) }) in
      record {
        all = cut_there;
        firsts = omega (arith, length-map (take (length A.points) ws) (λ (v : Window). v.first));
        ends = omega (arith, length-map (take (length A.points) ws) (λ (v : Window). v.end));
        first = λ k l.
            let m : k < length A.points = omega (arith, cut_there) in
            at_front (λ (v : Window). v.first) (length A.points) ws k m all_there ∙ window_begins_with A ds c.ranked w k m;
        end = λ k l.
            let m : k < length A.points = omega (arith, cut_there) in
            at_front (λ (v : Window). v.end) (length A.points) ws k m all_there ∙ window_ends_before A ds c.ranked w k m;
      }

module _ (q : Question) (d : Cuts) {ws₀ ws vs₀ vs : List Window} (a : length ws₀ ≡ 32) (b : length vs₀ ≡ 32)
    (W : WindowsTried (map (λ (n : ℕ). n) q.minute_marks.points.now) q.minute_marks.bandwidths.now 65537 d.minutes.now ws₀ ws)
    (V : WindowsTried (map (λ (n : ℕ). n) q.temperature_marks.points.now) q.temperature_marks.bandwidths.now 257 d.temperatures.now vs₀ vs) where
  abbrev near : List Window
  near = take (length q.minute_marks.points.now) ws

  abbrev other_near : List Window
  other_near = take (length q.temperature_marks.points.now) vs

  pub boxes_by_cuts : {cs ss bs bs' : List ℕ}
      → BoxesByStrips (firsts near) (ends near) (length near) (firsts other_near) (ends other_near) (length other_near) cs ss bs bs'
      → BoxesByCuts q d cs ss bs bs'
  boxes_by_cuts t = record {
    boxes = λ P Q room C.
        let X = rw map-id at W in
        let Y = rw map-id at V in
        t.boxes (rw (cut_there (along_minutes q) d.minutes.now P a X, cut_there (along_temperatures q) d.temperatures.now Q b Y) room)
        (along_minutes q) (along_temperatures q) q.readings.values.now (length q.readings.minutes.now) C
        (strips_of (along_minutes q) d.minutes.now P a X)
        (strips_of (along_temperatures q) d.temperatures.now Q b Y);
  }

-- The call.
pub accepted : (q : Question) (bs cs ss : List ℕ) {v : Result Unit Refusal}
    → verdict_fault v ≡ first_of (box_checks (along_minutes q) (along_temperatures q) q.readings.values.now (length bs) (length cs) (length ss))
    → {unit : Unit {0}} → v ≡ Ok unit → ListsAccepted q bs cs ss
accepted q bs cs ss g e = record {
  accepted = boxes_accept (along_minutes q) (along_temperatures q) q.readings.values.now (length bs) (length cs) (length ss) (sym g ∙ ap verdict_fault e);
}
