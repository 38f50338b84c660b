-- Cases that tell the meaning from its nearest misreadings, in numbers: each is computed. Readings as minute:value.
use Prim.Native.Nat.{ℕ}
use Rattle.meanings.specs.declared.pair.Parting.{Parting}
use mathlib.Core.Path.{◌≡◌, refl}
use mathlib.Core.List.{List, [], ◌∷◌, map}
use Rattle.std.specs.Prelude.{Option, None, Some}
use Rattle.meanings.specs.Limits.{full}
use Rattle.meanings.specs.Lists.{distance}
use Rattle.meanings.specs.Estimate.{left_of, right_of, kernel, weight_of, sum_of, rounded, value_of, estimate}
use Rattle.meanings.specs.Reports.{Answer, given, refused}
use Rattle.meanings.specs.declared.pair.Tank.{Tank}
use Rattle.meanings.specs.declared.pair.Tank.TheVariants.{First, Second}
use Rattle.meanings.specs.pair.Comparison.{above, higher_of, unlike, unlike_at, compare, compare_run, compare_bounds, run_tank, run_start}

abbrev apart : ℕ → Tank → Answer (Option Parting)
apart k t = given (Some (record { position = k; higher = t }))

abbrev alike : Answer (Option Parting)
alike = given None

abbrev is_report : ℕ → ℕ → Answer (Option Parting)
is_report n p = refused (record { number = n; place = p })

-- a comparison with the tank, the first position and the values of its run
abbrev Gives : List ℕ → List ℕ → List ℕ → List ℕ → List ℕ → List ℕ → Answer (Option Parting) → Tank → ℕ → List ℕ → Type 0
Gives ts vs us ws zs hs a t k run =
    (compare full ts vs us ws zs hs ≡ a)
    × (run_tank full ts vs us ws zs hs ≡ t)
    × (run_start full ts vs us ws zs hs ≡ k)
    × (compare_run full ts vs us ws zs hs ≡ run)

-- 50:9 against no readings: a missing value is above every other, and the run is the empty one of its own list; and exchanged
pub missing_is_higher : Gives (50 ∷ []) (9 ∷ []) [] [] (50 ∷ []) (1 ∷ []) (apart 0 Second) Second 0 []
    × Gives [] [] (50 ∷ []) (9 ∷ []) (50 ∷ []) (1 ∷ []) (apart 0 First) First 0 []
unfolding distance left_of right_of kernel weight_of sum_of rounded value_of estimate above higher_of unlike unlike_at compare run_tank run_start compare_run
missing_is_higher = ((refl, refl, refl, refl), (refl, refl, refl, refl))

-- 50:0 too is below a missing value; the empty run stands at the left of its own list, not at a start; two missing values are equal
pub missing_runs : Gives (50 ∷ []) (0 ∷ []) (3 ∷ 4 ∷ []) (7 ∷ 9 ∷ []) (50 ∷ []) (1 ∷ []) (apart 0 Second) Second 2 []
    × Gives (50 ∷ []) (0 ∷ []) (3 ∷ 49 ∷ []) (7 ∷ 9 ∷ []) (50 ∷ []) (1 ∷ []) (apart 0 Second) Second 1 (9 ∷ [])
    × Gives (3 ∷ []) (7 ∷ []) [] [] (50 ∷ []) (1 ∷ []) alike First 0 []
unfolding distance left_of right_of kernel weight_of sum_of rounded value_of estimate above higher_of unlike unlike_at compare run_tank run_start compare_run
missing_runs = ((refl, refl, refl, refl), (refl, refl, refl, refl), (refl, refl, refl, refl))

-- values decide and not rows: 20:60 against the same twice; twice 20:50, of greater weight and sum, against 20:60
pub values_decide : Gives (20 ∷ []) (60 ∷ []) (20 ∷ 20 ∷ []) (60 ∷ 60 ∷ []) (20 ∷ []) (10 ∷ []) alike First 0 []
    × Gives (20 ∷ 20 ∷ []) (50 ∷ 50 ∷ []) (20 ∷ []) (60 ∷ []) (20 ∷ []) (10 ∷ []) (apart 0 Second) Second 0 (60 ∷ [])
unfolding distance left_of right_of kernel weight_of sum_of rounded value_of estimate above higher_of unlike unlike_at compare run_tank run_start compare_run
values_decide = ((refl, refl, refl, refl), (refl, refl, refl, refl))

-- the first mark with differing values, and its own window: 1:5, 3:7, 5:3 against 1:5, 3:6, 5:4
pub first_difference :
    Gives (1 ∷ 3 ∷ 5 ∷ []) (5 ∷ 7 ∷ 3 ∷ []) (1 ∷ 3 ∷ 5 ∷ []) (5 ∷ 6 ∷ 4 ∷ []) (1 ∷ 3 ∷ 5 ∷ []) (1 ∷ 1 ∷ 1 ∷ []) (apart 1 First) First 1 (7 ∷ [])
unfolding distance left_of right_of kernel weight_of sum_of rounded value_of estimate above higher_of unlike unlike_at compare run_tank run_start compare_run
first_difference = (refl, refl, refl, refl)

-- the bounds are those of the higher tank's own list: 50:2 against 1:9, 2:9, 50:3, 51:3; and exchanged
pub bounds_of_its_own :
    (compare_bounds full (50 ∷ []) (2 ∷ []) (1 ∷ 2 ∷ 50 ∷ 51 ∷ []) (9 ∷ 9 ∷ 3 ∷ 3 ∷ []) (50 ∷ []) (5 ∷ [])
    ≡ given (Some (record { parting = record { position = 0; higher = Second }; left = 2; right = 4 })))
    × (compare_bounds full (1 ∷ 2 ∷ 50 ∷ 51 ∷ []) (9 ∷ 9 ∷ 3 ∷ 3 ∷ []) (50 ∷ []) (2 ∷ []) (50 ∷ []) (5 ∷ [])
    ≡ given (Some (record { parting = record { position = 0; higher = First }; left = 2; right = 4 })))
unfolding distance left_of right_of kernel weight_of sum_of rounded value_of estimate above higher_of unlike unlike_at compare compare_bounds
bounds_of_its_own = (refl, refl)

-- 16 comes last, at the place of what the second tank's lists earn, whichever of 8, 6 and 4 it is; a fault of the first tank is told as itself
pub second_tank :
    Gives (3 ∷ []) (1 ∷ []) (3 ∷ 2 ∷ []) (1 ∷ []) (7 ∷ []) (1 ∷ []) (is_report 16 0) First 0 []
    × Gives (3 ∷ []) (1 ∷ []) (1 ∷ 1 ∷ 5 ∷ 4 ∷ []) (1 ∷ 1 ∷ 1 ∷ 1 ∷ []) (7 ∷ []) (1 ∷ []) (is_report 16 3) First 0 []
    × Gives (3 ∷ []) (1 ∷ []) (3 ∷ 2 ∷ []) (1 ∷ []) (7 ∷ 6 ∷ []) (1 ∷ 1 ∷ []) (is_report 5 1) First 0 []
    × Gives (3 ∷ []) (1 ∷ []) (3 ∷ 2 ∷ []) (1 ∷ []) (7 ∷ 7 ∷ []) (1 ∷ 0 ∷ []) (is_report 9 1) First 0 []
    × Gives (3 ∷ []) (1 ∷ []) (3 ∷ 2 ∷ []) (1 ∷ []) (7 ∷ 7 ∷ []) (1 ∷ 9 ∷ []) (is_report 10 1) First 0 []
    × Gives (3 ∷ 2 ∷ []) (1 ∷ 1 ∷ []) (3 ∷ 2 ∷ []) (1 ∷ []) (7 ∷ []) (1 ∷ []) (is_report 4 1) First 0 []
unfolding distance left_of right_of kernel weight_of sum_of rounded value_of estimate above higher_of unlike unlike_at compare run_tank run_start compare_run
second_tank = (
  (refl, refl, refl, refl),
  (refl, refl, refl, refl),
  (refl, refl, refl, refl),
  (refl, refl, refl, refl),
  (refl, refl, refl, refl),
  (refl, refl, refl, refl),
)

-- the two lagers of the examples, `even_fall` and `afternoon`: alike up to mark 9, where 1,035 stands against 1,032
abbrev lager_minutes : List ℕ
lager_minutes = 5790 ∷ 7185 ∷ 8610 ∷ 10095 ∷ 11505 ∷ 12975 ∷ 14460 ∷ 14525 ∷ 14590 ∷ 14660 ∷ 15790 ∷ []

abbrev even_fall : List ℕ
even_fall = 5620 ∷ 4270 ∷ 3230 ∷ 2440 ∷ 1820 ∷ 1340 ∷ 970 ∷ 950 ∷ 930 ∷ 910 ∷ 760 ∷ []

abbrev afternoon : List ℕ
afternoon = 5620 ∷ 4270 ∷ 3230 ∷ 2440 ∷ 1820 ∷ 1340 ∷ 910 ∷ 930 ∷ 950 ∷ 970 ∷ 1190 ∷ []

abbrev lager_marks : List ℕ
lager_marks = 7200 ∷ 7920 ∷ 8640 ∷ 9360 ∷ 10080 ∷ 10800 ∷ 11520 ∷ 12240 ∷ 12960 ∷ 13680 ∷ 14400 ∷ 15120 ∷ 15840 ∷ []

abbrev lager_halves : List ℕ
lager_halves = map (λ (z : ℕ). 1440) lager_marks

pub two_lagers :
    Gives lager_minutes even_fall lager_minutes afternoon lager_marks lager_halves (apart 9 First) First 5 (1340 ∷ 970 ∷ 950 ∷ 930 ∷ 910 ∷ [])
    × ((estimate lager_minutes even_fall 13680 1440).value ≡ 1035)
    × ((estimate lager_minutes afternoon 13680 1440).value ≡ 1032)
unfolding distance left_of right_of kernel weight_of sum_of rounded value_of estimate above higher_of unlike unlike_at compare run_tank run_start compare_run
two_lagers = ((refl, refl, refl, refl), refl, refl)
