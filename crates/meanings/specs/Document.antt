-- SPECIFICATION, "Output": the cases C1 to C12 of 7.10, the whole sheet of 7.9, and the empty input of 7.6. 65,536 stands for missing.
use Rattle.std.specs.Prelude.{ℕ, List, [], ◌∷◌}
use Rattle.meanings.specs.Limits.{full}
use Rattle.meanings.specs.Bytes.{ascii}
use Rattle.meanings.specs.Reports.{given}
use Rattle.meanings.specs.Cases.{Case, ◌⇒◌, row, smooth_over, sheet, output, estimated, smooth_gives, outcome, written, is_row, is_report}

-- the whole sheet's kept readings
abbrev minutes : List ℕ
minutes = 10 ∷ 20 ∷ 20 ∷ 35 ∷ []

abbrev values : List ℕ
values = 40 ∷ 60 ∷ 80 ∷ 20 ∷ []

abbrev pub document_cases : List Case
document_cases =
    -- C1 to C3
    row minutes values 20 10 ⇒ estimated (is_row 0 3 200 14000 70)
    ∷ row minutes values 25 15 ⇒ estimated (is_row 0 4 525 30500 58)
    ∷ row minutes values 60 20 ⇒ estimated (is_row 4 4 0 0 65536)
    -- C4 to C8
    ∷ row [] [] 5 1 ⇒ estimated (is_row 0 0 0 0 65536)
    ∷ row (10 ∷ []) (40 ∷ []) 20 10 ⇒ estimated (is_row 0 1 0 0 65536)
    ∷ row (0 ∷ []) (50 ∷ []) 3 10 ⇒ estimated (is_row 0 1 91 4550 50)
    ∷ row (0 ∷ 0 ∷ []) (2 ∷ 3 ∷ []) 0 1 ⇒ estimated (is_row 0 2 2 5 2)
    ∷ row (65535 ∷ []) (65535 ∷ []) 65535 65536 ⇒ estimated (is_row 0 1 4294967296 281470681743360 65535)
    -- C9: the rows' last five are the second row
    ∷ smooth_over full (50 ∷ []) (9 ∷ []) (0 ∷ 100 ∷ []) (1 ∷ 1 ∷ []) (7 ∷ 7 ∷ 7 ∷ 7 ∷ 7 ∷ 7 ∷ 7 ∷ 7 ∷ 7 ∷ 7 ∷ [])
    ⇒ smooth_gives (given 2) (0 ∷ 0 ∷ 0 ∷ 0 ∷ 65536 ∷ 1 ∷ 1 ∷ 0 ∷ 0 ∷ 65536 ∷ [])
    -- C10 and C11
    ∷ smooth_over full [] [] (100 ∷ 101 ∷ []) (10 ∷ 11 ∷ []) (7 ∷ 7 ∷ 7 ∷ 7 ∷ 7 ∷ 7 ∷ 7 ∷ 7 ∷ 7 ∷ 7 ∷ [])
    ⇒ smooth_gives (given 0) (0 ∷ 0 ∷ 0 ∷ 0 ∷ 65536 ∷ 0 ∷ 0 ∷ 0 ∷ 0 ∷ 65536 ∷ [])
    ∷ smooth_over full [] [] (100 ∷ 101 ∷ []) (10 ∷ 12 ∷ []) (7 ∷ 7 ∷ 7 ∷ 7 ∷ 7 ∷ 7 ∷ 7 ∷ 7 ∷ 7 ∷ 7 ∷ [])
    ⇒ smooth_gives (is_report 10 1) (7 ∷ 7 ∷ 7 ∷ 7 ∷ 7 ∷ 7 ∷ 7 ∷ 7 ∷ 7 ∷ 7 ∷ [])
    -- C12
    ∷ sheet full (ascii "mark,half\n20,10\n21,12\n") ⇒ outcome (is_report 10 16)
    -- one whole sheet, and the empty input
    ∷ output "mark,half\n20,10\n25,15\n60,20\n\nminute,inj,vdk\n10,3,40\n12,1,900\n14,2,400\n20,3,60\n20,4,80\n35,5,20\n"
    ⇒ written (ascii "mark,half,left,right,weight,sum,vdk\n20,10,0,3,200,14000,70\n25,15,0,4,525,30500,58\n60,20,4,4,0,0,-\n\nkept,passes\n4,8\n")
    ∷ output "" ⇒ written (ascii "refused,place\n2,0\n")
    ∷ []
