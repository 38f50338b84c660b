-- The worked cases, in a file that leads to no call, so that a clause can cite it.
use Rattle.std.specs.Prelude.{◌≡◌, map}
use Rattle.meanings.specs.Cases.{AllHold}
use Rattle.meanings.specs.Document.{document_cases}
use Rattle.meanings.specs.ranges.SheetCases.{ProgramCase, program_result, program_text, program_cases}

-- the worked cases of SPECIFICATION 7.6 and 7.10, and what the program writes for sheets of both kinds, accepted and refused, and for the empty
-- input: 7.9, 18.14
pub record WorkedCases : Type 0 where
  pub worked_cases : AllHold document_cases
  pub printed_cases : map (λ (c : ProgramCase). program_result c) program_cases ≡ map (λ (c : ProgramCase). program_text c) program_cases
