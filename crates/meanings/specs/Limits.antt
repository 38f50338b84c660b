-- SPECIFICATION, "Readings and marks": the ranges and limits.
use Rattle.std.specs.Prelude.{ℕ, ◌≤◌}
use Rattle.meanings.specs.declared.Limits.{Limits}

-- the greatest minute, value, mark and spacing, and the greatest count of injections
abbrev pub max_u16 : ℕ
max_u16 = 65535

-- the greatest half width; the least is 1
abbrev pub max_bandwidth : ℕ
max_bandwidth = 65536

-- how many kept readings and how many marks there may be
abbrev pub full : Limits
full = record { samples = 1024; points = 512 }

-- SPECIFICATION, "The preview": how many there may be of a small curve
abbrev pub preview : Limits
preview = record { samples = 256; points = 64 }

-- limits that allow no more than others do
pub record LimitsWithin (L M : Limits) : Type 0 where
  pub samples : L.samples ≤ M.samples
  pub points : L.points ≤ M.points

-- how many numbers a row takes in the list of rows
abbrev pub row_width : ℕ
row_width = 5

-- the greatest length of a sheet, in bytes
abbrev pub max_sheet : ℕ
max_sheet = 32768

-- the greatest length of a plain sheet's text, in bytes: none is longer, by the demand plain-fits of crates/promises
abbrev pub max_plain_output : ℕ
max_plain_output = 31291

-- the length of the buffer that a text is written into: none is longer, by the laws either_program_fits of
-- crates/laws/proofs/ranges and any_refusal_fits of crates/laws/proofs/output
abbrev pub max_output : ℕ
max_output = 44113
