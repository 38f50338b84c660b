-- What the functions over a reading line say, as an option of its values.
use Rattle.std.specs.Prelude.{Option, Some, None}
use Rattle.meanings.specs.ranges.RangeSheet.{RangeInjection}
use Rattle.sheet.specs.declared.range_values.ReadingLine.{ReadingLine}

abbrev pub reading_values : Option ReadingLine → Option RangeInjection
reading_values (Some j) = Some (record { minute = j.minute; injection = j.injection; low = j.low; high = j.high })
reading_values None = None
