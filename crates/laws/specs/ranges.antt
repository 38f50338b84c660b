pub mod RangeForm
