-- The law that other crates cite.
pub use Rattle.arithmetic.specs.Wrapping.{wraps_back_is_minus}
