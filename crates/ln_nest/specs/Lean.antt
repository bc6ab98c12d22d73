-- Trees no node of which has many terms or large exponents.
pub use Rattle.ln_poly.specs.Lean.{AreLean, AreUnder, HasNoZero, IsLean, largest}
