-- Defines what fits a width of 64 or 128 bits, and which of two widths is the wider.
use Rattle.std.specs.Prelude.{ℕ, Bool, true, false, nat_le, if◌then◌else◌}
use Rattle.ln_interval.specs.Range.{most}
use Rattle.ln_bound.specs.declared.fitted.Width.{Width}
use Rattle.ln_bound.specs.declared.fitted.Width.TheVariants.{W64, W128}

-- the largest absolute value of a width: 2^63 - 1, 2^127 - 1
abbrev pub limit : Width → ℕ
limit W64 = 9223372036854775807
limit W128 = most

-- the least width that fits b
abbrev pub least : ℕ → Width
least b = if nat_le b (limit W64) then W64 else W128

-- the wider of two
abbrev pub wider : Width → Width → Width
wider W64 w = w
wider W128 w = W128

-- is the first no wider than the second?
abbrev pub no_wider : Width → Width → Bool
no_wider W64 w = true
no_wider W128 W64 = false
no_wider W128 W128 = true
