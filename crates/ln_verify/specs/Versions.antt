-- Defines what the code tests of a rule on a range.
use Rattle.ln_interval.specs.Range.{Covers, Range}
use Rattle.ln_bound.specs.declared.fitted.Width.{Width}
use Rattle.ln_bound.specs.Sound.{IsIn}
use Rattle.ln_verify.specs.BlockRules.{Version, version_1, version_2}
use Rattle.ln_verify.specs.declared.version.Version.{Version as InCode}
use Rattle.ln_verify.specs.declared.version.Version.TheVariants.{One, Two}

-- the version of listings, with its rules, that a version in code stands for
abbrev pub version_of : InCode → Version
version_of One = version_1
version_of Two = version_2

-- the range p covers what it has to, and fits the width
abbrev pub Allows : Range → Range → Width → Type 0
Allows enough p w = Covers p enough × IsIn p w
