-- The first line of a listing whose rule fails, and valid listings.
use Rattle.std.specs.Prelude.{◌≡◌, ℕ, List, [], length}
use Rattle.ln_base.specs.Forms.Judge.{Judge}
use Rattle.ln_base.specs.Forms.Judge as judge
use Rattle.ln_verify.specs.BlockRules.{Version}
use Rattle.ln_verify.specs.Line.{Outside, Place, Rule, Subject, Within, Written}
use Rattle.ln_cert.specs.declared.part.Part.{Part}

-- where the file ends here, some predicate hasn't stood
abbrev pub Lacks : List Subject → Place → Type 0
Lacks ps (Outside parts) = length parts ≡ length ps → ⊥
Lacks ps (Within parts s) = Unit {0}

-- what the lines of a listing are judged by
abbrev pub judge_of : Version → List Subject → Judge Place Part
judge_of v ps = record { Rule = Rule v ps; Lacks = Lacks ps }

-- these lines lead from one place to another
abbrev pub Go : Version → List Subject → Place → List Part → Place → Type 0
Go v ps here lines q = judge.Go (judge_of v ps) here lines q

-- the first line that fails. Lines are counted from 1, and these come after the first one, which names the version; at the end of the file, where
-- some predicate hasn't stood, it is one more than there are
abbrev pub IsFirstFault : Version → List Subject → List Part → ℕ → Type 0
IsFirstFault v ps lines number = judge.IsFirstFault (judge_of v ps) (Outside []) lines number

-- no line fails: all lead to the end, where each predicate has its part
pub record IsValid (v : Version) (ps : List Subject) (lines : List Part) : Type 0 where
  pub parts : List Written
  pub good : Go v ps (Outside []) lines (Outside parts)
  pub all : length parts ≡ length ps
