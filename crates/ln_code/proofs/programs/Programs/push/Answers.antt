use Rattle.ln_code.proofs.Following.Together.{pushed_programs}
use Rattle.ln_code.proofs.programs.Programs.push.Goals as goal

pub invariant_of-self : goal.invariant_of-self
invariant_of-self c = pushed_programs c.push.result c.self.inside.programs c.push.new.self c.args.p c.push.ensures.ok c.push.ensures.err
    c.self.invariant (rw (← c.self.view_is) at c.requires.name) c.requires.small
