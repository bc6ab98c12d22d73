use Rattle.std.proofs.Common.{refl}
use Rattle.ln_base.proofs.Kept.{through}
use Rattle.ln_base.proofs.memory.MemFilesFiles.read_at.Goals as goal

pub returns-clause-told : goal.returns-clause-told
returns-clause-told c = rw (← c.self.view_is) refl

pub returns-clause-fails : goal.returns-clause-fails
returns-clause-fails c = rw (← c.self.view_is) refl

pub returns-clause-calls : goal.returns-clause-calls
returns-clause-calls c = rw (← c.self.view_is) c.is_listed-listed.ensures.calls

pub returns-clause-bound : goal.returns-clause-bound
returns-clause-bound c = c.hand_over.ensures.bound

pub returns-clause-bytes : goal.returns-clause-bytes
returns-clause-bytes c = rw (← c.self.view_is) (rw (c.found-file.ensures, c.deref.ensures.value) at c.hand_over.ensures).bytes

pub returns-clause-absent : goal.returns-clause-absent
returns-clause-absent c = rw (← c.self.view_is) (rw (c.found-file.ensures, c.deref.ensures.value) at c.hand_over.ensures).absent

pub returns-clause-cause : goal.returns-clause-cause
returns-clause-cause c = rw (← c.self.view_is) (rw (c.found-file.ensures, c.deref.ensures.value) at c.hand_over.ensures).cause

pub returns-clause-step : goal.returns-clause-step
returns-clause-step c = rw (← c.self.view_is) (rw (c.found-file.ensures, c.deref.ensures.value) at c.hand_over.ensures).step

pub returns-clause-fine : goal.returns-clause-fine
returns-clause-fine c = rw (← c.self.view_is) (rw (c.found-file.ensures, c.deref.ensures.value) at c.hand_over.ensures).fine

pub returns-clause-given : goal.returns-clause-given
returns-clause-given c = rw (← c.self.view_is) (rw (c.found-file.ensures, c.deref.ensures.value) at c.hand_over.ensures).given

pub returns-clause-none : goal.returns-clause-none
returns-clause-none c = rw (← c.self.view_is) (rw (c.found-file.ensures, c.deref.ensures.value) at c.hand_over.ensures).none

pub returns-clause-exact : goal.returns-clause-exact
returns-clause-exact c = rw (← c.self.view_is)
    (through (rw c.deref-2.ensures.value at c.is_listed-listed.ensures.listed)
    (rw (c.found-file.ensures, c.deref.ensures.value) at c.hand_over.ensures).exact)

pub returns-clause-handed : goal.returns-clause-handed
returns-clause-handed c = rw (← c.self.view_is) (rw (c.found-file.ensures, c.deref.ensures.value) at c.hand_over.ensures).handed
