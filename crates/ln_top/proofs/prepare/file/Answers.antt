use Rattle.std.proofs.Common.{ap, Err}
use Rattle.ln_top.specs.Frame.Carried.{short}
use Rattle.ln_top.proofs.Steps.Prepared.{read_there, read_fault, read_long}
use Rattle.ln_top.proofs.prepare.file.Goals as goal

pub returns-in-Ok-clause-ok : goal.returns-in-Ok-clause-ok
returns-in-Ok-clause-ok g c = read_there (g.F.Files.told c.args.files.now) _ _ _ c.in-Ok.ensures.bytes c.in-Ok.ensures.limit

pub returns-in-Err-Fault-clause-err : goal.returns-in-Err-Fault-clause-err
returns-in-Err-Fault-clause-err g c =
    read_fault (g.F.Files.told c.args.files.now) _ _ _ (c.in-Err-Fault.ensures.fault (ap Err c.in-Err-Fault.field-0-is))

pub returns-in-Err-TooLong-clause-err : goal.returns-in-Err-TooLong-clause-err
returns-in-Err-TooLong-clause-err g c =
    read_long (g.F.Files.told c.args.files.now) _ _ _ (c.in-Err-TooLong.ensures.long (ap Err c.in-Err-TooLong.field-0-is))
    (λ a. let e = c.in-Err-TooLong.ensures.absent a in let i = c.in-Err-TooLong.field-0-is in cc)

pub returns-in-Err-NoMemory-clause-err : goal.returns-in-Err-NoMemory-clause-err
returns-in-Err-NoMemory-clause-err g c = short
