use Rattle.ln_base.proofs.Kept.{read_into, stops_same}
use Rattle.ln_base.proofs.whole.gather.Goals as goal

pub returns-in-Ok : goal.returns-in-Ok
returns-in-Ok g c = read_into c.into_bytes.ensures c.in-Ok.ensures.read

pub returns-in-Err : goal.returns-in-Err
returns-in-Err g c = stops_same c.in-Err.ensures.read
