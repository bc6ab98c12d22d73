use Rattle.ln_trace.proofs.BlockLaw.{blocks-explained}
use Rattle.ln_trace.proofs.explain.blocks_are_explained.Goals as goal

pub returns : goal.returns
returns c = λ p e f fields row n lines runs carries read range told. blocks-explained p e f fields row n lines runs carries read range told
