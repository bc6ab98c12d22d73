use Rattle.std.proofs.Common.{arith}
use Rattle.ln_tree.proofs.KeptLemmas.{few_vars}
use Rattle.ln_tree.proofs.pred.Pred.number.Goals as goal

pub overflow_cast-result : goal.overflow_cast-result
overflow_cast-result c =
    let few = few_vars c.args.self.now.shape.sites c.args.self.now.shape.vars c.args.self.now.shape.kept in
    let number = rw c.as_slice.ensures at c.number_in.ensures in
    omega (arith, few, c.requires, number)
