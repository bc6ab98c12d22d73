-- Answers to the goals of `store` in src/put.rt.
use Rattle.std.proofs.Common.{rules, ◌≡◌, ◌++◌, ◌∷◌, []}
use Rattle.ln_cemit.proofs.Meanings.LocalCells.{stored}
use Rattle.ln_cemit.proofs.put.store.Goals as goal

pub returns : goal.returns
returns c =
    let e : c.args.stack.now.items ≡ c.pop.new.self.items ++ c.unwrap-slot.result ∷ [] = search rules in
    stored c.args.n c.args.j c.unwrap-slot.result c.args.stack.now.items c.pop.new.self.items c.args.locals.now e c.requires.1 c.in_ok-put_decl.ensures
