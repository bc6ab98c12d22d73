use Rattle.std.proofs.Common.{arith, length, map}
use Rattle.ln_algebra.specs.Sizes.{two}
use Rattle.ln_tree.specs.Formula.{formula, tree}
use Rattle.ln_poly.specs.Expansion.{closed_lets}
use Rattle.ln_poly.proofs.Expansions.Lets.{root-light}
use Rattle.ln_poly.proofs.Loads.Sizing.{pred-expands}
use Rattle.ln_compile.proofs.program.beginning.Goals as goal

pub first_block-requires : goal.first_block-requires
first_block-requires c = record { light = c.requires.light }

pub filter-requires : goal.filter-requires
filter-requires c = record { light = c.requires.light }

pub returns : goal.returns
returns c =
    let p = c.args.p.now in let e = c.in_ok-filter.ensures in let b = c.in_ok-first.ensures in
    record {
      filter = e.filter;
      own = b.own;
      inputs = (root-light (length p.shape.vars) two (closed_lets p.shape.vars (map formula p.lets)) (tree p.shape.vars (formula p.root))
          (pred-expands p.args p.shape.vars p.lets (length p.let_names) p.root p.kept c.requires.light).1).inputs;
      rules = e.rules;
      whole = e.whole;
      block = λ f n. b.block f n c.requires.few;
      pushes = e.pushes c.requires.few;
      short = omega (arith, e.small, b.small);
    }
