-- Answers to the goals of `write_c` in src/write.rt.
use Rattle.std.proofs.Common.{◌≡◌, true, map, subst}
use Rattle.ln_csyn.specs.View.{fun_tree}
use Rattle.ln_csyn.specs.Text.{is_file}
use Rattle.ln_csyn.specs.Layout.{Lays, laid_text}
use Rattle.ln_csyn.proofs.Writing.Laying.{text_is_laid, laid_reads_back}
use Rattle.ln_csyn.proofs.Writing.Lays.{whole_laid}
use Rattle.ln_csyn.proofs.write.write_c.Goals as goal

-- what is written is the file laid out
laid : (c : goal.In_ok-put_funs) → c.put_funs.new.out.items ≡ laid_text (map fun_tree c.args.f.now.funs)
laid c =
    whole_laid c.new-out.result.items c.as_slice.result.now c.extend_from_slice.new.self.items c.put_funs.new.out.items (map fun_tree c.args.f.now.funs)
    c.new-out.ensures.items c.as_slice.ensures c.in_ok-extend_from_slice.ensures.items
    (subst (λ z. Lays c.extend_from_slice.new.self.items c.put_funs.new.out.items (map fun_tree z)) c.as_slice-2.ensures c.in_ok-put_funs.ensures)

pub returns-clause-text : goal.returns-clause-text
returns-clause-text c =
    let k : is_file (map fun_tree c.args.f.now.funs) ≡ true = c.args.f.now.kept in
    text_is_laid c.put_funs.new.out.items (map fun_tree c.args.f.now.funs) k (laid c)

pub returns-clause-back : goal.returns-clause-back
returns-clause-back c =
    let k : is_file (map fun_tree c.args.f.now.funs) ≡ true = c.args.f.now.kept in
    laid_reads_back c.put_funs.new.out.items (map fun_tree c.args.f.now.funs) k (laid c)

pub returns-clause-layout : goal.returns-clause-layout
returns-clause-layout c = laid c
