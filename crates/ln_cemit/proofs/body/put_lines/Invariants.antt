use Rattle.std.proofs.Common.{◌≡◌, [], drop, length}
use Rattle.std.specs.Prelude.{reverse}
use Rattle.ln_code.specs.Numbers.{no_locals}
use Rattle.ln_code.specs.Part.{lines_of}
use Rattle.ln_csyn.specs.Spelling.{Goes, spell_body}
use Rattle.ln_cemit.specs.Emit.{emitted}
use Rattle.ln_cemit.specs.Names.{decl_name}
use Rattle.ln_cemit.specs.Puts.{locals_of}
use Rattle.ln_cemit.proofs.body.put_lines.Given as goal

abbrev pub invariant-ops : goal.invariant-ops
invariant-ops l = record {
  size : length l.locals ≡ 256;
  goes : Goes l.fn.out.items l.out.items (spell_body (emitted decl_name l.e (drop l.i (lines_of l.ops l.ways)) l.i (reverse l.stack.items)
      (locals_of l.locals))) (spell_body (emitted decl_name l.e (lines_of l.ops l.ways) 0 [] no_locals));
}
