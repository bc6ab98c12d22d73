use Rattle.std.proofs.Common.{rules, ℕ, List, subst, sym, ◌<◌, ◌+◌, length, map, inr, refl}
use Rattle.ln_csyn.specs.View.{fun_tree}
use Rattle.ln_cmean.specs.Carrying.Calls.{IsPut}
use Rattle.ln_cmean.proofs.Carrying.CallLaws.{IsTaken, first_other, one_call, shorter, written_all, written_more}
use Rattle.ln_cmean.proofs.program.meaning.lines.Goals as goal

pub lines-smaller : goal.lines-smaller
lines-smaller c =
    subst (λ (x : List ℕ). length x < length c.lines.rest.now) (sym c.next_line.ensures.rest) (shorter c.lines.rest.now (search rules))

pub lines-preserved : goal.lines-preserved
lines-preserved c =
    let some : 0 < length c.lines.rest.now = search rules in
    let put : IsPut (map fun_tree c.args.file.now.funs) c.next_line.result.0.now c.lines.out.items c.put_line.new.out.items = search rules in
    let taken : IsTaken (map fun_tree c.args.file.now.funs) c.lines.rest.now c.next_line.result.1.now c.lines.out.items c.put_line.new.out.items =
    record {
      some = some;
      put = subst (λ (x : List ℕ). IsPut (map fun_tree c.args.file.now.funs) x c.lines.out.items c.put_line.new.out.items)
          c.next_line.ensures.line put;
      left = c.next_line.ensures.rest;
    } in
    record {
      made = c.in_ok-is_call.ensures.made;
      written = written_more _ c.args.calls.now c.lines.rest.now c.next_line.result.1.now _ _ c.lines.invariant.written taken;
      calls = one_call _ c.args.calls.now c.lines.rest.now c.next_line.result.1.now _ _ c.lines.n c.lines.invariant.calls taken;
    }

pub returns-then-not-is_call-clause-stop : goal.returns-then-not-is_call-clause-stop
returns-then-not-is_call-clause-stop c =
    let other = c.in_ok-is_call.ensures.other (search rules) in
    inr (
      c.lines.n + 1,
      refl,
      first_other c.args.calls.now c.lines.rest.now c.next_line.result.0.now c.lines.n (c.lines.n + 1)
          c.lines.invariant.calls (search rules) c.next_line.ensures.line other refl,
    )

pub returns : goal.returns
returns c = record {
  all = written_all (map fun_tree c.args.file.now.funs) c.args.calls.now c.lines.rest.now c.lines.out.items c.lines.invariant.written (search rules);
  stop = tt;
}
