use Rattle.std.proofs.Common.{◌*◌, ◌<◌, ◌^◌, ap, arith, length, rules}
use Rattle.ln_poly.proofs.TermLists.Walks.{row-more, row-room, row-rows}
use Rattle.ln_poly.proofs.within.row_within.Goals as goal

pub walk-requires-clause-room : goal.walk-requires-clause-room
walk-requires-clause-room c =
    row-room c.args.f.now _ c.args.g.now _ _ c.terms.ensures.value c.terms-2.ensures.value c.requires.one c.index-terms-0.is c.requires.room

pub returns-then-terms-most : goal.returns-then-terms-most
returns-then-terms-most c = let small : length c.terms-3.result.now * 32 < 2 ^ 63 = search rules in record {
  rows = tt;
  form = tt;
  few = tt;
  none = row-more c.args.f.now _ c.args.g.now _ _ c.terms.ensures.value c.terms-2.ensures.value c.requires.one c.index-terms-0.is _ _ c.args.most
      c.in_ok-h.ensures.row c.in_ok-h.ensures.form c.terms-3.ensures.value c.if-terms-most.true;
  limit = omega (arith, c.if-terms-most.true, small);
}

pub returns : goal.returns
returns c = record {
  rows = row-rows c.args.f.now _ c.args.g.now _ _ c.terms.ensures.value c.terms-2.ensures.value c.requires.one c.index-terms-0.is _ c.in_ok-h.ensures.row;
  form = c.in_ok-h.ensures.form;
  few = omega (arith, c.if-terms-most.false, ap length c.terms-3.ensures.value);
  none = tt;
  limit = tt;
}
