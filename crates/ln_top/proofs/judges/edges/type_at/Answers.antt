use Rattle.std.proofs.Common.{length, refl}
use Rattle.std.proofs.lemmas.Option.{slice_get_read}
use Rattle.ln_top.proofs.judges.edges.type_at.Goals as goal

pub returns : goal.returns
returns c =
    let there = rw (c.as_slice.ensures, c.from.ensures) at c.index-as_slice-from.is in
    slice_get_read c.args.t.now.sites (length c.args.t.now.sites) c.args.kind _ refl c.requires there
