-- Answers to the goals of `begin_listing` in src/write.rt.
use Rattle.ln_cert.proofs.Writing.Programmed.{begun}
use Rattle.ln_cert.proofs.write.begin_listing.Goals as goal

pub returns : goal.returns
returns c = begun c.extend_from_slice.new.self.items c.new-out.result.items c.as_slice.result.now c.in_ok-extend_from_slice.ensures.items
    c.new-out.ensures.items c.as_slice.ensures
