-- The loop of `write_listing` in src/write.rt.
use Rattle.std.proofs.Common.{take}
use Rattle.ln_cert.specs.Listing.{ListText}
use Rattle.ln_cert.specs.Written.{listing_of}
use Rattle.ln_cert.proofs.write.write_listing.Given as goal

abbrev pub invariant-programs : goal.invariant-programs
invariant-programs l = ListText l.out.items 2 (listing_of (take l.program-index l.p))
