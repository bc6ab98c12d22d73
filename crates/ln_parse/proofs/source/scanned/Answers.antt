use Rattle.std.proofs.Common.{inl}
use Rattle.ln_parse.specs.Fault.{lexical, tokens}
use Rattle.ln_parse.proofs.source.scanned.Goals as goal

pub returns-in-Err-Lexical-clause-err : goal.returns-in-Err-Lexical-clause-err
returns-in-Err-Lexical-clause-err c = let h = rw c.in-Err-Lexical.field-0-is at c.in-Err-Lexical.ensures.err in rw c.byte_at.ensures (inl (lexical h))

pub returns-in-Err-Limit-clause-err : goal.returns-in-Err-Limit-clause-err
returns-in-Err-Limit-clause-err c = let h = rw c.in-Err-Limit.field-0-is at c.in-Err-Limit.ensures.err in rw c.byte_at-in-Err-Limit.ensures (inl (tokens h))
