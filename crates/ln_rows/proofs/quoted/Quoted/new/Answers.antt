use Rattle.std.proofs.Common.{◌++◌, List, ℕ, Some, ap, ◌∙◌}
use Rattle.std.specs.Prelude.{option_map}
use Rattle.csv.specs.Reading.{strip_bom}
use Rattle.ln_rows.proofs.Records.ReaderLemmas.{reader_begins}
use Rattle.ln_rows.proofs.quoted.Quoted.new.Goals as goal

pub invariant_of-result : goal.invariant_of-result
invariant_of-result c =
    let fr = c.from_reader-reader.ensures in
    let e = c.flexible.ensures in
    let bytes = c.chain.ensures.bytes ∙ ap (λ (xs : List ℕ). Some (xs ++ c.args.bytes.now)) c.line_end.ensures in
    (reader_begins c.from_reader-reader.result c.set_byte_headers.new.self c.args.bytes.now (rw e at fr.config ∙ c.new.ensures.config)
    (rw e at fr.trim ∙ c.new.ensures.trim) (rw e at fr.flexible) (rw e at fr.has_headers ∙ c.new.ensures.has_headers) fr.state fr.fresh
    (fr.source ∙ ap (option_map strip_bom) bytes) c.in-Ok.ensures.same c.in-Ok.ensures.set).0

pub returns-in-Ok : goal.returns-in-Ok
returns-in-Ok c =
    let fr = c.from_reader-reader.ensures in
    let e = c.flexible.ensures in
    let bytes = c.chain.ensures.bytes ∙ ap (λ (xs : List ℕ). Some (xs ++ c.args.bytes.now)) c.line_end.ensures in
    (reader_begins c.from_reader-reader.result c.set_byte_headers.new.self c.args.bytes.now (rw e at fr.config ∙ c.new.ensures.config)
    (rw e at fr.trim ∙ c.new.ensures.trim) (rw e at fr.flexible) (rw e at fr.has_headers ∙ c.new.ensures.has_headers) fr.state fr.fresh
    (fr.source ∙ ap (option_map strip_bom) bytes) c.in-Ok.ensures.same c.in-Ok.ensures.set).1
