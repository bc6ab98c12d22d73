use Rattle.std.proofs.Common.{◌<◌, ◌^◌, length, subst, rules}
use Rattle.csv.specs.Records.{fields_of}
use Rattle.ln_rows.specs.Left.{Records, TakesWithin, reader_records}
use Rattle.ln_rows.proofs.Records.ReaderLemmas.{ok_same, reader_steps}
use Rattle.ln_rows.proofs.quoted.Quoted.next.Goals as goal

pub invariant_of-self-2 : goal.invariant_of-self-2
invariant_of-self-2 c =
    let s = c.in-Ok.ensures in
    let small : length (fields_of c.read_byte_record.new.row) < 2 ^ 64 = search rules in
    (reader_steps c.self.inside.reader c.read_byte_record.new.self (fields_of c.read_byte_record.new.row) s.flexible c.args.most c.in-Ok.found
    (fields_of c.truncate.new.self) c.min-count.result c.self.invariant (λ f. ok_same (s.failed f)) s.goes s.reads s.ready
    c.truncate.ensures.fields (rw c.len.ensures at c.min-count.ensures) small).0

pub returns : goal.returns
returns c =
    let s = c.in-Ok.ensures in
    let small : length (fields_of c.read_byte_record.new.row) < 2 ^ 64 = search rules in
    subst (λ (old : Records). TakesWithin c.args.most c.in-Ok.found old (reader_records c.read_byte_record.new.self) (fields_of c.truncate.new.self))
    c.self.view_is
    (reader_steps c.self.inside.reader c.read_byte_record.new.self (fields_of c.read_byte_record.new.row) s.flexible c.args.most c.in-Ok.found
    (fields_of c.truncate.new.self) c.min-count.result c.self.invariant (λ f. ok_same (s.failed f)) s.goes s.reads s.ready
    c.truncate.ensures.fields (rw c.len.ensures at c.min-count.ensures) small).1
