use Rattle.std.proofs.Common.{rules, ◌≡◌, ℕ, List, [], ◌∷◌, map, ap, subst, sym, string_bytes}
use Rattle.std.specs.Prelude.{Err, IfSome, Some}
use Rattle.ln_base.specs.Outside.{bytes_of}
use Rattle.ln_csyn.specs.Text.{CText}
use Rattle.ln_cmean.specs.Carrying.Calls.{AreMeant}
use Rattle.ln_cmean.proofs.Carrying.StopLaws.{Cut, c_stopped, first_word, later_unread, read_stopped, second_word, write_stopped}
use Rattle.ln_cmean.proofs.program.carry.carry_out.Goals as goal

pub returns-in_err-text-clause-stopped : goal.returns-in_err-text-clause-stopped
returns-in_err-text-clause-stopped g c =
    let named : map string_bytes c.args.words.now ≡ c.in-Some.file.now ∷ (c.in-Some.calls.now ∷ []) = search rules in
    read_stopped _ c.in-Some.file.now c.in_err-text.field-0.0 c.from_residual.result c.from_residual.ensures.1 (first_word _ _ _ named)
    (record { fault = λ e. c.in_err-text.ensures.fault (ap Err e); long = λ e. c.in_err-text.ensures.long (ap Err e) })

pub returns-in_err-file-clause-stopped : goal.returns-in_err-file-clause-stopped
returns-in_err-file-clause-stopped g c =
    let named : map string_bytes c.args.words.now ≡ c.in-Some.file.now ∷ (c.in-Some.calls.now ∷ []) = search rules in
    let content : IfSome (g.F.Files.told c.args.files.now) (λ shelf. bytes_of c.in-Some.file.now shelf ≡ Some c.in_ok-text.text.items) = search rules in
    c_stopped _ c.in-Some.file.now c.in-Some.calls.now c.in_ok-text.text.items c.in_err-file.field-0.0 c.from_residual-in_err-file.result
    c.from_residual-in_err-file.ensures.1 named content
    (λ n fs t. c.in_err-file.ensures.err n fs (subst (λ (bytes : List ℕ). CText bytes fs) (sym c.as_slice.ensures.value) t))

pub returns-in_err-calls-clause-stopped : goal.returns-in_err-calls-clause-stopped
returns-in_err-calls-clause-stopped g c =
    let same : g.F.Files.faults c.read_whole.new.files ≡ g.F.Files.faults c.args.files.now = search rules in
    let named : map string_bytes c.args.words.now ≡ c.in-Some.file.now ∷ (c.in-Some.calls.now ∷ []) = search rules in
    read_stopped _ c.in-Some.calls.now c.in_err-calls.field-0.0 c.from_residual-in_err-calls.result c.from_residual-in_err-calls.ensures.1
    (second_word _ _ _ named)
    (later_unread _ _ _ (g.F.Files.told c.read_whole.new.files) (g.F.Files.faults c.read_whole.new.files) c.in_ok-text.ensures.told same
    (λ e. c.in_err-calls.ensures.fault (ap Err e)) (λ e. c.in_err-calls.ensures.long (ap Err e)))

pub returns-in_err-put_all-clause-unwritten : goal.returns-in_err-put_all-clause-unwritten
returns-in_err-put_all-clause-unwritten g c =
    let out = c.in_ok-out.out.items in
    let meant : IfSome (g.F.Files.told c.args.files.now) (λ shelf. AreMeant (map string_bytes c.args.words.now) shelf out) = search rules in
    let cut = subst (λ (x : List ℕ). Cut x (g.C.Console.shown c.args.con.now) (g.C.Console.shown c.put_all.new.con)) c.as_slice-2.ensures.value
    c.in_err-put_all.ensures.err in
    write_stopped (map string_bytes c.args.words.now) (g.F.Files.told c.args.files.now) out (g.C.Console.shown c.args.con.now)
    (g.C.Console.shown c.put_all.new.con) c.from_residual-in_err-put_all.result c.from_residual-in_err-put_all.ensures.1 meant cut
