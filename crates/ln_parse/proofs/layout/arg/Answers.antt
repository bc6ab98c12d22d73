use Rattle.std.proofs.Common.{◌≡◌, true, false, refl, ap, ◌∙◌}
use Rattle.std.specs.List.{position_from}
use Rattle.ln_syntax.specs.Raw.{items, same}
use Rattle.ln_parse.specs.Says.{place, name_if, site_names, param_names}
use Rattle.ln_parse.proofs.Building.Places.{place_is, said_items}
use Rattle.ln_parse.proofs.Building.Loops.{below_byte}
use Rattle.ln_parse.proofs.layout.arg.Goals as goal

pub or_zero-requires : goal.or_zero-requires
or_zero-requires c = below_byte (λ n. same c.args.bytes.now n c.args.a.name) (param_names (items c.args.before.now)) c.number_of.result
    (c.number_of.ensures ∙ ap (position_from (λ n. same c.args.bytes.now n c.args.a.name) 0) (said_items (name_if true) c.args.before.now)) c.requires.params

pub or_zero-requires-2 : goal.or_zero-requires-2
or_zero-requires-2 c = below_byte (λ n. same c.args.bytes.now n c.args.a.kind) (site_names (items c.args.before.now)) c.number_of-2.result
    (c.number_of-2.ensures ∙ ap (position_from (λ n. same c.args.bytes.now n c.args.a.kind) 0) (said_items (name_if false) c.args.before.now)) c.requires.sites

pub returns-then-a : goal.returns-then-a
returns-then-a c =
    let a = c.args.a in
    let e : c.or_zero.result ≡ place (λ n. same c.args.bytes.now n a.name) (param_names (items c.args.before.now)) =
    c.or_zero.ensures ∙ place_is (λ n. same c.args.bytes.now n a.name) (param_names (items c.args.before.now)) c.number_of.result
    (c.number_of.ensures ∙ ap (position_from (λ n. same c.args.bytes.now n c.args.a.name) 0) (said_items (name_if true) c.args.before.now)) in
    rw (c.if-a.true, e) refl

pub returns : goal.returns
returns c =
    let a = c.args.a in
    let e : c.or_zero-2.result ≡ place (λ n. same c.args.bytes.now n a.kind) (site_names (items c.args.before.now)) =
    c.or_zero-2.ensures ∙ place_is (λ n. same c.args.bytes.now n a.kind) (site_names (items c.args.before.now)) c.number_of-2.result
    (c.number_of-2.ensures ∙ ap (position_from (λ n. same c.args.bytes.now n c.args.a.kind) 0) (said_items (name_if false) c.args.before.now)) in
    rw (c.if-a.false, e, c.name_at.ensures) refl
