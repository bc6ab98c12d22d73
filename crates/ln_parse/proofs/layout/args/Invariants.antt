use Rattle.std.proofs.Common.{◌≡◌, map, take}
use Rattle.ln_syntax.specs.Raw.{items}
use Rattle.ln_parse.specs.Says.{arg_of, arg_said}
use Rattle.ln_parse.proofs.layout.args.Given as goal

abbrev pub invariant-args-2 : goal.invariant-args-2
invariant-args-2 l = map arg_of l.args ≡ map (λ a. arg_said l.s.bytes.now (items l.s.items.now) a a.is_param) (take l.a-index l.raw)
