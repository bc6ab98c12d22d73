use Rattle.std.proofs.Common.{◌≡◌, ◌∙◌, ◌++◌, ◌∷◌, [], ap, map, false, if◌then◌else◌}
use Rattle.std.proofs.lemmas.List.{map-append}
use Rattle.std.specs.Prelude.{bytes_eq}
use Rattle.std.specs.List.{list_any}
use Rattle.ln_csyn.proofs.Keeping.SetLemmas.{among_any}
use Rattle.ln_cmean.proofs.need.add_name.Goals as goal

pub returns : goal.returns
returns c =
    let name = c.args.name in
    let keys = c.args.set.now.keys in
    let absent : list_any (λ k. bytes_eq name.now k.now) keys ≡ false = among_any keys name.now ∙ c.requires in
    ap (map (λ k. k.now)) (c.in_ok-insert_full.ensures.keys ∙ ap (λ b. if b then keys else keys ++ name ∷ []) absent)
    ∙ map-append (λ k. k.now) keys (name ∷ [])
