-- The remaining goals of `nonzero`.
use Rattle.std.proofs.Common.{rules, ◌≡◌}
use Rattle.std.specs.List.{filter}
use Rattle.std.proofs.lemmas.List.Elements.{All-filter, filter_from_retain}
use Rattle.ln_tree.specs.Exps.{IsAbove}
use Rattle.ln_poly.proofs.Sorting.Gathering.{has_factor, filtered-coefficient, filtered-size, is_poly}
use Rattle.ln_poly.proofs.terms.nonzero.Goals as goal

pub seal-requires : goal.seal-requires
seal-requires c =
    let f : c.retain.new.self.items ≡ filter has_factor c.args.terms.items =
    filter_from_retain _ has_factor (λ p x b q k. search rules) _ _ _ c.retain.ensures.filtered in
    rw (c.from_vec.ensures, f) (is_poly _ c.requires.sorted c.requires.small c.requires.rising)

pub returns : goal.returns
returns c =
    let f : c.retain.new.self.items ≡ filter has_factor c.args.terms.items =
    filter_from_retain _ has_factor (λ p x b q k. search rules) _ _ _ c.retain.ensures.filtered in
    record {
      coefficients = λ n m. rw (c.seal.ensures, c.from_vec.ensures, f) (filtered-coefficient n m _);
      size = rw (c.seal.ensures, c.from_vec.ensures, f) (filtered-size _);
      form = rw (c.seal.ensures, c.from_vec.ensures, f) (is_poly _ c.requires.sorted c.requires.small c.requires.rising);
      below = λ n h. rw (c.seal.ensures, c.from_vec.ensures, f) (All-filter has_factor (λ t. IsAbove t.0 n) _ h);
    }
