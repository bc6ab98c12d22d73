use Rattle.std.proofs.Common.{◌∙◌, ◌≡◌, ◌<◌, ◌∷◌, ◌++◌, [], None, sym, subst, ap, length, reverse, set, rules, arith, length-append}
use Rattle.std.proofs.lemmas.List.{length-set, length-reverse, get_or_read}
use Rattle.ln_cmean.specs.declared.slot.Slot.{Slot}
use Rattle.ln_cmean.specs.Chains.{IsLinked, IsTopped, bucket_of}
use Rattle.ln_cmean.specs.Slots.{seen_from}
use Rattle.ln_cmean.proofs.Slots.{pushed, seen_push}
use Rattle.ln_cmean.proofs.Chains.{open_topped, open_linked}
use Rattle.ln_cmean.proofs.scratch.open.Goals as goal

pub invariant_of-s-clause-topped : goal.invariant_of-s-clause-topped
invariant_of-s-clause-topped c =
    let s = c.args.s.now in
    let ys = s.slots.items in
    let d : Slot = record { name = c.args.name; kind = c.args.kind; number = None; bucket = c.bucket-at.result; below = c.index-below.result.now } in
    let p : c.push.new.self.items ≡ ys ++ d ∷ [] = search rules in
    subst (λ zs. IsTopped (reverse zs) (set s.tops.items c.bucket-at.result c.len-2.result)) (sym p)
    (open_topped ys s.tops.items d c.len-2.result
    (omega (arith, c.len-2.ensures, c.push.new.self.ok.0, ap (λ zs. length zs) p, length-append ys (d ∷ []))) s.topped)

pub invariant_of-s-clause-linked : goal.invariant_of-s-clause-linked
invariant_of-s-clause-linked c =
    let s = c.args.s.now in
    let ys = s.slots.items in
    let tops = s.tops.items in
    let at = c.bucket-at.result in
    let d : Slot = record { name = c.args.name; kind = c.args.kind; number = None; bucket = at; below = c.index-below.result.now } in
    let p : c.push.new.self.items ≡ ys ++ d ∷ [] = search rules in
    let w : at < length tops = omega (arith, c.bucket-at.ensures.within, c.len.ensures, s.tops.ok.0) in
    let e = c.bucket-at.ensures.is ∙ ap (λ n. bucket_of c.args.name.now n) (c.len.ensures ∙ s.tops.ok.0) in
    let b = get_or_read tops at c.index-below.result.now w c.index-below.ensures 0 ∙ s.topped at w in
    subst (λ n. IsLinked n (reverse c.push.new.self.items)) (sym (length-set tops at c.len-2.result))
    (subst (λ zs. IsLinked (length tops) (reverse zs)) (sym p) (open_linked (length tops) ys d s.linked (w, e, b)))

pub returns-clause-seen : goal.returns-clause-seen
returns-clause-seen c =
    let s = c.args.s.now in
    let ys = s.slots.items in
    let d : Slot = record { name = c.args.name; kind = c.args.kind; number = None; bucket = c.bucket-at.result; below = c.index-below.result.now } in
    let p : c.push.new.self.items ≡ ys ++ d ∷ [] = search rules in
    ap (λ zs. seen_from s.base (reverse zs)) p ∙ ap (λ zs. seen_from s.base zs) (pushed ys d)
    ∙ seen_push s.base (reverse ys) d (omega (arith, c.requires.based, length-reverse ys))
