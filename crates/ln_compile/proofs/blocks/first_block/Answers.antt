use Rattle.std.proofs.Common.{[], map}
use Rattle.std.proofs.lemmas.Result.{IfOk-weaker}
use Rattle.ln_bound.proofs.Soundness.SoundLaws.{are_sound_say, is_sound_says}
use Rattle.ln_bound.specs.Sound.{AreSound, Sound}
use Rattle.ln_bound.specs.View.{typed}
use Rattle.ln_due.proofs.Derivatives.Blocks.{both}
use Rattle.ln_compile.proofs.Making.MakingLemmas.{own-carries, own-made}
use Rattle.ln_compile.proofs.Smallness.SmallBlocks.{own-pushes}
use Rattle.ln_compile.proofs.blocks.first_block.Goals as goal

pub lower-made-requires-clause-lets : goal.lower-made-requires-clause-lets
lower-made-requires-clause-lets c =
    let s = c.in_ok-sized.sized in
    let h : AreSound s.shape.vars [] (map typed s.lets) = are_sound_say s.shape.vars [] (map typed s.lets) s.sound_lets in
    rw c.in_ok-sized.ensures.shape at h

pub lower-made-requires-clause-root : goal.lower-made-requires-clause-root
lower-made-requires-clause-root c =
    let s = c.in_ok-sized.sized in
    let h : Sound s.shape.vars (map typed s.lets) (typed s.root) = is_sound_says s.shape.vars (map typed s.lets) (typed s.root) s.sound_root in
    rw c.in_ok-sized.ensures.shape at h

pub returns-clause-own : goal.returns-clause-own
returns-clause-own c =
    let s = c.in_ok-sized.sized in let e = c.in_ok-sized.ensures in
    let b = c.lower-made.ensures in
    IfOk-weaker c.lower-made.result _ _ (λ b h. own-made c.args.p.now s.lets s.root b _ c.new.ensures h.0 e.lets e.root e.exact_lets e.exact_root h.1)
    (both c.lower-made.result _ _ b.exps b.code)

pub returns-clause-block : goal.returns-clause-block
returns-clause-block c =
    let s = c.in_ok-sized.sized in let e = c.in_ok-sized.ensures in
    let b = c.lower-made.ensures in
    IfOk-weaker c.lower-made.result _ _ (λ b q f h few.
    own-carries c.args.p.now s.lets s.root b _ f c.new.ensures q.0.0 e.lets e.root q.0.1 q.1.0 h
    (own-pushes c.args.p.now s.lets s.root e.lets e.root c.requires.light few b q.1.1))
    (both c.lower-made.result _ _ (both c.lower-made.result _ _ b.exps b.rules) (both c.lower-made.result _ _ b.root b.nodes))
