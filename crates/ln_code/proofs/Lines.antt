-- Operations with their bounds, as one list.
use Rattle.std.proofs.Common.{◌≡◌, List, [], ◌∷◌, ◌++◌, length, refl, ap, arith, suc}
use Rattle.ln_code.specs.declared.op.Op.{Op}
use Rattle.ln_code.specs.Part.{lines_of}
use Rattle.ln_code.specs.StackCode.{line}

-- one operation more, with its bound
pub lines_snoc : {B : Type 0} (os : List Op) (bs : List B) (o : Op) (b : B) → length os ≡ length bs
    → lines_of (os ++ (o ∷ [])) (bs ++ (b ∷ [])) ≡ lines_of os bs ++ (line o b ∷ [])
lines_snoc [] [] o b h = refl
lines_snoc [] (c ∷ cs) o b h = absurd (omega (arith, h))
lines_snoc (p ∷ ps) [] o b h = absurd (omega (arith, h))
lines_snoc (p ∷ ps) (c ∷ cs) o b h =
    let e : length ps ≡ length cs = omega (arith, h) in
    ap (λ l. line p c ∷ l) (lines_snoc ps cs o b e)

-- there are as many as operations
pub lines_length : {B : Type 0} (os : List Op) (bs : List B) → length os ≡ length bs → length os ≡ length (lines_of os bs)
lines_length [] bs h = refl
lines_length (p ∷ ps) [] h = absurd (omega (arith, h))
lines_length (p ∷ ps) (c ∷ cs) h = let e : length ps ≡ length cs = omega (arith, h) in ap suc (lines_length ps cs e)
