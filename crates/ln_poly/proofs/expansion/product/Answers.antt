use Rattle.std.proofs.Common.{refl, []}
use Rattle.ln_algebra.specs.Tree.{Mul}
use Rattle.ln_poly.proofs.Expansions.Normals.{mul-many, mul-normal}
use Rattle.ln_poly.proofs.TermLists.Counting.{counted-few}
use Rattle.ln_poly.proofs.expansion.product.Goals as goal

pub returns-in-Some-clause-ok : goal.returns-in-Some-clause-ok
returns-in-Some-clause-ok c n d e p q =
    let few = rw c.in-Some.is at c.in_ok-found.ensures.few in
    let form = rw c.in-Some.is at c.in_ok-found.ensures.form in
    let below = rw c.in-Some.is at c.in_ok-found.ensures.below in
    let coefficients = rw c.in-Some.is at c.in_ok-found.ensures.coefficients in
    counted-few n c.args.at (Mul d e) c.in-Some.h few
    (mul-normal n d e c.args.f.now c.args.g.now c.in-Some.h p q form (below n p.below q.below) (λ m l. coefficients n m l))

pub returns-in-None-clause-err : goal.returns-in-None-clause-err
returns-in-None-clause-err c n d e p q = record {
  before = [];
  node = Mul d e;
  after = [];
  stands = refl;
  few = tt;
  many = mul-many n d e c.args.f.now c.args.g.now p q (rw c.in-None.is at c.in_ok-found.ensures.none);
}
