use Rattle.ln_poly.proofs.expansion.of_kind.Goals as goal

pub returns-in-Plus-clause-ok : goal.returns-in-Plus-clause-ok
returns-in-Plus-clause-ok c = rw c.in-Plus.is c.sum.ensures.ok

pub returns-in-Minus-clause-ok : goal.returns-in-Minus-clause-ok
returns-in-Minus-clause-ok c = rw c.in-Minus.is c.difference.ensures.ok

pub returns-in-Times-clause-ok : goal.returns-in-Times-clause-ok
returns-in-Times-clause-ok c = rw c.in-Times.is c.product.ensures.ok

pub returns-in-Plus-clause-err : goal.returns-in-Plus-clause-err
returns-in-Plus-clause-err c = rw c.in-Plus.is c.sum.ensures.err

pub returns-in-Minus-clause-err : goal.returns-in-Minus-clause-err
returns-in-Minus-clause-err c = rw c.in-Minus.is c.difference.ensures.err

pub returns-in-Times-clause-err : goal.returns-in-Times-clause-err
returns-in-Times-clause-err c = rw c.in-Times.is c.product.ensures.err

pub sum-requires : goal.sum-requires
sum-requires c = rw c.in-Plus.is at c.requires

pub difference-requires : goal.difference-requires
difference-requires c = rw c.in-Minus.is at c.requires

pub product-requires-clause-room : goal.product-requires-clause-room
product-requires-clause-room c =
    let r = rw c.in-Times.is at c.requires in
    r.0

pub product-requires-clause-powers : goal.product-requires-clause-powers
product-requires-clause-powers c =
    let r = rw c.in-Times.is at c.requires in
    r.1
