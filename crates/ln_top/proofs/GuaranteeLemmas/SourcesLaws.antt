-- An accepted source declares the predicates of its table, and no others.
use Rattle.std.proofs.Common.{List, [], ◌∷◌, ◌++◌}
use Rattle.ln_tree.specs.Table.{PredOf, TableOf}
use Rattle.ln_top.specs.Guarantee.{Predicate}
use Rattle.ln_top.specs.Sources.{AcceptedDeclare, AreTabled, DeclaredAreOf}
use Rattle.ln_top.proofs.GuaranteeLemmas.Walk.{AreAgreed, all_agreed}
use Rattle.ln_top.proofs.GuaranteeLemmas.Declared.{declares_some}

are_of : (t : TableOf) (done : List PredOf) (ps : List Predicate) (qs : List PredOf) → AreAgreed t done ps qs → AreTabled t ps qs
are_of t done [] [] a = tt
are_of t done [] (q ∷ qs) a = a
are_of t done (p ∷ ps) [] a = a
are_of t done (p ∷ ps) (q ∷ qs) (n, _, a, rest) = (record { name = n; columns_are = a.cols; root = a.root }, are_of t (done ++ q ∷ []) ps qs rest)

-- a source declares the predicates of its table
pub declared_are_of : DeclaredAreOf
declared_are_of source t ps a d = are_of t [] ps t.preds (all_agreed source ps t a.text d)

-- and an accepted one declares some
pub accepted_declare : AcceptedDeclare
accepted_declare source t a = let d = declares_some source t a.text in (d.0, d.1, declared_are_of source t d.0 a d.1)
