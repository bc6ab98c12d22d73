-- What is said of a record: each record has something that is said of it, and that is one.
use Rattle.std.proofs.Common.{◌≡◌, ℕ, List, Result, Ok, Err, Option, refl, ap, sym, subst}
use Rattle.ln_tree.specs.Row.{Row}
use Rattle.ln_tree.specs.Table.{PredOf}
use Rattle.ln_code.specs.declared.verdict.Verdict.{Verdict}
use Rattle.ln_rows.specs.Record.{read_row}
use Rattle.ln_rows.specs.declared.record.RowStop.{RowStop}
use Rattle.ln_top.specs.Target.Line.{SaysOf, due, is_bare, refused_}
use Rattle.ln_top.specs.Signs.Rows.{SaysLine}

-- a record is read as one row
pub same_row : (r s : Row) (o : Result Row RowStop) → o ≡ Ok r → o ≡ Ok s → r ≡ s
same_row r s o e f = cc

-- or as none for one reason
pub same_stop : (r s : RowStop) (o : Result Row RowStop) → o ≡ Err r → o ≡ Err s → r ≡ s
same_stop r s o e f = cc

-- and not as both
pub not_both : (r : Row) (s : RowStop) (o : Result Row RowStop) → o ≡ Ok r → o ≡ Err s → ⊥
not_both r s o e f = cc

-- a record is read as a row, or not
pub by_read : {X : Type 0} (p : PredOf) (fields : List (List ℕ)) → ((row : Row) → read_row p.sites p.vars fields ≡ Ok row → X)
    → ((stop : RowStop) → read_row p.sites p.vars fields ≡ Err stop → X) → X
by_read {X = X} p fields f g = go (read_row p.sites p.vars fields) refl
  where
    go : (o : Result Row RowStop) → read_row p.sites p.vars fields ≡ o → X
    go (Ok row) e = f row e
    go (Err stop) e = g stop e

-- where each row is owed something, a record is
pub said_there : {T : Type 0} (IsOwed : Row → T → Type 0) (p : PredOf) (fields : List (List ℕ))
    → ((row : Row) → read_row p.sites p.vars fields ≡ Ok row → (v : T) × IsOwed row v) → (said : Result T RowStop) × SaysOf IsOwed p fields said
said_there IsOwed p fields f =
    by_read p fields (λ row e. let v = f row e in (Ok v.0, due row v.0 e v.1)) (λ stop e. (Err stop, refused_ stop e))

-- what is said has a line
pub line_of : {T : Type 0} {IsTrueOf : T → Type 0} (verdict_in : T → Option Verdict) (text_for : T → List ℕ) → (said : T) × IsTrueOf said
    → (shown : Option Verdict) × (text : List ℕ) × SaysLine IsTrueOf verdict_in text_for shown text
line_of verdict_in text_for s = (_, _, record { said = s.0; says = s.1; shows = refl; is = refl })

-- two things that are said of a record are alike, where what rows are owed is
pub says_alike : {T : Type 0} {IsOwed : Row → T → Type 0} (p : PredOf) (fields : List (List ℕ)) (R : Result T RowStop → Result T RowStop → Type 0)
    → ((row : Row) (v w : T) → read_row p.sites p.vars fields ≡ Ok row → IsOwed row v → IsOwed row w → R (Ok v) (Ok w))
    → ((stop : RowStop) → R (Err stop) (Err stop)) → (x y : Result T RowStop) → SaysOf IsOwed p fields x → SaysOf IsOwed p fields y → R x y
says_alike {IsOwed = IsOwed} p fields R f g (Ok v) (Ok w) (due r _ e d) (due s _ h k) =
    f r v w e d (subst (λ z. IsOwed z w) (same_row s r (read_row p.sites p.vars fields) h e) k)
says_alike p fields R f g (Ok v) (Err s) (due r _ e d) (refused_ _ h) = absurd (not_both r s (read_row p.sites p.vars fields) e h)
says_alike p fields R f g (Err s) (Ok v) (refused_ _ h) (due r _ e d) = absurd (not_both r s (read_row p.sites p.vars fields) e h)
says_alike p fields R f g (Err s) (Err t) (refused_ _ e) (refused_ _ h) =
    subst (λ z. R (Err s) (Err z)) (same_stop s t (read_row p.sites p.vars fields) e h) (g s)

-- what is said of a record names a column where the record's fault does
pub bare_same : {T : Type 0} {IsOwed : Row → T → Type 0} (p : PredOf) (fields : List (List ℕ)) {said : Result T RowStop}
    → SaysOf IsOwed p fields said → is_bare said ≡ is_bare (read_row p.sites p.vars fields)
bare_same p fields (due row v read d) = sym (ap is_bare read)
bare_same p fields (refused_ stop read) = sym (ap is_bare read)
