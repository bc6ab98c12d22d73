-- What an expression means is settled by how it is written.
use Rattle.std.proofs.Common.{◌≡◌, ℕ, ◌&&◌, Bool, pos, List, Option, Some, None, refl, ap}
use Rattle.std.specs.Prelude.{bytes_eq, position, find}
use Rattle.ln_syntax.specs.Raw.{Span, text}
use Rattle.ln_names.specs.Rules.{RawArg, RawLet, RawCoord, Scope, is_site_arg, is_param_arg, coords_of}
use Rattle.ln_syntax.specs.Expression.{Tree, TNum, TName, TInput, TNeg, TAdd, TSub, TMul, TPow}
use Rattle.ln_parse.specs.Says.{Formula, FNum, FInput, FName, FNeg, FAdd, FSub, FMul, FPow, place, name_of, resolved}
use Rattle.ln_parse.specs.Written.{Written, WNum, WName, WInput, WNeg, WAdd, WSub, WMul, WPow, spelling}
use Rattle.ln_parse.specs.Spanless.{no_span, spanless}

-- the place of the argument of this name among those that pass
abbrev pub arg_called : List ℕ → (RawArg → Bool) → List ℕ → RawArg → Bool
arg_called bytes p t a = p a && bytes_eq (text bytes a.name) t

-- a bare name means the let at this position, or, where there is none, the param argument of the name
abbrev pub name_meaning : List ℕ → Scope → List ℕ → Option ℕ → Formula
name_meaning bytes s t (Some j) = FName no_span j
name_meaning bytes s t None = FInput no_span (place (arg_called bytes is_param_arg t) s.args) 0

-- what an expression means where these things are in scope, without spans
abbrev pub meaning : List ℕ → Scope → Written → Formula
meaning bytes s (WNum n) = FNum no_span (pos n)
meaning bytes s (WName t) = name_meaning bytes s t (position (λ (l : RawLet). bytes_eq (text bytes l.name) t) s.lets)
meaning bytes s (WInput t x) =
    FInput no_span (place (arg_called bytes is_site_arg t) s.args)
    (place (λ (c : RawCoord). bytes_eq (text bytes c.name) x) (coords_of bytes s.items (find (arg_called bytes is_site_arg t) s.args)))
meaning bytes s (WNeg e) = FNeg no_span (meaning bytes s e)
meaning bytes s (WAdd e f) = FAdd no_span (meaning bytes s e) (meaning bytes s f)
meaning bytes s (WSub e f) = FSub no_span (meaning bytes s e) (meaning bytes s f)
meaning bytes s (WMul e f) = FMul no_span (meaning bytes s e) (meaning bytes s f)
meaning bytes s (WPow e n) = FPow no_span (meaning bytes s e) n

name_spanless : (bytes : List ℕ) (s : Scope) (at : Span) (o : Option ℕ) → spanless (name_of bytes s at o) ≡ name_meaning bytes s (text bytes at) o
name_spanless bytes s at (Some j) = refl
name_spanless bytes s at None = refl

-- an expression means what its spelling means
pub meaning_is : (bytes : List ℕ) (s : Scope) (e : Tree) → spanless (resolved bytes s e) ≡ meaning bytes s (spelling bytes e)
meaning_is bytes s (TNum at) = refl
meaning_is bytes s (TName at) = name_spanless bytes s at (position (λ (l : RawLet). bytes_eq (text bytes l.name) (text bytes at)) s.lets)
meaning_is bytes s (TInput at x) = refl
meaning_is bytes s (TNeg at e) = ap (λ (f : Formula). FNeg no_span f) (meaning_is bytes s e)
meaning_is bytes s (TAdd at e f) = let p = meaning_is bytes s e in let q = meaning_is bytes s f in rw (p, q) refl
meaning_is bytes s (TSub at e f) = let p = meaning_is bytes s e in let q = meaning_is bytes s f in rw (p, q) refl
meaning_is bytes s (TMul at e f) = let p = meaning_is bytes s e in let q = meaning_is bytes s f in rw (p, q) refl
meaning_is bytes s (TPow at e n) = let p = meaning_is bytes s e in rw p refl
