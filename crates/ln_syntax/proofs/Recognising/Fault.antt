-- Where the automaton stops is the place of the fault: each state has tokens that finish the file.
use Rattle.std.proofs.Common.{◌≡◌, ℕ, zero, suc, ◌+◌, ◌<◌, ◌≤◌, Bool, true, false, List, [], ◌∷◌, ◌++◌, length, slice_index_or}
use Rattle.std.proofs.Common.{take, Some, None, refl, ap, sym, ◌∙◌, subst, arith, inl, inr}
use Rattle.std.proofs.Math.Seq.{take-length}
use Rattle.std.proofs.lemmas.Bool.{cases_lt}
use Rattle.std.proofs.lemmas.List.{append-nil}
use Rattle.ln_syntax.specs.Raw.{Token, Is, Kind, Name, Number, Sign, BraceL, BraceR, ParL, ParR, Colon, Semi, Dots, Equals}
use Rattle.ln_syntax.specs.declared.place.Ranged.{Ranged}
use Rattle.ln_syntax.specs.declared.place.Ranged.TheVariants.{Coordinate, Parameter}
use Rattle.ln_syntax.specs.declared.place.Part.{Part}
use Rattle.ln_syntax.specs.declared.place.Part.TheVariants.{Value, Root}
use Rattle.ln_syntax.specs.declared.place.Last.{Last}
use Rattle.ln_syntax.specs.declared.place.Last.TheVariants.{Whole, Raised}
use Rattle.ln_syntax.specs.declared.place.State.{State}
use Rattle.ln_syntax.specs.declared.place.State.TheVariants.{AnItem, SiteName, SiteOpen, CoordName, CoordColon, CoordOrEnd, ParamName, ParamColon, Low}
use Rattle.ln_syntax.specs.declared.place.State.TheVariants.{LowNumber, Between, High, HighNumber, RangeEnd, PredicateName, PredicateOpen, ArgName, ArgColon}
use Rattle.ln_syntax.specs.declared.place.State.TheVariants.{ArgKind, ArgEnd, BodyOpen, Body, LetName, LetEquals, Operand, InputName, Exponent, After, BodyEnd}
use Rattle.ln_base.specs.Prefixes.{IsPrefixOf}
use Rattle.ln_syntax.specs.Place.{IsText, IsSyntaxFault}
use Rattle.ln_syntax.specs.Automaton.{Standing, next_of, next_at, goes, start, is_end}
use Rattle.ln_syntax.proofs.Recognising.Walk.{goes_append, goes_none, whole}
use Rattle.ln_syntax.proofs.Recognising.Builds.{text}

abbrev token : Kind → Token
token k = record { kind = k; span = record { start = 0; end = 0 } }

-- the sign part and the end of a predicate
abbrev body : List Token
body = token Sign ∷ token Number ∷ token Semi ∷ token BraceR ∷ []

-- what ends an expression, and then the file
abbrev ending : Part → List Token
ending Root = token Semi ∷ token BraceR ∷ []
ending Value = token Semi ∷ body

-- what closes the parentheses, and then ends the expression and the file
abbrev closers : Part → ℕ → List Token
closers p zero = ending p
closers p (suc d) = token ParR ∷ closers p d

abbrev range_end : Ranged → List Token
range_end Coordinate = token Semi ∷ token BraceR ∷ []
range_end Parameter = token Semi ∷ []

abbrev between : Ranged → List Token
between r = token Dots ∷ token Number ∷ range_end r

abbrev arg_end : List Token
arg_end = token ParR ∷ token BraceL ∷ body

-- what makes a file of what was read
abbrev finish : State → ℕ → List Token
finish AnItem d = []
finish SiteName d = token Name ∷ token BraceL ∷ token Name ∷ token Colon ∷ token Number ∷ between Coordinate
finish SiteOpen d = token BraceL ∷ token Name ∷ token Colon ∷ token Number ∷ between Coordinate
finish CoordName d = token Name ∷ token Colon ∷ token Number ∷ between Coordinate
finish CoordColon d = token Colon ∷ token Number ∷ between Coordinate
finish CoordOrEnd d = token BraceR ∷ []
finish ParamName d = token Name ∷ token Colon ∷ token Number ∷ between Parameter
finish ParamColon d = token Colon ∷ token Number ∷ between Parameter
finish (Low r) d = token Number ∷ between r
finish (LowNumber r) d = token Number ∷ between r
finish (Between r) d = between r
finish (High r) d = token Number ∷ range_end r
finish (HighNumber r) d = token Number ∷ range_end r
finish (RangeEnd r) d = range_end r
finish PredicateName d = token Name ∷ token ParL ∷ token Name ∷ token Colon ∷ token Name ∷ arg_end
finish PredicateOpen d = token ParL ∷ token Name ∷ token Colon ∷ token Name ∷ arg_end
finish ArgName d = token Name ∷ token Colon ∷ token Name ∷ arg_end
finish ArgColon d = token Colon ∷ token Name ∷ arg_end
finish ArgKind d = token Name ∷ arg_end
finish ArgEnd d = arg_end
finish BodyOpen d = token BraceL ∷ body
finish Body d = body
finish LetName d = token Name ∷ token Equals ∷ token Number ∷ ending Value
finish LetEquals d = token Equals ∷ token Number ∷ ending Value
finish (Operand p) d = token Number ∷ closers p d
finish (InputName p) d = token Name ∷ closers p d
finish (Exponent p) d = token Number ∷ closers p d
finish (After p l) d = closers p d
finish BodyEnd d = token BraceR ∷ []

-- these tokens take the automaton from this state to its end
record Finished (s : State) (d : ℕ) (us : List Token) : Type 0 where
  depth : ℕ
  comes : goes (Some (s, d)) us ≡ Some (AnItem, depth)

closes : (p : Part) (l : Last) (d : ℕ) → Finished (After p l) d (closers p d)
closes Root l zero = record { depth = 0; comes = refl }
closes Value l zero = record { depth = 0; comes = refl }
closes p l (suc d) = let r = closes p Whole d in record { depth = r.depth; comes = r.comes }

finished : (s : State) (d : ℕ) → Finished s d (finish s d)
finished (Operand p) d = let r = closes p Whole d in record { depth = r.depth; comes = r.comes }
finished (InputName p) d = let r = closes p Whole d in record { depth = r.depth; comes = r.comes }
finished (Exponent p) d = let r = closes p Raised d in record { depth = r.depth; comes = r.comes }
finished (After p l) d = closes p l d
finished (Low Coordinate) d = record { depth = d; comes = refl }
finished (Low Parameter) d = record { depth = d; comes = refl }
finished (LowNumber Coordinate) d = record { depth = d; comes = refl }
finished (LowNumber Parameter) d = record { depth = d; comes = refl }
finished (Between Coordinate) d = record { depth = d; comes = refl }
finished (Between Parameter) d = record { depth = d; comes = refl }
finished (High Coordinate) d = record { depth = d; comes = refl }
finished (High Parameter) d = record { depth = d; comes = refl }
finished (HighNumber Coordinate) d = record { depth = d; comes = refl }
finished (HighNumber Parameter) d = record { depth = d; comes = refl }
finished (RangeEnd Coordinate) d = record { depth = d; comes = refl }
finished (RangeEnd Parameter) d = record { depth = d; comes = refl }
finished s d = record { depth = _; comes = refl }

-- what takes the automaton to a state is a prefix of a file
front : (xs : List Token) (s : State) (d : ℕ) → goes start xs ≡ Some (s, d) → IsPrefixOf IsText xs
front xs s d e =
    let f = finished s d in
    (finish s d, text (xs ++ finish s d) f.depth (goes_append start xs (finish s d) ∙ ap (λ (o : Standing). goes o (finish s d)) e ∙ f.comes))

-- what takes it nowhere is not
dead : (xs : List Token) → goes start xs ≡ None → IsPrefixOf IsText xs → ⊥
dead xs e f =
    let b = whole f.1 in
    let a : goes start (xs ++ f.0) ≡ None = goes_append start xs f.0 ∙ ap (λ (o : Standing). goes o f.0) e ∙ goes_none f.0 in
    cc

taken : (ts : List Token) (i : ℕ) (k : Kind) (o : Standing) → Is ts i k → goes o (take (suc i) ts) ≡ next_at (goes o (take i ts)) k
taken [] i k o is = absurd (cc)
taken (t ∷ ts) zero k o is = let e : t.kind ≡ k = cc in ap (λ (w : Kind). next_at o w) e
taken (t ∷ ts) (suc i) k o is = taken ts i k (next_at o t.kind) is

-- one more token is read
pub walked_more : (ts : List Token) (i : ℕ) (k : Kind) (s u : State) (d v : ℕ) → goes start (take i ts) ≡ Some (s, d) → Is ts i k
    → next_of s d k ≡ Some (u, v) → goes start (take (i + 1) ts) ≡ Some (u, v)
walked_more ts i k s u d v w is n =
    let e : i + 1 ≡ suc i = omega arith in
    ap (λ (m : ℕ). goes start (take m ts)) e ∙ taken ts i k start is ∙ ap (λ (o : Standing). next_at o k) w ∙ n

-- a token with which the automaton doesn't go on is the fault
pub fault_at : (ts : List Token) (i : ℕ) (k : Kind) (s : State) (d : ℕ) → i < length ts → goes start (take i ts) ≡ Some (s, d) → Is ts i k
    → next_of s d k ≡ None → IsSyntaxFault ts i
fault_at ts i k s d h w is n = record {
  within = omega arith;
  front = front (take i ts) s d w;
  refused = λ l. dead (take (suc i) ts) (taken ts i k start is ∙ ap (λ (o : Standing). next_at o k) w ∙ n);
  unfinished = λ e. absurd (omega arith);
}

abbrev ends_at : Standing → Bool
ends_at None = false
ends_at (Some c) = is_end c.0

at_end : (s : State) (d : ℕ) (o : Standing) → is_end s ≡ false → o ≡ Some (s, d) → o ≡ Some (AnItem, 0) → ⊥
at_end s d o n e f =
    let p : ends_at o ≡ is_end s = ap ends_at e in
    let q : ends_at o ≡ true = ap ends_at f in cc

-- tokens after which the automaton is not at its end have the fault at their end
pub fault_end : (ts : List Token) (s : State) (d : ℕ) → goes start (take (length ts) ts) ≡ Some (s, d) → is_end s ≡ false → IsSyntaxFault ts (length ts)
fault_end ts s d w n = record {
  within = omega arith;
  front = front (take (length ts) ts) s d w;
  refused = λ l. absurd (omega arith);
  unfinished = λ e t.
      let v : goes start ts ≡ Some (s, d) = subst (λ (x : List Token). goes start x ≡ Some (s, d)) (take-length ts) w in
      at_end s d (goes start ts) n v (whole t);
}

-- tokens after which it is at its end are a file
pub is_text : (ts : List Token) (s : State) (d : ℕ) → goes start (take (length ts) ts) ≡ Some (s, d) → is_end s ≡ true → IsText ts
is_text ts s d w n = ended s d (goes start ts) n (subst (λ (x : List Token). goes start x ≡ Some (s, d)) (take-length ts) w) (λ e. text ts d e)
  where
    ended : {T : Type 0} (s : State) (d : ℕ) (o : Standing) → is_end s ≡ true → o ≡ Some (s, d) → (o ≡ Some (AnItem, d) → T) → T
    ended AnItem d o n e f = f e
    ended s d o n e f = absurd (cc)

shorter : (ts : List Token) (i j : ℕ) → i ≤ j → (us : List Token) → (vs : List Token) × (take j ts ++ us ≡ take i ts ++ vs)
shorter ts zero j h us = (take j ts ++ us, refl)
shorter [] (suc i) zero h us = absurd (omega arith)
shorter [] (suc i) (suc j) h us = (us, refl)
shorter (t ∷ ts) (suc i) zero h us = absurd (omega arith)
shorter (t ∷ ts) (suc i) (suc j) h us = let r = shorter ts i j (omega arith) us in (r.0, ap (λ (w : List Token). t ∷ w) r.1)

-- a prefix of a prefix is a prefix
front_of : (ts : List Token) (i j : ℕ) → i ≤ j → IsPrefixOf IsText (take j ts) → IsPrefixOf IsText (take i ts)
front_of ts i j h f = let r = shorter ts i j h f.0 in (r.0, subst (λ (w : List Token). IsText w) r.1 f.1)

earlier : (ts : List Token) (i j : ℕ) → IsSyntaxFault ts i → IsSyntaxFault ts j → i < j → ⊥
earlier ts i j f g h = f.refused (omega (arith, g.within)) (front_of ts (suc i) j (omega arith) g.front)

-- there is one place at most
pub one_place : (ts : List Token) (i j : ℕ) → IsSyntaxFault ts i → IsSyntaxFault ts j → i ≡ j
one_place ts i j f g =
    let a = earlier ts i j f g in
    let b = earlier ts j i g f in omega arith

-- the token that a loop has taken is of its kind
pub is_at : (ts : List Token) (i : ℕ) (x : Token) → i < length ts → Is ts i (slice_index_or ts i x).kind
is_at [] i x h = absurd (omega arith)
is_at (t ∷ ts) zero x h = refl
is_at (t ∷ ts) (suc i) x h = is_at ts i x (omega arith)

-- there is none in a file
pub no_text : (ts : List Token) (i : ℕ) → IsSyntaxFault ts i → IsText ts → ⊥
no_text ts i f t = elim (cases_lt i (length ts)) [
  | inl h ↦ f.refused h (front_of ts (suc i) (length ts) (omega arith)
      ([], subst (λ (w : List Token). IsText w) (sym (append-nil (take (length ts) ts) ∙ take-length ts)) t))
  | inr h ↦ f.unfinished (omega (arith, f.within)) t
]
