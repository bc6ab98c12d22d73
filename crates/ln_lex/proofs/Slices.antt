-- Spans rise, and each is the slice of its token.
use Rattle.std.proofs.Common.{ℕ, ◌-◌, List, [], ◌∷◌, drop, arith, length-drop, All}
use Rattle.std.proofs.lemmas.List.Elements.{All-nil, All-cons}
use Rattle.ln_lex.specs.declared.token.Token.{Token}
use Rattle.ln_lex.specs.Tokens.{IsFirst, Stand, IsSlice, RiseFrom}

-- the token at a place is its slice
slice_of : (bytes : List ℕ) (t : Token) → IsFirst (drop t.span.start bytes) (t.span.end - t.span.start) t.kind → IsSlice bytes t
slice_of bytes t f = record { some = omega (arith, f.some); within = omega (arith, f.some, f.within, length-drop t.span.start bytes); text = f.spelt }

-- each token that is in the bytes is its slice
pub stand_slices : (bytes : List ℕ) (at : ℕ) (ts : List Token) (to : ℕ) → Stand bytes at ts to → All (IsSlice bytes) ts
stand_slices bytes at [] to s = All-nil (IsSlice bytes)
stand_slices bytes at (t ∷ ts) to s = All-cons (IsSlice bytes) t ts (slice_of bytes t s.3) (stand_slices bytes t.span.end ts to s.4)

-- the spans of tokens that are in the bytes rise
pub stand_rises : (bytes : List ℕ) (at : ℕ) (ts : List Token) (to : ℕ) → Stand bytes at ts to → RiseFrom at ts
stand_rises bytes at [] to s = tt
stand_rises bytes at (t ∷ ts) to s = (s.0, omega (arith, s.3.some), stand_rises bytes t.span.end ts to s.4)
