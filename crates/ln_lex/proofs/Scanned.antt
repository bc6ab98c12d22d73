-- What holds while the scanner goes from token to token.
use Rattle.std.proofs.Common.{◌≡◌, ℕ, ◌+◌, ◌-◌, ◌<◌, ◌≤◌, List, [], ◌∷◌, ◌++◌, length, drop, refl, sym, arith, subst}
use Rattle.std.proofs.Common.{length-drop, length-append}
use Rattle.ln_base.specs.Limits.{most_tokens}
use Rattle.ln_lex.specs.declared.token.Kind.{Kind}
use Rattle.ln_lex.specs.declared.token.Token.{Token}
use Rattle.ln_lex.specs.Tokens.{IsFirst, Skips, Stand}

-- the bytes before this place are these tokens
pub record Scanned (bytes : List ℕ) (ts : List Token) (at : ℕ) : Type 0 where
  pub within : at ≤ length bytes
  pub few : length ts ≤ most_tokens
  pub tokens : Stand bytes 0 ts at

-- one token more comes after the last
stand_more : (bytes : List ℕ) (at : ℕ) (ts : List Token) (to : ℕ) (t : Token) → Stand bytes at ts to
    → to ≤ t.span.start → Skips (drop to bytes) (t.span.start - to) → t.span.start ≤ t.span.end
    → IsFirst (drop t.span.start bytes) (t.span.end - t.span.start) t.kind → Stand bytes at (ts ++ t ∷ []) t.span.end
stand_more bytes at [] to t s a g b f =
    let a2 : at ≤ t.span.start = omega (arith, s, a) in
    let g2 : Skips (drop at bytes) (t.span.start - at) = subst (λ (w : ℕ). Skips (drop w bytes) (t.span.start - w)) (sym s) g in
    (a2, g2, b, f, refl)
stand_more bytes at (u ∷ us) to t s a g b f = (s.0, s.1, s.2, s.3, stand_more bytes u.span.end us to t s.4 a g b f)

-- a gap and a token more are scanned
pub scanned_more : {bytes gap_bytes rest : List ℕ} {ts : List Token} {at g n : ℕ} {k : Kind} {t : Token} → Scanned bytes ts at
    → length ts < most_tokens → gap_bytes ≡ drop at bytes → Skips gap_bytes g → rest ≡ drop (at + g) bytes → IsFirst rest n k
    → t ≡ record { kind = k; span = record { start = at + g; end = at + g + n } } → Scanned bytes (ts ++ t ∷ []) (at + g + n)
scanned_more {bytes = bytes} {ts = ts} {at = at} {g = g} {n = n} {k = k} {t = t} s w e d r f q =
    let f2 : IsFirst (drop (at + g) bytes) n k = rw (← r) f in
    let d2 : Skips (drop at bytes) g = rw (← e) d in
    let dg : (at + g) - at ≡ g = omega arith in
    let dn : (at + g + n) - (at + g) ≡ n = omega arith in
    let d3 : Skips (drop at bytes) ((at + g) - at) = subst (λ (v : ℕ). Skips (drop at bytes) v) (sym dg) d2 in
    let f3 : IsFirst (drop (at + g) bytes) ((at + g + n) - (at + g)) k = subst (λ (v : ℕ). IsFirst (drop (at + g) bytes) v k) (sym dn) f2 in
    let u : Token = record { kind = k; span = record { start = at + g; end = at + g + n } } in
    let more : Stand bytes 0 (ts ++ u ∷ []) (at + g + n) = stand_more bytes 0 ts at u s.tokens (omega arith) d3 (omega arith) f3 in
    record { within = omega (arith, f2.within, f2.some, length-drop (at + g) bytes); few = omega (arith, w, length-append ts (t ∷ [])); tokens = rw q more }
