-- No bytes have two results.
use Rattle.std.proofs.Common.{◌≡◌, ℕ, suc, ◌+◌, ◌-◌, ◌<◌, ◌≤◌, ◌==◌, Bool, true, false, List, [], ◌∷◌, length, take, drop, Some, None, refl}
use Rattle.std.proofs.Common.{ap, sym, ◌∙◌, arith, subst, length-drop, inl, inr}
use Rattle.std.proofs.lemmas.Bool.{cases_order}
use Rattle.std.proofs.lemmas.Bool.Decides.{nat_tests}
use Rattle.std.proofs.lemmas.List.{drop-drop}
use Rattle.ln_base.specs.Limits.{most_tokens}
use Rattle.ln_lex.specs.declared.token.Kind.{Kind}
use Rattle.ln_lex.specs.declared.token.Token.{Token}
use Rattle.ln_lex.specs.Tokens.{is_blank, kind_of, comment_len, begins_comment, begins_blank, IsFirst, BeginsNone, Skips, nothing, blank}
use Rattle.ln_lex.specs.Tokens.{comment, Stand, Lexed, Behind, IsLexFault, IsLexLimit}
use Rattle.ln_lex.proofs.Longest.{no_sign}

-- neither blank nor comment begins here
record Ends (xs : List ℕ) : Type 0 where
  pub no_blank : begins_blank xs ≡ false
  pub no_comment : begins_comment xs ≡ false

-- a blank is no comment
either : (xs : List ℕ) → begins_blank xs ≡ true → begins_comment xs ≡ true → ⊥
either [] a b = cc
either (x ∷ []) a b = cc
either (x ∷ y ∷ ys) a b = grind (arith, nat_tests)

-- where neither begins, seen from an earlier place
later : (xs : List ℕ) (k n t : ℕ) → t ≡ k + n → Ends (drop t xs) → Ends (drop n (drop k xs))
later xs k n t e h = rw drop-drop (rw (← e) h)

-- blanks and comments up to where neither begins have one length
skips_same : {xs : List ℕ} {n m : ℕ} → Skips xs n → Skips xs m → Ends (drop n xs) → Ends (drop m xs) → n ≡ m
skips_same nothing nothing p q = refl
skips_same nothing (blank b d) p q = absurd (let h = p.no_blank in cc)
skips_same nothing (comment b e d) p q = absurd (let h = p.no_comment in cc)
skips_same (blank b d) nothing p q = absurd (let h = q.no_blank in cc)
skips_same {xs = xs} (blank {n = n} b d) (blank {n = m} c e) p q =
    ap suc (skips_same d e (later xs 1 n (suc n) (omega arith) p) (later xs 1 m (suc m) (omega arith) q))
skips_same {xs = xs} (blank b d) (comment c e f) p q = absurd (either xs b c)
skips_same (comment b e d) nothing p q = absurd (let h = q.no_comment in cc)
skips_same {xs = xs} (comment b e d) (blank c f) p q = absurd (either xs c b)
skips_same {xs = xs} {n = s} {m = t} (comment {n = n} b e d) (comment {n = m} c f g) p q =
    let r = skips_same d g (later xs (comment_len xs) n s e p) (later xs (comment_len xs) m t f q) in
    e ∙ ap (λ (w : ℕ). comment_len xs + w) r ∙ sym f

-- a blank begins no token
blank_none : (b : ℕ) (bs : List ℕ) (n : ℕ) → is_blank b ≡ true → kind_of (take n (b ∷ bs)) ≡ None
blank_none b bs n h = no_sign b bs (grind (arith, nat_tests)) (grind (arith, nat_tests)) (grind (arith, nat_tests)) (grind (arith, nat_tests)) n

-- a slash begins no token
slash_none : (b : ℕ) (bs : List ℕ) (n : ℕ) → (b == 47) ≡ true → kind_of (take n (b ∷ bs)) ≡ None
slash_none b bs n h = no_sign b bs (grind (arith, nat_tests)) (grind (arith, nat_tests)) (grind (arith, nat_tests)) (grind (arith, nat_tests)) n

-- what begins with a token begins with no blank
blank_by : (xs : List ℕ) (n : ℕ) (k : Kind) (v : Bool) → begins_blank xs ≡ v → kind_of (take n xs) ≡ Some k → begins_blank xs ≡ false
blank_by xs n k false e h = e
blank_by [] n k true e h = refl
blank_by (x ∷ xs) n k true e h = absurd (let g = blank_none x xs n e in cc)

-- what begins with a token begins with no comment
comment_by : (xs : List ℕ) (n : ℕ) (k : Kind) (v : Bool) → begins_comment xs ≡ v → kind_of (take n xs) ≡ Some k → begins_comment xs ≡ false
comment_by xs n k false e h = e
comment_by [] n k true e h = refl
comment_by (x ∷ []) n k true e h = refl
comment_by (x ∷ y ∷ ys) n k true e h = absurd (let q : (x == 47) ≡ true = grind (arith, nat_tests) in let g = slash_none x (y ∷ ys) n q in cc)

-- where a token begins, neither blank nor comment does
first_ends : (xs : List ℕ) (n : ℕ) (k : Kind) → IsFirst xs n k → Ends xs
first_ends xs n k f = record { no_blank = blank_by xs n k (begins_blank xs) refl f.spelt; no_comment = comment_by xs n k (begins_comment xs) refl f.spelt }

-- a token at the beginning is no longer than another
not_below : (xs : List ℕ) (n m : ℕ) (k l : Kind) → IsFirst xs n k → IsFirst xs m l → n < m → ⊥
not_below xs n m k l f g h = let e = f.longest m h g.within in let q = g.spelt in cc

-- the token at the beginning has one length
first_same : (xs : List ℕ) (n m : ℕ) (k l : Kind) → IsFirst xs n k → IsFirst xs m l → n ≡ m
first_same xs n m k l f g = elim (cases_order n m) [
  | inl e ↦ e
  | inr d ↦ elim d [ inl h ↦ absurd (not_below xs n m k l f g h) | inr h ↦ absurd (not_below xs m n l k g f h) ]
]

-- at the end neither begins
at_end : (bytes : List ℕ) → Ends (drop (length bytes) bytes)
at_end [] = record { no_blank = refl; no_comment = refl }
at_end (x ∷ xs) = at_end xs

-- where neither begins, seen from where the gap begins
ends_at : (bytes : List ℕ) (a s : ℕ) → a ≤ s → Ends (drop s bytes) → Ends (drop (s - a) (drop a bytes))
ends_at bytes a s h e = later bytes a (s - a) s (omega arith) e

-- from one place blanks and comments lead to one place
gap_same : (bytes : List ℕ) (a s t : ℕ) → a ≤ s → a ≤ t → Skips (drop a bytes) (s - a) → Skips (drop a bytes) (t - a) → Ends (drop s bytes)
    → Ends (drop t bytes) → s ≡ t
gap_same bytes a s t h i d e p q = let r = skips_same d e (ends_at bytes a s h p) (ends_at bytes a t i q) in omega arith

-- tokens with the same kind and span are one
same_token : (t u : Token) → t.kind ≡ u.kind → t.span.start ≡ u.span.start → t.span.end ≡ u.span.end → t ≡ u
same_token t u a b c =
    let f : Kind → ℕ → ℕ → Token = λ k s e. record { kind = k; span = record { start = s; end = e } } in
    let e : f t.kind t.span.start t.span.end ≡ f u.kind u.span.start u.span.end = rw (a, b, c) refl in e

-- two tokens after one place are one
next_same : (bytes : List ℕ) (a : ℕ) (t u : Token) → a ≤ t.span.start → Skips (drop a bytes) (t.span.start - a) → t.span.start ≤ t.span.end
    → IsFirst (drop t.span.start bytes) (t.span.end - t.span.start) t.kind
    → a ≤ u.span.start → Skips (drop a bytes) (u.span.start - a) → u.span.start ≤ u.span.end
    → IsFirst (drop u.span.start bytes) (u.span.end - u.span.start) u.kind → t ≡ u
next_same bytes a t u h d b f i e c g =
    let s = gap_same bytes a t.span.start u.span.start h i d e (first_ends _ _ _ f) (first_ends _ _ _ g) in
    let g2 : IsFirst (drop t.span.start bytes) (u.span.end - u.span.start) u.kind =
    subst (λ (w : ℕ). IsFirst (drop w bytes) (u.span.end - u.span.start) u.kind) (sym s) g in
    let n = first_same _ _ _ _ _ f g2 in
    let k : t.kind ≡ u.kind = let p = f.spelt in
    let q : kind_of (take (t.span.end - t.span.start) (drop t.span.start bytes)) ≡ Some u.kind = rw n g2.spelt in
    cc in
    same_token t u k s (omega arith)

-- from place `at` on there are these tokens, and a gap after them leads to place i, where neither blank nor comment begins
abbrev Leads : List ℕ → ℕ → List Token → ℕ → Type 0
Leads bytes at [] i = (at ≤ i) × Skips (drop at bytes) (i - at) × Ends (drop i bytes)
Leads bytes at (t ∷ ts) i =
    (at ≤ t.span.start) × Skips (drop at bytes) (t.span.start - at) × (t.span.start ≤ t.span.end)
    × IsFirst (drop t.span.start bytes) (t.span.end - t.span.start) t.kind × Leads bytes t.span.end ts i

-- tokens that are there, with a gap after them, lead to its end
leads_by : (bytes : List ℕ) (at : ℕ) (ts : List Token) (to i : ℕ) → Stand bytes at ts to → to ≤ i → Skips (drop to bytes) (i - to)
    → Ends (drop i bytes) → Leads bytes at ts i
leads_by bytes at [] to i s h d e =
    let d2 : Skips (drop at bytes) (i - at) = subst (λ (w : ℕ). Skips (drop w bytes) (i - w)) (sym s) d in
    (omega (arith, s, h), d2, e)
leads_by bytes at (t ∷ ts) to i s h d e = (s.0, s.1, s.2, s.3, leads_by bytes t.span.end ts to i s.4 h d e)

-- the bytes' tokens lead to the end
list_leads : (bytes : List ℕ) (ts : List Token) → Lexed bytes ts → Leads bytes 0 ts (length bytes)
list_leads bytes ts l = leads_by bytes 0 ts l.to (length bytes) l.tokens l.within l.rest (at_end bytes)

-- tokens with a byte after them lead to it
behind_leads : (bytes : List ℕ) (ts : List Token) (i : ℕ) → Behind bytes ts i → Leads bytes 0 ts i
behind_leads bytes ts i b = leads_by bytes 0 ts b.to i b.tokens b.order b.gap (record { no_blank = b.no_blank; no_comment = b.no_comment })

-- as many tokens from one place are the same, and lead to one place
same_tokens : (bytes : List ℕ) (at : ℕ) (ts us : List Token) (i j : ℕ) → Leads bytes at ts i → Leads bytes at us j → length ts ≡ length us → (ts ≡ us) × (i ≡ j)
same_tokens bytes at [] [] i j l m n = (refl, gap_same bytes at i j l.0 m.0 l.1 m.1 l.2 m.2)
same_tokens bytes at [] (u ∷ us) i j l m n = absurd (omega arith)
same_tokens bytes at (t ∷ ts) [] i j l m n = absurd (omega arith)
same_tokens bytes at (t ∷ ts) (u ∷ us) i j l m n =
    let q = next_same bytes at t u l.0 l.1 l.2 l.3 m.0 m.1 m.2 m.3 in
    let m4 : Leads bytes t.span.end us j = subst (λ (w : Token). Leads bytes w.span.end us j) (sym q) m.4 in
    let r = same_tokens bytes t.span.end ts us i j l.4 m4 (omega arith) in
    let e : ts ≡ us = r.0 in
    (rw (q, e) refl, r.1)

-- a token begins at the beginning
record Begins (xs : List ℕ) : Type 0 where
  pub n : ℕ
  pub kind : Kind
  pub token : IsFirst xs n kind

-- where fewer tokens lead, one more begins
one_more : (bytes : List ℕ) (at : ℕ) (ts us : List Token) (i j : ℕ) → Leads bytes at ts i → Leads bytes at us j → length ts < length us → Begins (drop i bytes)
one_more bytes at [] [] i j l m n = absurd (omega arith)
one_more bytes at (t ∷ ts) [] i j l m n = absurd (omega arith)
one_more bytes at [] (u ∷ us) i j l m n =
    let r = gap_same bytes at i u.span.start l.0 m.0 l.1 m.1 l.2 (first_ends _ _ _ m.3) in
    let f : IsFirst (drop i bytes) (u.span.end - u.span.start) u.kind =
    subst (λ (v : ℕ). IsFirst (drop v bytes) (u.span.end - u.span.start) u.kind) (sym r) m.3 in
    record { n = u.span.end - u.span.start; kind = u.kind; token = f }
one_more bytes at (t ∷ ts) (u ∷ us) i j l m n =
    let q = next_same bytes at t u l.0 l.1 l.2 l.3 m.0 m.1 m.2 m.3 in
    let m4 : Leads bytes t.span.end us j = subst (λ (w : Token). Leads bytes w.span.end us j) (sym q) m.4 in
    one_more bytes t.span.end ts us i j l.4 m4 (omega arith)

-- no token begins where the bytes end
none_at_end : (bytes : List ℕ) → Begins (drop (length bytes) bytes) → ⊥
none_at_end bytes b = let f = b.token in omega (arith, f.some, f.within, length-drop (length bytes) bytes)

-- where no first bytes are a token, none begins
none_at_fault : (xs : List ℕ) → BeginsNone xs → Begins xs → ⊥
none_at_fault xs none b = let f = b.token in let no = none b.n f.within in let yes = f.spelt in cc

-- two lists of tokens of the same bytes are one
pub one_list : (bytes : List ℕ) (ts us : List Token) → Lexed bytes ts → Lexed bytes us → ts ≡ us
one_list bytes ts us l m =
    let a = list_leads bytes ts l in
    let b = list_leads bytes us m in
    elim (cases_order (length ts) (length us)) [
      | inl e ↦ (same_tokens bytes 0 ts us _ _ a b e).0
      | inr d ↦ elim d [
        | inl h ↦ absurd (none_at_end bytes (one_more bytes 0 ts us _ _ a b h))
        | inr h ↦ absurd (none_at_end bytes (one_more bytes 0 us ts _ _ b a h))
      ]
    ]

-- two faults of the same bytes are at one place
pub one_fault : (bytes : List ℕ) (i j : ℕ) → IsLexFault bytes i → IsLexFault bytes j → i ≡ j
one_fault bytes i j f g =
    let a = behind_leads bytes f.before i f.behind in
    let b = behind_leads bytes g.before j g.behind in
    elim (cases_order (length f.before) (length g.before)) [
      | inl e ↦ (same_tokens bytes 0 f.before g.before i j a b e).1
      | inr d ↦ elim d [
        | inl h ↦ absurd (none_at_fault _ f.no_token (one_more bytes 0 f.before g.before i j a b h))
        | inr h ↦ absurd (none_at_fault _ g.no_token (one_more bytes 0 g.before f.before j i b a h))
      ]
    ]

-- a token too many begins at one place
pub one_limit : (bytes : List ℕ) (i j : ℕ) → IsLexLimit bytes i → IsLexLimit bytes j → i ≡ j
one_limit bytes i j f g =
    (same_tokens bytes 0 f.before g.before i j (behind_leads bytes f.before i f.behind) (behind_leads bytes g.before j g.behind) (f.many ∙ sym g.many)).1

-- bytes with a list of tokens have no fault
pub list_or_fault : (bytes : List ℕ) (ts : List Token) (i : ℕ) → Lexed bytes ts → IsLexFault bytes i → ⊥
list_or_fault bytes ts i l f =
    let a = list_leads bytes ts l in
    let b = behind_leads bytes f.before i f.behind in
    let w = f.behind.within in
    elim (cases_order (length ts) (length f.before)) [
      | inl e ↦ (let r = (same_tokens bytes 0 ts f.before _ i a b e).1 in omega arith)
      | inr d ↦ elim d [
        | inl h ↦ none_at_end bytes (one_more bytes 0 ts f.before _ i a b h)
        | inr h ↦ none_at_fault _ f.no_token (one_more bytes 0 f.before ts i _ b a h)
      ]
    ]

-- bytes with a list of at most 65,536 tokens have no token too many
pub list_or_limit : (bytes : List ℕ) (ts : List Token) (i : ℕ) → Lexed bytes ts → length ts ≤ most_tokens → IsLexLimit bytes i → ⊥
list_or_limit bytes ts i l few f =
    let a = list_leads bytes ts l in
    let b = behind_leads bytes f.before i f.behind in
    let w = f.behind.within in
    let m = f.many in
    elim (cases_order (length ts) (length f.before)) [
      | inl e ↦ (let r = (same_tokens bytes 0 ts f.before _ i a b e).1 in omega arith)
      | inr d ↦ elim d [ inl h ↦ none_at_end bytes (one_more bytes 0 ts f.before _ i a b h) | inr h ↦ omega arith ]
    ]

-- bytes have no fault where they have a token too many
pub fault_or_limit : (bytes : List ℕ) (i j : ℕ) → IsLexFault bytes i → IsLexLimit bytes j → ⊥
fault_or_limit bytes i j f g =
    let a = behind_leads bytes f.before i f.behind in
    let b = behind_leads bytes g.before j g.behind in
    let few = f.few in
    let m = g.many in
    elim (cases_order (length f.before) (length g.before)) [
      | inl e ↦ (let r = (same_tokens bytes 0 f.before g.before i j a b e).1 in let t : Begins (drop i bytes) =
          record { n = g.n; kind = g.kind; token = subst (λ (v : ℕ). IsFirst (drop v bytes) g.n g.kind) (sym r) g.token } in none_at_fault _ f.no_token t)
      | inr d ↦ elim d [ inl h ↦ none_at_fault _ f.no_token (one_more bytes 0 f.before g.before i j a b h) | inr h ↦ omega arith ]
    ]
