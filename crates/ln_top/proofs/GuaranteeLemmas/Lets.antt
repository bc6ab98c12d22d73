-- A let that is read links its name to its tree: names resolve as before, and its own name to it.
use Rattle.std.proofs.Common.{◌≡◌, ℕ, zero, suc, arith, ◌<◌, ◌≤◌, ◌+◌, length, Bool, true}
use Rattle.std.proofs.Common.{false, cond, nat_lt, Option, Some, None, pos, refl, ap, sym, ◌∙◌, subst}
use Rattle.std.proofs.Common.{length-append, append_assoc, append-nil}
use Rattle.std.specs.Prelude.{map, List, [], ◌∷◌, ◌++◌, Contains, codes, position, slice_index_or, bytes_eq}
use Rattle.std.specs.List.{position_or_len}
use Rattle.std.proofs.lemmas.Bool.{lt-ltb, ltb-true}
use Rattle.std.proofs.lemmas.Option.{none-some}
use Rattle.std.proofs.lemmas.Bool.Decides.{nat_tests}
use Rattle.std.proofs.Math.ListN.{get_or-append}
use Rattle.std.proofs.Math.Seq.{get_or-append_seam}
use Rattle.ln_base.specs.declared.span.Span.{Span}
use Rattle.ln_algebra.specs.Tree as algebra
use Rattle.ln_syntax.specs.declared.raw.RawArg.{RawArg}
use Rattle.ln_syntax.specs.declared.raw.RawLet.{RawLet}
use Rattle.ln_base.proofs.Texts.Lists.{equal_bytes}
use Rattle.ln_lex.specs.declared.token.Token.{Token}
use Rattle.ln_syntax.specs.Expression.{TInput, TName}
use Rattle.ln_syntax.specs.Raw.{Item, same, text}
use Rattle.ln_names.specs.Rules.{scope}
use Rattle.ln_parse.specs.Says.{LetsSay, Says, name_of, resolved}
use Rattle.ln_parse.proofs.Expressions.Found.{position_below}
use Rattle.ln_parse.proofs.ReadBack.NamePlaces.{same_bytes}
use Rattle.ln_tree.specs.declared.shape.VarInfo.{VarInfo}
use Rattle.ln_tree.specs.Formula.{Formula, tree}
use Rattle.ln_top.specs.Guarantee.{NameScope, Word}
use Rattle.ln_top.proofs.GuaranteeLemmas.Expr.{Linked, closed_tree}
use Rattle.ln_top.proofs.GuaranteeLemmas.Items.{LetsMean, a_let, no_let, ValueMeans}
use Rattle.ln_syntax.specs.declared.raw.Places.{Places}
use Rattle.ln_syntax.proofs.Spellings.OneTree.{one_tree}
use Rattle.ln_poly.specs.Expansion.{closed_root}

module _ {A : Type 0} (p : A → Bool) (x : A) where
  head_len : (y : A) (ys : List A) → p y ≡ true → position_or_len p (y ∷ ys) ≡ 0
  head_len y ys h = rw h refl

  tail_len : (y : A) (ys : List A) → p y ≡ false → position_or_len p (y ∷ ys) ≡ suc (position_or_len p ys)
  tail_len y ys h = rw h (omega arith)

  -- where no member passes, the place is that of the new one, or the end
  len_none : (xs : List A) → length xs ≤ position_or_len p xs → position_or_len p (xs ++ x ∷ []) ≡ length xs + position_or_len p (x ∷ [])
  len_none [] h = omega arith
  len_none (y ∷ ys) h = go (p y) refl (len_none ys) h
    where
      go : (b : Bool) → p y ≡ b → (length ys ≤ position_or_len p ys → position_or_len p (ys ++ x ∷ []) ≡ length ys + position_or_len p (x ∷ []))
          → suc (length ys) ≤ position_or_len p (y ∷ ys)
          → position_or_len p (y ∷ (ys ++ x ∷ [])) ≡ suc (length ys) + position_or_len p (x ∷ [])
      go true e ih l = let q = head_len y ys e in absurd (omega (arith, l, q))
      go false e ih l =
          let q = tail_len y ys e in
          let r = tail_len y (ys ++ x ∷ []) e in
          let s = ih (omega (arith, l, q)) in
          omega (arith, r, s)

  -- where some member passes, it is the same one
  len_some : (xs : List A) → position_or_len p xs < length xs → position_or_len p (xs ++ x ∷ []) ≡ position_or_len p xs
  len_some [] h = absurd (omega (arith, h))
  len_some (y ∷ ys) h = go (p y) refl (len_some ys) h
    where
      go : (b : Bool) → p y ≡ b → (position_or_len p ys < length ys → position_or_len p (ys ++ x ∷ []) ≡ position_or_len p ys)
          → position_or_len p (y ∷ ys) < suc (length ys) → position_or_len p (y ∷ (ys ++ x ∷ [])) ≡ position_or_len p (y ∷ ys)
      go true e ih l = head_len y (ys ++ x ∷ []) e ∙ sym (head_len y ys e)
      go false e ih l =
          let q = tail_len y ys e in
          tail_len y (ys ++ x ∷ []) e ∙ ap suc (ih (omega (arith, l, q))) ∙ sym q

  at_end : (xs : List A) → position p xs ≡ None → p x ≡ true → position p (xs ++ x ∷ []) ≡ Some (length xs)
  at_end xs n h = go (nat_lt (position_or_len p xs) (length xs)) refl n
    where
      go : (b : Bool) → nat_lt (position_or_len p xs) (length xs) ≡ b → cond b (Some (position_or_len p xs)) None ≡ None
          → position p (xs ++ x ∷ []) ≡ Some (length xs)
      go true e k = absurd (none-some _ (sym k))
      go false e k =
          let all = len_none xs (grind (arith, nat_tests, e)) in
          let here : position_or_len p (xs ++ x ∷ []) ≡ length xs = omega (arith, all, head_len x [] h) in
          let long = length-append xs (x ∷ []) in
          let less : nat_lt (position_or_len p (xs ++ x ∷ [])) (length (xs ++ x ∷ [])) ≡ true =
          lt-ltb (position_or_len p (xs ++ x ∷ [])) (length (xs ++ x ∷ [])) (omega (arith, here, long)) in
          ap (λ (b : Bool). cond b (Some (position_or_len p (xs ++ x ∷ []))) None) less ∙ ap (λ (n : ℕ). Some n) here

  not_at_end : (xs : List A) → p x ≡ false → position p (xs ++ x ∷ []) ≡ position p xs
  not_at_end xs h = go (nat_lt (position_or_len p xs) (length xs)) refl
    where
      go : (b : Bool) → nat_lt (position_or_len p xs) (length xs) ≡ b
          → position p (xs ++ x ∷ []) ≡ cond (nat_lt (position_or_len p xs) (length xs)) (Some (position_or_len p xs)) None
      go true e =
          let same = len_some xs (ltb-true (position_or_len p xs) (length xs) e) in
          let long = length-append xs (x ∷ []) in
          let l = ltb-true (position_or_len p xs) (length xs) e in
          let less : nat_lt (position_or_len p (xs ++ x ∷ [])) (length (xs ++ x ∷ [])) ≡ true =
          lt-ltb (position_or_len p (xs ++ x ∷ [])) (length (xs ++ x ∷ [])) (omega (arith, same, long, l)) in
          ap (λ (b : Bool). cond b (Some (position_or_len p (xs ++ x ∷ []))) None) less ∙ ap (λ (n : ℕ). Some n) same
          ∙ sym (ap (λ (b : Bool). cond b (Some (position_or_len p xs)) None) e)
      go false e =
          let all = len_none xs (grind (arith, nat_tests, e)) in
          let one = tail_len x [] h in
          let long = length-append xs (x ∷ []) in
          let less : nat_lt (position_or_len p (xs ++ x ∷ [])) (length (xs ++ x ∷ [])) ≡ false = grind (arith, nat_tests, all, one, long) in
          ap (λ (b : Bool). cond b (Some (position_or_len p (xs ++ x ∷ []))) None) less
          ∙ sym (ap (λ (b : Bool). cond b (Some (position_or_len p xs)) None) e)

-- ---- one let more
abbrev first : List Word → Word
first [] = []
first (w ∷ ws) = w

module _ (bytes : List ℕ) (ts : List Token) (is : List Item) (args : List RawArg) (vars : List VarInfo) where
  -- no name of the scope is that of the let, and no earlier let has it
  pub record IsNew (names : NameScope) (before : List RawLet) (l : RawLet) : Type 0 where
    pub fresh : (f : algebra.Tree) → Contains names (text bytes l.name ∷ [], f) → ⊥
    pub none : (at : Span) → text bytes l.name ≡ text bytes at → position (λ (k : RawLet). same bytes k.name at) before ≡ None

  link_more : (names : NameScope) (before : List RawLet) (l : RawLet) (closed : List algebra.Tree) (e : algebra.Tree) → length closed ≡ length before
      → Linked names bytes (scope is args before) vars closed → IsNew names before l
      → Linked ((text bytes l.name ∷ [], e) ∷ names) bytes (scope is args (before ++ l ∷ [])) vars (closed ++ e ∷ [])
  link_more names before l closed e size k new = record { short = short; long = long }
    where
      own : (at : Span) (f : algebra.Tree) → text bytes l.name ≡ text bytes at → e ≡ f
          → algebra.inlined (closed ++ e ∷ []) (tree vars (resolved bytes (scope is args (before ++ l ∷ [])) (TName at))) ≡ f
      own at f n q =
          let same_name : same bytes l.name at ≡ true = subst (λ (w : List ℕ). bytes_eq (text bytes l.name) w ≡ true) n (same_bytes (text bytes l.name)) in
          let here = at_end (λ (k : RawLet). same bytes k.name at) l before (new.none at n) same_name in
          ap (λ (o : Option ℕ). algebra.inlined (closed ++ e ∷ []) (tree vars (name_of bytes (scope is args (before ++ l ∷ [])) at o))) here
          ∙ ap (λ (j : ℕ). slice_index_or (closed ++ e ∷ []) j (algebra.Num (pos 0))) (sym size)
          ∙ get_or-append_seam closed e [] (algebra.Num (pos 0)) ∙ q

      wider : (at : Span) (o : Option ℕ) → ((j : ℕ) → o ≡ Some j → j < length closed)
          → algebra.inlined (closed ++ e ∷ []) (tree vars (name_of bytes (scope is args (before ++ l ∷ [])) at o))
          ≡ algebra.inlined closed (tree vars (name_of bytes (scope is args before) at o))
      wider at None h = refl
      wider at (Some j) h = get_or-append closed (e ∷ []) (algebra.Num (pos 0)) j (h j refl)

      other : (at : Span) (f : algebra.Tree) → Contains names (text bytes at ∷ [], f) → (b : Bool) → same bytes l.name at ≡ b
          → algebra.inlined (closed ++ e ∷ []) (tree vars (resolved bytes (scope is args (before ++ l ∷ [])) (TName at))) ≡ f
      other at f c true s =
          absurd (new.fresh f (subst (λ (w : Word). Contains names (w ∷ [], f)) (sym (equal_bytes (text bytes l.name) (text bytes at) s)) c))
      other at f c false s =
          let there = not_at_end (λ (k : RawLet). same bytes k.name at) l before s in
          ap (λ (o : Option ℕ). algebra.inlined (closed ++ e ∷ []) (tree vars (name_of bytes (scope is args (before ++ l ∷ [])) at o))) there
          ∙ wider at (position (λ (k : RawLet). same bytes k.name at) before)
          (λ j h. omega (arith, size, position_below (λ (k : RawLet). same bytes k.name at) before j h)) ∙ k.short at f c

      short : (at : Span) (f : algebra.Tree) → Contains ((text bytes l.name ∷ [], e) ∷ names) (text bytes at ∷ [], f)
          → algebra.inlined (closed ++ e ∷ []) (tree vars (resolved bytes (scope is args (before ++ l ∷ [])) (TName at))) ≡ f
      short at f c = go c.0 c.1 c.2
        where
          go : (n : ℕ) → n < suc (length names) → slice_index_or ((text bytes l.name ∷ [], e) ∷ names) n (text bytes at ∷ [], f) ≡ (text bytes at ∷ [], f)
              → algebra.inlined (closed ++ e ∷ []) (tree vars (resolved bytes (scope is args (before ++ l ∷ [])) (TName at))) ≡ f
          go zero h x = own at f (ap (λ (y : List Word × algebra.Tree). first y.0) x) (ap (λ (y : List Word × algebra.Tree). y.1) x)
          go (suc n) h x = other at f (n, omega (arith, h), x) (same bytes l.name at) refl

      long : (at x : Span) (f : algebra.Tree)
          → Contains ((text bytes l.name ∷ [], e) ∷ names) (text bytes at ∷ codes "." ∷ text bytes x ∷ [], f)
          → algebra.inlined (closed ++ e ∷ []) (tree vars (resolved bytes (scope is args (before ++ l ∷ [])) (TInput at x))) ≡ f
      long at x f c = go c.0 c.1 c.2
        where
          go : (n : ℕ) → n < suc (length names)
              → slice_index_or ((text bytes l.name ∷ [], e) ∷ names) n (text bytes at ∷ codes "." ∷ text bytes x ∷ [], f)
              ≡ (text bytes at ∷ codes "." ∷ text bytes x ∷ [], f)
              → algebra.inlined (closed ++ e ∷ []) (tree vars (resolved bytes (scope is args (before ++ l ∷ [])) (TInput at x))) ≡ f
          go zero h y = let z : length (text bytes l.name ∷ []) ≡ 3 = ap (λ (w : List Word × algebra.Tree). length w.0) y in absurd (omega (arith, z))
          go (suc n) h y = k.long at x f (n, omega (arith, h), y)

  -- each let is new after those before it, whatever they mean
  pub data AreNew : NameScope → List RawLet → List RawLet → Type 0 where
    no_more : {names : NameScope} {before : List RawLet} → AreNew names before []
    one_more : {names : NameScope} {before : List RawLet} {l : RawLet} {ls : List RawLet} → IsNew names before l
        → ((e : algebra.Tree) → AreNew ((text bytes l.name ∷ [], e) ∷ names) (before ++ l ∷ []) ls) → AreNew names before (l ∷ ls)

  -- the tokens of a value say a formula whose closed tree is what it means
  value_closed : {names : NameScope} (ls : List RawLet) (closed : List algebra.Tree) (p : Places) (e : algebra.Tree) (x : Formula)
      → Linked names bytes (scope is args ls) vars closed → ValueMeans bytes ts names p e → Says bytes ts (scope is args ls) p x
      → algebra.inlined closed (tree vars x) ≡ e
  value_closed ls closed p e x k v s =
      let same = (one_tree v.derives v.ends s.derives s.ends).tree in
      let is_formula : resolved bytes (scope is args ls) v.tree ≡ x = ap (resolved bytes (scope is args ls)) same ∙ s.means in
      ap (λ (y : Formula). algebra.inlined closed (tree vars y)) (sym is_formula) ∙ closed_tree (scope is args ls) vars closed k v.means

  -- after all lets their names are linked to their closed trees
  pub lets_linked : {names all : NameScope} {ls : List RawLet} → LetsMean bytes ts names ls all → (before : List RawLet) (xs : List Formula)
      (closed : List algebra.Tree) → LetsSay bytes ts is args before ls xs → length closed ≡ length before
      → Linked names bytes (scope is args before) vars closed → AreNew names before ls
      → Linked all bytes (scope is args (before ++ ls)) vars (algebra.inlined_after closed (map (tree vars) xs))
  lets_linked {names = names} no_let before [] closed s size k new =
      subst (λ (w : List RawLet). Linked names bytes (scope is args w) vars closed) (sym (append-nil before)) k
  lets_linked no_let before (x ∷ xs) closed s size k new = absurd s
  lets_linked (a_let v rest) before [] closed s size k new = absurd s
  lets_linked {names = names} {all = all} (a_let {l = l} {ls = ls} {e = e} v rest) before (x ∷ xs) closed s size k (one_more n more) =
      let is_e : algebra.inlined closed (tree vars x) ≡ e = value_closed before closed l.value e x k v s.0 in
      let long : length (closed ++ e ∷ []) ≡ length (before ++ l ∷ []) =
      omega (arith, size, length-append closed (e ∷ []), length-append before (l ∷ [])) in
      let r = lets_linked rest (before ++ l ∷ []) xs (closed ++ e ∷ []) s.1 long (link_more names before l closed e size k n) (more e) in
      let moved : Linked all bytes (scope is args (before ++ (l ∷ ls))) vars (algebra.inlined_after (closed ++ e ∷ []) (map (tree vars) xs)) =
      subst (λ (w : List RawLet). Linked all bytes (scope is args w) vars (algebra.inlined_after (closed ++ e ∷ []) (map (tree vars) xs)))
      (append_assoc before (l ∷ []) ls) r in
      subst (λ (y : algebra.Tree). Linked all bytes (scope is args (before ++ (l ∷ ls))) vars
      (algebra.inlined_after (closed ++ y ∷ []) (map (tree vars) xs))) (sym is_e) moved

  -- so the root of the predicate, with its lets in place of their names, is the tree that its words are
  pub root_closed : {names all : NameScope} {ls : List RawLet} (p : Places) (e : algebra.Tree) (xs : List Formula) (x : Formula)
      → Linked names bytes (scope is args []) vars [] → AreNew names [] ls → LetsMean bytes ts names ls all
      → ValueMeans bytes ts all p e → LetsSay bytes ts is args [] ls xs → Says bytes ts (scope is args ls) p x → closed_root vars xs x ≡ e
  root_closed {ls = ls} p e xs x k new l v s r =
      value_closed ls (algebra.inlined_after [] (map (tree vars) xs)) p e x (lets_linked l [] xs [] s refl k new) v r
