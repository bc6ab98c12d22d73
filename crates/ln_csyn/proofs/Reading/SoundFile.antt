-- Proves that what is read is derived: statements, functions, files.
use Rattle.std.proofs.Common.{◌≡◌, ℕ, zero, suc, ◌≤◌, Bool, true, false, nat_le, List, [], ◌∷◌, length, Some, refl, sym, ap, ◌∙◌}
use Rattle.std.proofs.Common.{subst, arith, inl, inr}
use Rattle.std.specs.Prelude.{codes}
use Rattle.std.proofs.Math.Nat.{max-le}
use Rattle.std.proofs.lemmas.Bool.{and_from, le-leb}
use Rattle.std.proofs.lemmas.Option.{same_Some}
use Rattle.ln_csyn.specs.declared.tree.CType.{CType}
use Rattle.ln_csyn.specs.Tree.{Body, End, Fun}
use Rattle.ln_csyn.specs.Words.{type_of}
use Rattle.ln_csyn.specs.Grammar.{Token, IsExpr, IsBody, end, decl, group, when, return, IsPointer, pointer, IsParameters, one, both}
use Rattle.ln_csyn.specs.Grammar.{IsHead, head, IsFun, own, shared, IsFile}
use Rattle.ln_csyn.specs.Grammar as g
use Rattle.ln_csyn.specs.Reading.{eat, type_at, name_at, line_at, expr_at, closed, decl_rest, if_rest, return_rest, group_rest, stmt_at}
use Rattle.ln_csyn.specs.Reading.{stmts_at, block_at, pointer_at, both_rest, parameters_at, words_at, head_at, fun_at, funs_at, ReadStmt}
use Rattle.ln_csyn.specs.Reading.{ReadBlock}
use Rattle.ln_csyn.specs.Keeps.{parens, parens_in, braces_in, is_small, each_fun}
use Rattle.ln_csyn.proofs.Reading.Sound.{went, chose, ate, took_type, was_named, closes, expr_sound}
use Rattle.ln_csyn.proofs.Reading.CompleteFile.{Within, AllWithin}
use Rattle.ln_csyn.proofs.Reading.Leaving.{Leaves, more, after, leaves_body, leaves_expr}
use Rattle.ln_csyn.proofs.Reading.Leaving as l
use Rattle.ln_csyn.specs.Laws.{FileIsSound}

-- the statements that were read are derived, with parentheses and braces within the limits
pub record SoundBody (p k : ℕ) (ts : List Token) (y : Body × List Token) : Type 0 where
  pub is : IsBody ts y.1 y.0
  pub parens : parens_in y.0 ≤ suc p
  pub braces : braces_in y.0 ≤ k

-- a pair of braces
pub record SoundBlock (p k : ℕ) (ts : List Token) (y : Body × ℕ × List Token) : Type 0 where
  pub o : Token
  pub q : Token
  pub us : List Token
  pub at : ts ≡ o ∷ us
  pub left : o.text ≡ codes "{"
  pub is : IsBody us (q ∷ y.2) y.0
  pub line : q.line ≡ y.1
  pub parens : parens_in y.0 ≤ suc p
  pub braces : suc (braces_in y.0) ≤ k

-- a statement took tokens, and is derived before what is read after it
pub record SoundStmt (p k : ℕ) (ts : List Token) (s : (Body → Body) × List Token) : Type 0 where
  pub leaves : Leaves ts s.1
  pub on : (y : Body × List Token) → SoundBody p k s.1 y → SoundBody p k ts (s.0 y.0, y.1)

-- what this way of reading a pair of braces returns is derived, within the limits
abbrev pub IsBlockSound : ℕ → ℕ → ReadBlock → Type 0
IsBlockSound p k block = (ts : List Token) (y : Body × ℕ × List Token) → block ts ≡ Some y → SoundBlock p k ts y

-- what this way of reading a statement returns is derived together with the statements after it, within the limits
abbrev pub IsStmtSound : ℕ → ℕ → ReadStmt → Type 0
IsStmtSound p k stmt = (ts : List Token) (s : (Body → Body) × List Token) → stmt ts ≡ Some s → SoundStmt p k ts s

-- the first token's line
line_of_front : (t : Token) (ts us : List Token) → ts ≡ t ∷ us → line_at ts ≡ t.line
line_of_front t ts us e = rw e refl

decl_sound : (p k : ℕ) (m : Token) (t : CType) → type_of m.text ≡ Some t → (ts : List Token) (s : (Body → Body) × List Token)
    → decl_rest (expr_at (suc p)) m.line t ts ≡ Some s → SoundStmt p k (m ∷ ts) s
decl_sound p k m t hm ts s h =
    let x = went (name_at ts) _ s h in
    let q = went (eat (codes "=") x.x.1) _ s x.next in
    let e = went (closed (codes ";") (expr_at (suc p)) q.x) _ s q.next in
    let n = was_named ts x.x x.found in
    let a = ate (codes "=") x.x.1 q.x q.found in
    let v = closes (codes ";") (suc p) (expr_at (suc p)) (expr_sound (suc p)) q.x e.x e.found in
    let f : n.t ∷ a.t ∷ q.x ≡ ts = sym (n.is ∙ ap (λ (w : List Token). n.t ∷ w) a.is) in
    subst (λ (w : (Body → Body) × List Token). SoundStmt p k (m ∷ ts) w) (same_Some _ s e.next) (record {
      leaves = subst (λ (z : List Token). Leaves (m ∷ z) e.x.1) f (more (more (more (after (leaves_expr v.is) l.one))));
      on = λ y c. record {
        is = rw (f, n.text) at (decl {k = m} {x = n.t} {q = a.t} hm n.name a.text v.is v.text c.is);
        parens = omega (arith, max-le v.within c.parens);
        braces = c.braces;
      };
    })

if_sound : (p k : ℕ) (block : ReadBlock) → IsBlockSound p k block → (m : Token) → m.text ≡ codes "if"
    → (ts : List Token) (s : (Body → Body) × List Token) → if_rest (expr_at p) block m.line ts ≡ Some s → SoundStmt p k (m ∷ ts) s
if_sound p k block hyp m hm ts s h =
    let l = went (eat (codes "(") ts) _ s h in
    let e = went (closed (codes ")") (expr_at p) l.x) _ s l.next in
    let b = went (block e.x.1) _ s e.next in
    let a = ate (codes "(") ts l.x l.found in
    let v = closes (codes ")") p (expr_at p) (expr_sound p) l.x e.x e.found in
    let w = hyp e.x.1 b.x b.found in
    let d : IsExpr l.x (v.t ∷ w.o ∷ w.us) e.x.0 = subst (λ (z : List Token). IsExpr l.x (v.t ∷ z) e.x.0) w.at v.is in
    subst (λ (z : (Body → Body) × List Token). SoundStmt p k (m ∷ ts) z) (same_Some _ s b.next) (record {
      leaves = subst (λ (z : List Token). Leaves (m ∷ z) b.x.2) (sym a.is)
          (more (more (after (leaves_expr d) (more (more (leaves_body w.is w.q b.x.2 refl))))));
      on = λ y q. record {
        is = rw (← a.is) at (when {p = m} {l = a.t} hm a.text d v.text w.left w.is q.is);
        parens = (let one : suc (parens e.x.0) ≤ suc p = omega (arith, v.within) in max-le one (max-le w.parens q.parens));
        braces = max-le w.braces q.braces;
      };
    })

return_sound : (p k : ℕ) (m : Token) → m.text ≡ codes "return" → (ts : List Token) (s : (Body → Body) × List Token)
    → return_rest (expr_at (suc p)) m.line ts ≡ Some s → SoundStmt p k (m ∷ ts) s
return_sound p k m hm ts s h =
    let e = went (closed (codes ";") (expr_at (suc p)) ts) _ s h in
    let v = closes (codes ";") (suc p) (expr_at (suc p)) (expr_sound (suc p)) ts e.x e.found in
    subst (λ (w : (Body → Body) × List Token). SoundStmt p k (m ∷ ts) w) (same_Some _ s e.next) (record {
      leaves = more (after (leaves_expr v.is) l.one);
      on = λ y c. record { is = return hm v.is v.text c.is; parens = max-le v.within c.parens; braces = c.braces };
    })

group_sound : (p k : ℕ) (block : ReadBlock) → IsBlockSound p k block → (ts : List Token) (s : (Body → Body) × List Token)
    → group_rest block (line_at ts) ts ≡ Some s → SoundStmt p k ts s
group_sound p k block hyp ts s h =
    let b = went (block ts) _ s h in
    let w = hyp ts b.x b.found in
    let l : w.o.line ≡ line_at ts = sym (line_of_front w.o ts w.us w.at) in
    subst (λ (z : (Body → Body) × List Token). SoundStmt p k ts z) (same_Some _ s b.next) (record {
      leaves = subst (λ (z : List Token). Leaves z b.x.2) (sym w.at) (more (leaves_body w.is w.q b.x.2 refl));
      on = λ y q. record {
        is = rw (← w.at, l) at (group {p = w.o} w.left w.is q.is);
        parens = max-le w.parens q.parens;
        braces = max-le w.braces q.braces;
      };
    })

-- a statement that is read is derived
pub stmt_sound : (p k : ℕ) (block : ReadBlock) → IsBlockSound p k block → IsStmtSound p k (stmt_at (suc p) p block)
stmt_sound p k block hyp ts s h =
    elim (chose (type_at ts) _ _ s h) [
      | inl w ↦ (let n = took_type ts w.x w.found in
          let l = line_of_front n.t ts w.x.1 n.is in
          let c : decl_rest (expr_at (suc p)) n.t.line w.x.0 w.x.1 ≡ Some s = subst (λ (z : ℕ). decl_rest (expr_at (suc p)) z w.x.0 w.x.1 ≡ Some s) l w.next in
          subst (λ (z : List Token). SoundStmt p k z s) (sym n.is) (decl_sound p k n.t w.x.0 n.reads w.x.1 s c))
      | inr g ↦ elim (chose (eat (codes "if") ts) _ _ s g) [
        | inl w ↦ (let a = ate (codes "if") ts w.x w.found in
            let l = line_of_front a.t ts w.x a.is in
            let c : if_rest (expr_at p) block a.t.line w.x ≡ Some s = subst (λ (z : ℕ). if_rest (expr_at p) block z w.x ≡ Some s) l w.next in
            subst (λ (z : List Token). SoundStmt p k z s) (sym a.is) (if_sound p k block hyp a.t a.text w.x s c))
        | inr j ↦ elim (chose (eat (codes "return") ts) _ _ s j) [
          | inl w ↦ (let a = ate (codes "return") ts w.x w.found in
              let l = line_of_front a.t ts w.x a.is in
              let c : return_rest (expr_at (suc p)) a.t.line w.x ≡ Some s = subst (λ (z : ℕ). return_rest (expr_at (suc p)) z w.x ≡ Some s) l w.next in
              subst (λ (z : List Token). SoundStmt p k z s) (sym a.is) (return_sound p k a.t a.text w.x s c))
          | inr i ↦ group_sound p k block hyp ts s i
        ]
      ]
    ]

stmts_sound : (p k : ℕ) (stmt : ReadStmt) → IsStmtSound p k stmt → (n : ℕ) (ts : List Token) (y : Body × List Token)
    → stmts_at stmt n ts ≡ Some y → SoundBody p k ts y
stmts_sound p k stmt hyp zero ts y h = absurd (cc)
stmts_sound p k stmt hyp (suc n) ts y h =
    elim (chose (eat (codes "}") ts) _ _ y h) [
      | inl w ↦ (let a = ate (codes "}") ts w.x w.found in
          let d : IsBody ts ts End = subst (λ (z : List Token). IsBody z z End) (sym a.is) (end a.text) in
          subst (λ (z : Body × List Token). SoundBody p k ts z) (same_Some _ y w.next) (record { is = d; parens = omega arith; braces = omega arith }))
      | inr g ↦ (let s = went (stmt ts) _ y g in
          let b = went (stmts_at stmt n s.x.1) _ y s.next in
          let r = stmts_sound p k stmt hyp n s.x.1 b.x b.found in
          subst (λ (z : Body × List Token). SoundBody p k ts z) (same_Some _ y b.next) ((hyp ts s.x s.found).on b.x r))
    ]

-- a pair of braces that is read is derived
pub block_sound : (p k : ℕ) → IsBlockSound p k (block_at (suc p) p k)
block_sound p zero ts y h = absurd (cc)
block_sound p (suc k) ts y h =
    let u = went (eat (codes "{") ts) _ y h in
    let x = went (stmts_at (stmt_at (suc p) p (block_at (suc p) p k)) (suc (length u.x)) u.x) _ y u.next in
    let r = went (eat (codes "}") x.x.1) _ y x.next in
    let a = ate (codes "{") ts u.x u.found in
    let b = ate (codes "}") x.x.1 r.x r.found in
    let s = stmts_sound p k (stmt_at (suc p) p (block_at (suc p) p k)) (stmt_sound p k (block_at (suc p) p k) (block_sound p k))
    (suc (length u.x)) u.x x.x x.found in
    let d : IsBody u.x (b.t ∷ r.x) x.x.0 = subst (λ (z : List Token). IsBody u.x z x.x.0) b.is s.is in
    subst (λ (z : Body × ℕ × List Token). SoundBlock p (suc k) ts z) (same_Some _ y r.next)
    (record {
      o = a.t;
      q = b.t;
      us = u.x;
      at = a.is;
      left = a.text;
      is = d;
      line = sym (line_of_front b.t x.x.1 r.x b.is);
      parens = s.parens;
      braces = omega (arith, s.braces);
    })

-- ---- functions

pointer_sound : (ts rest : List Token) → pointer_at ts ≡ Some rest → IsPointer ts rest
pointer_sound ts rest h =
    let u = went (eat (codes "const") ts) _ rest h in
    let w = went (eat (codes "int64_t") u.x) _ rest u.next in
    let a = ate (codes "const") ts u.x u.found in
    let b = ate (codes "int64_t") u.x w.x w.found in
    let c = ate (codes "*") w.x rest w.next in
    let e : a.t ∷ b.t ∷ c.t ∷ rest ≡ ts = sym (a.is ∙ ap (λ (z : List Token). a.t ∷ z) (b.is ∙ ap (λ (z : List Token). b.t ∷ z) c.is)) in
    subst (λ (z : List Token). IsPointer z rest) e (pointer a.text b.text c.text)

both_sound : (ts us : List Token) → IsPointer ts us → (y : Bool × List Token) → both_rest us ≡ Some y → IsParameters ts y.1 y.0
both_sound ts us d y h =
    let x = went (eat (codes "x") us) _ y h in
    let c = went (eat (codes ",") x.x) _ y x.next in
    let q = went (pointer_at c.x) _ y c.next in
    let v = went (eat (codes "v") q.x) _ y q.next in
    let a = ate (codes "x") us x.x x.found in
    let b = ate (codes ",") x.x c.x c.found in
    let f = ate (codes "v") q.x v.x v.found in
    let e : us ≡ a.t ∷ b.t ∷ c.x = a.is ∙ ap (λ (z : List Token). a.t ∷ z) b.is in
    let d2 : IsPointer ts (a.t ∷ b.t ∷ c.x) = subst (λ (z : List Token). IsPointer ts z) e d in
    let d3 : IsPointer c.x (f.t ∷ v.x) = subst (λ (z : List Token). IsPointer c.x z) f.is (pointer_sound c.x q.x q.found) in
    subst (λ (z : Bool × List Token). IsParameters ts z.1 z.0) (same_Some _ y v.next) (both d2 a.text b.text d3 f.text)

parameters_sound : (ts : List Token) (y : Bool × List Token) → parameters_at ts ≡ Some y → IsParameters ts y.1 y.0
parameters_sound ts y h =
    let u = went (pointer_at ts) _ y h in
    let d = pointer_sound ts u.x u.found in
    elim (chose (eat (codes "v") u.x) _ (both_rest u.x) y u.next) [
      | inl w ↦ (let a = ate (codes "v") u.x w.x w.found in
          let d2 : IsPointer ts (a.t ∷ w.x) = subst (λ (z : List Token). IsPointer ts z) a.is d in
          subst (λ (z : Bool × List Token). IsParameters ts z.1 z.0) (same_Some _ y w.next) (one d2 a.text))
      | inr g ↦ both_sound ts u.x d y g
    ]

-- what stands before a body
words_sound : (ts : List Token) (h : List ℕ × Bool × List Token) → words_at ts ≡ Some h
    → (t : Token) (us rest : List Token) (o : Bool) (b : Body) (q : Token) → h.2 ≡ t ∷ us → t.text ≡ codes "{" → IsBody us (q ∷ rest) b
    → IsHead ts rest o (record { own = o; name = h.0; indexed = h.1; body = b; end = q.line })
words_sound ts h e t us rest o b z at left is =
    let i = went (eat (codes "int") ts) _ h e in
    let x = went (name_at i.x) _ h i.next in
    let l = went (eat (codes "(") x.x.1) _ h x.next in
    let q = went (parameters_at l.x) _ h l.next in
    let r = went (eat (codes ")") q.x.1) _ h q.next in
    let a1 = ate (codes "int") ts i.x i.found in
    let n = was_named i.x x.x x.found in
    let a2 = ate (codes "(") x.x.1 l.x l.found in
    let d = parameters_sound l.x q.x q.found in
    let a3 = ate (codes ")") q.x.1 r.x r.found in
    let s : (x.x.0, q.x.0, r.x) ≡ h = same_Some _ h r.next in
    let g : a1.t ∷ n.t ∷ a2.t ∷ l.x ≡ ts = sym (a1.is ∙ ap (λ (w : List Token). a1.t ∷ w) (n.is ∙ ap (λ (w : List Token). n.t ∷ w) a2.is)) in
    let f : q.x.1 ≡ a3.t ∷ t ∷ us = a3.is ∙ ap (λ (w : List Token). a3.t ∷ w) (ap (λ (w : List ℕ × Bool × List Token). w.2) s ∙ at) in
    let d2 : IsParameters l.x (a3.t ∷ t ∷ us) q.x.0 = subst (λ (w : List Token). IsParameters l.x w q.x.0) f d in
    let j : IsHead (a1.t ∷ n.t ∷ a2.t ∷ l.x) rest o (record { own = o; name = n.t.text; indexed = q.x.0; body = b; end = z.line }) =
    head a1.text n.name a2.text d2 a3.text left is in
    subst (λ (w : List ℕ × Bool × List Token). IsHead ts rest o (record { own = o; name = w.0; indexed = w.1; body = b; end = z.line })) s (rw (g, n.text) at j)

-- a function that was read from its `int` on is derived, within the limits
pub record SoundHead (p k : ℕ) (o : Bool) (ts : List Token) (y : Fun × List Token) : Type 0 where
  pub is : IsHead ts y.1 o y.0
  pub within : Within p k y.0

head_sound : (p k : ℕ) (o : Bool) (ts : List Token) (y : Fun × List Token) → head_at (block_at (suc p) p (suc k)) o ts ≡ Some y → SoundHead p k o ts y
head_sound p k o ts y h =
    let c = went (words_at ts) _ y h in
    let b = went (block_at (suc p) p (suc k) c.x.2) _ y c.next in
    let w = block_sound p (suc k) c.x.2 b.x b.found in
    let j = words_sound ts c.x c.found w.o w.us b.x.2 o b.x.0 w.q w.at w.left w.is in
    subst (λ (z : Fun × List Token). SoundHead p k o ts z) (same_Some _ y b.next)
    (record { is = rw w.line at j; within = record { parens = w.parens; braces = omega (arith, w.braces) } })

-- a function that was read is derived, within the limits
pub record SoundFun (p k : ℕ) (ts : List Token) (y : Fun × List Token) : Type 0 where
  pub is : IsFun ts y.1 y.0
  pub within : Within p k y.0

-- so is a function
pub fun_sound : (p k : ℕ) (ts : List Token) (y : Fun × List Token) → fun_at (block_at (suc p) p (suc k)) ts ≡ Some y → SoundFun p k ts y
fun_sound p k ts y h =
    elim (chose (eat (codes "static") ts) _ (head_at (block_at (suc p) p (suc k)) false ts) y h) [
      | inl w ↦ (let a = ate (codes "static") ts w.x w.found in
          let s = head_sound p k true w.x y w.next in
          record { is = subst (λ (z : List Token). IsFun z y.1 y.0) (sym a.is) (own a.text s.is); within = s.within })
      | inr g ↦ (let s = head_sound p k false ts y g in record { is = shared s.is; within = s.within })
    ]

-- the functions that were read are a file, within the limits
pub record SoundFile (p k : ℕ) (ts : List Token) (fs : List Fun) : Type 0 where
  pub is : IsFile ts fs
  pub within : AllWithin p k fs

-- so are functions
pub file_sound : (p k n : ℕ) (ts : List Token) (fs : List Fun) → funs_at (block_at (suc p) p (suc k)) n ts ≡ Some fs → SoundFile p k ts fs
file_sound p k zero ts fs h = absurd (cc)
file_sound p k (suc n) [] fs h = subst (λ (z : List Fun). SoundFile p k [] z) (same_Some _ fs h) (record { is = g.none; within = tt })
file_sound p k (suc n) (t ∷ ts) fs h =
    let f = went (fun_at (block_at (suc p) p (suc k)) (t ∷ ts)) _ fs h in
    let r = went (funs_at (block_at (suc p) p (suc k)) n f.x.1) _ fs f.next in
    let a = fun_sound p k (t ∷ ts) f.x f.found in
    let b = file_sound p k n f.x.1 r.x r.found in
    subst (λ (z : List Fun). SoundFile p k (t ∷ ts) z) (same_Some _ fs r.next) (record { is = g.one a.is b.is; within = (a.within, b.within) })

small : (f : Fun) → Within 15 63 f → is_small f ≡ true
small f w = and_from (nat_le (parens_in f.body) 16) (nat_le (suc (braces_in f.body)) 64) (le-leb (parens_in f.body) 16 w.parens)
    (le-leb (suc (braces_in f.body)) 64 (let l : suc (braces_in f.body) ≤ 64 = omega (arith, w.braces) in l))

all_small : (fs : List Fun) → AllWithin 15 63 fs → each_fun is_small fs ≡ true
all_small [] w = refl
all_small (f ∷ fs) w = and_from (is_small f) (each_fun is_small fs) (small f w.0) (all_small fs w.1)

-- so is a file, with the limits of the subset
pub file_is_sound : FileIsSound
file_is_sound ts fs h = let s = file_sound 15 63 (suc (length ts)) ts fs h in (s.is, all_small fs s.within)
