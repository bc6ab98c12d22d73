-- Defines the grammar of files over tokens: what a list of tokens begins with, and the rest after it.
use Rattle.std.specs.Prelude.{◌≡◌, ℕ, Bool, true, false, List, [], ◌∷◌, Some, codes}
use Rattle.ln_csyn.specs.declared.tree.CType.{CType}
use Rattle.ln_csyn.specs.declared.tree.COp.{COp}
use Rattle.ln_csyn.specs.Tree.{Expr, Number, Name, Value, Index, Call, Inner, Minus, Two, Body, End, Decl, Group, If, Return, Fun}
use Rattle.ln_csyn.specs.Words.{is_c_name, number_of, type_of, op_of}

-- a token: its text, and the line that it begins on
pub record Token : Type 0 where
  pub text : List ℕ
  pub line : ℕ

-- an expression, or the operand of a cast to this type
pub data Sort : Type 0 where
  Whole : Sort
  Primary : CType → Sort

-- EXPR := ( EXPR OP EXPR ) | ( - EXPR ) | ( ( TYPE ) PRIM )
-- PRIM := NUMBER | NAME | v [ NUMBER ] | x [ NUMBER ] | NAME ( v ) | EXPR
pub data Derives : Sort → List Token → List Token → Expr → Type 0 where
  two : {p q s : Token} {ts us rest : List Token} {o : COp} {a b : Expr} →
      p.text ≡ codes "(" → Derives Whole ts (q ∷ us) a → op_of q.text ≡ Some o → Derives Whole us (s ∷ rest) b → s.text ≡ codes ")" →
      Derives Whole (p ∷ ts) rest (Two o a b)
  minus : {p q s : Token} {ts rest : List Token} {a : Expr} →
      p.text ≡ codes "(" → q.text ≡ codes "-" → Derives Whole ts (s ∷ rest) a → s.text ≡ codes ")" →
      Derives Whole (p ∷ q ∷ ts) rest (Minus a)
  cast : {p q k r s : Token} {ts rest : List Token} {t : CType} {e : Expr} →
      p.text ≡ codes "(" → q.text ≡ codes "(" → type_of k.text ≡ Some t → r.text ≡ codes ")" →
      Derives (Primary t) ts (s ∷ rest) e → s.text ≡ codes ")" →
      Derives Whole (p ∷ q ∷ k ∷ r ∷ ts) rest e
  number : {p : Token} {rest : List Token} {t : CType} {n : ℕ} →
      number_of p.text ≡ Some n → Derives (Primary t) (p ∷ rest) rest (Number t n)
  name : {p : Token} {rest : List Token} {t : CType} →
      is_c_name p.text ≡ true → Derives (Primary t) (p ∷ rest) rest (Name t p.text)
  value : {p q m r : Token} {rest : List Token} {t : CType} {n : ℕ} →
      p.text ≡ codes "v" → q.text ≡ codes "[" → number_of m.text ≡ Some n → r.text ≡ codes "]" →
      Derives (Primary t) (p ∷ q ∷ m ∷ r ∷ rest) rest (Value t n)
  index : {p q m r : Token} {rest : List Token} {t : CType} {n : ℕ} →
      p.text ≡ codes "x" → q.text ≡ codes "[" → number_of m.text ≡ Some n → r.text ≡ codes "]" →
      Derives (Primary t) (p ∷ q ∷ m ∷ r ∷ rest) rest (Index t n)
  call : {p q m r : Token} {rest : List Token} {t : CType} →
      is_c_name p.text ≡ true → q.text ≡ codes "(" → m.text ≡ codes "v" → r.text ≡ codes ")" →
      Derives (Primary t) (p ∷ q ∷ m ∷ r ∷ rest) rest (Call t p.text)
  inner : {ts rest : List Token} {t : CType} {e : Expr} →
      Derives Whole ts rest e → Derives (Primary t) ts rest (Inner t e)

-- the tokens begin with this expression, and these remain after it
abbrev pub IsExpr : List Token → List Token → Expr → Type 0
IsExpr ts rest e = Derives Whole ts rest e

-- STMT* up to a closing brace, which isn't taken
-- STMT := TYPE NAME = EXPR ; | { STMT* } | if ( EXPR ) { STMT* } | return EXPR ;
pub data IsBody : List Token → List Token → Body → Type 0 where
  end : {q : Token} {rest : List Token} → q.text ≡ codes "}" → IsBody (q ∷ rest) (q ∷ rest) End
  decl : {k x q s : Token} {ts us rest : List Token} {t : CType} {e : Expr} {b : Body} →
      type_of k.text ≡ Some t → is_c_name x.text ≡ true → q.text ≡ codes "=" → IsExpr ts (s ∷ us) e → s.text ≡ codes ";" →
      IsBody us rest b →
      IsBody (k ∷ x ∷ q ∷ ts) rest (Decl k.line t x.text e b)
  group : {p q : Token} {ts us rest : List Token} {a b : Body} →
      p.text ≡ codes "{" → IsBody ts (q ∷ us) a → IsBody us rest b →
      IsBody (p ∷ ts) rest (Group p.line a b)
  when : {p l r m q : Token} {ts us ws rest : List Token} {e : Expr} {a b : Body} →
      p.text ≡ codes "if" → l.text ≡ codes "(" → IsExpr ts (r ∷ m ∷ us) e → r.text ≡ codes ")" →
      m.text ≡ codes "{" → IsBody us (q ∷ ws) a → IsBody ws rest b →
      IsBody (p ∷ l ∷ ts) rest (If p.line e a b)
  return : {p s : Token} {ts us rest : List Token} {e : Expr} {b : Body} →
      p.text ≡ codes "return" → IsExpr ts (s ∷ us) e → s.text ≡ codes ";" → IsBody us rest b →
      IsBody (p ∷ ts) rest (Return p.line e b)

-- `const int64_t *`
pub data IsPointer : List Token → List Token → Type 0 where
  pointer : {p q r : Token} {rest : List Token} →
      p.text ≡ codes "const" → q.text ≡ codes "int64_t" → r.text ≡ codes "*" → IsPointer (p ∷ q ∷ r ∷ rest) rest

-- PARS := const int64_t * v | const int64_t * x , const int64_t * v
pub data IsParameters : List Token → List Token → Bool → Type 0 where
  one : {v : Token} {ts rest : List Token} →
      IsPointer ts (v ∷ rest) → v.text ≡ codes "v" → IsParameters ts rest false
  both : {x c v : Token} {ts us rest : List Token} →
      IsPointer ts (x ∷ c ∷ us) → x.text ≡ codes "x" → c.text ≡ codes "," → IsPointer us (v ∷ rest) → v.text ≡ codes "v" →
      IsParameters ts rest true

-- a function from its `int` on: int NAME ( PARS ) { STMT* }
pub data IsHead : List Token → List Token → Bool → Fun → Type 0 where
  head : {k x l r p q : Token} {ts us rest : List Token} {own indexed : Bool} {b : Body} →
      k.text ≡ codes "int" → is_c_name x.text ≡ true → l.text ≡ codes "(" → IsParameters ts (r ∷ p ∷ us) indexed →
      r.text ≡ codes ")" → p.text ≡ codes "{" → IsBody us (q ∷ rest) b →
      IsHead (k ∷ x ∷ l ∷ ts) rest own (record { own = own; name = x.text; indexed = indexed; body = b; end = q.line })

-- FUN := [static] int NAME ( PARS ) { STMT* }
pub data IsFun : List Token → List Token → Fun → Type 0 where
  own : {s : Token} {ts rest : List Token} {f : Fun} → s.text ≡ codes "static" → IsHead ts rest true f → IsFun (s ∷ ts) rest f
  shared : {ts rest : List Token} {f : Fun} → IsHead ts rest false f → IsFun ts rest f

-- FILE := FUN*
pub data IsFile : List Token → List Fun → Type 0 where
  none : IsFile [] []
  one : {ts us : List Token} {f : Fun} {fs : List Fun} → IsFun ts us f → IsFile us fs → IsFile ts (f ∷ fs)
