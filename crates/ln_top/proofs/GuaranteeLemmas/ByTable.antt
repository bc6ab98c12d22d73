-- What `run`, `emit` and `list` print, from the words, the bytes of the files and the status alone: the perturbed signs, in as few definitions as it takes.
use Rattle.std.specs.Prelude.{◌≡◌, ◌≢◌, ◌⊎◌, ℕ, ℤ, true, false, List, [], ◌∷◌, ◌++◌, All, Contains, codes, map, Option, Some, option_map}
use Rattle.ln_base.specs.Decimal.{integer_value}
use Rattle.ln_base.specs.Outside.{Shelf, Shown, bytes_of}
use Rattle.ln_base.specs.declared.sign.Sign.{Sign}
use Rattle.ln_lex.specs.declared.token.Token.{Token}
use Rattle.ln_lex.specs.Tokens.{Lexed}
use Rattle.ln_syntax.specs.Raw.{Item}
use Rattle.ln_syntax.specs.File.{Spelt}
use Rattle.ln_parse.specs.Says.{ItemsSay}
use Rattle.ln_algebra.specs.Orders.{BySmallest}
use Rattle.ln_tree.specs.declared.shape.VarInfo.{VarInfo}
use Rattle.ln_tree.specs.Row.{InRange, Row}
use Rattle.ln_tree.specs.Table.{PredOf, TableOf}
use Rattle.ln_tree.specs.Variables.{starts_site}
use Rattle.ln_tree.specs.Names.{name_bytes}
use Rattle.ln_base.specs.Lines.{joined}
use Rattle.ln_due.specs.Due.{sign_number}
use Rattle.ln_code.specs.Part.{Part}
use Rattle.ln_cert.specs.Listing.{texts_of}
use Rattle.ln_cert.specs.Written.{listing_of}
use Rattle.ln_csyn.specs.Meaning.{CCall, Counts, Signed}
use Rattle.ln_csyn.specs.Text.{CText}
use Rattle.ln_csyn.specs.Tree.{Fun}
use Rattle.ln_cemit.specs.Names.{call_name}
use Rattle.ln_rows.specs.Header.{columns_of}
use Rattle.ln_rows.specs.Left.{Records, records_in}
use Rattle.ln_top.specs.declared.frame.status.Status.{Status}
use Rattle.ln_top.specs.declared.frame.status.Status.TheVariants.{Done, Rows}
use Rattle.ln_top.specs.Frame.Given.{named}
use Rattle.ln_top.specs.Target.Line.{sign_text}
use Rattle.ln_top.specs.Listed.{GivesPerturbedSign}
use Rattle.ln_top.specs.Perturbed.{IsSignOn, NotZeroWithoutParams}

-- the bytes are tokens, these spell items, and the items say the table
pub record Tells (bytes : List ℕ) (t : TableOf) : Type 0 where
  pub tokens : List Token
  pub lexed : Lexed bytes tokens
  pub items : List Item
  pub spelt : Spelt tokens items
  pub says : ItemsSay bytes tokens items t

-- the text begins with the perturbed sign of the predicate on the row and a space; without params the sign isn't 0
pub record BeginsWithSign (p : PredOf) (row : Row) (text : List ℕ) : Type 0 where
  pub sign : Sign
  pub perturbed : IsSignOn BySmallest p row sign
  pub never_zero : NotZeroWithoutParams p sign
  pub rest : List ℕ
  pub is : text ≡ sign_text sign ++ 32 ∷ rest

-- the fields are numbers, in order of these variables: before the first variable of a site the site's index, and for each variable its value
pub data FieldsSay : List VarInfo → List (List ℕ) → List ℤ → List ℤ → Type 0 where
  none : FieldsSay [] [] [] []
  site : {i : VarInfo} {is : List VarInfo} {f g : List ℕ} {fields : List (List ℕ)} {n z : ℤ} {index values : List ℤ}
      → starts_site i ≡ true → integer_value f ≡ Some n → integer_value g ≡ Some z → FieldsSay is fields index values
      → FieldsSay (i ∷ is) (f ∷ g ∷ fields) (n ∷ index) (z ∷ values)
  next : {i : VarInfo} {is : List VarInfo} {g : List ℕ} {fields : List (List ℕ)} {z : ℤ} {index values : List ℤ}
      → starts_site i ≡ false → integer_value g ≡ Some z → FieldsSay is fields index values
      → FieldsSay (i ∷ is) (g ∷ fields) index (z ∷ values)

-- one line for each record, in order: that of a row in range begins with its sign
pub data AreSignLines (p : PredOf) : Records → List ℕ → Type 0 where
  no_line : AreSignLines p [] []
  a_line : {fields : List (List ℕ)} {rest : Records} {lines : List ℕ} (text : List ℕ) → All (λ b. b ≢ 10) text
      → ((row : Row) → FieldsSay p.vars fields row.index row.values → InRange p.sites p.vars row → BeginsWithSign p row text)
      → AreSignLines p rest lines → AreSignLines p (fields ∷ rest) (text ++ 10 ∷ lines)

-- such lines were written to standard output
pub record WritesLines (p : PredOf) (records : Records) (was now : Option Shown) : Type 0 where
  pub lines : List ℕ
  pub are : AreSignLines p records lines
  pub out : option_map (λ s. s.out) now ≡ option_map (λ s. s.out ++ lines) was

-- Where the words are `run FILE NAME ROWS`, FILE's bytes tell a table, NAME is the name of its predicate p, the records of ROWS are the names of p's
-- columns and then these, and the status is done or rows, their lines were written.
abbrev pub RunWritesSigns : List (List ℕ) → Shelf → Status → Option Shown → Option Shown → Type 0
RunWritesSigns words shelf result was now =
    (file name rows source text : List ℕ) (t : TableOf) (p : PredOf) (records : Records)
    → words ≡ codes "run" ∷ file ∷ name ∷ rows ∷ [] → bytes_of file shelf ≡ Some source → bytes_of rows shelf ≡ Some text
    → Tells source t → named name t.preds ≡ Some p → records_in text ≡ columns_of t p ∷ records → (result ≡ Done) ⊎ (result ≡ Rows)
    → WritesLines p records was now

-- ---- `emit`
-- the call of `ln_NAME` in the file on the row means the perturbed sign; without params it isn't 0
pub record CallMeansSign (file : List Fun) (p : PredOf) (row : Row) : Type 0 where
  pub sign : Sign
  pub counts : Counts
  pub called : CCall file (call_name p.name) row.index row.values ≡ Some (Signed (sign_number sign) counts)
  pub perturbed : IsSignOn BySmallest p row sign
  pub never_zero : NotZeroWithoutParams p sign

-- the text of such a C file was written to standard output
pub record WritesC (preds : List PredOf) (was now : Option Shown) : Type 0 where
  pub bytes : List ℕ
  pub file : List Fun
  pub text : CText bytes file
  pub calls : (p : PredOf) (row : Row) → Contains preds p → InRange p.sites p.vars row → CallMeansSign file p row
  pub out : option_map (λ s. s.out) now ≡ option_map (λ s. s.out ++ bytes) was

-- Where the words are `emit FILE`, FILE's bytes tell a table, and the status is done, C for its predicates was written.
abbrev pub EmitWritesC : List (List ℕ) → Shelf → Status → Option Shown → Option Shown → Type 0
EmitWritesC words shelf result was now =
    (file source : List ℕ) (t : TableOf) → words ≡ codes "emit" ∷ file ∷ [] → bytes_of file shelf ≡ Some source → Tells source t
    → result ≡ Done → WritesC t.preds was now

-- ---- `list`
-- the machine of the part, over the predicate's name, sites and variables, has on each row in range a verdict, so no operation leaves its width;
-- whatever verdict it has, its sign is the perturbed sign, and without params not 0
pub record IsPartFor (p : PredOf) (part : Part) : Type 0 where
  pub name : name_bytes part.shape.name ≡ p.name
  pub sites : part.shape.sites ≡ p.sites
  pub vars : part.shape.vars ≡ p.vars
  pub rows : (row : Row) → InRange p.sites p.vars row → GivesPerturbedSign p part row

-- the lines of the listing of such parts, one for each predicate, were written to standard output
pub record WritesListing (preds : List PredOf) (was now : Option Shown) : Type 0 where
  pub parts : List (PredOf × Part)
  pub of : map (λ x. x.0) parts ≡ preds
  pub are : All (λ x. IsPartFor x.0 x.1) parts
  pub out : option_map (λ s. s.out) now ≡ option_map (λ s. s.out ++ joined (texts_of 2 (listing_of (map (λ x. x.1) parts)))) was

-- Where the words are `list FILE`, FILE's bytes tell a table, and the status is done, a listing for its predicates was written.
abbrev pub ListWritesListing : List (List ℕ) → Shelf → Status → Option Shown → Option Shown → Type 0
ListWritesListing words shelf result was now =
    (file source : List ℕ) (t : TableOf) → words ≡ codes "list" ∷ file ∷ [] → bytes_of file shelf ≡ Some source → Tells source t
    → result ≡ Done → WritesListing t.preds was now
