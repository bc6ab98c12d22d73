-- What `run`, `emit` and `list` write, from the bytes of their files on: the language, the rows, the perturbed sign; the lines, the C, the listing.
--
-- Bytes are words (`HasWords`), and words are items: site types, params and predicates (`AreItems`). A predicate is an expression over the coordinates
-- of its sites and the params among its arguments. The fields of a row give each site an index, and each coordinate and param a value in its range
-- (`AreRowFields`). Then each coordinate is moved by an infinitesimal. Which of two is the larger is said by the sites' indices, and within a site by the
-- order of coordinates: `RanksBefore` in ln_algebra, specs/Earlier.antt. The expression at the moved coordinates is a polynomial in infinitesimals, with a
-- coefficient for each vector of exponents: `coefficient` in specs/Coefficient.antt. The sign of the first that isn't 0, in the order `Earlier` of vectors,
-- is the perturbed sign of the row: `IsPerturbedSign` in specs/Sign.antt. `run` writes it at the head of the row's line (`RunWritesSigns`), a call of
-- the C that `emit` writes means it (`EmitWritesC`), and the machine of the part that `list` writes gives it (`ListWritesListing`).
use Rattle.std.specs.Prelude.{◌≡◌, ◌≢◌, ◌⊎◌, ℕ, suc, ◌<◌, ◌^◌, ◌||◌, Bool, true, ℤ, pos, neg_ℤ, ◌≤ℤ◌}
use Rattle.std.specs.Prelude.{List, [], ◌∷◌, ◌++◌, length, map, All, AllPairs, Contains, codes, bytes_eq, slice_index_or}
use Rattle.std.specs.Prelude.{Option, Some, None, option_map, negsuc}
use Rattle.std.specs.List.{list_any}
use Rattle.ln_base.specs.Decimal.{decimal_value, integer_value, is_digits, natural_value}
use Rattle.ln_base.specs.Outside.{Shelf, Shown, bytes_of}
use Rattle.ln_base.specs.Words.{is_name, is_word}
use Rattle.ln_algebra.specs.Sign.{IsPerturbedSign}
use Rattle.ln_algebra.specs.Tree.{Tree, Num, Input, Neg, Add, Sub, Mul, Pow}
use Rattle.ln_base.specs.Lines.{joined}
use Rattle.ln_tree.specs.Names.{name_bytes}
use Rattle.ln_due.specs.Due.{sign_number}
use Rattle.ln_code.specs.Part.{Part}
use Rattle.ln_code.specs.Verdict.{IsVerdict}
use Rattle.ln_code.specs.declared.verdict.Verdict.{Verdict}
use Rattle.ln_cert.specs.Listing.{texts_of}
use Rattle.ln_cert.specs.Written.{listing_of}
use Rattle.ln_csyn.specs.Meaning.{CCall, Counts, Signed}
use Rattle.ln_csyn.specs.Text.{CText}
use Rattle.ln_csyn.specs.Tree.{Fun}
use Rattle.ln_cemit.specs.Names.{call_name}
use Rattle.ln_rows.specs.Left.{Records, records_in}
use Rattle.ln_top.specs.declared.frame.status.Status.{Status}
use Rattle.ln_top.specs.declared.frame.status.Status.TheVariants.{Done, Rows}

-- ---- words
-- a word of a source: the bytes of a token
abbrev pub Word : Type 0
Word = List ℕ

-- is it one of these?
abbrev pub is_among : List Word → Word → Bool
is_among ws w = list_any (bytes_eq w) ws

-- a name or keyword, a number, or a sign: two dots or a byte of its own
abbrev pub is_source_word : Word → Bool
is_source_word w = is_word w || is_digits w || is_among (codes ".." ∷ map (λ b. b ∷ []) (codes "{}():;,.+-*^=")) w

-- the bytes are these words, each the longest at its place, with blanks and comments round them
pub data HasWords : List ℕ → List Word → Type 0 where
  none : HasWords [] []
  -- space, tab, line feed, carriage return
  blank : {b : ℕ} {bs : List ℕ} {ws : List Word} → Contains (32 ∷ 9 ∷ 10 ∷ 13 ∷ []) b → HasWords bs ws → HasWords (b ∷ bs) ws
  -- two slashes and ASCII up to the end of the line
  comment : {bs : List ℕ} {ws : List Word} (text : List ℕ) → All (λ b. (b < 128) × (b ≢ 10)) text
      → (bs ≡ []) ⊎ ((rest : List ℕ) × (bs ≡ 10 ∷ rest)) → HasWords bs ws → HasWords (47 ∷ 47 ∷ text ++ bs) ws
  word : {bs : List ℕ} {ws : List Word} (w : Word) → is_source_word w ≡ true
      → ((more rest : List ℕ) → more ++ rest ≡ bs → is_source_word (w ++ more) ≡ true → more ≡ []) → HasWords bs ws → HasWords (w ++ bs) (w ∷ ws)

-- ---- expressions
-- what names stand for: a let or a param by its NAME, a coordinate of a site by NAME . NAME
abbrev pub NameScope : Type 0
NameScope = List (List Word × Tree)

-- from the tightest on
pub data Level : Type 0 where
  Atom : Level
  Power : Level
  Unary : Level
  Term : Level
  Sum : Level

-- the words are this expression; sums and products group to the left
pub data SaysTree (scope : NameScope) : Level → List Word → Tree → Type 0 where
  number : (n : Word) → is_digits n ≡ true → SaysTree scope Atom (n ∷ []) (Num (pos (decimal_value n)))
  name : {ws : List Word} {e : Tree} → Contains scope (ws, e) → SaysTree scope Atom ws e
  parens : {ws : List Word} {e : Tree} → SaysTree scope Sum ws e → SaysTree scope Atom (codes "(" ∷ ws ++ codes ")" ∷ []) e
  atom : {ws : List Word} {e : Tree} → SaysTree scope Atom ws e → SaysTree scope Power ws e
  power : {ws : List Word} {e : Tree} (n : Word) → SaysTree scope Atom ws e → is_digits n ≡ true
      → SaysTree scope Power (ws ++ codes "^" ∷ n ∷ []) (Pow e (decimal_value n))
  base : {ws : List Word} {e : Tree} → SaysTree scope Power ws e → SaysTree scope Unary ws e
  minus : {ws : List Word} {e : Tree} → SaysTree scope Unary ws e → SaysTree scope Unary (codes "-" ∷ ws) (Neg e)
  factor : {ws : List Word} {e : Tree} → SaysTree scope Unary ws e → SaysTree scope Term ws e
  times : {us ws : List Word} {e f : Tree} → SaysTree scope Term us e → SaysTree scope Unary ws f → SaysTree scope Term (us ++ codes "*" ∷ ws) (Mul e f)
  term : {ws : List Word} {e : Tree} → SaysTree scope Term ws e → SaysTree scope Sum ws e
  plus : {us ws : List Word} {e f : Tree} → SaysTree scope Sum us e → SaysTree scope Term ws f → SaysTree scope Sum (us ++ codes "+" ∷ ws) (Add e f)
  less : {us ws : List Word} {e f : Tree} → SaysTree scope Sum us e → SaysTree scope Term ws f → SaysTree scope Sum (us ++ codes "-" ∷ ws) (Sub e f)

-- ---- items
-- a coordinate or a param with its range
pub record Ranged : Type 0 where
  pub name : Word
  pub lo : ℤ
  pub hi : ℤ

-- a site type: a name and coordinates
pub record SiteType : Type 0 where
  pub name : Word
  pub coords : List Ranged

-- an argument: a site of this name and type, or a param
pub data PredArgument : Type 0 where
  OfType : Word → SiteType → PredArgument
  OfParam : Ranged → PredArgument

-- a predicate: its expression, with the lets in place of their names, is over the coordinates and params of its arguments, by number from 0 on
pub record Predicate : Type 0 where
  pub name : Word
  pub args : List PredArgument
  pub root : Tree

-- the end of a range: NUMBER or - NUMBER
pub data IsEnd : List Word → ℤ → Type 0 where
  plain : (n : Word) → is_digits n ≡ true → IsEnd (n ∷ []) (pos (decimal_value n))
  minus : (n : Word) → is_digits n ≡ true → IsEnd (codes "-" ∷ n ∷ []) (neg_ℤ (pos (decimal_value n)))

-- NAME : LOW .. HIGH ;, any number of times
pub data AreRanged : List Word → List Ranged → Type 0 where
  none : AreRanged [] []
  more : {l h ws : List Word} {r : Ranged} {rs : List Ranged} → is_name r.name ≡ true → IsEnd l r.lo → IsEnd h r.hi → AreRanged ws rs
      → AreRanged (r.name ∷ codes ":" ∷ l ++ (codes ".." ∷ h ++ (codes ";" ∷ ws))) (r ∷ rs)

-- what an argument's NAME : KIND says
pub data IsArgument (types : List SiteType) (params : List Ranged) : Word → Word → PredArgument → Type 0 where
  site : {n : Word} {t : SiteType} → is_name n ≡ true → Contains types t → IsArgument types params n t.name (OfType n t)
  param : {p : Ranged} → Contains params p → IsArgument types params p.name (codes "param") (OfParam p)

-- arguments with commas between, and the parenthesis after them
pub data AreArguments (types : List SiteType) (params : List Ranged) : List Word → List PredArgument → Type 0 where
  last : {n k : Word} {a : PredArgument} → IsArgument types params n k a
      → AreArguments types params (n ∷ codes ":" ∷ k ∷ codes ")" ∷ []) (a ∷ [])
  more : {n k : Word} {a : PredArgument} {ws : List Word} {rest : List PredArgument} → IsArgument types params n k a
      → AreArguments types params ws rest → AreArguments types params (n ∷ codes ":" ∷ k ∷ codes "," ∷ ws) (a ∷ rest)

-- the names of what arguments give: NAME . NAME for each coordinate of a site, NAME for a param
abbrev pub inputs : List PredArgument → List (List Word)
inputs [] = []
inputs (OfType n t ∷ args) = map (λ c. n ∷ codes "." ∷ c.name ∷ []) t.coords ++ inputs args
inputs (OfParam p ∷ args) = (p.name ∷ []) ∷ inputs args

-- they stand for the variables from number v on
abbrev pub numbered_inputs : ℕ → List (List Word) → NameScope
numbered_inputs v [] = []
numbered_inputs v (ws ∷ rest) = (ws, Input v) ∷ numbered_inputs (suc v) rest

-- LET*, LET := let NAME = EXPR ;: from the scope before them to the one after them
pub data AreLets : NameScope → List Word → NameScope → Type 0 where
  none : {scope : NameScope} → AreLets scope [] scope
  more : {scope all : NameScope} {n : Word} {ws rest : List Word} {e : Tree} → is_name n ≡ true → SaysTree scope Sum ws e
      → AreLets ((n ∷ [], e) ∷ scope) rest all → AreLets scope (codes "let" ∷ n ∷ codes "=" ∷ ws ++ codes ";" ∷ rest) all

-- ITEM*, after these site types and params: the predicates that they declare
pub data AreItems : List SiteType → List Ranged → List Word → List Predicate → Type 0 where
  none : {types : List SiteType} {params : List Ranged} → AreItems types params [] []
  -- site NAME { COORD+ }
  site : {types : List SiteType} {params : List Ranged} {t : SiteType} {ws rest : List Word} {ps : List Predicate} → is_name t.name ≡ true
      → AreRanged ws t.coords → ws ≢ [] → AreItems (t ∷ types) params rest ps
      → AreItems types params (codes "site" ∷ t.name ∷ codes "{" ∷ ws ++ codes "}" ∷ rest) ps
  -- param NAME : RANGE ;
  param : {types : List SiteType} {params : List Ranged} {p : Ranged} {ws rest : List Word} {ps : List Predicate} → AreRanged ws (p ∷ [])
      → AreItems types (p ∷ params) rest ps → AreItems types params (codes "param" ∷ ws ++ rest) ps
  -- predicate NAME ( ARG (, ARG)* ) { LET* sign EXPR ; }
  predicate : {types : List SiteType} {params : List Ranged} {p : Predicate} {scope : NameScope} {args lets ws rest : List Word}
      {ps : List Predicate} → is_name p.name ≡ true → AreArguments types params args p.args
      → AreLets (numbered_inputs 0 (inputs p.args)) lets scope → SaysTree scope Sum ws p.root → AreItems types params rest ps
      → AreItems types params (codes "predicate" ∷ p.name ∷ codes "(" ∷ args
      ++ (codes "{" ∷ lets ++ (codes "sign" ∷ ws ++ (codes ";" ∷ codes "}" ∷ rest)))) (p ∷ ps)

-- the source declares these predicates
pub record SourceDeclares (source : List ℕ) (ps : List Predicate) : Type 0 where
  pub words : List Word
  pub are : HasWords source words
  pub items : AreItems [] [] words ps

-- ---- rows
-- the names of the columns: of a site its name, for its index, and NAME.NAME for each coordinate; of a param its name
abbrev pub columns_of_arguments : List PredArgument → List Word
columns_of_arguments [] = []
columns_of_arguments (OfType n t ∷ args) = n ∷ map (λ c. n ++ 46 ∷ c.name) t.coords ++ columns_of_arguments args
columns_of_arguments (OfParam p ∷ args) = p.name ∷ columns_of_arguments args

-- the fields are values in these ranges
pub data AreValues : List Ranged → List (List ℕ) → List ℤ → Type 0 where
  none : AreValues [] [] []
  more : {r : Ranged} {rs : List Ranged} {f : List ℕ} {fs : List (List ℕ)} {z : ℤ} {zs : List ℤ} → integer_value f ≡ Some z
      → r.lo ≤ℤ z → z ≤ℤ r.hi → AreValues rs fs zs → AreValues (r ∷ rs) (f ∷ fs) (z ∷ zs)

-- the fields are the index of each site before its coordinates, and the values of all variables
pub data AreRowFields : List PredArgument → List (List ℕ) → List ℕ → List ℤ → Type 0 where
  none : AreRowFields [] [] [] []
  site : {s : Word} {t : SiteType} {args : List PredArgument} {f : List ℕ} {gs fs : List (List ℕ)} {n : ℕ} {ns : List ℕ} {ys zs : List ℤ}
      → natural_value f ≡ Some n → n < 2 ^ 63 → AreValues t.coords gs ys → AreRowFields args fs ns zs
      → AreRowFields (OfType s t ∷ args) (f ∷ gs ++ fs) (n ∷ ns) (ys ++ zs)
  param : {p : Ranged} {args : List PredArgument} {g : List ℕ} {fs : List (List ℕ)} {ns : List ℕ} {z : ℤ} {zs : List ℤ}
      → AreValues (p ∷ []) (g ∷ []) (z ∷ []) → AreRowFields args fs ns zs → AreRowFields (OfParam p ∷ args) (g ∷ fs) ns (z ∷ zs)

-- ---- signs
-- the site of each variable, after s sites; a param has none
abbrev pub sites_after : ℕ → List PredArgument → List (Option ℕ)
sites_after s [] = []
sites_after s (OfType n t ∷ args) = map (λ c. Some s) t.coords ++ sites_after (suc s) args
sites_after s (OfParam p ∷ args) = None ∷ sites_after s args

-- s is the perturbed sign of the predicate on a row with these indices and values
abbrev pub HasSign : Predicate → List ℕ → List ℤ → ℤ → Type 0
HasSign p ns zs s =
    let sites = sites_after 0 p.args in
    IsPerturbedSign (length sites) (record { site = λ v. slice_index_or sites v None; index = λ k. slice_index_or ns k 0 })
    (λ v. slice_index_or zs v (pos 0)) p.root s

-- the byte of a sign: + - 0
pub data IsByteOf : ℤ → ℕ → Type 0 where
  plus : IsByteOf (pos 1) 43
  minus : IsByteOf (negsuc 0) 45
  zero : IsByteOf (pos 0) 48

-- the text begins with the perturbed sign and a space; the sign is 0 only where there is a param
pub record BeginsWithSign (p : Predicate) (ns : List ℕ) (zs : List ℤ) (text : List ℕ) : Type 0 where
  pub sign : ℤ
  pub has : HasSign p ns zs sign
  pub only : sign ≡ pos 0 → Contains (sites_after 0 p.args) None
  pub byte : ℕ
  pub of : IsByteOf sign byte
  pub rest : List ℕ
  pub is : text ≡ byte ∷ 32 ∷ rest

-- ---- `run`
-- one line for each record, in order: that of a row in range, whose indices differ, begins with its sign
pub data AreSignLines (p : Predicate) : Records → List ℕ → Type 0 where
  none : AreSignLines p [] []
  more : {fields : List (List ℕ)} {rest : Records} {lines : List ℕ} (text : List ℕ) → All (λ b. b ≢ 10) text
      → ((ns : List ℕ) (zs : List ℤ) → AreRowFields p.args fields ns zs → AllPairs (λ m n. m ≢ n) ns → BeginsWithSign p ns zs text)
      → AreSignLines p rest lines → AreSignLines p (fields ∷ rest) (text ++ 10 ∷ lines)

-- such lines were written to standard output
pub record WritesLines (p : Predicate) (records : Records) (was now : Option Shown) : Type 0 where
  pub lines : List ℕ
  pub are : AreSignLines p records lines
  pub out : option_map (λ s. s.out) now ≡ option_map (λ s. s.out ++ lines) was

-- Where the words are `run FILE NAME ROWS`, FILE declares p by this name, the records of ROWS are the names of p's columns and then these, and the
-- status is done or rows, their lines were written.
abbrev pub RunWritesSigns : List (List ℕ) → Shelf → Status → Option Shown → Option Shown → Type 0
RunWritesSigns words shelf result was now =
    (file name rows source text : List ℕ) (ps : List Predicate) (p : Predicate) (records : Records)
    → words ≡ codes "run" ∷ file ∷ name ∷ rows ∷ [] → bytes_of file shelf ≡ Some source → bytes_of rows shelf ≡ Some text
    → SourceDeclares source ps → Contains ps p → p.name ≡ name → records_in text ≡ columns_of_arguments p.args ∷ records
    → (result ≡ Done) ⊎ (result ≡ Rows) → WritesLines p records was now

-- ---- `emit`
-- the call of `ln_NAME` in the file on the row means the perturbed sign; it is 0 only where there is a param
pub record CallMeansSign (file : List Fun) (p : Predicate) (ns : List ℕ) (zs : List ℤ) : Type 0 where
  pub sign : ℤ
  pub counts : Counts
  pub called : CCall file (call_name p.name) (map pos ns) zs ≡ Some (Signed sign counts)
  pub has : HasSign p ns zs sign
  pub only : sign ≡ pos 0 → Contains (sites_after 0 p.args) None

-- the text of a C file was written to standard output, in which each call on a row that some fields say, whose indices differ, means its sign
pub record WritesC (ps : List Predicate) (was now : Option Shown) : Type 0 where
  pub bytes : List ℕ
  pub file : List Fun
  pub text : CText bytes file
  pub calls : (p : Predicate) (fields : List (List ℕ)) (ns : List ℕ) (zs : List ℤ) → Contains ps p → AreRowFields p.args fields ns zs
      → AllPairs (λ m n. m ≢ n) ns → CallMeansSign file p ns zs
  pub out : option_map (λ s. s.out) now ≡ option_map (λ s. s.out ++ bytes) was

-- Where the words are `emit FILE`, FILE declares these predicates, and the status is done, C for them was written.
abbrev pub EmitWritesC : List (List ℕ) → Shelf → Status → Option Shown → Option Shown → Type 0
EmitWritesC words shelf result was now =
    (file source : List ℕ) (ps : List Predicate) → words ≡ codes "emit" ∷ file ∷ [] → bytes_of file shelf ≡ Some source
    → SourceDeclares source ps → result ≡ Done → WritesC ps was now

-- ---- `list`
-- the machine of the part has a verdict on the row, so no operation leaves its width; whatever verdict it has, its sign is the perturbed sign,
-- and 0 only where there is a param
pub record MachineGivesSign (p : Predicate) (part : Part) (ns : List ℕ) (zs : List ℤ) : Type 0 where
  pub verdict : Verdict
  pub answers : IsVerdict part (record { index = map pos ns; values = zs }) verdict
  pub has : (v : Verdict) → IsVerdict part (record { index = map pos ns; values = zs }) v → HasSign p ns zs (sign_number v.sign)
  pub only : (v : Verdict) → IsVerdict part (record { index = map pos ns; values = zs }) v → sign_number v.sign ≡ pos 0
      → Contains (sites_after 0 p.args) None

-- so on each row that some fields say, whose indices differ
pub record IsPartFor (p : Predicate) (part : Part) : Type 0 where
  pub name : name_bytes part.shape.name ≡ p.name
  pub rows : (fields : List (List ℕ)) (ns : List ℕ) (zs : List ℤ) → AreRowFields p.args fields ns zs → AllPairs (λ m n. m ≢ n) ns
      → MachineGivesSign p part ns zs

-- the lines of the listing of such parts, one for each predicate, were written to standard output
pub record WritesListing (ps : List Predicate) (was now : Option Shown) : Type 0 where
  pub parts : List (Predicate × Part)
  pub of : map (λ x. x.0) parts ≡ ps
  pub are : All (λ x. IsPartFor x.0 x.1) parts
  pub out : option_map (λ s. s.out) now ≡ option_map (λ s. s.out ++ joined (texts_of 2 (listing_of (map (λ x. x.1) parts)))) was

-- Where the words are `list FILE`, FILE declares these predicates, and the status is done, a listing of them was written.
abbrev pub ListWritesListing : List (List ℕ) → Shelf → Status → Option Shown → Option Shown → Type 0
ListWritesListing words shelf result was now =
    (file source : List ℕ) (ps : List Predicate) → words ≡ codes "list" ∷ file ∷ [] → bytes_of file shelf ≡ Some source
    → SourceDeclares source ps → result ≡ Done → WritesListing ps was now
