-- States the laws of the text.
use Rattle.std.specs.Prelude.{◌≡◌, ◌≤◌, ◌<◌, ℕ, suc, true, ◌&&◌, [], List, ℤ, Some, length}
use Rattle.ln_csyn.specs.Tree.{Expr, Body, Fun}
use Rattle.ln_csyn.specs.Grammar.{Token, IsExpr, IsBody, IsFile}
use Rattle.ln_csyn.specs.Reading.{expr_at, stmts_at, stmt_at, block_at, funs_at}
use Rattle.ln_csyn.specs.Text.{IsFirst, Lexed, CText, fun_words, is_file}
use Rattle.ln_csyn.specs.Spelling.{spell_file, flat_file, text_of}
use Rattle.ln_csyn.specs.Lines.{SameUpToLines}
use Rattle.ln_csyn.specs.Layout.{IsTextOf, laid_text, lines_end}
use Rattle.ln_csyn.specs.Meaning.{CCall, Counts, Signed}
use Rattle.ln_csyn.specs.Keeps.{parens, parens_in, braces_in, keeps, each_fun, is_small, fresh_on, names_of, rest_keeps}

-- an expression that is derived within the depth is read
abbrev pub ReadIsComplete : Type 0
ReadIsComplete = (d : ℕ) (ts rest : List Token) (e : Expr) → IsExpr ts rest e → parens e ≤ d → expr_at d ts ≡ Some (e, rest)

-- so are statements
abbrev pub BodyIsComplete : Type 0
BodyIsComplete =
    (ts rest : List Token) (b : Body) → IsBody ts rest b →
    (p k n : ℕ) → braces_in b ≤ k → parens_in b ≤ suc p → length ts < n →
    stmts_at (stmt_at (suc p) p (block_at (suc p) p k)) n ts ≡ Some (b, rest)

-- so are files
abbrev pub FileIsComplete : Type 0
FileIsComplete = (ts : List Token) (fs : List Fun) → IsFile ts fs → keeps fs ≡ true →
    funs_at (block_at 16 15 64) (suc (length ts)) ts ≡ Some fs

-- no tokens have two files
abbrev pub OneFile : Type 0
OneFile = (ts : List Token) (fs gs : List Fun) → IsFile ts fs → keeps fs ≡ true → IsFile ts gs → keeps gs ≡ true → fs ≡ gs

-- an expression that is read is derived, within the depth
abbrev pub ReadIsSound : Type 0
ReadIsSound = (d : ℕ) (ts rest : List Token) (e : Expr) → expr_at d ts ≡ Some (e, rest) → IsExpr ts rest e × (parens e ≤ d)

-- so is a file
abbrev pub FileIsSound : Type 0
FileIsSound = (ts : List Token) (fs : List Fun) → funs_at (block_at 16 15 64) (suc (length ts)) ts ≡ Some fs →
    IsFile ts fs × (each_fun is_small fs ≡ true)

-- of no place two tokens are the longest
abbrev pub OneFirst : Type 0
OneFirst = (bytes : List ℕ) (n m : ℕ) → IsFirst bytes n → IsFirst bytes m → n ≡ m

-- no bytes are two lists of tokens
abbrev pub OneLexed : Type 0
OneLexed = (line : ℕ) (bytes : List ℕ) (ts us : List Token) → Lexed line bytes ts → Lexed line bytes us → ts ≡ us

-- no bytes are two files
abbrev pub OneText : Type 0
OneText = (bytes : List ℕ) (fs gs : List Fun) → CText bytes fs → CText bytes gs → fs ≡ gs

-- the checker's tests are the conditions
abbrev pub KeepsIs : Type 0
KeepsIs = (fs : List Fun) → each_fun is_small fs ≡ true → keeps fs ≡ (fresh_on [] (names_of fs) && each_fun (rest_keeps (names_of fs)) fs)

-- what is spelled for a file is derived, up to lines
abbrev pub SpelledIsDerived : Type 0
SpelledIsDerived = (fs : List Fun) → each_fun fun_words fs ≡ true → IsFile (spell_file fs) (flat_file fs)

-- what is written for a file is that file, with all lines at 2
abbrev pub WrittenIsFile : Type 0
WrittenIsFile = (fs : List Fun) → is_file fs ≡ true → CText (text_of fs) (flat_file fs)

-- what is laid out for a file is that file, up to lines
abbrev pub LaidIsFile : Type 0
LaidIsFile = (fs : List Fun) → is_file fs ≡ true → IsTextOf (laid_text fs) fs

-- in it a line ends after each ; { and }
abbrev pub LaidEndsLines : Type 0
LaidEndsLines = (fs : List Fun) → is_file fs ≡ true → lines_end (laid_text fs) ≡ true

-- two files are the same up to lines exactly where their flat files are one
abbrev pub FlatIsSame : Type 0
FlatIsSame = (fs gs : List Fun) →
    (SameUpToLines fs gs → flat_file fs ≡ flat_file gs) × (flat_file fs ≡ flat_file gs → SameUpToLines fs gs)

-- a call returns the same in files that are equal up to lines, where it returns anything
abbrev pub LinesSayNothing : Type 0
LinesSayNothing = (fs gs : List Fun) → SameUpToLines fs gs → (x : List ℕ) (index values : List ℤ) (z : ℤ) (k : Counts) →
    (CCall fs x index values ≡ Some (Signed z k) → CCall gs x index values ≡ Some (Signed z k))
    × (CCall gs x index values ≡ Some (Signed z k) → CCall fs x index values ≡ Some (Signed z k))

-- what is read of a text of the flat file is the file, up to lines
abbrev pub ReadBack : Type 0
ReadBack = (bytes : List ℕ) (fs gs : List Fun) → CText bytes (flat_file fs) → CText bytes gs → SameUpToLines gs fs

-- the file of a text is one that the type of files holds
abbrev pub TextIsKept : Type 0
TextIsKept = (bytes : List ℕ) (fs : List Fun) → CText bytes fs → is_file fs ≡ true
