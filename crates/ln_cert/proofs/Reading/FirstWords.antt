-- First words: which kind of line begins with a word in a state, both ways.
use Rattle.std.proofs.Common.{◌≡◌, ℕ, ◌==◌, not, Bool, true, false, List, [], ◌∷◌, Option, Some, None, refl, sym, ap, ◌∙◌, subst}
use Rattle.std.specs.Prelude.{if◌then◌else◌, bytes_eq, codes, option_map}
use Rattle.ln_base.proofs.Texts.Lists.{equal_bytes}
use Rattle.ln_base.proofs.Forms.Picked.{none, pick, some}
use Rattle.ln_bound.specs.declared.fitted.Width.TheVariants.{W64, W128}
use Rattle.ln_cert.specs.declared.part.Kind.{Kind}
use Rattle.ln_cert.specs.declared.part.Kind.TheVariants as kind
use Rattle.ln_cert.specs.declared.part.State.{State}
use Rattle.ln_cert.specs.declared.part.State.TheVariants.{Top, Opened, InFilter, Planned, InBlock, Blocks, Orders}
use Rattle.ln_cert.specs.declared.part.Verb.{Verb}
use Rattle.ln_cert.specs.declared.part.Verb.TheVariants as verb
use Rattle.ln_cert.specs.Text.{block_word, filter_word, of_block, of_filter, word_of}
use Rattle.ln_cert.specs.Reading.{block_kind, block_verbs, filter_kind, filter_verbs, found, good, kind_in, may}

-- what `kind_in` returns for a kind that it finds
pub record IsFirstWord (v : ℕ) (s : State) (w : List ℕ) (k : Kind) : Type 0 where
  pub word : w ≡ word_of k
  pub may : may v s k ≡ true
  pub good : good k ≡ true

abbrev AllOf : (Verb → Type 0) → List Verb → Type 0
AllOf P [] = Unit {0}
AllOf P (v ∷ vs) = P v × AllOf P vs

-- a verb that is found has the word, and what holds of all that are sought holds of it
found_is : (P : Verb → Type 0) (word : Verb → List ℕ) (w : List ℕ) (vs : List Verb) (k : Verb) → AllOf P vs → found word w vs ≡ Some k → (w ≡ word k) × P k
found_is P word w [] k p e = absurd (cc)
found_is P word w (v ∷ vs) k p e =
    pick (λ x. (w ≡ word x) × P x) (bytes_eq w (word v)) (Some v) (found word w vs) k
    (λ t q. let r : v ≡ k = some q in (equal_bytes w (word v) t ∙ ap word r, subst P r p.0))
    (λ q. found_is P word w vs k p.1 q)
    e

filters_good : AllOf (λ x. of_filter x ≡ true) filter_verbs
filters_good = (refl, (refl, (refl, (refl, (refl, (refl, (refl, (refl, (refl, tt)))))))))

blocks_good : AllOf (λ x. of_block x ≡ true) block_verbs
blocks_good = (refl, (refl, (refl, (refl, (refl, (refl, (refl, (refl, (refl, (refl, (refl, (refl, tt))))))))))))

mapped : {A B : Type 0} (f : A → B) (o : Option A) (k : B) → option_map f o ≡ Some k → (a : A) × (o ≡ Some a) × (f a ≡ k)
mapped f None k e = absurd (cc)
mapped f (Some a) k e = (a, refl, some e)

is_word : (v : ℕ) (s : State) (w : List ℕ) (j k : Kind) → may v s j ≡ true → good j ≡ true → bytes_eq w (word_of j) ≡ true → Some j ≡ Some k
    → IsFirstWord v s w k
is_word v s w j k m g t e = subst (λ x. IsFirstWord v s w x) (some e) (record { word = equal_bytes w (word_of j) t; may = m; good = g })

block_kind_is : (v : ℕ) (x : Verb) → of_block x ≡ true
    → (word_of (block_kind v x) ≡ block_word x) × (may v InBlock (block_kind v x) ≡ true) × (good (block_kind v x) ≡ true)
block_kind_is v x g = by (v == 1) refl
  where
    by : (t : Bool) → (v == 1) ≡ t → (word_of (if t then kind.BlockOp x else kind.RangeOp x) ≡ block_word x)
        × (may v InBlock (if t then kind.BlockOp x else kind.RangeOp x) ≡ true) × (good (if t then kind.BlockOp x else kind.RangeOp x) ≡ true)
    by true e = (refl, e, g)
    by false e = (refl, ap not e, g)

-- a kind that `kind_in` finds has this word, and it is allowed in the state with its operation
pub sound : (v : ℕ) (s : State) (w : List ℕ) (k : Kind) → kind_in v s w ≡ Some k → IsFirstWord v s w k
sound v Top w k e = pick (IsFirstWord v Top w) (bytes_eq w (codes "predicate")) _ _ k (is_word v Top w kind.Predicate k refl refl)
    (none (IsFirstWord v Top w) k) e
sound v Opened w k e =
    pick (IsFirstWord v Opened w) (bytes_eq w (codes "nofilter")) (Some kind.NoFilter)
    (if bytes_eq w (codes "filter") then Some kind.Filter else None) k (is_word v Opened w kind.NoFilter k refl refl)
    (pick (IsFirstWord v Opened w) (bytes_eq w (codes "filter")) (Some kind.Filter) None k (is_word v Opened w kind.Filter k refl refl)
    (none (IsFirstWord v Opened w) k)) e
sound v InFilter w k e =
    pick (IsFirstWord v InFilter w) (bytes_eq w (codes "decide")) (Some kind.Decide) (option_map filter_kind (found filter_word w filter_verbs)) k
    (is_word v InFilter w kind.Decide k refl refl)
    (λ q. let m = mapped filter_kind (found filter_word w filter_verbs) k q in
    let f = found_is (λ x. of_filter x ≡ true) filter_word w filter_verbs m.0 filters_good m.1 in
    subst (λ x. IsFirstWord v InFilter w x) m.2 (record { word = f.0; may = refl; good = f.1 })) e
sound v Planned w k e = pick (IsFirstWord v Planned w) (bytes_eq w (codes "block")) (Some kind.Block) None k
    (is_word v Planned w kind.Block k refl refl) (none (IsFirstWord v Planned w) k) e
sound v InBlock w k e =
    pick (IsFirstWord v InBlock w) (bytes_eq w (codes "end")) (Some kind.End) (option_map (block_kind v) (found block_word w block_verbs)) k
    (is_word v InBlock w kind.End k refl refl)
    (λ q. let m = mapped (block_kind v) (found block_word w block_verbs) k q in
    let f = found_is (λ x. of_block x ≡ true) block_word w block_verbs m.0 blocks_good m.1 in
    let b = block_kind_is v m.0 f.1 in
    subst (λ x. IsFirstWord v InBlock w x) m.2 (record { word = f.0 ∙ sym b.0; may = b.1; good = b.2 })) e
sound v Blocks w k e =
    pick (IsFirstWord v Blocks w) (bytes_eq w (codes "block")) (Some kind.Block) (if bytes_eq w (codes "order") then Some kind.Order else None) k
    (is_word v Blocks w kind.Block k refl refl)
    (pick (IsFirstWord v Blocks w) (bytes_eq w (codes "order")) (Some kind.Order) None k (is_word v Blocks w kind.Order k refl refl)
    (none (IsFirstWord v Blocks w) k)) e
sound v Orders w k e =
    pick (IsFirstWord v Orders w) (bytes_eq w (codes "order")) (Some kind.Order) (if bytes_eq w (codes "done") then Some kind.Done else None) k
    (is_word v Orders w kind.Order k refl refl)
    (pick (IsFirstWord v Orders w) (bytes_eq w (codes "done")) (Some kind.Done) None k (is_word v Orders w kind.Done k refl refl)
    (none (IsFirstWord v Orders w) k)) e

-- ---- and back
filter_finds : (v : ℕ) (x : Verb) → of_filter x ≡ true → kind_in v InFilter (filter_word x) ≡ Some (kind.FilterOp x)
filter_finds v verb.Push g = refl
filter_finds v verb.Input g = refl
filter_finds v verb.Get g = refl
filter_finds v verb.Set g = refl
filter_finds v (verb.Add W64) g = refl
filter_finds v (verb.Sub W64) g = refl
filter_finds v (verb.Mul W64) g = refl
filter_finds v (verb.Neg W64) g = refl
filter_finds v (verb.Add W128) g = absurd (cc)
filter_finds v (verb.Sub W128) g = absurd (cc)
filter_finds v (verb.Mul W128) g = absurd (cc)
filter_finds v (verb.Neg W128) g = absurd (cc)
filter_finds v verb.Cut g = refl

block_finds : (v : ℕ) (x : Verb) → of_block x ≡ true → kind_in v InBlock (block_word x) ≡ Some (block_kind v x)
block_finds v verb.Push g = refl
block_finds v verb.Input g = refl
block_finds v verb.Get g = refl
block_finds v verb.Set g = refl
block_finds v (verb.Add W64) g = refl
block_finds v (verb.Sub W64) g = refl
block_finds v (verb.Mul W64) g = refl
block_finds v (verb.Neg W64) g = refl
block_finds v (verb.Add W128) g = refl
block_finds v (verb.Sub W128) g = refl
block_finds v (verb.Mul W128) g = refl
block_finds v (verb.Neg W128) g = refl
block_finds v verb.Cut g = absurd (cc)

in_one : (v : ℕ) (x : Verb) → (v == 1) ≡ true → block_kind v x ≡ kind.BlockOp x
in_one v x e = ap (λ (t : Bool). if t then kind.BlockOp x else kind.RangeOp x) e

is_false : (t : Bool) → not t ≡ true → t ≡ false
is_false true e = absurd (cc)
is_false false e = refl

in_two : (v : ℕ) (x : Verb) → not (v == 1) ≡ true → block_kind v x ≡ kind.RangeOp x
in_two v x e = ap (λ (t : Bool). if t then kind.BlockOp x else kind.RangeOp x) (is_false (v == 1) e)

-- a kind that is allowed in a state, with its operation, is found there by its word
pub complete : (v : ℕ) (s : State) (k : Kind) → may v s k ≡ true → good k ≡ true → kind_in v s (word_of k) ≡ Some k
complete v Top kind.Predicate m g = refl
complete v Top k m g = absurd (cc)
complete v Opened kind.NoFilter m g = refl
complete v Opened kind.Filter m g = refl
complete v Opened k m g = absurd (cc)
complete v InFilter (kind.FilterOp x) m g = filter_finds v x g
complete v InFilter kind.Decide m g = refl
complete v InFilter k m g = absurd (cc)
complete v Planned kind.Block m g = refl
complete v Planned k m g = absurd (cc)
complete v InBlock (kind.BlockOp x) m g = block_finds v x g ∙ ap (λ z. Some z) (in_one v x m)
complete v InBlock (kind.RangeOp x) m g = block_finds v x g ∙ ap (λ z. Some z) (in_two v x m)
complete v InBlock kind.End m g = refl
complete v InBlock k m g = absurd (cc)
complete v Blocks kind.Block m g = refl
complete v Blocks kind.Order m g = refl
complete v Blocks k m g = absurd (cc)
complete v Orders kind.Order m g = refl
complete v Orders kind.Done m g = refl
complete v Orders k m g = absurd (cc)

-- one word, one kind
pub one_kind : (v : ℕ) (s : State) (j k : Kind) → may v s j ≡ true → good j ≡ true → may v s k ≡ true → good k ≡ true → word_of j ≡ word_of k → j ≡ k
one_kind v s j k m g n h e = some (sym (complete v s j m g) ∙ ap (kind_in v s) e ∙ complete v s k n h)
