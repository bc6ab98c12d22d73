-- Proves that the value of an expression is a number of its type.
use Rattle.std.proofs.Common.{◌≡◌, Bool, true, false, List, None, refl, sym, subst, pos}
use Rattle.std.proofs.lemmas.Bool.{cond_both, true≢false}
use Rattle.std.specs.Prelude.{ℤ, ⊤, if◌then◌else◌, ◌+ℤ◌, ◌-ℤ◌, ◌*ℤ◌, neg_ℤ, int_div, int_lt, not, slice_get}
use Rattle.ln_csyn.specs.declared.tree.CType.{CType}
use Rattle.ln_csyn.specs.declared.tree.CType.TheVariants.{Int, Int64, Int128}
use Rattle.ln_csyn.specs.declared.tree.COp.{COp}
use Rattle.ln_csyn.specs.declared.tree.COp.TheVariants.{Add, Sub, Mul, Div, Less, More, Same, Differ}
use Rattle.ln_csyn.specs.Tree.{Expr, Number, Name, Value, Index, Call, Inner, Minus, Two}
use Rattle.ln_csyn.specs.Meaning.{Counts, Answer, Gives, Fails, has, is_same, given, cast, then_with, counted, number_of_bool, same_number}
use Rattle.ln_csyn.specs.Meaning.{is_zero, operated, negated, Seen, find, number_in, index_at, Scene, entered, value_of}

-- the number of a result is one of its type
abbrev pub IsWithin : Answer → Type 0
IsWithin (Gives t z k) = has t z ≡ true
IsWithin (Fails o) = ⊤

-- what the type was tested for
given_within : (t : CType) (z : ℤ) (k : Counts) → IsWithin (given t z k)
given_within t z k = cond_both (has t z) (Gives t z k) (Fails None) IsWithin (λ h. h) (λ h. tt)

-- what goes on
then_within : (a : Answer) (go : CType → ℤ → Counts → Answer) → ((t : CType) (z : ℤ) (k : Counts) → IsWithin (go t z k)) → IsWithin (then_with a go)
then_within (Gives t z k) go h = h t z k
then_within (Fails o) go h = tt

cast_within : (t : CType) (a : Answer) → IsWithin (cast t a)
cast_within t a = then_within a (λ u z k. given t z k) (λ u z k. given_within t z k)

-- 0 and 1 are an `int`
bool_within : (b : Bool) → has Int (number_of_bool b) ≡ true
bool_within true = refl
bool_within false = refl

-- each operation
operated_within : (o : COp) (t : CType) (x y : ℤ) (k : Counts) → IsWithin (operated o t x y k)
operated_within Add t x y k = given_within t (x +ℤ y) (counted t k)
operated_within Sub t x y k = given_within t (x -ℤ y) (counted t k)
operated_within Mul t x y k = given_within t (x *ℤ y) (counted t k)
operated_within Div t x y k = cond_both (is_zero y) _ _ IsWithin (λ h. tt) (λ h. given_within t (int_div x y) (counted t k))
operated_within Less t x y k = bool_within (int_lt x y)
operated_within More t x y k = bool_within (int_lt y x)
operated_within Same t x y k = bool_within (same_number x y)
operated_within Differ t x y k = bool_within (not (same_number x y))

-- each expression ends in a test of its type, or in a comparison
value_within : (s : Scene) (ds : List Seen) (e : Expr) (k : Counts) → IsWithin (value_of s ds e k)
value_within s ds (Number t n) k = given_within t (pos n) k
value_within s ds (Name t x) k = cast_within t (find ds x k)
value_within s ds (Value t i) k = cast_within t (number_in (slice_get s.values i) Int64 k)
value_within s ds (Index t i) k = cast_within t (number_in (index_at s.index i) Int64 k)
value_within s ds (Call t f) k = cast_within t (s.call f (entered k))
value_within s ds (Inner t e) k = cast_within t (value_of s ds e k)
value_within s ds (Minus e) k = then_within (value_of s ds e k) (λ t z j. negated t z j) (λ t z j. given_within t (neg_ℤ z) (counted t j))
value_within s ds (Two o a b) k =
    then_within (value_of s ds a k) (λ t x i. then_with (value_of s ds b i) (λ u y j. if is_same t u then operated o t x y j else Fails None))
    (λ t x i. then_within (value_of s ds b i) (λ u y j. if is_same t u then operated o t x y j else Fails None)
    (λ u y j. cond_both (is_same t u) _ _ IsWithin (λ h. operated_within o t x y j) (λ h. tt)))

-- the test on types
is_same-one : (t u : CType) → true ≡ is_same t u → t ≡ u
is_same-one Int Int h = refl
is_same-one Int64 Int64 h = refl
is_same-one Int128 Int128 h = refl
is_same-one Int Int64 h = absurd (true≢false h)
is_same-one Int Int128 h = absurd (true≢false h)
is_same-one Int64 Int h = absurd (true≢false h)
is_same-one Int64 Int128 h = absurd (true≢false h)
is_same-one Int128 Int h = absurd (true≢false h)
is_same-one Int128 Int64 h = absurd (true≢false h)

-- so is one of the type that is wanted
pub wanted_within : (s : Scene) (ds : List Seen) (e : Expr) (k j : Counts) (t u : CType) (z : ℤ) →
    Gives t z j ≡ value_of s ds e k → true ≡ is_same t u → has u z ≡ true
wanted_within s ds e k j t u z h same =
    subst (λ v. has v z ≡ true) (is_same-one t u same) (subst IsWithin (sym h) (value_within s ds e k))
