-- The steps of a plan, taken one after the other.
use Rattle.std.proofs.Common.{◌≡◌, ◌⊎◌, inl, inr, ℕ, ◌+◌, ◌≤◌, ◌<◌, List, [], ◌∷◌, ◌++◌, length, map, drop, refl, ap, sym}
use Rattle.std.proofs.Common.{◌∙◌, subst, Option, Some, None, get_or}
use Rattle.std.specs.Prelude.{slice_get, IfErr, IfSome, Result, Ok, Err}
use Rattle.std.specs.Result.{IsErrAnd}
use Rattle.std.proofs.lemmas.List.{drop_more, drop_all}
use Rattle.ln_base.specs.Limits.{most_file, most_source}
use Rattle.ln_base.specs.Outside.{Shelf, bytes_of, IsAbsent, Rose, refused}
use Rattle.ln_tree.specs.declared.pred.Pred.{Pred}
use Rattle.ln_tree.specs.Table.{PredOf, TableOf, pred_of}
use Rattle.ln_compile.specs.Compiled.{pred_number}
use Rattle.ln_top.specs.declared.frame.stop.Why.{Why}
use Rattle.ln_top.specs.declared.frame.stop.Why.TheVariants.{TooLong, NoPredicate}
use Rattle.ln_top.specs.declared.frame.stop.Stop.{Stop}
use Rattle.ln_top.specs.declared.frame.stop.Stop.TheVariants as stop
use Rattle.ln_top.specs.declared.frame.ready.Ready.{Ready}
use Rattle.ln_top.specs.declared.words.Command.{Command}
use Rattle.ln_top.specs.Plan.{Plan}
use Rattle.ln_top.specs.Frame.Source.{view}
use Rattle.ln_top.specs.Frame.Given.{Outcome, stops, missing, gives}
use Rattle.ln_top.specs.Steps.{Then, stopped, lacks, goes, Each, Reads, there, long, absent, Finds, found, none, Compiles, Suits, suited, unsuited, Prepares}
use Rattle.ln_top.specs.Frame.Carried.{Halts, tells, unread, short}
use Rattle.ln_compile.specs.Compiled.{AreNumbered}
use Rattle.ln_top.specs.Frame.Signature.{Refuses}
use Rattle.ln_top.specs.Ready.{HasNumbers, IsReady}
use Rattle.ln_top.proofs.Steps.Chain.{Behind, behind_at, behind_more, behind_all}
use Rattle.ln_top.proofs.FrameLemmas.FindLaws.{found_at, none_at}
use Rattle.ln_top.specs.Signature.{Asks, signature_of}

-- what stops one step stops another that takes over its stops, a file that is missing and faults of reading
halts_map : {A B : Type 0} {step : Outcome A → Type 0} {other : Outcome B → Type 0} {r q : Type 0} {s : Stop}
    → ((why : Why) → step (stops why) → other (stops why)) → (step missing → other missing) → (r → q) → Halts step r s → Halts other q s
halts_map f g k (tells why h) = tells why (f why h)
halts_map f g k (unread (inl u)) = unread (inl (k u))
halts_map f g k (unread (inr u)) = unread (inr (g u))
halts_map f g k short = short

-- what stops the first step stops the chain
pub halts_first : {A B : Type 0} (first : Outcome A → Type 0) (next : A → Outcome B → Type 0) (r q : Type 0) (s : Stop)
    → Halts first r s → (r → q) → Halts (Then first next) q s
halts_first first next r q s h f = halts_map (λ why x. stopped why x) (λ x. lacks x) f h

-- where the first step has a value, what stops the next one stops the chain
pub halts_next : {A B : Type 0} {first : Outcome A → Type 0} {next : A → Outcome B → Type 0} {r : Type 0} {s : Stop} (a : A)
    → first (gives a) → Halts (next a) r s → Halts (Then first next) r s
halts_next a g h = halts_map (λ why x. goes a g x) (λ x. goes a g x) (λ x. x) h

-- what stops the step of the next member stops the steps of the whole list
pub halts_behind : {A B : Type 0} (step : A → Outcome B → Type 0) (all rest : List A) (done : List B) (a : A) (r : Type 0) (s : Stop)
    → Behind step all (a ∷ rest) done → Halts (step a) r s → Halts (Each step all) r s
halts_behind step all rest done a r s b h = halts_map (λ why x. b (stops why) (stopped why x)) (λ x. b missing (lacks x)) (λ x. x) h

-- where room for one more is refused, the steps stop out of memory
pub refused_halts : {A T : Type 0} (step : Outcome A → Type 0) (reads : Type 0) (r : Result T Stop) → IsErrAnd r (λ e. e ≡ stop.Memory refused)
    → IfErr r (Halts step reads)
refused_halts step reads (Ok x) h = tt
refused_halts step reads (Err e) h = subst (Halts step reads) (sym h) short

-- the same, where a fault of reading in this step is one in all of them
pub halts_wider : {A : Type 0} (step : Outcome A → Type 0) (r q : Type 0) (s : Stop) → Halts step r s → (r → q) → Halts step q s
halts_wider step r q s h f = halts_map (λ why x. x) (λ x. x) f h

-- one more number
pub numbered_more : (table : List PredOf) (is : List ℕ) (ps : List PredOf) (more : List ℕ) (i : ℕ) (p : PredOf)
    → AreNumbered table is ps → slice_get table i ≡ Some p → more ≡ is ++ i ∷ []
    → AreNumbered table more (ps ++ p ∷ [])
numbered_more table is ps more i p h e m = subst (λ js. AreNumbered table js (ps ++ p ∷ [])) (sym m) (go is ps h)
  where
    go : (is : List ℕ) (ps : List PredOf) → AreNumbered table is ps → AreNumbered table (is ++ i ∷ []) (ps ++ p ∷ [])
    go [] [] h = (e, tt)
    go [] (q ∷ qs) h = absurd h
    go (j ∷ js) [] h = absurd h
    go (j ∷ js) (q ∷ qs) h = (h.0, go js qs h.1)

-- the step of a file that was read within its limit comes to its bytes
pub read_there : (told : Option Shelf) (limit : ℕ) (name bytes : List ℕ)
    → IfSome told (λ shelf. bytes_of name shelf ≡ Some bytes) → length bytes ≤ limit
    → Reads told limit name (gives bytes)
read_there None limit name bytes e l = there bytes tt l
read_there (Some shelf) limit name bytes e l = there bytes e l

-- a fault of reading, or a file that is missing, stops the step
pub read_fault : (told : Option Shelf) (limit : ℕ) (name : List ℕ) (r : Type 0) → r ⊎ IsAbsent name told
    → Halts (Reads told limit name) r stop.Read
read_fault told limit name r (inl u) = unread (inl u)
read_fault told limit name r (inr a) = unread (inr (absent a))

long_told : (o : Option (List ℕ)) (limit : ℕ) → IfSome o (λ bytes. limit < length bytes) → (o ≡ None → ⊥)
    → (bytes : List ℕ) × (o ≡ Some bytes) × (limit < length bytes)
long_told None limit l n = absurd (n refl)
long_told (Some bytes) limit l n = (bytes, refl, l)

-- a file with more bytes than its limit stops the step
pub read_long : (told : Option Shelf) (limit : ℕ) (name : List ℕ) (r : Type 0)
    → IfSome told (λ shelf. IfSome (bytes_of name shelf) (λ bytes. limit < length bytes)) → (IsAbsent name told → ⊥)
    → Halts (Reads told limit name) r (stop.Tell TooLong)
read_long None limit name r l n = tells TooLong (long tt)
read_long (Some shelf) limit name r l n = tells TooLong (long (long_told (bytes_of name shelf) limit l n))

-- the names before a place were found, at these numbers
pub record Looking (table : List PredOf) (names left : List (List ℕ)) (numbers : List ℕ) : Type 0 where
  pub preds : List PredOf
  pub behind : Behind (Finds table) names left preds
  pub numbered : AreNumbered table numbers preds

-- the step of `numbers`: the next name was found, at its number
pub looking_more : (ps : List Pred) (names left rest : List (List ℕ)) (numbers more : List ℕ) (name : List ℕ) (i : ℕ)
    → Looking (map pred_of ps) names left numbers → left ≡ name ∷ rest → pred_number name ps ≡ Some i
    → more ≡ numbers ++ i ∷ [] → Looking (map pred_of ps) names rest more
looking_more ps names left rest numbers more name i s l e m =
    let p = found_at name ps i e in
    record {
      preds = s.preds ++ p.0 ∷ [];
      behind = behind_more (Finds (map pred_of ps)) names rest s.preds name p.0
          (behind_at (Finds (map pred_of ps)) names left rest s.preds name s.behind l) (found p.0 p.2);
      numbered = numbered_more (map pred_of ps) numbers s.preds more i p.0 s.numbered p.1 m;
    }

-- the end of the loop in `numbers`: all names were found
pub looking_all : (table : List PredOf) (names left : List (List ℕ)) (numbers : List ℕ) → Looking table names left numbers
    → left ≡ [] → HasNumbers table names numbers
looking_all table names left numbers s l = record {
  preds = s.preds;
  found = behind_all (Finds table) names left s.preds s.behind l;
  numbered = s.numbered;
}

-- a name has no predicate
pub looking_stops : (ps : List Pred) (names left rest : List (List ℕ)) (numbers : List ℕ) (name : List ℕ)
    → Looking (map pred_of ps) names left numbers → left ≡ name ∷ rest → pred_number name ps ≡ None
    → Halts (Each (Finds (map pred_of ps)) names) ⊥ (stop.Tell NoPredicate)
looking_stops ps names left rest numbers name s l n =
    halts_behind (Finds (map pred_of ps)) names rest s.preds name ⊥ (stop.Tell NoPredicate)
    (behind_at (Finds (map pred_of ps)) names left rest s.preds name s.behind l) (tells NoPredicate (none (none_at name ps n)))

-- what remains at a place, one step on
pub left_more : {A : Type 0} (f : A → List ℕ) (xs : List A) (i : ℕ) (x : A) → i < length xs → x ≡ get_or xs i x
    → map f (drop i xs) ≡ f x ∷ map f (drop (i + 1) xs)
left_more f xs i x l e = ap (map f) (drop_more xs i x l) ∙ ap (λ y. f y ∷ map f (drop (i + 1) xs)) (sym e)

-- at the end of a list nothing remains
pub left_none : {A : Type 0} (f : A → List ℕ) (xs : List A) (i : ℕ) → length xs ≤ i → map f (drop i xs) ≡ []
left_none f xs i l = ap (map f) (drop_all i xs l)

-- a count that rose after one that stood still has risen
pub rose_same : (a b c : ℕ) → b ≡ a → Rose b c → Rose a c
rose_same a b c e r = subst (λ k. Rose k c) e r

-- mapping a list with one more element appends the image of that element
pub map_behind : {A : Type 0} (f : A → List ℕ) (xs ys : List A) (x : A) → ys ≡ xs ++ x ∷ []
    → map f ys ≡ map f xs ++ f x ∷ []
map_behind {A = A} f xs ys x e = ap (map f) e ∙ go xs
  where
    go : (xs : List A) → map f (xs ++ x ∷ []) ≡ map f xs ++ f x ∷ []
    go [] = refl
    go (y ∷ rest) = ap (λ zs. f y ∷ zs) (go rest)

-- what stops a plan, step by step
pub file_stops : (plan : Plan) (told : Option Shelf) (r : Type 0) (s : Stop) → Halts (Reads told most_source plan.source) r s
    → Halts (Prepares plan told) r s
file_stops plan told r s h = halts_first _ _ r r s h (λ x. x)

-- what stops the compiler stops the plan
pub compiler_stops : (plan : Plan) (told : Option Shelf) (bytes : List ℕ) (r : Type 0) (s : Stop)
    → Reads told most_source plan.source (gives bytes) → Halts (Compiles bytes) ⊥ s → Halts (Prepares plan told) r s
compiler_stops plan told bytes r s a h = halts_next bytes a (halts_first _ _ ⊥ r s h (λ x. absurd x))

-- what stops the search for the names stops the plan
pub names_stop : (plan : Plan) (told : Option Shelf) (bytes : List ℕ) (table : TableOf) (r : Type 0) (s : Stop)
    → Reads told most_source plan.source (gives bytes) → Compiles bytes (gives table)
    → Halts (Each (Finds table.preds) plan.names) ⊥ s → Halts (Prepares plan told) r s
names_stop plan told bytes table r s a c h = halts_next bytes a (halts_next table c (halts_first _ _ ⊥ r s h (λ x. absurd x)))

-- predicates that don't suit a command stop it with its objection
refuses : (c : Command) (bytes : List ℕ) (preds : List PredOf) (s : Stop) → Refuses (signature_of c).suits bytes preds s
    → Halts (Suits c bytes preds) ⊥ s
refuses c bytes preds (stop.Tell why) h = subst (λ w. Halts (Suits c bytes preds) ⊥ (stop.Tell w)) (sym h.0) (tells _ (unsuited h.1))
refuses c bytes preds stop.Read h = absurd h
refuses c bytes preds (stop.Memory m) h = short

-- what stops the test whether the predicates suit stops the plan
pub suits_stop : (plan : Plan) (told : Option Shelf) (bytes : List ℕ) (table : TableOf) (preds : List PredOf) (r : Type 0) (s : Stop)
    → Reads told most_source plan.source (gives bytes) → Compiles bytes (gives table)
    → Each (Finds table.preds) plan.names (gives preds) → Refuses (signature_of plan.command).suits bytes preds s
    → Halts (Prepares plan told) r s
suits_stop plan told bytes table preds r s a c n h =
    halts_next bytes a (halts_next table c (halts_next preds n
    (halts_first _ _ ⊥ r s (refuses plan.command bytes preds s h) (λ x. absurd x))))

-- what stops the reading of the further files stops the plan
pub files_stop : (plan : Plan) (told : Option Shelf) (bytes : List ℕ) (table : TableOf) (preds : List PredOf) (r : Type 0)
    (s : Stop) → Reads told most_source plan.source (gives bytes) → Compiles bytes (gives table)
    → Each (Finds table.preds) plan.names (gives preds) → Asks plan.command preds
    → Halts (Each (Reads told most_file) plan.files) r s → Halts (Prepares plan told) r s
files_stop plan told bytes table preds r s a c n y h =
    halts_next bytes a (halts_next table c (halts_next preds n (halts_next tt (suited y) (halts_first _ _ r r s h (λ x. x)))))

-- all is ready
pub is_ready : (plan : Plan) (told : Option Shelf) (bytes : List ℕ) (r : Ready) → Reads told most_source plan.source (gives bytes)
    → Compiles bytes (gives (view r.compiled.table))
    → (n : HasNumbers (map pred_of r.compiled.table.preds) plan.names r.numbers.items) → Asks plan.command n.preds
    → Each (Reads told most_file) plan.files (gives (map (λ v. v.items) r.texts.items)) → IsReady plan told r
is_ready plan told bytes r a c n y t = record {
  given = record { table = view r.compiled.table; preds = n.preds; texts = map (λ v. v.items) r.texts.items };
  prepared = goes bytes a (goes (view r.compiled.table) c (goes n.preds n.found (goes tt (suited y)
      (goes (map (λ v. v.items) r.texts.items) t refl))));
  stands = record { table = refl; numbered = n.numbered; texts = refl };
}
