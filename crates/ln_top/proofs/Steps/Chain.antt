-- Chains: one lemma on what they come to, and one for each way to run through a list.
use Rattle.std.proofs.Common.{◌≡◌, ℕ, List, [], ◌∷◌, ◌++◌, length, refl, ap, sym, ◌∙◌, subst, arith, Some, append_assoc}
use Rattle.std.proofs.lemmas.List.{append-nil}
use Rattle.ln_base.specs.Limits.{most_file, most_source}
use Rattle.ln_base.specs.Outside.{Shelf}
use Rattle.ln_tree.specs.Table.{PredOf}
use Rattle.ln_parse.proofs.Settling.OneAnswer.{one_table}
use Rattle.ln_compile.specs.declared.refusal.Refusal.{Refusal}
use Rattle.ln_compile.specs.Refused.{span_of}
use Rattle.ln_compile.proofs.Refusing.OneRefusal.{accepted_alone, refused_one}
use Rattle.ln_top.specs.declared.frame.stop.Why.TheVariants.{Refused}
use Rattle.ln_top.specs.declared.frame.stop.Place.{Place}
use Rattle.ln_top.specs.declared.words.Command.{Command}
use Rattle.ln_top.specs.Plan.{Plan}
use Rattle.ln_top.specs.Frame.Source.{IsRefusedAt, place_at}
use Rattle.ln_top.specs.Frame.Given.{Outcome, stops, missing, gives}
use Rattle.ln_top.specs.Steps.{Then, stopped, lacks, goes, ChainEnds, Each, Reads, there, long, absent, Compiles, accepted, refused, Finds, found, none, Suits}
use Rattle.ln_top.specs.Steps.{suited, unsuited, Prepares}
use Rattle.ln_top.proofs.FrameLemmas.Outcomes.{some_same}

-- a step comes to one thing
abbrev pub One : {A : Type 0} → (Outcome A → Type 0) → Type 0
One {A} step = (o p : Outcome A) → step o → step p → o ≡ p

-- A chain of steps that each come to one thing comes to one thing.
pub one_then : {A B : Type 0} (first : Outcome A → Type 0) (next : A → Outcome B → Type 0) → One first
    → ((a : A) → One (next a)) → One (Then first next)
one_then first next f n o p (stopped w s) (stopped v t) = cc (f (stops w) (stops v) s t)
one_then first next f n o p (stopped w s) (lacks t) = cc (f (stops w) missing s t)
one_then first next f n o p (stopped w s) (goes a t y) = cc (f (stops w) (gives a) s t)
one_then first next f n o p (lacks s) (stopped v t) = cc (f (stops v) missing t s)
one_then first next f n o p (lacks s) (lacks t) = refl
one_then first next f n o p (lacks s) (goes a t y) = cc (f (gives a) missing t s)
one_then first next f n o p (goes a s x) (stopped v t) = cc (f (gives a) (stops v) s t)
one_then first next f n o p (goes a s x) (lacks t) = cc (f (gives a) missing s t)
one_then first next f n o p (goes a s x) (goes b t y) =
    let same : a ≡ b = cc (f (gives a) (gives b) s t) in
    n b o p (subst (λ c. next c o) same x) y

-- the end of a chain is one thing
pub one_gives : {A : Type 0} (a : A) → One (ChainEnds a)
one_gives a o p e f = e ∙ sym f

one_each : {A B : Type 0} (step : A → Outcome B → Type 0) → ((a : A) → One (step a)) → (all : List A) → One (Each step all)
one_each step f [] = one_gives []
one_each step f (a ∷ rest) =
    one_then (step a) (λ b. Then (Each step rest) (λ bs. ChainEnds (b ∷ bs))) (f a)
    (λ b. one_then (Each step rest) (λ bs. ChainEnds (b ∷ bs)) (one_each step f rest) (λ bs. one_gives (b ∷ bs)))

-- the known bytes of a file are one
one_reads : (shelf : Shelf) (limit : ℕ) (name : List ℕ) → One (Reads (Some shelf) limit name)
one_reads shelf limit name o p (there b e l) (there c f m) = let same : b ≡ c = cc in ap gives same
one_reads shelf limit name o p (there b e l) (long (c, f, m)) = let same : b ≡ c = cc in absurd (omega (arith, ap length same))
one_reads shelf limit name o p (there b e l) (absent a) = cc
one_reads shelf limit name o p (long (b, e, l)) (there c f m) = let same : b ≡ c = cc in absurd (omega (arith, ap length same))
one_reads shelf limit name o p (long h) (long k) = refl
one_reads shelf limit name o p (long (b, e, l)) (absent a) = cc
one_reads shelf limit name o p (absent a) (there c f m) = cc
one_reads shelf limit name o p (absent a) (long (b, e, l)) = cc
one_reads shelf limit name o p (absent a) (absent b) = refl

-- a source is accepted with one table, or refused for one thing at one place
one_refusal : (bytes : List ℕ) (r q : Refusal) (a b : Place) → IsRefusedAt bytes r a → IsRefusedAt bytes q b
    → Refused r a ≡ Refused q b
one_refusal bytes r q a b f g =
    let same : r ≡ q = refused_one bytes r q f.cause g.cause in
    let span : f.at ≡ g.at = some_same f.at g.at (sym f.span ∙ ap span_of same ∙ g.span) in
    let place : a ≡ b = f.start ∙ ap (place_at bytes) span ∙ sym g.start in
    cc

one_compiles : (bytes : List ℕ) → One (Compiles bytes)
one_compiles bytes o p (accepted t a) (accepted u b) = ap gives (one_table bytes t u a.accepted.text b.accepted.text)
one_compiles bytes o p (accepted t a) (refused r place h) = absurd (accepted_alone bytes t r a.accepted h.cause)
one_compiles bytes o p (refused r place h) (accepted t a) = absurd (accepted_alone bytes t r a.accepted h.cause)
one_compiles bytes o p (refused r place h) (refused q other k) = ap stops (one_refusal bytes r q place other h k)

one_finds : (preds : List PredOf) (name : List ℕ) → One (Finds preds name)
one_finds preds name o p (found a e) (found b f) = let same : a ≡ b = cc in ap gives same
one_finds preds name o p (found a e) (none f) = cc
one_finds preds name o p (none e) (found b f) = cc
one_finds preds name o p (none e) (none f) = refl

one_suits : (c : Command) (bytes : List ℕ) (preds : List PredOf) → One (Suits c bytes preds)
one_suits c bytes preds o p (suited a) (suited b) = refl
one_suits c bytes preds o p (suited a) (unsuited n) = absurd (n a)
one_suits c bytes preds o p (unsuited n) (suited a) = absurd (n a)
one_suits c bytes preds o p (unsuited n) (unsuited m) = refl

-- the steps of a plan come to one thing over files whose bytes are known
pub one_prepares : (plan : Plan) (shelf : Shelf) → One (Prepares plan (Some shelf))
one_prepares plan shelf =
    one_then _ _ (one_reads shelf most_source plan.source) (λ bytes.
    one_then _ _ (one_compiles bytes) (λ table.
    one_then _ _ (one_each (Finds table.preds) (one_finds table.preds) plan.names) (λ preds.
    one_then _ _ (one_suits plan.command bytes preds) (λ fine.
    one_then _ _ (one_each (Reads (Some shelf) most_file) (one_reads shelf most_file) plan.files) (λ texts.
    one_gives (record { table = table; preds = preds; texts = texts }))))))

-- values before what a list comes to
abbrev pub before : {B : Type 0} → List B → Outcome (List B) → Outcome (List B)
before done (gives bs) = gives (done ++ bs)
before done missing = missing
before done (stops why) = stops why

-- the members before a place have these values: what the rest comes to, the whole comes to
abbrev pub Behind : {A B : Type 0} → (A → Outcome B → Type 0) → List A → List A → List B → Type 0
Behind {A} {B} step all left done = (o : Outcome (List B)) → Each step left o → Each step all (before done o)

before_one : {B : Type 0} (done : List B) (b : B) (o : Outcome (List B))
    → before done (before (b ∷ []) o) ≡ before (done ++ b ∷ []) o
before_one done b (gives bs) = ap gives (sym (append_assoc done (b ∷ []) bs))
before_one done b missing = refl
before_one done b (stops why) = refl

each_one : {A B : Type 0} (step : A → Outcome B → Type 0) (a : A) (rest : List A) (b : B) → step a (gives b)
    → (o : Outcome (List B)) → Each step rest o → Each step (a ∷ rest) (before (b ∷ []) o)
each_one step a rest b s (gives bs) e = goes b s (goes bs e refl)
each_one step a rest b s missing e = goes b s (lacks e)
each_one step a rest b s (stops why) e = goes b s (stopped why e)

-- the next member is at hand
pub behind_at : {A B : Type 0} (step : A → Outcome B → Type 0) (all left rest : List A) (done : List B) (a : A)
    → Behind step all left done → left ≡ a ∷ rest → Behind step all (a ∷ rest) done
behind_at step all left rest done a h l = subst (λ xs. Behind step all xs done) l h

-- one more member has its value
pub behind_more : {A B : Type 0} (step : A → Outcome B → Type 0) (all rest : List A) (done : List B) (a : A) (b : B)
    → Behind step all (a ∷ rest) done → step a (gives b) → Behind step all rest (done ++ b ∷ [])
behind_more step all rest done a b h s =
    λ o e. subst (λ p. Each step all p) (before_one done b o) (h (before (b ∷ []) o) (each_one step a rest b s o e))

-- nothing remains: the whole has these values
pub behind_all : {A B : Type 0} (step : A → Outcome B → Type 0) (all left : List A) (done : List B)
    → Behind step all left done → left ≡ [] → Each step all (gives done)
behind_all step all left done h l =
    subst (λ d. Each step all (gives d)) (append-nil done) (h (gives []) (subst (λ xs. Each step xs (gives [])) (sym l) refl))
