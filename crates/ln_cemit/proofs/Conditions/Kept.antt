-- The emitted file keeps the conditions of the subset.
use Rattle.std.proofs.Common.{◌≡◌, ◌≢◌, ℕ, zero, suc, ◌+◌, ◌<◌, ◌≤◌, ◌^◌, not, Bool, true, false, List, [], ◌∷◌, ◌++◌, length, map}
use Rattle.std.proofs.Common.{get_or, refl, sym, ap, ◌∙◌, subst, arith, inl, inr, ℤ}
use Rattle.std.specs.Prelude.{Option, Some, None, IfSome, All, nat_le, int_lt, ◌≤ℤ◌}
use Rattle.std.specs.List.{list_all}
use Rattle.std.proofs.lemmas.Bool.{and_from, and_parts, cond_both}
use Rattle.std.proofs.lemmas.Int.{ints}
use Rattle.std.proofs.lemmas.List.{length-map}
use Rattle.std.proofs.lemmas.List.FromFn.{length-range_with_len}
use Rattle.ln_algebra.specs.Walk.{Member}
use Rattle.ln_algebra.specs.Vector.{same_vector}
use Rattle.ln_base.specs.Limits.{most_stages}
use Rattle.ln_tree.specs.declared.shape.VarInfo.{VarInfo}
use Rattle.ln_tree.specs.Row.{AreWithin}
use Rattle.ln_tree.specs.Variables.{has_range, is_laid_out}
use Rattle.ln_tree.proofs.KeptLemmas.{few_vars, laid_out}
use Rattle.ln_code.specs.declared.op.Op.{Op}
use Rattle.ln_code.specs.Kept.{FollowsFilterRules, FollowsRules, IsProgram}
use Rattle.ln_code.specs.Lists.{segment_of}
use Rattle.ln_code.specs.Part.{Code, FilterCode, Part, lines_of, ops_in_blocks, ops_in_filter}
use Rattle.ln_order.specs.Prefixes.{beside, prefixes_of}
use Rattle.ln_csyn.specs.Tree.{Body, End, Fun}
use Rattle.ln_csyn.specs.Words.{among, is_c_name, most_number}
use Rattle.ln_csyn.specs.Keeps.{distinct, each_fun, fun_keeps, is_own, names_of}
use Rattle.ln_csyn.specs.Text.{fun_words, is_file}
use Rattle.ln_cemit.specs.declared.slot.Way.{Way}
use Rattle.ln_cemit.specs.Chosen.{AreNumbers}
use Rattle.ln_cemit.specs.Conditions.{MeetsConditions, is_free}
use Rattle.ln_cemit.specs.File.{AreAway, one_fun, one_funs, two_fun}
use Rattle.ln_cemit.specs.Names.{all_begin, begins_with_l, decl_name, answer_name}
use Rattle.ln_cemit.specs.Walked.{body_for}
use Rattle.ln_cemit.specs.Ways.{block_lines, block_way, lines_of_filter, filter_way, ways}
use Rattle.ln_cemit.specs.Whole.{Entered, block_body, bodies_of, call_body, file_of, filter_body, first_of, moved, numbered, outer_fun, outer_name, part_name}
use Rattle.ln_cemit.specs.Whole.{parts_entered}
use Rattle.ln_cemit.proofs.Conditions.Keeping.{blocks_keep, filters_keep}
use Rattle.ln_cemit.proofs.Conditions.Named.{names_serve}
use Rattle.ln_cemit.proofs.Choices.Orders.{member-range}
use Rattle.ln_cemit.proofs.Conditions.Numbered.{meets}
use Rattle.ln_cemit.proofs.Conditions.Steps.{Steps, above_one, body_steps, room_few, room_for, touch_steps}
use Rattle.ln_cemit.proofs.Conditions.Titles.{away_among, away_more, away_one, distinct_one, entry_begins, entry_c_name, entry_family, entry_own, family}
use Rattle.ln_cemit.proofs.Conditions.Titles.{name_passes, numbered_begins, numbered_c_name, numbered_differ, numbered_family, numbered_no_entry}
use Rattle.ln_cemit.proofs.Conditions.Titles.{numbered_own, sign_apart}

-- ---- facts of a program
-- what holds of a program: it follows the rules for programs, and has at most 65,536 blocks
pub record Facts (p : Part) : Type 0 where
  pub kept : IsProgram p
  pub small : length p.blocks ≤ most_stages

-- there are no more lines than operations
pub lines_short : {B : Type 0} (g : B → Way) (ops : List Op) (bs : List B) → length (ways g (lines_of ops bs)) ≤ length ops
lines_short g [] bs = omega arith
lines_short g (o ∷ os) [] = omega arith
lines_short g (o ∷ os) (b ∷ bs) = let h = lines_short g os bs in omega (arith, h)

-- there is at most one function with one parameter more than there are blocks
pub few_bodies : (f : Option FilterCode) (cs : List Code) → length (bodies_of f cs) ≤ suc (length cs)
few_bodies None cs = omega (arith, length-map cs block_body)
few_bodies (Some f) cs = omega (arith, length-map cs block_body)

-- a program has at most 2^63 functions with one parameter
pub short_bodies : (p : Part) → Facts p → length (bodies_of p.filter p.blocks) ≤ 2 ^ 63
short_bodies p h = let a = few_bodies p.filter p.blocks in omega (arith, a, h.small)

-- ---- a row in range
in_range : (i : VarInfo) → has_range i ≡ true → i.lo ≤ℤ i.hi
in_range i h =
    let a = and_parts (not (int_lt i.hi i.lo)) _ h in
    let e : not (int_lt i.hi i.lo) ≡ true = a.0 in
    lower i.lo i.hi e
  where
    lower : (x y : ℤ) → not (int_lt y x) ≡ true → x ≤ℤ y
    lower x y e = grind (arith, ints)

lows_within : (vars : List VarInfo) → list_all has_range vars ≡ true → AreWithin vars (map (λ i. i.lo) vars)
lows_within [] h = tt
lows_within (i ∷ is) h =
    let p = and_parts (has_range i) (list_all has_range is) h in
    (omega (arith, ints), in_range i p.0, lows_within is p.1)

-- ---- functions with one parameter
-- whatever its name, the function with this body stands
abbrev Serves : List (List ℕ) → Body → Type 0
Serves names b = (own : List ℕ) → is_c_name own ≡ true → is_own own ≡ true → MeetsConditions names (one_fun own b)

module _ (names : List (List ℕ)) (begin : all_begin names ≡ true) (sites : ℕ) (vars : List VarInfo) (laid : is_laid_out sites vars ≡ true) where
  few : length vars ≤ most_number
  few = omega (arith, few_vars sites vars laid)

  block_serves : (c : Code) → length c.ops ≤ 2 ^ 63 → FollowsRules vars c → Serves names (block_body c)
  block_serves c l r own w o =
      let n = names_serve names (length (block_lines c)) (omega (arith, lines_short block_way c.ops c.pairs, l)) begin in
      blocks_keep names decl_name own vars c n.0 n.1 w o few r

  filter_serves : (f : FilterCode) → length f.ops ≤ 2 ^ 63 → FollowsFilterRules vars f → Serves names (filter_body f)
  filter_serves f l r own w o =
      let n = names_serve names (length (lines_of_filter f)) (omega (arith, lines_short filter_way f.ops f.triples, l)) begin in
      filters_keep names decl_name own vars (map (λ i. i.lo) vars) f (lows_within vars (laid_out sites vars laid).ranges) n.0 n.1 w o few r

  blocks_serve : (cs : List Code) → ops_in_blocks cs ≤ 2 ^ 63 → All (FollowsRules vars) cs → (b : ℕ) → b < length (map block_body cs)
      → Serves names (get_or (map block_body cs) b End)
  blocks_serve [] l r b h = absurd (omega arith)
  blocks_serve (c ∷ cs) l r zero h = block_serves c (omega (arith, l)) (r 0 c (omega arith))
  blocks_serve (c ∷ cs) l r (suc b) h = blocks_serve cs (omega (arith, l)) (λ k d m. r (suc k) d (omega (arith, m))) b (omega (arith, h))

  bodies_serve : (f : Option FilterCode) (cs : List Code) → ops_in_filter f + ops_in_blocks cs ≤ 2 ^ 63 → IfSome f (FollowsFilterRules vars)
      → All (FollowsRules vars) cs → (b : ℕ) → b < length (bodies_of f cs) → Serves names (get_or (bodies_of f cs) b End)
  bodies_serve None cs l i r b h = blocks_serve cs (omega (arith, l)) r b h
  bodies_serve (Some f) cs l i r zero h = filter_serves f (omega (arith, l)) i
  bodies_serve (Some f) cs l i r (suc b) h = blocks_serve cs (omega (arith, l)) r b (omega (arith, h))

-- each of them passes a test
each_one : (q : Fun → Bool) (name : ℕ → List ℕ) (i : ℕ) (bodies : List Body) (rest : List Fun)
    → ((j n : ℕ) → j ≡ i + n → n < length bodies → q (one_fun (name j) (get_or bodies n End)) ≡ true) → each_fun q rest ≡ true
    → each_fun q (one_funs name i bodies ++ rest) ≡ true
each_one q name i [] rest h r = r
each_one q name i (b ∷ bs) rest h r =
    rw (h i 0 (omega arith) (omega arith), each_one q name (suc i) bs rest (λ j n e l. h j (suc n) (omega (arith, e)) (omega (arith, l))) r) refl

-- ---- the numbers of functions
-- numbers that are each below m
pub to_numbers : (m : ℕ) (bs : List ℕ) → All (λ n. n < m) bs → AreNumbers m bs
to_numbers m [] h b i = absurd i
to_numbers m (x ∷ xs) h b (inl e) = let l = h 0 b (omega arith) in subst (λ z. z < m) (sym e) l
to_numbers m (x ∷ xs) h b (inr i) = to_numbers m xs (λ k d l. h (suc k) d (omega (arith, l))) b i

beside_numbers : (m : ℕ) (qs ss : List (List ℕ)) (p : List ℕ) → All (λ s. All (λ n. n < m) s) ss → AreNumbers m (beside qs ss p)
beside_numbers m [] ss p h = λ b i. absurd i
beside_numbers m (q ∷ qs) [] p h = λ b i. absurd i
beside_numbers m (q ∷ qs) (s ∷ ss) p h =
    cond_both (same_vector q p) s (beside qs ss p) (AreNumbers m) (λ e. to_numbers m s (h 0 s (omega arith)))
    (λ e. beside_numbers m qs ss p (λ k d l. h (suc k) d (omega (arith, l))))

-- numbers of blocks, as numbers of functions, are those of functions that are there
pub moved_numbers : (f : Option FilterCode) (cs : List Code) (bs : List ℕ) → AreNumbers (length cs) bs → AreNumbers (length (bodies_of f cs)) (moved f bs)
moved_numbers None cs bs h b i = omega (arith, length-map cs block_body, h b i)
moved_numbers (Some f) cs bs h b i = go bs (λ n l. h n l) i where
  go : (bs : List ℕ) → ((n : ℕ) → Member bs n → n < length cs) → Member (map suc bs) b → b < suc (length (map block_body cs))
  go [] h i = absurd i
  go (x ∷ xs) h (inl e) = omega (arith, e, h x (inl refl), length-map cs block_body)
  go (x ∷ xs) h (inr i) = go xs (λ n l. h n (inr l)) i

-- the number of the filter is that of a function that is there
pub first_numbers : (f : Option FilterCode) (cs : List Code) → AreNumbers (length (bodies_of f cs)) (first_of f)
first_numbers None cs b i = absurd i
first_numbers (Some f) cs b (inl e) = omega (arith, e)
first_numbers (Some f) cs b (inr i) = absurd i

-- the numbers in a segment, as numbers of functions, are those of functions that are there
pub segment_numbers : (p : Part) → Facts p → (q : List ℕ) → AreNumbers (length (bodies_of p.filter p.blocks)) (moved p.filter (segment_of p q))
segment_numbers p h q =
    moved_numbers p.filter p.blocks (segment_of p q) (beside_numbers (length p.blocks) (prefixes_of p.shape.sites) p.segments q h.kept.named)

-- ---- the function with two parameters
call_stands : (names : List (List ℕ)) → all_begin names ≡ true → (x : Entered) → Facts x.part → MeetsConditions names (outer_fun x)
call_stands names begin x h =
    let p : Part = x.part in
    let few : p.shape.sites ≤ 5 = (laid_out p.shape.sites p.shape.vars p.shape.kept).few_sites in
    let name : ℕ → List ℕ = numbered (part_name p) p.filter in
    let top : ℕ = length (bodies_of p.filter p.blocks) in
    let short = short_bodies p h in
    let passes = name_passes (part_name p) p.shape.name.named in
    let r = above_one p.shape.sites in
    let inside : Steps answer_name refl (room_for p.shape.sites)
    (body_for name answer_name (λ q. moved p.filter (segment_of p q)) (first_of p.filter) p.shape.sites)
    = body_steps answer_name refl name top (λ b l. numbered_c_name (part_name p) p.filter b (omega (arith, l, short)) passes)
    (λ q. moved p.filter (segment_of p q)) (segment_numbers p h) (first_of p.filter) p.shape.sites (first_numbers p.filter p.blocks)
    (omega (arith, length-range_with_len 0 p.shape.sites, few)) (λ j l. omega (arith, (member-range 0 p.shape.sites j l).1, few)) in
    let e : room_for p.shape.sites ≡ suc (suc r.0) = r.1 in
    let s : Steps answer_name refl (suc (suc r.0)) (call_body p) = touch_steps answer_name refl (suc r.0) (nat_le 2 p.shape.sites) _ (rw e at inside) in
    meets (λ i. answer_name) 1 true (λ i j l m q. omega arith) names false (outer_name x) {d = suc (suc r.0)} (call_body p)
    (λ i l. free (sign_apart names begin)) (entry_c_name x.entry (part_name p) passes) (entry_own x.entry (part_name p))
    (omega (arith, e, room_few p.shape.sites, few)) s
  where
    free : among names answer_name ≡ false → is_free names answer_name ≡ true
    free e = rw e refl

-- ---- the file
-- this holds of each program of the file
abbrev pub AllFacts : List Part → Type 0
AllFacts [] = Unit {0}
AllFacts (p ∷ ps) = Facts p × AllFacts ps

-- none of these has the name
abbrev pub NoneHas : List ℕ → List Part → Type 0
NoneHas x [] = Unit {0}
NoneHas x (p ∷ ps) = (part_name p ≢ x) × NoneHas x ps

-- no two of these have one name
abbrev pub NamesDiffer : List Part → Type 0
NamesDiffer [] = Unit {0}
NamesDiffer (p ∷ ps) = NoneHas (part_name p) ps × NamesDiffer ps

one_begin : (name : ℕ → List ℕ) (i : ℕ) (bodies : List Body) (rest : List Fun) → ((j : ℕ) → begins_with_l (name j) ≡ true)
    → all_begin (names_of rest) ≡ true → all_begin (names_of (one_funs name i bodies ++ rest)) ≡ true
one_begin name i [] rest h r = r
one_begin name i (b ∷ bs) rest h r = rw (h i, one_begin name (suc i) bs rest h r) refl

-- the names of all functions of the file begin with l
pub file_begins : (xs : List Entered) → all_begin (names_of (file_of xs)) ≡ true
file_begins [] = refl
file_begins (x ∷ xs) =
    let p : Part = x.part in
    one_begin (numbered (part_name p) p.filter) 0 (bodies_of p.filter p.blocks) (outer_fun x ∷ file_of xs) (numbered_begins (part_name p) p.filter)
    (and_from _ _ (entry_begins x.entry (part_name p)) (file_begins xs))

-- a name of another predicate's function stands nowhere
pub file_away : (y x : List ℕ) → family y ≡ x → (xs : List Entered) → AllFacts (parts_entered xs) → NoneHas x (parts_entered xs) → AreAway (file_of xs) y
file_away y x e [] h n = tt
file_away y x e (z ∷ zs) h n =
    let p : Part = z.part in
    let short = short_bodies p h.0 in
    away_more (one_funs (numbered (part_name p) p.filter) 0 (bodies_of p.filter p.blocks)) (outer_fun z ∷ file_of zs) y
    (away_one (numbered (part_name p) p.filter) 0 (bodies_of p.filter p.blocks) y
    (λ j l m q. n.0 (sym (numbered_family (part_name p) p.filter j (omega (arith, m, short))) ∙ ap family q ∙ e)))
    ((λ q. n.0 (sym (entry_family z.entry (part_name p)) ∙ ap family q ∙ e)), file_away y x e zs h.1 n.1)

file_distinct : (xs : List Entered) → AllFacts (parts_entered xs) → NamesDiffer (parts_entered xs) → distinct (names_of (file_of xs)) ≡ true
file_distinct [] h d = refl
file_distinct (z ∷ zs) h d =
    let p : Part = z.part in
    let x : List ℕ = part_name p in
    let short = short_bodies p h.0 in
    let rest : List Fun = outer_fun z ∷ file_of zs in
    let call_away : AreAway (file_of zs) (outer_name z) = file_away (outer_name z) x (entry_family z.entry x) zs h.1 d.0 in
    let behind : distinct (names_of rest) ≡ true =
    two_distinct (outer_name z) (call_body p) (file_of zs) (away_among (file_of zs) (outer_name z) call_away) (file_distinct zs h.1 d.1) in
    distinct_one (numbered x p.filter) 0 (length (bodies_of p.filter p.blocks)) (bodies_of p.filter p.blocks) rest (omega arith)
    (λ j k l m e. numbered_differ x p.filter j k (omega (arith, l, short)) (omega (arith, m, short)) e)
    (λ j l. (
      (λ q. numbered_no_entry z.entry x p.filter j (sym q)),
      file_away (numbered x p.filter j) x (numbered_family x p.filter j (omega (arith, l, short))) zs h.1 d.0,
    )) behind
  where
    two_distinct : (x : List ℕ) (b : Body) (fs : List Fun) → among (names_of fs) x ≡ false → distinct (names_of fs) ≡ true
        → distinct (names_of (two_fun x b ∷ fs)) ≡ true
    two_distinct x b fs a d = rw (a, d) refl

module _ (names : List (List ℕ)) (begin : all_begin names ≡ true) where
  one_stands : (p : Part) → Facts p → (j n : ℕ) → j ≡ 0 + n → n < length (bodies_of p.filter p.blocks)
      → MeetsConditions names (one_fun (numbered (part_name p) p.filter j) (get_or (bodies_of p.filter p.blocks) n End))
  one_stands p h j n e l =
      let short = short_bodies p h in
      let passes = name_passes (part_name p) p.shape.name.named in
      bodies_serve names begin p.shape.sites p.shape.vars p.shape.kept p.filter p.blocks
      (omega (arith, h.kept.few)) h.kept.filter h.kept.blocks n l (numbered (part_name p) p.filter j)
      (numbered_c_name (part_name p) p.filter j (omega (arith, e, l, short)) passes) (numbered_own (part_name p) p.filter j)

  each_kept : (xs : List Entered) → AllFacts (parts_entered xs) → each_fun (fun_keeps names) (file_of xs) ≡ true
  each_kept [] h = refl
  each_kept (x ∷ xs) h =
      each_one (fun_keeps names) (numbered (part_name x.part) x.part.filter) 0 (bodies_of x.part.filter x.part.blocks) (outer_fun x ∷ file_of xs)
      (λ j n e l. (one_stands x.part h.0 j n e l).keeps) (and_from _ _ (call_stands names begin x h.0).keeps (each_kept xs h.1))

  each_words : (xs : List Entered) → AllFacts (parts_entered xs) → each_fun fun_words (file_of xs) ≡ true
  each_words [] h = refl
  each_words (x ∷ xs) h =
      each_one fun_words (numbered (part_name x.part) x.part.filter) 0 (bodies_of x.part.filter x.part.blocks) (outer_fun x ∷ file_of xs)
      (λ j n e l. (one_stands x.part h.0 j n e l).words) (and_from _ _ (call_stands names begin x h.0).words (each_words xs h.1))

-- the functions of programs whose names differ are a file of the subset
pub file_kept : (xs : List Entered) → AllFacts (parts_entered xs) → NamesDiffer (parts_entered xs) → is_file (file_of xs) ≡ true
file_kept xs h d =
    let names : List (List ℕ) = names_of (file_of xs) in
    let b = file_begins xs in
    rw (file_distinct xs h d, each_kept names b xs h, each_words names b xs h) refl
