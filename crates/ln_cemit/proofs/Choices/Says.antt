-- Proves that the calls of the emitted file return the sign of the machine's verdict.
use Rattle.std.proofs.Common.{◌≡◌, ◌≢◌, ℕ, zero, suc, ◌+◌, ◌-◌, ◌<◌, ◌≤◌, ◌^◌, true, List, [], ◌∷◌, ◌++◌}
use Rattle.std.proofs.Common.{append_assoc, length, length-append, map, get_or, take, refl, sym, ap, ◌∙◌, subst, arith, ℤ, pos, negsuc}
use Rattle.std.specs.Prelude.{Option, Some, None, IfSome, All, AllPairs, nat_le, ◌≤ℤ◌, slice_get}
use Rattle.std.specs.List.{range_with_len}
use Rattle.std.proofs.lemmas.Bool.{cond_both, lt-ltb}
use Rattle.std.proofs.lemmas.Int.{ints}
use Rattle.std.proofs.lemmas.List.{length-map, map-append}
use Rattle.ln_base.specs.Limits.{most_stages}
use Rattle.ln_tree.specs.declared.shape.VarInfo.{VarInfo}
use Rattle.ln_tree.specs.Row as tree
use Rattle.ln_tree.specs.Row.{AreWithin, InRange}
use Rattle.ln_order.specs.Order.{IsOrder, index_at}
use Rattle.ln_order.specs.Orders.{IsOrderOf}
use Rattle.ln_order.specs.Prefixes.{joined}
use Rattle.ln_order.proofs.Listing.OrderExists.{order-exists}
use Rattle.ln_order.proofs.Signs.RowsLemmas.{order-places}
use Rattle.ln_code.specs.declared.op.Op.{Op}
use Rattle.ln_code.specs.declared.op.Triple.{Triple}
use Rattle.ln_code.specs.Engine.{answer}
use Rattle.ln_code.specs.FilterRules.{FilterKnown, filter_rules}
use Rattle.ln_code.specs.Kept.{FollowsFilterRules, FollowsRules, IsList, IsProgram}
use Rattle.ln_code.specs.Lists.{list_of, segment_of}
use Rattle.ln_code.specs.Numbers.{no_locals}
use Rattle.ln_code.specs.Part.{Code, FilterCode, Part, filter_value, lines_of, ops_in_blocks, ops_in_filter}
use Rattle.ln_code.proofs.Verdicts.Sums.{list_few}
use Rattle.ln_csyn.specs.declared.tree.CType.TheVariants.{Int64}
use Rattle.ln_csyn.specs.Tree.{End, Fun}
use Rattle.ln_csyn.specs.Meaning.{CCall, Counts, Said, Signed, has, is_zero}
use Rattle.ln_csyn.specs.Lines.{SameUpToLines}
use Rattle.ln_csyn.proofs.Writing.Calls.{lines_say_nothing}
use Rattle.ln_csyn.specs.Layout.{lines_end}
use Rattle.ln_csyn.proofs.Writing.Laying.{text_is_laid}
use Rattle.ln_csyn.proofs.Writing.LineEnds.{laid_ends_lines}
use Rattle.ln_cemit.specs.Checked.{plus, sign_of, ups}
use Rattle.ln_cemit.specs.Choose.{first_of_signs}
use Rattle.ln_cemit.specs.Chosen.{decided, list_of_order}
use Rattle.ln_cemit.specs.Emit.{touching_index, wide_lines}
use Rattle.ln_cemit.specs.Emitted.{AreKept, EntriesSay, EntrySays, FileIsEmitted, sign_as_number}
use Rattle.ln_cemit.specs.File.{AreAway, one_funs, two_fun}
use Rattle.ln_cemit.specs.Law.{BlockSays, FilterSays, Means}
use Rattle.ln_cemit.specs.Names.{decl_name, answer_name}
use Rattle.ln_cemit.specs.Walked.{body_for}
use Rattle.ln_cemit.specs.Ways.{block_lines, block_way, lines_of_filter, filter_way}
use Rattle.ln_cemit.specs.Whole.{Entered, block_body, bodies_of, file_of, filter_body, first_of, funs_before, moved, numbered, outer_fun, outer_name}
use Rattle.ln_cemit.specs.Whole.{part_name, parts_entered}
use Rattle.ln_cemit.proofs.Choices.Agrees.{Leaves, Same, Valued, afters, block_sign, both_same, held_sign, signs, value_or, wide_of}
use Rattle.ln_cemit.proofs.Choices.Files.{file-means}
use Rattle.ln_cemit.proofs.Choices.Heads.{heads-file, same-heads}
use Rattle.ln_cemit.proofs.Conditions.Kept.{AllFacts, Facts, NamesDiffer, NoneHas, file_kept, first_numbers, lines_short, segment_numbers}
use Rattle.ln_cemit.proofs.Conditions.Kept.{short_bodies, to_numbers}
use Rattle.ln_cemit.proofs.Meanings.Means.{blocks_say, filters_say}
use Rattle.ln_cemit.proofs.Conditions.Named.{names_serve}
use Rattle.ln_cemit.proofs.Conditions.Titles.{away_more, away_one, entry_family, family, numbered_differ, numbered_family}

-- ---- what the functions with one parameter return
module _ (vars : List VarInfo) (zs : List ℤ) (range : AreWithin vars zs) where
  block_says : (c : Code) → length c.ops ≤ 2 ^ 63 → FollowsRules vars c → BlockSays decl_name zs c
  block_says c l r =
      blocks_say decl_name vars zs c (names_serve [] (length (block_lines c)) (omega (arith, lines_short block_way c.ops c.pairs, l)) refl).0 range r

  filter_says : (f : FilterCode) → length f.ops ≤ 2 ^ 63 → FollowsFilterRules vars f → FilterSays decl_name zs f
  filter_says f l r =
      filters_say decl_name vars zs f (names_serve [] (length (lines_of_filter f)) (omega (arith, lines_short filter_way f.ops f.triples, l)) refl).0 range r

  block_means : (c : Code) → BlockSays decl_name zs c → Means zs (block_body c) (block_sign zs (Some c)) (plus (wide_of (Some c)))
  block_means c b = subst (λ (o : Option ℤ). Means zs (block_body c) (sign_of (value_or o)) (plus (wide_lines (block_lines c)))) (sym b.machine) b.means

  blocks_mean : (cs : List Code) → ops_in_blocks cs ≤ 2 ^ 63 → All (FollowsRules vars) cs → (b : ℕ) → b < length (map block_body cs)
      → Means zs (get_or (map block_body cs) b End) (block_sign zs (slice_get cs b)) (plus (wide_of (slice_get cs b)))
  blocks_mean [] l r b h = absurd (omega arith)
  blocks_mean (c ∷ cs) l r zero h = block_means c (block_says c (omega (arith, l)) (r 0 c (omega arith)))
  blocks_mean (c ∷ cs) l r (suc b) h = blocks_mean cs (omega (arith, l)) (λ k d m. r (suc k) d (omega (arith, m))) b (omega (arith, h))

  filter_means : (f : FilterCode) → FilterSays decl_name zs f → Means zs (filter_body f) (held_sign (filter_value zs f)) (λ k. k)
  filter_means f b = subst (λ o. Means zs (filter_body f) (held_sign o) (λ k. k)) (sym b.machine) b.means

  bodies_mean : (f : Option FilterCode) (cs : List Code) → ops_in_filter f + ops_in_blocks cs ≤ 2 ^ 63 → IfSome f (FollowsFilterRules vars)
      → All (FollowsRules vars) cs → (b : ℕ) → b < length (bodies_of f cs) → Means zs (get_or (bodies_of f cs) b End) (signs zs f cs b) (afters f cs b)
  bodies_mean None cs l i r b h = blocks_mean cs (omega (arith, l)) r b h
  bodies_mean (Some f) cs l i r zero h = filter_means f (filter_says f (omega (arith, l)) i)
  bodies_mean (Some f) cs l i r (suc b) h = blocks_mean cs (omega (arith, l)) r b (omega (arith, h))

  leaves : (f : Option FilterCode) → ops_in_filter f ≤ 2 ^ 63 → IfSome f (FollowsFilterRules vars) → Leaves zs f
  leaves None l i = tt
  leaves (Some f) l i = let b = filter_says f l i in (b.left, b.machine)

  valued : (cs : List Code) → ops_in_blocks cs ≤ 2 ^ 63 → All (FollowsRules vars) cs → (n : ℕ) → n < length cs → Valued zs cs n
  valued [] l r n h = absurd (omega arith)
  valued (c ∷ cs) l r zero h =
      let b = block_says c (omega (arith, l)) (r 0 c (omega arith)) in
      record { code = c; value = b.value; there = refl; is = b.machine }
  valued (c ∷ cs) l r (suc n) h =
      let v = valued cs (omega (arith, l)) (λ k d m. r (suc k) d (omega (arith, m))) n (omega (arith, h)) in
      record { code = v.code; value = v.value; there = v.there; is = v.is }

-- ---- the list of the row's order
mapped-join : (segment : List ℕ → List ℕ) (g : ℕ → List ℕ) (a n : ℕ)
    → joined (map (λ j. map suc (segment (g j))) (range_with_len a n)) ≡ map suc (joined (map (λ j. segment (g j)) (range_with_len a n)))
mapped-join segment g a zero = refl
mapped-join segment g a (suc n) =
    ap (λ z. map suc (segment (g a)) ++ z) (mapped-join segment g (a + 1) n)
    ∙ sym (map-append suc (segment (g a)) (joined (map (λ j. segment (g j)) (range_with_len (a + 1) n))))

moved-list : (f : Option FilterCode) (segment : List ℕ → List ℕ) (n : ℕ) (places : List ℕ)
    → list_of_order (λ q. moved f (segment q)) n places ≡ moved f (list_of_order segment n places)
moved-list None segment n places = refl
moved-list (Some f) segment n places = mapped-join segment (λ j. take j places) 0 (suc n)

list-is : (p : Part) (n : ℕ) (places : List ℕ) → length places ≡ n → list_of_order (segment_of p) n places ≡ list_of p places
list-is p n places e =
    let q : suc n ≡ suc (length places) - 0 = omega (arith, e) in
    ap (λ m. joined (map (λ j. segment_of p (take j places)) (range_with_len 0 m))) q

-- ---- counts
count-few : (s : ℕ → ℤ) (ns : List ℕ) → (decided s ns).1 ≤ length ns
count-few s [] = omega arith
count-few s (n ∷ ns) =
    cond_both (is_zero (s n)) _ _ (λ (d : ℤ × ℕ). d.1 ≤ suc (length ns)) (λ e. omega (arith, count-few s ns)) (λ e. omega arith)

ups-small : (n : ℕ) → n < 2 ^ 32 → ups n 0 ≡ n
ups-small zero h = refl
ups-small (suc n) h =
    let e : ups n 0 ≡ n = ups-small n (omega (arith, h)) in
    rw (e, lt-ltb n 4294967295 (omega (arith, h))) (one n)
  where
    one : (n : ℕ) → n + 1 ≡ suc n
    one n = omega arith

some-ops : (vars : List VarInfo) (depth : ℕ) (ops : List Op) (ts : List Triple) (w : FilterKnown)
    → answer (filter_rules vars depth) no_locals (lines_of ops ts) ≡ Some w → 0 < length ops
some-ops vars depth [] ts w e = cc
some-ops vars depth (o ∷ os) ts w e = omega arith

moved-length : (f : Option FilterCode) (ns : List ℕ) → length (moved f ns) ≡ length ns
moved-length None ns = refl
moved-length (Some f) ns = length-map ns suc

first-few : (vars : List VarInfo) (f : Option FilterCode) → IfSome f (FollowsFilterRules vars) → length (first_of f) ≤ ops_in_filter f
first-few vars None i = omega arith
first-few vars (Some f) i = let h = some-ops vars f.depth f.ops f.triples i.what i.known in omega (arith, h)

-- ---- the indices fit
fits-64 : (z : ℤ) → pos 0 ≤ℤ z → z ≤ℤ pos (2 ^ 63 - 1) → has Int64 z ≡ true
fits-64 (pos n) a b = lt-ltb n (2 ^ 63) (omega (arith, ints, b))
fits-64 (negsuc n) a b = absurd (omega (arith, ints, a))

-- ---- one program
-- the file's statement, where the function with two parameters is the one for n sites
abbrev MeansFor : List Fun → List Fun → List ℕ → Part → tree.Row → List ℕ → ℕ → Type 0
MeansFor front rest name p row places n = (j : Counts)
    × (CCall (front ++ (one_funs (numbered (part_name p) p.filter) 0 (bodies_of p.filter p.blocks) ++ two_fun name
    (touching_index (nat_le 2 p.shape.sites) (body_for (numbered (part_name p) p.filter) answer_name (λ q. moved p.filter (segment_of p q)) (first_of p.filter)
    n)) ∷ rest)) name row.index row.values
    ≡ Some (Signed (decided (signs row.values p.filter p.blocks) (first_of p.filter ++ list_of_order (λ q. moved p.filter (segment_of p q)) n places)).0 j))
    × (j.calls ≡ ups (decided (signs row.values p.filter p.blocks) (first_of p.filter ++ list_of_order (λ q. moved p.filter (segment_of p q)) n places)).1 0)
    × (first_of_signs (signs row.values p.filter p.blocks) (afters p.filter p.blocks)
    (first_of p.filter ++ list_of_order (λ q. moved p.filter (segment_of p q)) n places) (record { wide = 0; calls = 0 })
    ≡ Said (decided (signs row.values p.filter p.blocks) (first_of p.filter ++ list_of_order (λ q. moved p.filter (segment_of p q)) n places)).0 j)

-- along a list that is equal, as in the machine's verdict
as-verdict : (fs : List Fun) (x : Entered) (row : tree.Row) (places xs ys : List ℕ)
    (s : Same row.values x.part.filter x.part.blocks (list_of x.part places)) (j : Counts)
    → IsOrder row.index places → IsOrderOf x.part.shape.sites places → xs ≡ ys
    → ys ≡ first_of x.part.filter ++ moved x.part.filter (list_of x.part places) → length ys < 2 ^ 32
    → CCall fs (outer_name x) row.index row.values ≡ Some (Signed (decided (signs row.values x.part.filter x.part.blocks) xs).0 j)
    → j.calls ≡ ups (decided (signs row.values x.part.filter x.part.blocks) xs).1 0
    → first_of_signs (signs row.values x.part.filter x.part.blocks) (afters x.part.filter x.part.blocks) xs (record { wide = 0; calls = 0 })
    ≡ Said (decided (signs row.values x.part.filter x.part.blocks) xs).0 j → EntrySays fs x row
as-verdict fs x row places xs ys s j o u e f few called calls said =
    let p : Part = x.part in
    let zs : List ℤ = row.values in
    let g : ℕ → ℤ = signs zs p.filter p.blocks in
    let q : xs ≡ first_of p.filter ++ moved p.filter (list_of p places) = e ∙ f in
    let d : decided g xs ≡ decided g (first_of p.filter ++ moved p.filter (list_of p places)) = ap (decided g) q in
    let a : s.verdict.calls ≡ (decided g xs).1 = s.count ∙ sym (ap (λ (x : ℤ × ℕ). x.1) d) in
    let b : sign_as_number s.verdict.sign ≡ (decided g xs).0 = s.sign ∙ sym (ap (λ (x : ℤ × ℕ). x.0) d) in
    let n : (decided g xs).1 < 2 ^ 32 = let c = count-few g xs in omega (arith, c, few, ap length e) in
    record {
      verdict = s.verdict;
      counts = j;
      machine = record { places = places; order = o; list = list_of p places; chosen = record { order = u; list_is = refl }; answered = s.is };
      called = called ∙ ap (λ z. Some (Signed z j)) (sym b);
      calls = calls ∙ ups-small (decided g xs).1 n ∙ sym a;
      narrow = λ by. s.narrow by (decided g xs).0 j
          (subst (λ ns. first_of_signs g (afters p.filter p.blocks) ns (record { wide = 0; calls = 0 }) ≡ Said (decided g xs).0 j) q said);
    }

call-says : (front rest : List Fun) (y : Entered) (row : tree.Row) → Facts y.part → InRange y.part.shape.sites y.part.shape.vars row
    → AreAway front (outer_name y)
    → ((b : ℕ) → b < length (bodies_of y.part.filter y.part.blocks) → AreAway front (numbered (part_name y.part) y.part.filter b))
    → EntrySays (front ++ funs_before y rest) y row
call-says front rest y row h r away blocks_away =
    let p : Part = y.part in
    let k : IsProgram p = h.kept in
    let x : List ℕ = part_name p in
    let zs : List ℤ = row.values in
    let short = short_bodies p h in
    let small : ops_in_filter p.filter + ops_in_blocks p.blocks < 2 ^ 32 = k.few in
    let o = order-exists row.index r.differ in
    let u : IsOrderOf p.shape.sites o.0 = subst (λ n. IsOrderOf n o.0) r.size (order-places row.index o.0 o.1) in
    let list : List ℕ = list_of p o.0 in
    let is : IsList (length p.blocks) list = k.lists o.0 u in
    let few = list_few p.shape.vars p.blocks list k.blocks is in
    let m = file-means front rest (numbered x p.filter) answer_name (outer_name y) (nat_le 2 p.shape.sites) (bodies_of p.filter p.blocks)
    (signs zs p.filter p.blocks) (afters p.filter p.blocks) (λ q. moved p.filter (segment_of p q)) (first_of p.filter) o.0 row.index zs away blocks_away
    (λ i j l n e. numbered_differ x p.filter i j (omega (arith, l, short)) (omega (arith, n, short)) e)
    (bodies_mean p.shape.vars zs r.values p.filter p.blocks (omega (arith, small)) k.filter k.blocks)
    (first_numbers p.filter p.blocks) (segment_numbers p h) (λ i l. (let z = r.indices i (pos 0) l in fits-64 (index_at row.index i) z.0 z.1)) o.1 in
    let n = subst (λ k. MeansFor front rest (outer_name y) p row o.0 k) r.size m in
    let s = both_same zs p.filter p.blocks list (leaves p.shape.vars zs r.values p.filter (omega (arith, small)) k.filter)
    (λ b i. valued p.shape.vars zs r.values p.blocks (omega (arith, small)) k.blocks b (to_numbers (length p.blocks) list is.within b i)) in
    let e : first_of p.filter ++ list_of_order (λ q. moved p.filter (segment_of p q)) p.shape.sites o.0 ≡ first_of p.filter ++ moved p.filter list
    = ap (λ z. first_of p.filter ++ z) (moved-list p.filter (segment_of p) p.shape.sites o.0 ∙ ap (moved p.filter) (list-is p p.shape.sites o.0 u.size)) in
    let size : length (first_of p.filter ++ moved p.filter list) < 2 ^ 32 = (let a = first-few p.shape.vars p.filter k.filter in let b = few.members in
    let c = length-append (first_of p.filter) (moved p.filter list) in omega (arith, a, b, c, small, moved-length p.filter list)) in
    as-verdict (front ++ funs_before y rest) y row o.0 (first_of p.filter ++ list_of_order (λ q. moved p.filter (segment_of p q)) p.shape.sites o.0)
    (first_of p.filter ++ moved p.filter list) s n.0 o.1 u e refl size n.1 n.2 n.3

-- ---- all of them
-- no function before has a name of this predicate
abbrev Apart : List Fun → List Part → Type 0
Apart front [] = Unit {0}
Apart front (p ∷ ps) = ((y : List ℕ) → family y ≡ part_name p → AreAway front y) × Apart front ps

apart-more : (front gs : List Fun) (ps : List Part) → Apart front ps → Apart gs ps → Apart (front ++ gs) ps
apart-more front gs [] h k = tt
apart-more front gs (p ∷ ps) h k = ((λ y e. away_more front gs y (h.0 y e) (k.0 y e)), apart-more front gs ps h.1 k.1)

-- the functions of a program, without others after
abbrev own-funs : Entered → List Fun
own-funs x = one_funs (numbered (part_name x.part) x.part.filter) 0 (bodies_of x.part.filter x.part.blocks) ++ outer_fun x ∷ []

own-apart : (x : Entered) → Facts x.part → (ps : List Part) → NoneHas (part_name x.part) ps → Apart (own-funs x) ps
own-apart x h [] n = tt
own-apart x h (q ∷ ps) n = ((λ y e. one y e), own-apart x h ps n.1) where
  one : (y : List ℕ) → family y ≡ part_name q → AreAway (own-funs x) y
  one y e =
      let p : Part = x.part in
      let short = short_bodies p h in
      away_more (one_funs (numbered (part_name p) p.filter) 0 (bodies_of p.filter p.blocks)) (outer_fun x ∷ []) y
      (away_one (numbered (part_name p) p.filter) 0 (bodies_of p.filter p.blocks) y
      (λ j l m i. n.0 (sym e ∙ sym (ap family i) ∙ numbered_family (part_name p) p.filter j (omega (arith, m, short)))))
      ((λ i. n.0 (sym e ∙ sym (ap family i) ∙ entry_family x.entry (part_name p))), tt)

all-say : (front : List Fun) (xs : List Entered) → AllFacts (parts_entered xs) → NamesDiffer (parts_entered xs) → Apart front (parts_entered xs)
    → EntriesSay (front ++ file_of xs) xs
all-say front [] h d a = tt
all-say front (x ∷ xs) h d a =
    let p : Part = x.part in
    let ps : List Part = parts_entered xs in
    let short = short_bodies p h.0 in
    let ones : List Fun = one_funs (numbered (part_name p) p.filter) 0 (bodies_of p.filter p.blocks) in
    let e : (front ++ own-funs x) ++ file_of xs ≡ front ++ funs_before x (file_of xs) =
    append_assoc front (own-funs x) (file_of xs) ∙ ap (λ z. front ++ z) (append_assoc ones (outer_fun x ∷ []) (file_of xs)) in (
      (λ row r. call-says front (file_of xs) x row h.0 r (a.0 (outer_name x) (entry_family x.entry (part_name p)))
          (λ b l. a.0 (numbered (part_name p) p.filter b) (numbered_family (part_name p) p.filter b (omega (arith, l, short))))),
      subst (λ fs. EntriesSay fs xs) e (all-say (front ++ own-funs x) xs h.1 d.1 (apart-more front (own-funs x) ps a.1 (own-apart x h.0 ps d.0))),
    )

none-apart : (ps : List Part) → Apart [] ps
none-apart [] = tt
none-apart (p ∷ ps) = ((λ y e. tt), none-apart ps)

-- ---- what the list keeps
facts-of : (ps : List Part) → AreKept ps → All (λ (p : Part). length p.blocks ≤ most_stages) ps → AllFacts ps
facts-of [] k s = tt
facts-of (p ∷ ps) k s = (record { kept = k.0; small = s 0 p (omega arith) }, facts-of ps k.1 (λ i d l. s (suc i) d (omega (arith, l))))

none-has : (x : List ℕ) (ps : List Part) → ((i : ℕ) (d : Part) → i < length ps → part_name (get_or ps i d) ≢ x) → NoneHas x ps
none-has x [] h = tt
none-has x (p ∷ ps) h = (h 0 p (omega arith), none-has x ps (λ i d l. h (suc i) d (omega (arith, l))))

differ-of : (ps : List Part) → AllPairs (λ (p q : Part). part_name p ≢ part_name q) ps → NamesDiffer ps
differ-of [] h = tt
differ-of (p ∷ ps) h = (
  none-has (part_name p) ps (λ i d l e. h 0 (suc i) d (omega arith) (omega (arith, l)) (sym e)),
  differ-of ps (λ i j d l m. h (suc i) (suc j) d (omega (arith, l)) (omega (arith, m))),
)

-- what is said of a file is said of the same on other lines
says_too : (fs gs : List Fun) (xs : List Entered) → SameUpToLines gs fs → EntriesSay fs xs → EntriesSay gs xs
says_too fs gs [] e a = tt
says_too fs gs (x ∷ xs) e a = (
  (
      λ row r.
      let s = a.0 row r in
      record {
        verdict = s.verdict;
        counts = s.counts;
        machine = s.machine;
        called = (lines_say_nothing gs fs e (outer_name x) row.index row.values (sign_as_number s.verdict.sign) s.counts).1 s.called;
        calls = s.calls;
        narrow = s.narrow;
      }
      ),
  says_too fs gs xs e a.1,
)

-- the text of the file of programs is what is promised of their C
pub file_is_emitted : FileIsEmitted
file_is_emitted xs bytes a k e =
    let ps : List Part = parts_entered xs in
    let h = facts-of ps k a.small in
    let d = differ-of ps a.names in
    let t = text_is_laid bytes (file_of xs) (file_kept xs h d) e in
    record {
      file = t.file;
      text = t.text;
      heads = same-heads t.same ∙ heads-file xs;
      says = says_too (file_of xs) t.file xs t.same (all-say [] xs h d (none-apart ps));
      layout = e;
      lines = subst (λ z. lines_end z ≡ true) (sym e) (laid_ends_lines (file_of xs) (file_kept xs h d));
    }
