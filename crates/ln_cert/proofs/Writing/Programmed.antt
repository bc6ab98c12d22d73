-- Proves what a program's facts mean for its listing.
use Rattle.std.proofs.Common.{◌≡◌, ℕ, suc, ◌+◌, ◌≤◌, ◌<◌, List, [], ◌∷◌, ◌++◌, length, get_or, drop, take, map}
use Rattle.std.proofs.Common.{inr, refl, sym, ap, ◌∙◌, subst, arith, append_assoc, append-nil, drop-cons}
use Rattle.std.specs.Prelude.{All, decimal}
use Rattle.std.proofs.lemmas.List.{drop_all, map-append, take_all, take_more}
use Rattle.ln_tree.specs.declared.shape.VarInfo.{VarInfo}
use Rattle.ln_tree.specs.Exps.{IsRising, Pairs}
use Rattle.ln_tree.specs.Names.{name_bytes}
use Rattle.ln_order.specs.declared.order.Order.{Order as AnyOrder}
use Rattle.ln_order.specs.Order.{ArePlaces}
use Rattle.ln_order.specs.Orders.{IsOrderOf, orders_of}
use Rattle.ln_order.specs.Places.{order_places}
use Rattle.ln_order.proofs.Listing.OrdersLemmas.{member-is}
use Rattle.ln_code.specs.Kept.{AreOfSites, FollowsRules, IsBlock, IsFilter, IsList, IsProgram}
use Rattle.ln_code.specs.Lists.{list_from, list_of, segment_of}
use Rattle.ln_code.specs.Part.{Code, FilterCode, lines_of}
use Rattle.ln_code.specs.Part.{Part as Program}
use Rattle.ln_code.proofs.Verdicts.Prefixed.{list_ends, list_goes}
use Rattle.ln_code.proofs.Exponents.{site-within}
use Rattle.ln_cert.specs.declared.part.Part.{Part}
use Rattle.ln_cert.specs.declared.part.Part.TheVariants.{Predicate, Block, Order, Done}
use Rattle.ln_cert.specs.Text.{Each, IsExponent, IsNumber, IsPlace}
use Rattle.ln_cert.specs.Listing.{ListText, Predicates, first_line}
use Rattle.ln_cert.specs.Writing.{Puts, PutsLine, spaced}
use Rattle.ln_cert.specs.Written.{ForBlock, ForFilter, InBlock, InFilter, WroteParts, block_lines, blocks_lines, filter_parts, listing_of}
use Rattle.ln_cert.specs.Written.{AreListableBlocks, IsListableBlock, order_lines, program_lines}
use Rattle.ln_cert.proofs.Writing.Forms.{both_forms, program_form, some_order}
use Rattle.ln_cert.proofs.Writing.Rules.{obeys_block, obeys_filter}
use Rattle.ln_cert.proofs.Reading.Walk.{is_form}
use Rattle.ln_cert.proofs.Writing.Wrote.{Left, after, at_end, go_on, one}
use Rattle.std.proofs.Common.{zero, Contains}
use Rattle.ln_base.specs.Limits.{most_stages}

-- what holds at each place of a list holds of each of its members
pub all_each : {A : Type 0} (P : A → Type 0) (xs : List A) → All P xs → Each P xs
all_each P [] a = tt
all_each P (x ∷ xs) a = (a 0 x (omega arith), all_each P xs (λ k d h. a (suc k) d (omega arith)))

-- ---- blocks
of_vars : (vars : List VarInfo) (ps : Pairs) → length vars ≤ 168 → AreOfSites vars ps → Each (λ p. p.0 ≤ 167) ps
of_vars vars [] few s = tt
of_vars vars (p ∷ ps) few s = let h = site-within vars p.0 s.0 in (omega arith, of_vars vars ps few s.1)

exponents : (ps : Pairs) → IsRising ps → Each (λ p. p.0 ≤ 167) ps → Each IsExponent ps
exponents [] r v = tt
exponents (p ∷ ps) r v = ((v.0, r.0, omega (arith, r.1)), exponents ps r.3 v.1)

-- the first line of a block was appended, with numbers in range
pub head_wrote : (a b : List ℕ) (n : ℕ) (ps qs : Pairs) → n ≤ 65535 → IsRising qs → Each (λ p. p.0 ≤ 167) qs → ps ≡ qs
    → PutsLine a b (Block n ps) → WroteParts a b (Block n qs ∷ [])
head_wrote a b n ps qs h r v e p = one a b (Block n qs) (subst (λ z. PutsLine a b (Block n z)) e p) (h, exponents qs r v)

-- the exponents of a block are of variables up to 167
pub block_vars : (c : Code) → ForBlock c → Each (λ p. p.0 ≤ 167) c.exps
block_vars c f = of_vars f.vars c.exps f.few f.of_sites

-- each operation of a block that follows the rules is as `InBlock` has it
pub block_each : (c : Code) → ForBlock c → IsBlock c → Each InBlock (lines_of c.ops c.pairs)
block_each c f k = obeys_block f.vars c f.few f.rules k.stores_have

-- each operation of a filter that follows the rules is as `InFilter` has it
pub filter_each : (f : FilterCode) → ForFilter f → IsFilter f → Each InFilter (lines_of f.ops f.triples)
filter_each f g k = obeys_filter g.vars f g.few g.rules k.stores_have

-- lines appended in three steps are appended in one
pub three : (a b c d : List ℕ) (p q r : List Part) → WroteParts a b p → WroteParts b c q → WroteParts c d r → WroteParts a d (p ++ (q ++ r))
three a b c d p q r x y z = after a b d p (q ++ r) x (after b c d q r y z)

for_block : (p : Program) → length p.shape.vars ≤ 168 → (cs : List Code) → Each (FollowsRules p.shape.vars) cs
    → Each (λ c. AreOfSites p.shape.vars c.exps) cs → Each ForBlock cs
for_block p few [] f s = tt
for_block p few (c ∷ cs) f s = (record { vars = p.shape.vars; few = few; rules = f.0; of_sites = s.0 }, for_block p few cs f.1 s.1)

-- the blocks of a program follow the rules over its variables
pub for_blocks : (p : Program) → IsProgram p → length p.shape.vars ≤ 168 → Each ForBlock p.blocks
for_blocks p k few = for_block p few p.blocks (all_each (FollowsRules p.shape.vars) p.blocks k.blocks)
    (all_each (λ c. AreOfSites p.shape.vars c.exps) p.blocks k.of_sites)

each_get : {A : Type 0} (P : A → Type 0) (xs : List A) (i : ℕ) (x : A) → i < length xs → x ≡ get_or xs i x → Each P xs → P x
each_get P [] i x h e p = absurd (omega arith)
each_get P (y ∷ ys) zero x h e p = subst P (sym e) p.0
each_get P (y ∷ ys) (suc i) x h e p = each_get P ys i x (omega arith) e p.1

-- where each block follows the rules, so does the one at a place
pub block_at : (cs : List Code) (i : ℕ) (c : Code) → i < length cs → c ≡ get_or cs i c → Each ForBlock cs → ForBlock c
block_at cs i c h e p = each_get ForBlock cs i c h e p

more_block : (start now new : List ℕ) (cs : List Code) (i : ℕ) (c : Code) → i < length cs → c ≡ get_or cs i c
    → Left start now (blocks_lines i (drop i cs)) (blocks_lines 0 cs) → WroteParts now new (block_lines i c)
    → Left start new (blocks_lines (suc i) (drop (suc i) cs)) (blocks_lines 0 cs)
more_block start now new cs i c h e left w =
    let d : drop i cs ≡ c ∷ drop (suc i) cs = drop-cons cs i c h ∙ ap (λ z. z ∷ drop (suc i) cs) (sym e) in
    go_on start now new (block_lines i c) (blocks_lines (suc i) (drop (suc i) cs)) (blocks_lines 0 cs)
    (subst (λ z. Left start now (blocks_lines i z) (blocks_lines 0 cs)) d left) w

-- the step of the loop in `put_blocks`: the lines of one more block were appended
pub more_blocks : (start now new : List ℕ) (cs : List Code) (i : ℕ) (c : Code) → i < length cs → c ≡ get_or cs i c
    → Left start now (blocks_lines i (drop i cs)) (blocks_lines 0 cs) → WroteParts now new (block_lines i c)
    → Left start new (blocks_lines (i + 1) (drop (i + 1) cs)) (blocks_lines 0 cs)
more_blocks start now new cs i c h e left w =
    let n : suc i ≡ i + 1 = omega arith in
    subst (λ m. Left start new (blocks_lines m (drop m cs)) (blocks_lines 0 cs)) n (more_block start now new cs i c h e left w)

-- the step of the loop in `put_blocks`: one more block can be listed
pub more_listable : (cs : List Code) (i : ℕ) (c : Code) → i < length cs → c ≡ get_or cs i c → (AreListableBlocks (drop i cs) → AreListableBlocks cs)
    → IsListableBlock c → AreListableBlocks (drop (i + 1) cs) → AreListableBlocks cs
more_listable cs i c h e f l rest =
    let n : i + 1 ≡ suc i = omega arith in
    let d : drop i cs ≡ c ∷ drop (suc i) cs = drop-cons cs i c h ∙ ap (λ z. z ∷ drop (suc i) cs) (sym e) in
    f (subst AreListableBlocks (sym d) (l, subst (λ m. AreListableBlocks (drop m cs)) n rest))

-- the end of the loop in `put_blocks`: all blocks can be listed
pub all_listable : (cs : List Code) (i : ℕ) → length cs ≤ i → (AreListableBlocks (drop i cs) → AreListableBlocks cs) → AreListableBlocks cs
all_listable cs i h f = f (subst AreListableBlocks (sym (drop_all i cs h)) tt)

-- ---- orders
-- with the list from the j-th prefix on appended, the text so far is the text at the start with the whole list appended
abbrev pub Listing : Program → List ℕ → List ℕ → List ℕ → ℕ → Type 0
Listing p o start now j = (r : List (List ℕ)) → now ++ spaced (map decimal (list_from p o j) ++ r) ≡ start ++ spaced (map decimal (list_from p o 0) ++ r)

-- the step of the loop in `put_list`: the segment of one more prefix was appended
pub more_list : (p : Program) (o start now new segment : List ℕ) (j : ℕ) → j ≤ length o → segment ≡ segment_of p (take j o)
    → Listing p o start now j → Puts now new (λ r. map decimal segment ++ r) → Listing p o start new (j + 1)
more_list p o start now new segment j h e l w r =
    let g : list_from p o j ≡ segment ++ list_from p o (j + 1) = list_goes p o j h ∙ ap (λ z. z ++ list_from p o (j + 1)) (sym e) in
    let m : map decimal (list_from p o j) ++ r ≡ map decimal segment ++ (map decimal (list_from p o (j + 1)) ++ r) =
    ap (λ z. map decimal z ++ r) g ∙ ap (λ z. z ++ r) (map-append decimal segment (list_from p o (j + 1)))
    ∙ append_assoc (map decimal segment) (map decimal (list_from p o (j + 1))) r in
    w.is (map decimal (list_from p o (j + 1)) ++ r) ∙ ap (λ z. now ++ spaced z) (sym m) ∙ l r

-- the end of the loop in `put_list`: the list of the order was appended
pub list_end : (p : Program) (o start now : List ℕ) (j : ℕ) → length o < j → Listing p o start now j → Puts start now (λ r. map decimal (list_from p o 0) ++ r)
list_end p o start now j h l = record { is = λ r. ap (λ z. now ++ spaced (map decimal z ++ r)) (sym (list_ends p o j h)) ∙ l r }

place : (n : ℕ) (xs : List ℕ) → n ≤ 5 → Each (λ k. k < n) xs → Each IsPlace xs
place n [] h p = tt
place n (x ∷ xs) h p = let q = p.0 in (omega arith, place n xs h p.1)

number : (n : ℕ) (xs : List ℕ) → n ≤ most_stages → Each (λ k. k < n) xs → Each IsNumber xs
number n [] h p = tt
number n (x ∷ xs) h p = let q = p.0 in (omega arith, number n xs h p.1)

-- the line of an order was appended, with numbers in range
pub order_wrote : (a b : List ℕ) (blocks : ℕ) (places list : List ℕ) → PutsLine a b (Order places list) → length places ≤ 5
    → ArePlaces places → blocks ≤ most_stages → IsList blocks list → WroteParts a b (Order places list ∷ [])
order_wrote a b blocks places list e few each small l =
    one a b (Order places list) e (
      place (length places) places few (all_each (λ k. k < length places) places each.within),
      number blocks list small (all_each (λ n. n < blocks) list l.within),
      l.filled,
    )

member : (xs : List (List ℕ)) (i : ℕ) (x : List ℕ) → i < length xs → x ≡ get_or xs i x → Contains xs x
member xs i x h e = (i, h, sym e)

get_map : (xs : List AnyOrder) (i : ℕ) (x : AnyOrder) → i < length xs → x ≡ get_or xs i x → order_places x ≡ get_or (map order_places xs) i (order_places x)
get_map [] i x h e = absurd (omega arith)
get_map (y ∷ ys) zero x h e = ap order_places e
get_map (y ∷ ys) (suc i) x h e = get_map ys i x (omega arith) e

long : (xs : List AnyOrder) → length (map order_places xs) ≡ length xs
long [] = refl
long (x ∷ xs) = let h = long xs in omega arith

-- each member of the list of all orders of some sites is an order of them
pub order_at : (k : ℕ) (os : List AnyOrder) (i : ℕ) (o : AnyOrder) → i < length os → o ≡ get_or os i o → map order_places os ≡ orders_of k
    → IsOrderOf k (order_places o)
order_at k os i o h e all =
    let l = long os in
    member-is k (order_places o)
    (subst (λ z. Contains z (order_places o)) all (member (map order_places os) i (order_places o) (omega arith) (get_map os i o h e)))

-- the step of the loop in `put_orders`: the line of one more order was appended
pub more_orders : (p : Program) (start now new : List ℕ) (os : List AnyOrder) (i : ℕ) (o : AnyOrder) → i < length os → o ≡ get_or os i o →
    Left start now (order_lines p (map order_places (drop i os))) (order_lines p (map order_places os)) →
    WroteParts now new (Order (order_places o) (list_of p (order_places o)) ∷ []) →
    Left start new (order_lines p (map order_places (drop (i + 1) os))) (order_lines p (map order_places os))
more_orders p start now new os i o h e left w =
    let n : suc i ≡ i + 1 = omega arith in
    let d : drop i os ≡ o ∷ drop (i + 1) os = drop-cons os i o h ∙ (λ j. sym e j ∷ drop (n j) os) in
    go_on start now new (Order (order_places o) (list_of p (order_places o)) ∷ []) (order_lines p (map order_places (drop (i + 1) os)))
    (order_lines p (map order_places os))
    (subst (λ z. Left start now (order_lines p (map order_places z)) (order_lines p (map order_places os))) d left) w

-- the end of the loop in `put_orders`: the lines of all were appended
pub no_orders : (p : Program) (start now : List ℕ) (os : List AnyOrder) (i : ℕ) → length os ≤ i
    → Left start now (order_lines p (map order_places (drop i os))) (order_lines p (map order_places os))
    → WroteParts start now (order_lines p (map order_places os))
no_orders p start now os i h left = at_end start now (order_lines p (map order_places (drop i os)))
    (order_lines p (map order_places os)) left (ap (λ z. order_lines p (map order_places z)) (drop_all i os h))

-- the end of the loop in `put_blocks`: the lines of all blocks were appended
pub no_blocks : (start now : List ℕ) (cs : List Code) (i : ℕ) → length cs ≤ i
    → Left start now (blocks_lines i (drop i cs)) (blocks_lines 0 cs) → WroteParts start now (blocks_lines 0 cs)
no_blocks start now cs i h left = at_end start now (blocks_lines i (drop i cs)) (blocks_lines 0 cs) left (ap (λ z. blocks_lines i z) (drop_all i cs h))

-- the words of some places were appended, and so were those of an equal list
pub places_put : (a b : List ℕ) (xs ys : List ℕ) → Puts a b (λ r. map decimal xs ++ r) → xs ≡ ys → Puts a b (λ r. map decimal ys ++ r)
places_put a b xs ys p e = subst (λ z. Puts a b (λ r. map decimal z ++ r)) e p

-- ---- programs
first_block : (n : ℕ) (xs : List ℕ) → 0 < length xs → Each (λ k. k < n) xs → 0 < n
first_block n [] h p = absurd (omega arith)
first_block n (x ∷ xs) h p = let q = p.0 in omega arith

first_in : (xs : List (List ℕ)) → 0 < length xs → Contains xs (get_or xs 0 [])
first_in [] h = absurd (omega arith)
first_in (x ∷ xs) h = (0, h, refl)

some_block : (p : Program) → IsProgram p → 0 < length p.blocks
some_block p k =
    let o : List ℕ = get_or (orders_of p.shape.sites) 0 [] in
    let c : Contains (orders_of p.shape.sites) o = first_in (orders_of p.shape.sites) (some_order p.shape.sites) in
    let l = k.lists o (member-is p.shape.sites o c) in
    first_block (length p.blocks) (list_of p o) l.filled (all_each (λ n. n < length p.blocks) (list_of p o) l.within)

-- these lines were appended, and they are predicates of version 2
pub record WroteListing (old new : List ℕ) (ps : List Part) : Type 0 where
  pub wrote : WroteParts old new ps
  pub form : Predicates 2 ps

-- the parts of a program were appended one after the other: its name, its filter, its blocks, its orders and `done`
pub record WroteProgram (p : Program) (old new : List ℕ) : Type 0 where
  pub after_name : List ℕ
  pub after_filter : List ℕ
  pub after_blocks : List ℕ
  pub after_orders : List ℕ
  pub name : WroteParts old after_name (Predicate (name_bytes p.shape.name) ∷ [])
  pub filter : WroteParts after_name after_filter (filter_parts p.filter)
  pub blocks : WroteParts after_filter after_blocks (blocks_lines 0 p.blocks)
  pub orders : WroteParts after_blocks after_orders (order_lines p (orders_of p.shape.sites))
  pub done : WroteParts after_orders new (Done ∷ [])

-- the lines of a program's parts, one after the other, are those of the program
pub program_wrote : (p : Program) (old new : List ℕ) → IsProgram p → WroteProgram p old new → WroteListing old new (program_lines p)
program_wrote p old new k w =
    let x : List Part = filter_parts p.filter in
    let y : List Part = blocks_lines 0 p.blocks in
    let z : List Part = order_lines p (orders_of p.shape.sites) in
    record {
      wrote = after old w.after_name new (Predicate (name_bytes p.shape.name) ∷ []) (x ++ (y ++ (z ++ Done ∷ []))) w.name
          (after w.after_name w.after_filter new x (y ++ (z ++ Done ∷ [])) w.filter
          (three w.after_filter w.after_blocks w.after_orders new y z (Done ∷ []) w.blocks w.orders w.done));
      form = program_form p (some_block p k);
    }

-- ---- programs appended one after the other
-- an empty text to which the first line was appended is a listing of version 2 without programs
pub begun : (a b d : List ℕ) → a ≡ b ++ d → b ≡ [] → d ≡ first_line 2 → ListText a 2 (listing_of [])
begun a b d e f g = record {
  listing = record { known = inr refl; form = is_form 2 [] (inr refl) refl; ranges = tt };
  text = e ∙ ap (λ z. z ++ d) f ∙ g;
}

listing_more : (ps : List Program) (p : Program) → listing_of (ps ++ p ∷ []) ≡ listing_of ps ++ program_lines p
listing_more [] p = append-nil (program_lines p)
listing_more (q ∷ ps) p = ap (λ z. program_lines q ++ z) (listing_more ps p) ∙ sym (append_assoc (program_lines q) (listing_of ps) (program_lines p))

-- a program appended to a listing of others makes the listing of them all
pub one_behind : (old new : List ℕ) (p : Program) → WroteListing old new (program_lines p) → (ps : List Program)
    → ListText old 2 (listing_of ps) → ListText new 2 (listing_of (ps ++ p ∷ []))
one_behind old new p w ps t =
    let b : WroteParts (first_line 2) old (listing_of ps) = record { text = t.text; ranges = t.listing.ranges } in
    let a : WroteParts (first_line 2) new (listing_of ps ++ program_lines p) = after (first_line 2) old new (listing_of ps) (program_lines p) b w.wrote in
    let l : ListText new 2 (listing_of ps ++ program_lines p) = record {
      listing = record { known = inr refl; form = both_forms (listing_of ps) (program_lines p) t.listing.form w.form; ranges = a.ranges };
      text = a.text;
    } in
    subst (λ z. ListText new 2 z) (sym (listing_more ps p)) l

-- a loop over programs, by those that are appended
pub more_listed : (now : List ℕ) (ps : List Program) (i : ℕ) (p : Program) → i < length ps → p ≡ get_or ps i p
    → ListText now 2 (listing_of (take i ps ++ p ∷ [])) → ListText now 2 (listing_of (take (i + 1) ps))
more_listed now ps i p h e t = subst (λ z. ListText now 2 (listing_of z)) (ap (λ q. take i ps ++ q ∷ []) e ∙ sym (take_more ps i p h)) t

-- the end of the loop in `write_listing`: the text is the listing of all
pub all_listed : (now : List ℕ) (ps : List Program) (i : ℕ) → length ps ≤ i → ListText now 2 (listing_of (take i ps)) → ListText now 2 (listing_of ps)
all_listed now ps i h t = subst (λ z. ListText now 2 (listing_of z)) (take_all i ps h) t
