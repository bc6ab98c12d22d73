-- Drafts, one let after the other.
use Rattle.std.proofs.Common.{◌≡◌, ℕ, ◌+◌, ◌≤◌, ◌<◌, List, [], ◌∷◌, ◌++◌, length, map, take, get_or, ap, arith, ◌∙◌, sym, subst, append-nil}
use Rattle.std.specs.Prelude.{OnOk, Result, Ok, Err}
use Rattle.std.proofs.lemmas.List.{take_more, map-append, length-map, length-take-le}
use Rattle.ln_interval.specs.Range.{Range, magnitude, most, power}
use Rattle.ln_interval.specs.View.{range}
use Rattle.ln_interval.proofs.Monotone.{covers_self, lower_power}
use Rattle.ln_interval.specs.declared.pair.Pair.{Pair}
use Rattle.ln_bound.specs.declared.fitted.Fitted.{Fitted}
use Rattle.ln_bound.specs.Typed.{Typed}
use Rattle.ln_bound.specs.View.{typed}
use Rattle.ln_code.specs.declared.draft.Draft.{Draft}
use Rattle.ln_code.specs.declared.op.Op.TheVariants.{Set}
use Rattle.ln_code.specs.Engine.{Line}
use Rattle.ln_code.specs.StackCode.{line, more, none}
use Rattle.ln_code.specs.Walk.{told_line}
use Rattle.ln_code.proofs.Building.Walks.{all_append, wrote_more}
use Rattle.ln_lower.specs.declared.distinct.Key.{Key}
use Rattle.ln_lower.specs.Distinct.{IsNumberOf}
use Rattle.ln_code.specs.Kept.{nothing}
use Rattle.ln_lower.specs.Wrote.{PutsLet, PutsLets, PutsTree}

-- a lower power fits where the power does
pub power_below : (p : Range) (m n : ℕ) → m ≤ n → magnitude (power p n) ≤ most → magnitude (power p m) ≤ most
power_below p m n h f = lower_power p (power p n) most m n (omega arith) h (covers_self (power p n)) f

-- what follows from a property of a success holds on success
pub ok_then : {T E : Type 0} (r : Result T E) (P Q : Type 0) → OnOk r P → (P → Q) → OnOk r Q
ok_then (Ok v) P Q h f = f h
ok_then (Err e) P Q h f = h

-- ---- lets

-- the beginning of the loop in `put_lets`: an empty draft has the operations of no lets
pub no_lets_put : (ks : List Key) (a : Draft Pair) → a.code ≡ [] → a.kept ≡ [] → PutsLets ks a []
no_lets_put ks a e k = record { lines = []; is = ap (λ (l : List (Line Pair)). map (told_line range) l) e; kept = []; are = rw k tt; code = none }

-- one let more, into the local of its number
pub next_let : (ks : List Key) (a b : Draft Pair) (ts us : List Typed) (t : Typed) (j : ℕ) → j ≡ length ts → us ≡ ts ++ (t ∷ [])
    → PutsLets ks a ts → PutsLet ks a b t j → PutsLets ks b us
next_let ks a b ts us t j e f x p =
    let y = p.puts in
    let set : List (Line Range) = line (Set (length ts)) nothing ∷ [] in
    let w = wrote_more y.wrote (rw e at p.stores) in
    let c = y.coded x.kept x.are in
    subst (λ ts. PutsLets ks b ts) (sym f) (record {
      lines = x.lines ++ (y.lines ++ set);
      is = w.code ∙ ap (λ k. k ++ (y.lines ++ set)) x.is;
      kept = x.kept ++ c.new;
      are = rw w.kept (all_append (IsNumberOf ks) a.kept y.more x.kept c.new x.are c.are);
      code = more x.code c.code;
    })

-- the operations of a tree and a store into local j are those of let j
pub let_put : (ks : List Key) (a m b : Draft Pair) (t : Typed) (j : ℕ) (p z : Pair) → range z ≡ nothing → PutsTree ks a m t p
    → b.code ≡ m.code ++ (line (Set j) z ∷ []) → b.kept ≡ m.kept → PutsLet ks a b t j
let_put ks a m b t j p z e x c k = record {
  mid = m;
  left = p;
  puts = x;
  stores = record {
    code = ap (λ (l : List (Line Pair)). map (told_line range) l) c ∙ map-append (told_line range) m.code (line (Set j) z ∷ [])
        ∙ ap (λ r. map (told_line range) m.code ++ (line (Set j) r ∷ [])) e;
    kept = k ∙ sym (append-nil m.kept);
  };
}

-- the first j + 1 lets as trees are the first j and the next one
pub more_typed : (lets : List Fitted) (j : ℕ) (u : Fitted) → j < length lets → u ≡ get_or lets j u
    → map typed (take (j + 1) lets) ≡ map typed (take j lets) ++ (typed u ∷ [])
more_typed lets j u h e =
    let a : take (j + 1) lets ≡ take j lets ++ (u ∷ []) = rw e (take_more lets j u h) in
    let b : map typed (take j lets ++ (u ∷ [])) ≡ map typed (take j lets) ++ (typed u ∷ []) = map-append typed (take j lets) (u ∷ []) in
    ap (λ (l : List Fitted). map typed l) a ∙ b

-- the first j lets as trees are j
pub typed_length : (lets : List Fitted) (j : ℕ) → j < length lets → j ≡ length (map typed (take j lets))
typed_length lets j h = let i : j ≤ length lets = omega arith in sym (simp (length-map, length-take-le j lets i) (omega arith))
