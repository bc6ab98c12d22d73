-- `gen`: what it requires is carried out by lines, and one step is one.
use Rattle.std.proofs.Common.{◌≡◌, ◌≢◌, ℕ, suc, ◌+◌, ◌-◌, ◌<◌, ◌≤◌, Bool, true, List, []}
use Rattle.std.proofs.Common.{◌∷◌, ◌++◌, length, refl, ap, sym, ◌∙◌, subst, arith, Option, Err}
use Rattle.std.specs.Prelude.{Result}
use Rattle.rand_pcg.specs.Lcg.{Lcg}
use Rattle.ln_base.specs.Outside.{Shown, refused}
use Rattle.ln_tree.specs.declared.pred.Pred.{Pred}
use Rattle.ln_tree.specs.declared.shape.VarInfo.{VarInfo}
use Rattle.ln_tree.specs.Row.{InRange, Row}
use Rattle.ln_tree.specs.Table.{PredOf, pred_of}
use Rattle.ln_code.specs.RowOf.{row_of}
use Rattle.ln_code.specs.declared.row.Row as code
use Rattle.ln_code.specs.declared.verdict.Verdict.{Verdict}
use Rattle.ln_rows.specs.Record.{columns}
use Rattle.ln_watch.specs.Panel.{State, left_after, lines_at, last_lines}
use Rattle.ln_algebra.specs.Orders.{BySmallest}
use Rattle.ln_compile.specs.Filtered.{IsDue, IsDueIn}
use Rattle.ln_compile.proofs.Listing.FilteredLemmas.{one_due}
use Rattle.ln_top.specs.declared.frame.status.End.{End}
use Rattle.ln_top.specs.declared.frame.status.End.TheVariants.{Done}
use Rattle.ln_top.specs.declared.frame.status.Early.{Early}
use Rattle.ln_top.specs.declared.frame.status.Early.TheVariants.{Memory}
use Rattle.ln_top.specs.Frame.Said.{Said, Count, whole}
use Rattle.ln_top.specs.Frame.Given.{Given}
use Rattle.ln_top.specs.Frame.Carried as c
use Rattle.ln_top.specs.Frame.Carried.{CarriesOut, NoPart}
use Rattle.ln_top.specs.Signs.GenRow.{words, past}
use Rattle.ln_top.specs.Signs.Gen.{Draw, draw, drawn, draws, seeded, GenStep, GenSaid, made, GenEnds, done, gen_work}
use Rattle.ln_top.specs.Frame.Lines as l
use Rattle.ln_top.specs.Frame.Lines.{Lines, PutsOne, WroteBoth}
use Rattle.ln_top.specs.Target.Target.{Belongs, TargetOf, pred_in}
use Rattle.ln_top.specs.Frame.Work as kind_of
use Rattle.ln_top.specs.Frame.Work.{IsWorkEnd}
use Rattle.ln_top.proofs.TargetLemmas.TargetLaws.{owed_there}
use Rattle.ln_top.proofs.FrameLemmas.Loops.{Written, StepTo, Streams, faults_in, each_good}
use Rattle.ln_top.proofs.FrameLemmas.LinesLaws.{Writing, running_none, no_last, SameLines, one_lines}
use Rattle.ln_top.proofs.FrameLemmas.LinesCarry.{Task, IsByLines}
use Rattle.ln_top.proofs.SignsLemmas.MadeRangeLemmas.{words_in_range, words_length}
use Rattle.ln_top.proofs.SignsLemmas.WatchingLaws.{lines_alike, left_alike}
use Rattle.ln_top.proofs.FrameLemmas.Laws.{IsLawful, shape_objects}
use Rattle.ln_top.proofs.FrameLemmas.Grounded.{IsGrounded, in_memory}
use Rattle.ln_top.specs.declared.frame.asked.Asked.TheVariants.{Nothing}

-- the remaining rows: the next one, and those after it
pub draws_more : (k n m : ℕ) (vars : List VarInfo) (g : Lcg) → n < k → m ≡ n + 1
    → draws (k - n) n vars g ≡ draw m g ∷ draws (k - m) m vars (past (length (columns vars)) g)
draws_more k n m vars g h e =
    let one : k - n ≡ suc (k - m) = omega (arith, h, e) in
    let same : m ≡ suc n = omega (arith, e) in
    rw (one, same) refl

-- after the last row none remains
pub draws_none : (k n : ℕ) (vars : List VarInfo) (g : Lcg) → k ≤ n → draws (k - n) n vars g ≡ []
draws_none k n vars g h = let none : k - n ≡ 0 = omega (arith, h) in rw none refl

-- no row has been made
pub none_made : (p : PredOf) (boxes : List State) (k : ℕ) (vars : List VarInfo) (g : Lcg) (streams : Streams)
    → Writing (GenStep p) (record { state = boxes; left = draws k 0 vars g; streams = streams })
    (record { state = boxes; left = draws (k - 0) 0 vars g; streams = streams })
none_made p boxes k vars g streams = let same : k - 0 ≡ k = omega arith in rw same (running_none refl)

-- a row that is made is in range
drawn_in_range : (p : Pred) (d : Draw) → InRange p.shape.sites p.shape.vars (drawn p.shape.vars d)
drawn_in_range p d =
    words_in_range d.number p.shape.sites p.shape.vars (words (length (columns p.shape.vars)) d.from) p.shape.kept
    (words_length (length (columns p.shape.vars)) d.from)

-- a row in memory is the one that is drawn, and a verdict is the one that it requires
pub record IsDrawn (p : Pred) (d : Draw) (r : code.Row) (v : Verdict) : Type 0 where
  pub row : row_of p.shape.sites p.shape.vars r ≡ drawn p.shape.vars d
  pub due : IsDue (pred_of p) (row_of p.shape.sites p.shape.vars r) v

-- the verdict that it requires was shown to the watchers
pub row_put : {p : Pred} {d : Draw} {r : code.Row} {v : Verdict} {boxes z : List State} {all : Bool} {was now : Streams}
    → IsDrawn p d r v → WroteBoth (lines_at d.number v boxes) [] (faults_in was now) all was.shown now.shown
    → (all ≡ true → z ≡ left_after d.number v boxes)
    → PutsOne (GenStep (pred_of p)) boxes d z (faults_in was now) all was.shown now.shown
row_put {p = p} {d = d} {v = v} {boxes = boxes} i w s = record {
  out = lines_at d.number v boxes;
  err = [];
  left = left_after d.number v boxes;
  stepped = record {
    verdict = v;
    due = subst (λ (row : Row). IsDue (pred_of p) row v) i.row i.due;
    told = refl;
    silent = refl;
    left = refl;
  };
  wrote = w;
  stays = s;
}

-- nothing comes to Err
silent_lines : (p : PredOf) (s z : List State) (ds : List Draw) (out err : List ℕ) → Lines (GenStep p) s ds out err z → err ≡ []
silent_lines p s z [] out err (l.none _) = refl
silent_lines p s z (d ∷ ds) out err (l.more {out = o2} {err = e2} _ o e m t k) =
    ap (λ x. x ++ e2) t.silent ∙ silent_lines p m z ds o2 e2 k

-- any part may be left: for use where memory can't run out any more
abbrev pub AnyPart : List ℕ → List ℕ → Type 0
AnyPart out err = Unit {0}

-- where memory didn't run out, no part is left
pub no_part : {owes : Said → Type 0} {puts : Count} {result : Result End Early} {was now : Option Shown} → result ≢ Err (Memory refused)
    → CarriesOut owes AnyPart ⊥ ⊥ puts result was now → CarriesOut owes NoPart ⊥ ⊥ puts result was now
no_part n (c.ended s q o r e) = c.ended s q o r e
no_part n (c.unread q u r e) = c.unread q u r e
no_part n (c.cut p l r) = c.cut p l r
no_part n (c.short q l r) = absurd (n r)

module _ (t : TargetOf) (rank : t.rank ≡ BySmallest) (belongs : Belongs t.rank t.pred t.program) where
  has : (s : List State) (d : Draw) → (out : List ℕ) × (err : List ℕ) × (z : List State) × GenStep (pred_in t) s d out err z
  has s d =
      let v = owed_there t.rank t.pred t.program (drawn t.pred.shape.vars d) belongs (drawn_in_range t.pred d) in
      let due = subst (λ k. IsDueIn k (pred_in t) (drawn t.pred.shape.vars d) v.0) rank v.1 in
      (lines_at d.number v.0 s, [], left_after d.number v.0 s, record { verdict = v.0; due = due; told = refl; silent = refl; left = refl })

  module _ (seed count : ℕ) (boxes : List State) (g : Given) (e : g.preds ≡ pred_in t ∷ []) where
    abbrev rows : List Draw
    rows = draws count 0 t.pred.shape.vars (seeded seed)

    said_whole : (out err : List ℕ) (z : List State) → Lines (GenStep (pred_in t)) boxes rows out err z
        → GenSaid seed count boxes g (record { end = Done; out = out ++ last_lines z; err = err ++ [] })
    said_whole out err z d =
        let s = silent_lines (pred_in t) boxes z rows out err d in
        subst (λ x. GenSaid seed count boxes g (record { end = Done; out = out ++ last_lines z; err = x }))
        (sym (ap (λ x. x ++ []) s)) (made (pred_in t) out z e (subst (λ x. Lines (GenStep (pred_in t)) boxes rows out x z) s d))

    -- the lines of the watchers for each row, and at the end those of the ones that remain
    abbrev task : Task (List State) Draw
    task = record {
      work = each_good (GenStep (pred_in t));
      last_out = last_lines;
      last_err = no_last;
      ends = λ b. Done;
      state = boxes;
      records = rows;
      owes = GenSaid seed count boxes g;
      part = AnyPart;
    }

    -- what it requires is by lines
    pub by_lines : IsByLines task
    by_lines = record { has = has; whole = said_whole; first = λ done left out err z q d. tt }

-- the step of a row is one
pub one_step : (q : Pred) (s : List State) (d : Draw) (a b : Written (List State)) → StepTo (GenStep (pred_of q)) s d a
    → StepTo (GenStep (pred_of q)) s d b → SameLines a b
one_step q s d a b x y =
    let same = one_due q.shape (pred_of q) (drawn q.shape.vars d) x.verdict y.verdict refl refl (drawn_in_range q d) x.due y.due in
    record {
      outs = x.told ∙ lines_alike d.number x.verdict y.verdict s same.sign same.by ∙ sym y.told;
      errs = x.silent ∙ sym y.silent;
      lefts = x.left ∙ left_alike d.number x.verdict y.verdict s same.sign same.by ∙ sym y.left;
    }

tells : (seed count : ℕ) (boxes : List State) (g : Given) (a : Said) → GenSaid seed count boxes g a → GenEnds g a.end
tells seed count boxes g a (made p out z e x) = done

one : (g : Given) (a b : End) → GenEnds g a → GenEnds g b → a ≡ b
one g a b done done = refl

kind : (g : Given) (e : End) → GenEnds g e → IsWorkEnd e
kind g e done = kind_of.done

-- `gen` requires one output
gen_one : (seed count : ℕ) (boxes : List State) (g : Given) → IsGrounded g → (a b : Said) → GenSaid seed count boxes g a
    → GenSaid seed count boxes g b → a ≡ b
gen_one seed count boxes g i a b (made p o y e x) (made r out z f k) =
    let q = in_memory g p [] i e in
    let other : r ≡ pred_of q.0 = cc (e, f, q.1) in
    let same = one_lines (GenStep (pred_of q.0)) (one_step q.0) boxes (draws count 0 q.0.shape.vars (seeded seed))
    (record { out = o; err = []; left = y }) (record { out = out; err = []; left = z }) (rw (← q.1) at x) (rw other at k) in
    ap (λ t. whole Done (t ++ last_lines y)) same.outs ∙ ap (λ t. whole Done (out ++ last_lines t)) same.lefts

-- the laws of a work hold for `gen`
pub lawful : (seed count : ℕ) → IsLawful Nothing (gen_work seed count)
lawful seed count = record {
  tells = tells seed count;
  single = one;
  kind = kind;
  objects = shape_objects;
  said = λ v boxes g i q. gen_one seed count boxes g i;
}
