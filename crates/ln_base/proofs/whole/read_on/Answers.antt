use Rattle.std.proofs.Common.{arith, ap, rules, ◌∙◌, refl, ◌≡◌, ◌<◌, ◌≤◌, true, false, length}
use Rattle.ln_base.proofs.Kept.{came_more, front_grows, no_bytes, still_absent, still_caused, still_counted, all_read, longer, no_front, of_any, read_is_none}
use Rattle.ln_base.proofs.Kept.{fault_is_none, long_is_none}
use Rattle.ln_base.proofs.whole.read_on.Goals as goal
use Rattle.std.specs.Prelude.{Err}
use Rattle.ln_base.specs.Outside.{refused}
use Rattle.ln_base.specs.declared.whole.ReadStop.TheVariants.{NoMemory}

pub loop-buf-init : goal.loop-buf-init
loop-buf-init g c = (
  record {
    told = refl;
    front = rw c.requires.empty (no_bytes c.args.name.now (g.F.Files.told c.args.files.now));
    came = omega (arith, ap length c.requires.empty);
    later = omega arith;
    fine = refl;
  },
  c.requires.fresh,
)

pub returns-then-n-eq0-clause-read : goal.returns-then-n-eq0-clause-read
returns-then-n-eq0-clause-read g c =
    let at : c.len-in-loop-buf.result ≡ length c.loop-buf.to.items = search rules in
    let full : 0 < length c.read_at.new.buf = search rules in
    record {
      told = c.read_at.ensures.told ∙ c.loop-buf.invariant.0.told;
      bytes = all_read _ _ _ _ _ _ _ at c.loop-buf.invariant.0.told c.loop-buf.invariant.0.front c.in-Ok.ensures.bytes c.if-n-eq0.true full
          (λ a. let h : false ≡ true = (c.in-Ok.ensures.absent a).0 in cc);
      limit = omega arith;
      fault = λ e. absurd (read_is_none e);
      long = λ e. absurd (read_is_none e);
      came = λ e. absurd (read_is_none e);
      absent = λ a. let h : false ≡ true = (c.in-Ok.ensures.absent (still_absent _ _ _ c.loop-buf.invariant.0.told a)).0 in cc;
      later = omega (arith, c.loop-buf.invariant.0.later, c.read_at.ensures.cause.later);
      step = λ e. absurd (read_is_none e);
      fine = λ n. c.in-Ok.ensures.fine ∙ c.loop-buf.invariant.0.fine;
    }

pub returns-in_err-add-in-Ok-clause-read : goal.returns-in_err-add-in-Ok-clause-read
returns-in_err-add-in-Ok-clause-read g c =
    let refused_is : c.from_residual.result ≡ Err (NoMemory refused) = search rules in
    rw refused_is (record {
      told = c.read_at.ensures.told ∙ c.loop-buf.invariant.0.told;
      bytes = of_any (g.F.Files.told c.args.files.now) _ (λ s. tt);
      limit = tt;
      fault = λ e. cc;
      long = λ e. cc;
      came = λ e. cc;
      absent = λ a. let h : false ≡ true = (c.in-Ok.ensures.absent (still_absent _ _ _ c.loop-buf.invariant.0.told a)).0 in cc;
      later = omega (arith, c.loop-buf.invariant.0.later, c.read_at.ensures.cause.later);
      step = λ e. cc;
      fine = λ n. c.in-Ok.ensures.fine ∙ c.loop-buf.invariant.0.fine;
    })

pub returns-in-Err-clause-read : goal.returns-in-Err-clause-read
returns-in-Err-clause-read g c = record {
  told = c.read_at.ensures.told ∙ c.loop-buf.invariant.0.told;
  bytes = of_any (g.F.Files.told c.args.files.now) _ (λ s. tt);
  limit = tt;
  fault = λ e. still_caused _ _ _ _ _ _ c.loop-buf.invariant.0.told c.loop-buf.invariant.0.fine c.in-Err.ensures.cause.failed;
  long = λ e. absurd (fault_is_none e);
  came = λ e. absurd (fault_is_none e);
  absent = λ a. refl;
  later = omega (arith, c.loop-buf.invariant.0.later, c.read_at.ensures.cause.later);
  step = λ e. still_counted _ _ _ _ _ _ c.loop-buf.invariant.0.told c.loop-buf.invariant.0.fine c.in-Err.ensures.step;
  fine = λ n. absurd (n refl);
}

pub returns-clause-read : goal.returns-clause-read
returns-clause-read g c =
    let over : c.args.limit < length c.loop-buf.to.items = search rules in
    let some : 0 < length c.loop-buf.to.items = omega (arith, over) in
    record {
      told = c.loop-buf.invariant.0.told;
      bytes = of_any (g.F.Files.told c.args.files.now) _ (λ s. tt);
      limit = tt;
      fault = λ e. absurd (long_is_none e);
      long = λ e. longer c.args.name.now (g.F.Files.told c.args.files.now) _ _ c.loop-buf.invariant.0.front over;
      came = λ e. omega (arith, over, c.loop-buf.invariant.0.came);
      absent = λ a. absurd (no_front _ _ _ c.loop-buf.invariant.0.front some a);
      later = c.loop-buf.invariant.0.later;
      step = λ e. absurd (long_is_none e);
      fine = λ n. c.loop-buf.invariant.0.fine;
    }

pub loop-buf-preserved : goal.loop-buf-preserved
loop-buf-preserved g c =
    let at : c.len-in-loop-buf.result ≡ length c.loop-buf.to.items = search rules in
    let n_in : c.in-Ok.n ≤ length c.read_at.new.buf = search rules in (
      record {
        told = c.read_at.ensures.told ∙ c.loop-buf.invariant.0.told;
        front = front_grows _ _ _ _ _ _ _ _ _ at c.loop-buf.invariant.0.told c.loop-buf.invariant.0.front c.in-Ok.ensures.bytes
            (λ a. let h : false ≡ true = (c.in-Ok.ensures.absent a).0 in cc) refl c.in_ok-add-in-Ok.ensures.items;
        came = came_more _ _ _ _ _ _ _ _ c.loop-buf.invariant.0.came c.in-Ok.ensures.given n_in refl c.in_ok-add-in-Ok.ensures.items;
        later = omega (arith, c.loop-buf.invariant.0.later, c.read_at.ensures.cause.later);
        fine = c.in-Ok.ensures.fine ∙ c.loop-buf.invariant.0.fine;
      },
      c.in_ok-add-in-Ok.ensures.given ∙ c.loop-buf.invariant.1,
    )
