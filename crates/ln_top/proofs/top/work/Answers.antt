use Rattle.ln_top.proofs.top.work.Goals as goal

pub returns-in-Check : goal.returns-in-Check
returns-in-Check g c = λ given s. rw c.in-Check.is (c.work.ensures given s)

pub returns-in-List : goal.returns-in-List
returns-in-List g c = λ given s. rw c.in-List.is (c.work-in-List.ensures given s)

pub returns-in-Emit : goal.returns-in-Emit
returns-in-Emit g c = λ given s. rw c.in-Emit.is (c.work-in-Emit.ensures given s)

pub work-requires-in-Verify : goal.work-requires-in-Verify
work-requires-in-Verify g c = rw c.in-Verify.is at c.requires

pub returns-in-Verify : goal.returns-in-Verify
returns-in-Verify g c = λ given s. rw c.in-Verify.is (c.work-in-Verify.ensures given s)

pub work-requires-in-Run : goal.work-requires-in-Run
work-requires-in-Run g c = rw c.in-Run.is at c.requires

pub returns-in-Run : goal.returns-in-Run
returns-in-Run g c = λ given s. rw c.in-Run.is (c.work-in-Run.ensures given s)

pub returns-in-Graded : goal.returns-in-Graded
returns-in-Graded g c = λ given s. rw c.in-Graded.is (c.work-in-Graded.ensures given s)

pub returns-in-Product : goal.returns-in-Product
returns-in-Product g c = λ given s. rw c.in-Product.is (c.work-in-Product.ensures given s)

pub returns-in-Edges : goal.returns-in-Edges
returns-in-Edges g c = λ given s. rw c.in-Edges.is (c.work-in-Edges.ensures given s)

pub work-requires-in-Gen : goal.work-requires-in-Gen
work-requires-in-Gen g c = rw c.in-Gen.is at c.requires

pub returns-in-Gen : goal.returns-in-Gen
returns-in-Gen g c = λ given s. rw c.in-Gen.is (c.work-in-Gen.ensures given s)

pub work-requires-in-Explain : goal.work-requires-in-Explain
work-requires-in-Explain g c = rw c.in-Explain.is at c.requires

pub returns-in-Explain : goal.returns-in-Explain
returns-in-Explain g c = λ given s. rw c.in-Explain.is (c.work-in-Explain.ensures given s)

pub work-requires-in-Audit : goal.work-requires-in-Audit
work-requires-in-Audit g c = rw c.in-Audit.is at c.requires

pub returns-in-Audit : goal.returns-in-Audit
returns-in-Audit g c = λ given s. rw c.in-Audit.is (c.work-in-Audit.ensures given s)
