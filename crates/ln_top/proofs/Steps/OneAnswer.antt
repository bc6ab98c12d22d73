-- Words and files whose bytes are known require one output.
use Rattle.std.proofs.Common.{◌≡◌, ℕ, List, Some, refl, ap, sym, ◌∙◌, subst}
use Rattle.std.proofs.lemmas.Option.{none-some}
use Rattle.ln_base.specs.Outside.{Shelf}
use Rattle.ln_watch.specs.Panel.{State}
use Rattle.ln_top.specs.Frame.Said.{Said}
use Rattle.ln_top.specs.Frame.Stop.{said_of}
use Rattle.ln_top.specs.Plan.{Plan}
use Rattle.ln_top.specs.Works.{AreOneValued, IsOneValued, WorkOwes}
use Rattle.ln_top.specs.Answer.{PlanOwes, stopped, worked, Answer, usage, planned}
use Rattle.ln_top.proofs.Steps.Chain.{one_prepares}
use Rattle.ln_top.proofs.Steps.Grounded.{fine}
use Rattle.ln_top.proofs.Steps.TopLaws.{some_plan, stops_gives, same_why, same_given, lawful}

plan_one : (plan : Plan) (shelf : Shelf) (boxes : List State) → IsOneValued plan.command → (a b : Said)
    → PlanOwes plan (Some shelf) boxes a → PlanOwes plan (Some shelf) boxes b → a ≡ b
plan_one plan shelf boxes i a b (stopped why p) (stopped v q) = ap said_of (same_why (one_prepares plan shelf _ _ p q))
plan_one plan shelf boxes i a b (stopped why p) (worked g q y) = stops_gives (one_prepares plan shelf _ _ p q)
plan_one plan shelf boxes i a b (worked g p x) (stopped v q) = stops_gives (one_prepares plan shelf _ _ q p)
plan_one plan shelf boxes i a b (worked g p x) (worked h q y) =
    let k = fine plan (Some shelf) h q in
    (lawful plan.command).said i boxes h k.grounded k.asked a b
    (subst (λ k. WorkOwes plan.command boxes k a) (same_given (one_prepares plan shelf _ _ p q)) x) y

-- There is one output.
pub one_answer : (words : List (List ℕ)) (shelf : Shelf) (boxes : List State) → AreOneValued words → (a b : Said)
    → Answer words (Some shelf) boxes a → Answer words (Some shelf) boxes b → a ≡ b
one_answer words shelf boxes i a b (usage e) (usage h) = refl
one_answer words shelf boxes i a b (usage e) (planned p h y) = absurd (none-some p (sym e ∙ h))
one_answer words shelf boxes i a b (planned p e x) (usage h) = absurd (none-some p (sym h ∙ e))
one_answer words shelf boxes i a b (planned p e x) (planned q h y) =
    plan_one q shelf boxes (i q h) a b (subst (λ k. PlanOwes k (Some shelf) boxes a) (some_plan (sym e ∙ h)) x) y
