-- What a run that stops answers, and the state that it leaves. Assumes nothing.
use Rattle.std.proofs.Common.{◌≡◌, Bool, true, false, cond, List, Result, refl}
use Rattle.faults.specs.declared.fault.Fault.{Fault}
use Rattle.calculus.specs.declared.call.Call.TheVariants.{Abandon}
use Rattle.calculus.specs.declared.verdict.Verdict.{Verdict}
use Rattle.calculus.specs.State.{State, allows}
use Rattle.calculus.specs.History.{Event}
use Rattle.trace_run.specs.Runs.{Ran, stops, abandoned}

-- what holds of both outcomes of a test
pub either : (P : Ran → Type 0) (b : Bool) (x y : Ran) → P x → P y → P (cond b x y)
either P true x y p q = p
either P false x y p q = q

pub stops_answer : (a : Result Verdict Fault) (σ : State) (h : List Event) → (stops a σ h).answer ≡ a
stops_answer a σ h = either (λ r. r.answer ≡ a) (allows σ.stage Abandon) _ _ refl refl

by_test : (b : Bool) (x y : Ran) → (cond b x y).state ≡ cond b x.state y.state
by_test true x y = refl
by_test false x y = refl

pub stops_state : (a : Result Verdict Fault) (σ : State) (h : List Event) → (stops a σ h).state ≡ abandoned σ
stops_state a σ h = by_test (allows σ.stage Abandon) _ _
