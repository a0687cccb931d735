-- A run that answers a verdict leaves the session closed with it. Assumes nothing.
use Rattle.std.proofs.Common.{◌≡◌, ℕ, zero, suc, ◌+◌, List, [], ◌∷◌, length, Some, None, Ok, Err, Option, refl, ap, ◌∙◌, arith}
use Rattle.std.proofs.lemmas.Bool.{cond-false}
use Rattle.faults.specs.declared.fault.Fault.{Fault}
use Rattle.faults.specs.declared.refusal.Refusal.TheVariants.{UnknownKind, CutBody, Unclosed}
use Rattle.trace.specs.Format.{Front, end, whole, unknown_kind, cut_body, decode}
use Rattle.trace.specs.Reading.{fault_at}
use Rattle.calculus.specs.declared.answer.Answer.{Answer}
use Rattle.calculus.specs.declared.answer.Answer.TheVariants.{Taken, Stored, Refused}
use Rattle.calculus.specs.declared.call.Call.{Call}
use Rattle.calculus.specs.declared.call.Call.TheVariants.{Abandon}
use Rattle.calculus.specs.declared.stage.Stage.{Stage}
use Rattle.calculus.specs.declared.stage.Stage.TheVariants.{Naming, Loading, Working, Derivation, Closed}
use Rattle.calculus.specs.declared.verdict.Verdict.{Verdict}
use Rattle.calculus.specs.State.{State, allows, step}
use Rattle.calculus.specs.History.{Event, verdict_at}
use Rattle.trace_run.specs.Calls.{call_of}
use Rattle.trace_run.specs.Runs.{Ran, stops, at_end, goes_on, makes, run_front, run_from, ran}
use Rattle.trace_run.proofs.Stopping.{stops_answer, stops_state}

-- a verdict is answered only where the session is closed with it
abbrev Shut : Ran → Type 0
Shut r = (v : Verdict) → r.answer ≡ Ok v → verdict_at r.state.stage ≡ Some v

at_fault : (f : Fault) (σ : State) (h : List Event) → Shut (stops (Err f) σ h)
at_fault f σ h v e = absurd (let a = stops_answer (Err f) σ h in let z : ◌≡◌ {A = ℕ} 0 1 = cc in omega arith)

at_end_lem : (g : Stage) (n p : ℕ) (σ : State) (h : List Event) → σ.stage ≡ g → Shut (stops (at_end g n p) σ h)
at_end_lem Naming n p σ h q v e = at_fault (fault_at Unclosed (n + 1) p) σ h v e
at_end_lem Loading n p σ h q v e = at_fault (fault_at Unclosed (n + 1) p) σ h v e
at_end_lem Working n p σ h q v e = at_fault (fault_at Unclosed (n + 1) p) σ h v e
at_end_lem (Derivation s) n p σ h q v e = at_fault (fault_at Unclosed (n + 1) p) σ h v e
at_end_lem (Closed w) n p σ h q v e =
    let a = stops_answer (Ok w) σ h in
    let same : Some w ≡ Some v = cc in
    ap (λ (x : State). verdict_at x.stage) (stops_state (Ok w) σ h ∙ cond-false (allows σ.stage Abandon) (step σ Abandon).0 σ (ap (λ g. allows g Abandon) q))
    ∙ ap verdict_at q ∙ same

goes : (on : State → List Event → Ran) (h : List Event) (n p : ℕ) (c : Call) (σ : State) (a : Answer) → ((τ : State) (g : List Event) → Shut (on τ g)) → Shut (goes_on on h n p c σ a)
goes on h n p c σ Taken k = k σ ((c, Taken) ∷ h)
goes on h n p c σ (Stored m) k = k σ ((c, Stored m) ∷ h)
goes on h n p c σ (Refused r) k = at_fault (fault_at r (n + 1) p) σ ((c, Refused r) ∷ h)

made : (on : State → List Event → Ran) (σ : State) (h : List Event) (n p : ℕ) (o : Option Call) → ((τ : State) (g : List Event) → Shut (on τ g)) → Shut (makes on σ h n p o)
made on σ h n p None k = at_fault (fault_at UnknownKind (n + 1) p) σ h
made on σ h n p (Some c) k = goes on h n p c (step σ c).0 (step σ c).1 k

by_front : (on : State → List Event → ℕ → ℕ → List ℕ → Ran) (σ : State) (h : List Event) (n p : ℕ) (f : Front) → ((τ : State) (g : List Event) (m q : ℕ) (bs : List ℕ) → Shut (on τ g m q bs))
    → Shut (run_front on σ h n p f)
by_front on σ h n p end k = at_end_lem σ.stage n p σ h refl
by_front on σ h n p (whole c body rest) k = made (λ τ g. on τ g (n + 1) (p + (1 + length body)) rest) σ h n p (call_of c body) (λ τ g. k τ g (n + 1) (p + (1 + length body)) rest)
by_front on σ h n p unknown_kind k = at_fault (fault_at UnknownKind (n + 1) p) σ h
by_front on σ h n p cut_body k = at_fault (fault_at CutBody (n + 1) p) σ h

from_here : (fuel : ℕ) (σ : State) (h : List Event) (n p : ℕ) (bs : List ℕ) → Shut (run_from fuel σ h n p bs)
from_here zero σ h n p bs = at_end_lem σ.stage n p σ h refl
from_here (suc fuel) σ h n p bs = by_front (run_from fuel) σ h n p (decode bs) (from_here fuel)

pub shut : (σ : State) (bs : List ℕ) (v : Verdict) → (ran σ bs).answer ≡ Ok v → verdict_at (ran σ bs).state.stage ≡ Some v
shut σ bs = from_here (suc (length bs)) σ [] 0 0 bs
