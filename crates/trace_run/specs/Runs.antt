-- What the run of a trace comes to. Assumes nothing.
use Rattle.std.specs.Prelude.{ℕ, zero, suc, ◌+◌, cond, List, [], ◌∷◌, length, Some, None, Ok, Err, Option, Result}
use Rattle.faults.specs.declared.fault.Fault.{Fault}
use Rattle.faults.specs.declared.refusal.Refusal.TheVariants.{UnknownKind, CutBody, Unclosed}
use Rattle.trace.specs.Format.{Front, end, whole, unknown_kind, cut_body, decode}
use Rattle.trace.specs.Reading.{fault_at}
use Rattle.calculus.specs.declared.answer.Answer.{Answer}
use Rattle.calculus.specs.declared.answer.Answer.TheVariants.{Taken, Stored, Refused}
use Rattle.calculus.specs.declared.call.Call.{Call}
use Rattle.calculus.specs.declared.call.Call.TheVariants.{Abandon}
use Rattle.calculus.specs.declared.stage.Stage.{Stage}
use Rattle.calculus.specs.declared.stage.Stage.TheVariants.{Naming, Loading, Working, Derivation, Closed}
use Rattle.calculus.specs.declared.verdict.Verdict.{Verdict}
use Rattle.calculus.specs.State.{State, allows, step}
use Rattle.calculus.specs.History.{Event}
use Rattle.trace_run.specs.Calls.{call_of}

-- The answer, the state that is left, and the calls made with their answers, the latest first.
pub record Ran : Type 0 where
  pub answer : Result Verdict Fault
  pub state : State
  pub events : List Event

-- A run that stops in a derivation then abandons it, as a call of its own.
abbrev pub stops : Result Verdict Fault → State → List Event → Ran
stops a σ h =
    cond (allows σ.stage Abandon) (record { answer = a; state = (step σ Abandon).0; events = (Abandon, (step σ Abandon).1) ∷ h })
    (record { answer = a; state = σ; events = h })

-- The state that it leaves.
abbrev pub abandoned : State → State
abandoned σ = cond (allows σ.stage Abandon) (step σ Abandon).0 σ

-- At the end of the trace, after n records, at byte p: the verdict, or the trace ends unclosed.
abbrev pub at_end : Stage → ℕ → ℕ → Result Verdict Fault
at_end Naming n p = Err (fault_at Unclosed (n + 1) p)
at_end Loading n p = Err (fault_at Unclosed (n + 1) p)
at_end Working n p = Err (fault_at Unclosed (n + 1) p)
at_end (Derivation s) n p = Err (fault_at Unclosed (n + 1) p)
at_end (Closed v) n p = Ok v

-- What a reader that stopped leaves the run to answer: its fault, or what the end of the trace comes to.
abbrev pub ended : Option Fault → Stage → ℕ → ℕ → Result Verdict Fault
ended None g n p = at_end g n p
ended (Some f) g n p = Err f

-- A record's call was answered: the run goes on if it was taken, and stops at a refusal, at the record that begins at byte p after n others.
abbrev pub goes_on : (State → List Event → Ran) → List Event → ℕ → ℕ → Call → State → Answer → Ran
goes_on on h n p c σ Taken = on σ ((c, Taken) ∷ h)
goes_on on h n p c σ (Stored k) = on σ ((c, Stored k) ∷ h)
goes_on on h n p c σ (Refused r) = stops (Err (fault_at r (n + 1) p)) σ ((c, Refused r) ∷ h)

-- The call of a whole record is made; a kind that is listed has one.
abbrev pub makes : (State → List Event → Ran) → State → List Event → ℕ → ℕ → Option Call → Ran
makes on σ h n p None = stops (Err (fault_at UnknownKind (n + 1) p)) σ h
makes on σ h n p (Some c) = goes_on on h n p c (step σ c).0 (step σ c).1

abbrev pub run_front : (State → List Event → ℕ → ℕ → List ℕ → Ran) → State → List Event → ℕ → ℕ → Front → Ran
run_front on σ h n p end = stops (at_end σ.stage n p) σ h
run_front on σ h n p (whole k body rest) = makes (λ τ g. on τ g (n + 1) (p + (1 + length body)) rest) σ h n p (call_of k body)
run_front on σ h n p unknown_kind = stops (Err (fault_at UnknownKind (n + 1) p)) σ h
run_front on σ h n p cut_body = stops (Err (fault_at CutBody (n + 1) p)) σ h

-- Each turn takes a byte or more, so that one turn more than bytes is enough.
abbrev pub run_from : ℕ → State → List Event → ℕ → ℕ → List ℕ → Ran
run_from zero σ h n p bs = stops (at_end σ.stage n p) σ h
run_from (suc fuel) σ h n p bs = run_front (run_from fuel) σ h n p (decode bs)

-- The run of a trace from a state.
abbrev pub ran : State → List ℕ → Ran
ran σ bs = run_from (suc (length bs)) σ [] 0 0 bs
