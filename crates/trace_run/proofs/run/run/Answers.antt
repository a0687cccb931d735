-- The turns come to the run of the trace, and so to what its answer says.
use Rattle.std.proofs.Common.{◌≡◌, ℕ, ◌+◌, List, ◌∷◌, Err, Result, sym, ap, ◌∙◌}
use Rattle.faults.specs.declared.fault.Fault.{Fault}
use Rattle.trace.specs.Reading.{fault_at}
use Rattle.calculus.specs.declared.answer.Answer.TheVariants.{Refused}
use Rattle.calculus.specs.declared.verdict.Verdict.{Verdict}
use Rattle.calculus.specs.State.{State}
use Rattle.calculus.specs.History.{Event}
use Rattle.session.specs.States.{state_of}
use Rattle.trace_run.specs.Runs.{stops, abandoned, ended, ran}
use Rattle.trace_run.proofs.Lasting.{extends}
use Rattle.trace_run.proofs.Sayings.{says}
use Rattle.trace_run.proofs.Stopping.{stops_answer, stops_state}
use Rattle.trace_run.proofs.Turns.{ends, goes_on_lem, gives_up, one_more}
use Rattle.trace_run.proofs.Verdicts.{only_those}
use Rattle.trace_run.proofs.run.run.Goals as goal

-- The answer of a run that stops so, and the state that it leaves.
record Stopped (σ₀ : State) (bs : List ℕ) (b : Result Verdict Fault) (τ : State) : Type 0 where
  pub answer : b ≡ (ran σ₀ bs).answer
  pub state : τ ≡ (ran σ₀ bs).state

stopped : (σ₀ : State) (bs : List ℕ) (a b : Result Verdict Fault) (σ τ : State) (h : List Event) → b ≡ a → τ ≡ abandoned σ → stops a σ h ≡ ran σ₀ bs → Stopped σ₀ bs b τ
stopped σ₀ bs a b σ τ h q l e =
    record { answer = q ∙ sym (stops_answer a σ h) ∙ ap (λ y. y.answer) e; state = l ∙ sym (stops_state a σ h) ∙ ap (λ y. y.state) e }

pub returns-in_default : goal.returns-in_default
returns-in_default g c =
    let σ₀ = state_of c.args.session.now in
    let bs = c.args.trace.now in
    let σ = state_of c.records.session in
    let h = c.records.invariant.0 in
    let r = c.next.new.self in
    let e = ends σ h c.records.reader r c.in_default.ensures.steps ∙ c.records.invariant.1 in
    let τ = state_of c.leave.new.session in
    let w = stopped σ₀ bs (ended r.fault σ.stage r.records r.place) c.ending-answer.result σ τ h c.ending-answer.ensures c.leave.ensures e in
    record { answer = w.answer; state = w.state; says = says σ₀ bs c.ending-answer.result w.answer; only = only_those; extends = extends σ₀ τ bs w.state }

pub returns-in-Refused : goal.returns-in-Refused
returns-in-Refused g c =
    let σ₀ = state_of c.args.session.now in
    let bs = c.args.trace.now in
    let h = c.records.invariant.0 in
    let r = c.records.reader in
    let f = c.in-Refused.refusal in
    let call = c.call_of.result in
    let steps = c.in-Some.ensures.steps in
    let σ = state_of c.records.session in
    let mid = state_of c.apply.new.self in
    let τ = state_of c.leave-in-Refused.new.session in
    let e = gives_up σ mid h r c.next.new.self c.in-Some.record call f steps c.call_of.ensures.value c.apply.ensures.does.state (sym c.in-Refused.is ∙ c.apply.ensures.does.answers) ∙ c.records.invariant.1 in
    let number : c.records-in-Refused.result ≡ r.records + 1 = c.records-in-Refused.ensures ∙ one_more r c.next.new.self c.in-Some.record steps in
    let place : c.place-byte.result ≡ r.place = c.place-byte.ensures in
    let b : Result Verdict Fault = Err (fault_at f c.records-in-Refused.result c.place-byte.result) in
    let w = stopped σ₀ bs (Err (fault_at f (r.records + 1) r.place)) b mid τ ((call, Refused f) ∷ h) (λ i. Err (fault_at f (number i) (place i))) c.leave-in-Refused.ensures e in
    record { answer = w.answer; state = w.state; says = says σ₀ bs b w.answer; only = only_those; extends = extends σ₀ τ bs w.state }

pub records-preserved : goal.records-preserved
records-preserved g c =
    let h = c.records.invariant.0 in
    let a = c.apply.result in
    let call = c.call_of.result in
    let steps = c.in-Some.ensures.steps in
    let σ = state_of c.records.session in
    let τ = state_of c.apply.new.self in
    let e = goes_on_lem σ τ h c.records.reader c.next.new.self c.in-Some.record call a steps c.call_of.ensures.value c.apply.ensures.does.state c.apply.ensures.does.answers c.in_default-apply.not-Refused in
    ((call, a) ∷ h, e ∙ c.records.invariant.1, steps.same ∙ c.records.invariant.2)
