-- A check is the run from the opening over two databases. Assumes nothing.
use Rattle.std.proofs.Common.{◌≡◌, ℕ, List, [], Result, sym, refl, ap, ◌∙◌, subst, append-nil}
use Rattle.faults.specs.declared.fault.Fault.{Fault}
use Rattle.database.specs.Meaning.{Meaning}
use Rattle.calculus.specs.declared.verdict.Verdict.{Verdict}
use Rattle.calculus.specs.State.{State, opening}
use Rattle.calculus.specs.History.{Happens, opened}
use Rattle.calculus.proofs.Keeping.{every_agrees, every_sound}
use Rattle.trace_run.specs.Runs.{ran}
use Rattle.trace_run.specs.Outcomes.{Checks}
use Rattle.trace_run.proofs.Lasting.{ran_lasts}
use Rattle.trace_run.proofs.Sayings.{says}
use Rattle.trace_run.proofs.Shutting.{shut}
use Rattle.trace_run.proofs.Truth.{true_verdict}

happens : (M N : Meaning) (bs : List ℕ) → Happens M N (ran (opening M N) bs).events (ran (opening M N) bs).state
happens M N bs = subst (λ h. Happens M N h (ran (opening M N) bs).state) (append-nil (ran (opening M N) bs).events) (ran_lasts M N [] (opening M N) bs opened)

pub checked : (M N : Meaning) (bs : List ℕ) (a : Result Verdict Fault) (σ τ : State) (C D : Meaning) → σ ≡ opening M N → a ≡ (ran σ bs).answer → τ ≡ (ran σ bs).state → C ≡ τ.clauses → D ≡ τ.cubes → Checks M N bs a C D
checked M N bs a σ τ C D o e t c d =
    let answers : a ≡ (ran (opening M N) bs).answer = e ∙ ap (λ x. (ran x bs).answer) o in
    let state : τ ≡ (ran (opening M N) bs).state = t ∙ ap (λ x. (ran x bs).state) o in
    record {
      answers = answers;
      clauses = c ∙ ap (λ x. x.clauses) state;
      cubes = d ∙ ap (λ x. x.cubes) state;
      says = says (opening M N) bs a answers refl;
      happens = happens M N bs;
      sound = every_sound M N (ran (opening M N) bs).events (ran (opening M N) bs).state (happens M N bs);
      verdict =
          λ v e.
          (every_sound M N (ran (opening M N) bs).events (ran (opening M N) bs).state (happens M N bs)).verdict v
          ((every_agrees M N (ran (opening M N) bs).events (ran (opening M N) bs).state (happens M N bs)).verdict ∙ shut (opening M N) bs v (sym answers ∙ e));
      loads = λ v w. true_verdict M N v w.calls w.closing.0 w.taken w.closing.1;
    }
