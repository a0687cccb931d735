-- The calls of a run go on with any history that led to its start. Assumes nothing.
use Rattle.std.proofs.Common.{◌≡◌, ℕ, zero, suc, ◌+◌, List, [], ◌∷◌, ◌++◌, length, Some, None, Option, Result, sym, subst}
use Rattle.faults.specs.declared.fault.Fault.{Fault}
use Rattle.database.specs.Meaning.{Meaning}
use Rattle.trace.specs.Format.{Front, end, whole, unknown_kind, cut_body, decode}
use Rattle.calculus.specs.declared.answer.Answer.{Answer}
use Rattle.calculus.specs.declared.answer.Answer.TheVariants.{Taken, Stored, Refused}
use Rattle.calculus.specs.declared.call.Call.{Call}
use Rattle.calculus.specs.declared.call.Call.TheVariants.{Abandon}
use Rattle.calculus.specs.declared.verdict.Verdict.{Verdict}
use Rattle.calculus.specs.State.{State, allows, step}
use Rattle.calculus.specs.History.{Event, Happens, called}
use Rattle.calculus.proofs.Keeping.{every_sound}
use Rattle.trace_run.specs.Calls.{call_of}
use Rattle.trace_run.specs.Runs.{Ran, stops, goes_on, makes, run_front, run_from, ran}
use Rattle.trace_run.specs.Outcomes.{Extends}
use Rattle.trace_run.proofs.Stopping.{either}

module _ (M N : Meaning) (h : List Event) where
  abbrev pub Lasts : Ran → Type 0
  Lasts x = Happens M N (x.events ++ h) x.state

  stops_lasts : (a : Result Verdict Fault) (σ : State) (g : List Event) → Happens M N (g ++ h) σ → Lasts (stops a σ g)
  stops_lasts a σ g q = either Lasts (allows σ.stage Abandon) _ _ (called Abandon q) q

  goes_lasts : (on : State → List Event → Ran) → ((τ : State) (g : List Event) → Happens M N (g ++ h) τ → Lasts (on τ g)) → (g : List Event) (n p : ℕ) (c : Call) (τ : State) (a : Answer) → Happens M N ((c, a) ∷ (g ++ h)) τ → Lasts (goes_on on g n p c τ a)
  goes_lasts on ok g n p c τ Taken q = ok τ ((c, Taken) ∷ g) q
  goes_lasts on ok g n p c τ (Stored k) q = ok τ ((c, Stored k) ∷ g) q
  goes_lasts on ok g n p c τ (Refused r) q = stops_lasts _ τ ((c, Refused r) ∷ g) q

  makes_lasts : (on : State → List Event → Ran) → ((τ : State) (g : List Event) → Happens M N (g ++ h) τ → Lasts (on τ g)) → (σ : State) (g : List Event) (n p : ℕ) (o : Option Call) → Happens M N (g ++ h) σ → Lasts (makes on σ g n p o)
  makes_lasts on ok σ g n p None q = stops_lasts _ σ g q
  makes_lasts on ok σ g n p (Some c) q = goes_lasts on ok g n p c (step σ c).0 (step σ c).1 (called c q)

  front_lasts : (on : State → List Event → ℕ → ℕ → List ℕ → Ran) → ((τ : State) (g : List Event) (n p : ℕ) (bs : List ℕ) → Happens M N (g ++ h) τ → Lasts (on τ g n p bs)) → (σ : State) (g : List Event) (n p : ℕ) (s : Front) → Happens M N (g ++ h) σ → Lasts (run_front on σ g n p s)
  front_lasts on ok σ g n p end q = stops_lasts _ σ g q
  front_lasts on ok σ g n p (whole k b rest) q = makes_lasts (λ τ g'. on τ g' (n + 1) (p + (1 + length b)) rest) (λ τ g'. ok τ g' (n + 1) (p + (1 + length b)) rest) σ g n p (call_of k b) q
  front_lasts on ok σ g n p unknown_kind q = stops_lasts _ σ g q
  front_lasts on ok σ g n p cut_body q = stops_lasts _ σ g q

  lasts : (fuel : ℕ) (σ : State) (g : List Event) (n p : ℕ) (bs : List ℕ) → Happens M N (g ++ h) σ → Lasts (run_from fuel σ g n p bs)
  lasts zero σ g n p bs q = stops_lasts _ σ g q
  lasts (suc fuel) σ g n p bs q = front_lasts (run_from fuel) (lasts fuel) σ g n p (decode bs) q

-- the history of a run, from one that led to its start
pub ran_lasts : (M N : Meaning) (h : List Event) (σ : State) (bs : List ℕ) → Happens M N h σ → Happens M N ((ran σ bs).events ++ h) (ran σ bs).state
ran_lasts M N h σ bs q = lasts M N h (suc (length bs)) σ [] 0 0 bs q

pub extends : (σ τ : State) (bs : List ℕ) → τ ≡ (ran σ bs).state → Extends σ bs τ
extends σ τ bs e =
    record {
      history = λ M N h q. subst (λ x. Happens M N ((ran σ bs).events ++ h) x) (sym e) (ran_lasts M N h σ bs q);
      sound = λ M N h q. every_sound M N ((ran σ bs).events ++ h) (ran σ bs).state (ran_lasts M N h σ bs q);
    }
