-- Records whose calls are all taken, the last of them the closing, get its verdict. Assumes nothing.
use Rattle.std.proofs.Common.{◌≡◌, ℕ, zero, suc, ◌+◌, ◌<◌, true, false, List, [], ◌∷◌, ◌++◌, length, Some, Ok, sym, refl, ap, ◌∙◌, subst, arith, length-append}
use Rattle.std.proofs.lemmas.Bool.{both_ways}
use Rattle.trace.specs.Reading.{Item, spelled}
use Rattle.calculus.specs.declared.answer.Answer.{Answer}
use Rattle.calculus.specs.declared.answer.Answer.TheVariants.{Taken, Stored, Refused}
use Rattle.calculus.specs.declared.call.Call.{Call}
use Rattle.calculus.specs.declared.call.Call.TheVariants.{Close}
use Rattle.calculus.specs.declared.stage.Stage.{Stage}
use Rattle.calculus.specs.declared.stage.Stage.TheVariants.{Naming, Loading, Working, Derivation, Closed}
use Rattle.calculus.specs.declared.verdict.Verdict.{Verdict}
use Rattle.calculus.specs.State.{State, step}
use Rattle.calculus.specs.History.{Event, is_taken, verdict_at}
use Rattle.trace_run.specs.Runs.{Ran, at_end, goes_on, makes, run_front, run_from, ran}
use Rattle.trace_run.specs.Outcomes.{AllSpell, AllTaken, after, OnlyThose}
use Rattle.trace_run.proofs.Closing.{closed}
use Rattle.trace_run.proofs.Spelling.{some_no, at_front}
use Rattle.trace_run.proofs.Stopping.{stops_answer}

at_close : (g : Stage) (n p : ℕ) (v : Verdict) → verdict_at g ≡ Some v → at_end g n p ≡ Ok v
at_close Naming n p v e = absurd (some_no v (sym e))
at_close Loading n p v e = absurd (some_no v (sym e))
at_close Working n p v e = absurd (some_no v (sym e))
at_close (Derivation s) n p v e = absurd (some_no v (sym e))
at_close (Closed w) n p v e = let same : w ≡ v = cc in ap Ok same

goes : (on : State → List Event → Ran) (h : List Event) (n p : ℕ) (c : Call) (τ : State) (a : Answer) → is_taken a ≡ true → goes_on on h n p c τ a ≡ on τ ((c, a) ∷ h)
goes on h n p c τ Taken t = refl
goes on h n p c τ (Stored k) t = refl
goes on h n p c τ (Refused r) t = absurd (both_ways false refl t)

verdict : (fuel : ℕ) (σ : State) (h : List Event) (n p : ℕ) (rs : List Item) (cs : List Call) (v : Verdict) → length (spelled rs) < fuel → AllSpell rs cs → AllTaken σ cs → verdict_at (after σ cs).stage ≡ Some v → (run_from fuel σ h n p (spelled rs)).answer ≡ Ok v
verdict zero σ h n p rs cs v l s t e = absurd (omega arith)
verdict (suc fuel) σ h n p [] [] v l s t e = stops_answer (at_end σ.stage n p) σ h ∙ at_close σ.stage n p v e
verdict (suc fuel) σ h n p [] (c ∷ cs) v l s t e = absurd s
verdict (suc fuel) σ h n p (r ∷ rs) [] v l s t e = absurd s
verdict (suc fuel) σ h n p (r ∷ rs) (c ∷ cs) v l s t e =
    let on = λ (τ : State) (g : List Event). run_from fuel τ g (n + 1) (p + (1 + length r.1)) (spelled rs) in
    ap (λ f. (run_front (run_from fuel) σ h n p f).answer) (at_front r.0 r.1 (spelled rs) s.0.whole)
    ∙ ap (λ o. (makes on σ h n p o).answer) s.0.call
    ∙ ap (λ x. x.answer) (goes on h n p c (step σ c).0 (step σ c).1 t.0)
    ∙ verdict fuel (step σ c).0 _ _ _ rs cs v (omega (arith, length-append r.1 (spelled rs))) s.1 t.1 e

from_closing : (σ : State) (bs : List ℕ) (v : Verdict) (rs : List Item) (cs first : List Call) → bs ≡ spelled rs → AllSpell rs cs → AllTaken σ cs → cs ≡ first ++ (Close v ∷ []) → (ran σ bs).answer ≡ Ok v
from_closing σ bs v rs cs first b s t e =
    let last : verdict_at (after σ cs).stage ≡ Some v = subst (λ l. verdict_at (after σ l).stage ≡ Some v) (sym e) (closed σ first v (subst (AllTaken σ) e t)) in
    ap (λ l. (ran σ l).answer) b ∙ verdict (suc (length (spelled rs))) σ [] 0 0 rs cs v (omega arith) s t last

pub only_those : OnlyThose
only_those σ bs v c = from_closing σ bs v c.records c.calls c.closing.0 c.spells c.each c.taken c.closing.1
