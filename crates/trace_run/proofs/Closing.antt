-- Only a taken closing closes a session. Assumes nothing.
use Rattle.std.proofs.Common.{◌≡◌, true, false, List, [], ◌∷◌, ◌++◌, Some, None, Option, sym, refl, ap}
use Rattle.std.proofs.lemmas.Bool.{both_ways}
use Rattle.faults.specs.declared.refusal.Refusal.{Refusal}
use Rattle.calculus.specs.declared.call.Call.{Call}
use Rattle.calculus.specs.declared.call.Call.TheVariants.{Name, EndNaming, Put, Load, EndLoading, Imply, Decide, Undo, Begin, Resolve, Reduce, Store, Abandon, Close}
use Rattle.calculus.specs.declared.verdict.Verdict.{Verdict}
use Rattle.calculus.specs.State.{State, check, effect, answered, step}
use Rattle.calculus.specs.History.{is_taken, verdict_at}
use Rattle.trace_run.specs.Outcomes.{AllTaken, after}
use Rattle.trace_run.proofs.Spelling.{some_no}

-- the verdict after a call whose grounds do not hold
by_effect : (σ : State) (c : Call) (v : Verdict) → verdict_at (effect σ c).0.stage ≡ Some v → c ≡ Close v
by_effect σ (Name q) v e = absurd (some_no v (sym e))
by_effect σ EndNaming v e = absurd (some_no v (sym e))
by_effect σ (Put l) v e = absurd (some_no v (sym e))
by_effect σ (Load s) v e = absurd (some_no v (sym e))
by_effect σ EndLoading v e = absurd (some_no v (sym e))
by_effect σ (Imply s n) v e = absurd (some_no v (sym e))
by_effect σ (Decide l) v e = absurd (some_no v (sym e))
by_effect σ (Undo k) v e = absurd (some_no v (sym e))
by_effect σ (Begin s n) v e = absurd (some_no v (sym e))
by_effect σ (Resolve n w) v e = absurd (some_no v (sym e))
by_effect σ Reduce v e = absurd (some_no v (sym e))
by_effect σ Store v e = absurd (some_no v (sym e))
by_effect σ Abandon v e = absurd (some_no v (sym e))
by_effect σ (Close w) v e = let same : w ≡ v = cc in ap Close same

closes_by : (σ : State) (c : Call) (v : Verdict) (o : Option Refusal) → is_taken (answered σ c o).1 ≡ true → verdict_at (answered σ c o).0.stage ≡ Some v → c ≡ Close v
closes_by σ c v None t e = by_effect σ c v e
closes_by σ c v (Some r) t e = absurd (both_ways false refl t)

-- A taken call after which the session is closed is the closing.
pub closes : (σ : State) (c : Call) (v : Verdict) → is_taken (step σ c).1 ≡ true → verdict_at (step σ c).0.stage ≡ Some v → c ≡ Close v
closes σ c v = closes_by σ c v (check σ c)

closed_by : (σ : State) (v : Verdict) (o : Option Refusal) → is_taken (answered σ (Close v) o).1 ≡ true → verdict_at (answered σ (Close v) o).0.stage ≡ Some v
closed_by σ v None t = refl
closed_by σ v (Some r) t = absurd (both_ways false refl t)

-- After calls that are all taken, the last of them the closing, the session is closed.
pub closed : (σ : State) (first : List Call) (v : Verdict) → AllTaken σ (first ++ (Close v ∷ [])) → verdict_at (after σ (first ++ (Close v ∷ []))).stage ≡ Some v
closed σ [] v t = closed_by σ v (check σ (Close v)) t.0
closed σ (c ∷ first) v t = closed (step σ c).0 first v t.1
