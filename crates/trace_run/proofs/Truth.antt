-- A closing is true of what the calls before it load. Assumes nothing.
use Rattle.std.proofs.Common.{◌≡◌, List, [], ◌∷◌, ◌++◌, reverse, sym, refl, ap, ◌∙◌, subst, append_assoc, append-nil}
use Rattle.std.proofs.lemmas.List.{reverse-append}
use Rattle.std.proofs.lemmas.Bool.{cond-true}
use Rattle.database.specs.Meaning.{Meaning}
use Rattle.calculus.specs.declared.call.Call.{Call}
use Rattle.calculus.specs.declared.call.Call.TheVariants.{Close}
use Rattle.calculus.specs.declared.verdict.Verdict.{Verdict}
use Rattle.calculus.specs.State.{State, opening, step}
use Rattle.calculus.specs.History.{Event, Happens, opened, called, taken_calls, is_taken, told, Sound}
use Rattle.calculus.proofs.Keeping.{every_sound}
use Rattle.trace_run.specs.Outcomes.{AllTaken, after, TrueOf}

-- calls that are all taken make a history, in which they are the taken ones
all_happen : (M N : Meaning) (h : List Event) (σ : State) (cs : List Call) → Happens M N h σ → AllTaken σ cs
    → (g : List Event) × Happens M N g (after σ cs) × (taken_calls g ≡ reverse cs ++ taken_calls h)
all_happen M N h σ [] p t = (h, p, refl)
all_happen M N h σ (c ∷ cs) p t =
    let r = all_happen M N ((c, (step σ c).1) ∷ h) (step σ c).0 cs (called c p) t.1 in
    let here : taken_calls ((c, (step σ c).1) ∷ h) ≡ c ∷ taken_calls h = cond-true (is_taken (step σ c).1) (c ∷ taken_calls h) (taken_calls h) t.0 in
    let turned : reverse (c ∷ cs) ≡ reverse cs ++ (c ∷ []) = reverse-append (c ∷ []) cs in
    (r.0, r.1, r.2 ∙ ap (λ l. reverse cs ++ l) here ∙ sym (ap (λ l. l ++ taken_calls h) turned ∙ append_assoc (reverse cs) (c ∷ []) (taken_calls h)))

pub true_verdict : (M N : Meaning) (v : Verdict) (cs first : List Call) → AllTaken (opening M N) cs → cs ≡ first ++ (Close v ∷ []) → TrueOf v cs
true_verdict M N v cs first t e =
    let r = all_happen M N [] (opening M N) cs opened t in
    let calls : taken_calls r.0 ≡ reverse cs = r.2 ∙ append-nil (reverse cs) in
    let s : Sound (reverse cs) = subst Sound calls (every_sound M N r.0 (after (opening M N) cs) r.1) in
    let last : reverse cs ≡ Close v ∷ reverse first = ap reverse e ∙ reverse-append first (Close v ∷ []) in
    s.verdict v (ap (λ l. (told l).verdict) last)
