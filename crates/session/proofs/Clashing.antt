-- Resolving: why it is refused where the two constraints do not clash as they must. Assumes nothing.
use Rattle.std.proofs.Common.{◌≡◌, ℕ, Bool, true, false, not, List, [], ◌∷◌, is_none, Some, Err, ap, ◌∙◌, subst, arith}
use Rattle.qbf.specs.declared.side.Side.{Side}
use Rattle.faults.specs.declared.refusal.Refusal.{Refusal}
use Rattle.faults.specs.declared.refusal.Refusal.TheVariants.{NoClash, SecondClash, UnnamedVariable, NoSuchConstraint, NotOwnQuantifier}
use Rattle.qbf.specs.Qbf.{own, quantifier_of}
use Rattle.database.specs.Meaning.{numbered}
use Rattle.calculus.specs.declared.call.Call.TheVariants.{Resolve}
use Rattle.calculus.specs.State.{State, Ground, first, allows, is_named, check, constraint, database, derivation_side, clash, second_clash}
use Rattle.operations.specs.Clashes.{clash_of, refusal_of}
use Rattle.session.proofs.Steps.{allowed, miss}

-- the last two grounds, by whether there is a clash on the variable, and one on another
pub clashing : (p q : Bool) (r : Refusal) → refusal_of p q ≡ Err r → first ((not p, NoClash) ∷ (q, SecondClash) ∷ []) ≡ Some r
clashing true true r e = let z : SecondClash ≡ r = cc in ap Some z
clashing true false r e = absurd (let z : ◌≡◌ {A = ℕ} 0 1 = cc in omega arith)
clashing false q r e = let z : NoClash ≡ r = cc in ap Some z

pub resolve_clashes : (σ : State) (s : Side) (n v : ℕ) (r : Refusal) → s ≡ derivation_side σ.stage → allows σ.stage (Resolve n v) ≡ true → is_named σ.prefix v ≡ true
    → is_none (numbered (database s σ).list n) ≡ false → own s (quantifier_of σ.prefix v) ≡ true → clash_of σ.working (constraint (database s σ).list n) v ≡ Err r
    → check σ (Resolve n v) ≡ Some r
resolve_clashes σ s n v r e a named there owned h =
    allowed σ (Resolve n v) a
    ∙ subst (λ (x : Side). first (from x) ≡ Some r) e
    (miss (not (is_named σ.prefix v)) UnnamedVariable (after_name s) (ap not named)
    ∙ miss (is_none (numbered (database s σ).list n)) NoSuchConstraint (after_number s) there
    ∙ miss (not (own s (quantifier_of σ.prefix v))) NotOwnQuantifier (clashes s) (ap not owned)
    ∙ clashing (clash σ.working (constraint (database s σ).list n) v) (second_clash σ.working (constraint (database s σ).list n) v) r h)
  where
    clashes : Side → List Ground
    clashes x = (not (clash σ.working (constraint (database x σ).list n) v), NoClash) ∷ (second_clash σ.working (constraint (database x σ).list n) v, SecondClash) ∷ []

    after_number : Side → List Ground
    after_number x = (not (own x (quantifier_of σ.prefix v)), NotOwnQuantifier) ∷ clashes x

    after_name : Side → List Ground
    after_name x = (is_none (numbered (database x σ).list n), NoSuchConstraint) ∷ after_number x

    from : Side → List Ground
    from x = (not (is_named σ.prefix v), UnnamedVariable) ∷ after_name x
