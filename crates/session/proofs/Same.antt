-- Sessions with the same parts are the same, and what a call that passes a refusal on does. Assumes nothing.
use mathlib.Core.HLevel.{is_prop→PathP}
use Rattle.std.proofs.Common.{◌≡◌, ℕ, ◌<◌, ◌≤◌, Bool, true, false, cond, is_ok, [], ◌∷◌, length, nat_le, nat_lt, Some, None, Ok, Err, Option, Result, sym, refl, ap, ◌∙◌, ⊎_elim}
use Rattle.std.proofs.Math.Bridge.{le_prop}
use Rattle.std.proofs.lemmas.Bool.{cases_lt, cond-true, cond-false, lt-ltb, le-ltb, le-leb, lt-leb}
use Rattle.faults.specs.declared.refusal.Refusal.{Refusal}
use Rattle.database.specs.declared.database.Database.{Ghosts}
use Rattle.prefix.specs.Prefixes.{quantifiers_of}
use Rattle.calculus.specs.declared.answer.Answer.TheVariants.{Taken}
use Rattle.calculus.specs.declared.call.Call.{Call}
use Rattle.calculus.specs.Answers.{answer_of}
use Rattle.calculus.specs.State.{State, first, check, effect}
use Rattle.session.specs.declared.session.Session.{Session}
use Rattle.session.specs.States.{state_of, Does}
use Rattle.session.proofs.Steps.{refuses, takes, taken_no}

pub same : {C D : Type 0} {G : Ghosts C} {H : Ghosts D} (s t : Session C D G H) → t.prefix ≡ s.prefix → t.stage ≡ s.stage → t.trail ≡ s.trail
    → t.working ≡ s.working → t.spare ≡ s.spare → t.clauses ≡ s.clauses → t.cubes ≡ s.cubes → t ≡ s
same s t p q r u v w x =
    λ i. record {
      prefix = p i;
      stage = q i;
      trail = r i;
      working = u i;
      spare = v i;
      clauses = w i;
      cubes = x i;
      few = is_prop→PathP (λ j. length (quantifiers_of (p j)) ≤ 512) (λ j. le_prop) t.few s.few i;
    }

-- the refusal in a result
abbrev pub refusal_in : Result (Unit {0}) Refusal → Option Refusal
refusal_in (Ok u) = None
refusal_in (Err r) = Some r

pub passes_on : {C D : Type 0} {G : Ghosts C} {H : Ghosts D} (c : Call) (s t : Session C D G H) (a : Result (Unit {0}) Refusal) → check (state_of s) c ≡ refusal_in a
    → (is_ok a ≡ true → (state_of t, Taken) ≡ effect (state_of s) c) → (is_ok a ≡ false → t ≡ s) → Does c s (answer_of a) t
passes_on c s t (Ok u) e w f = takes c s t Taken e (w refl) taken_no
passes_on c s t (Err r) e w f = refuses c s t r e (f refl)

-- A call with one ground beside its stage: refused exactly where the ground holds.
pub one_ground : (b : Bool) (r : Refusal) (a : Result (Unit {0}) Refusal) → a ≡ cond b (Err r) (Ok tt) → first ((b, r) ∷ []) ≡ refusal_in a
one_ground true r a e = ap refusal_in (sym e)
one_ground false r a e = ap refusal_in (sym e)

-- More than so many are no more than so many: the two tests of an undo.
pub none_left : (k d : ℕ) (r : Refusal) (a : Result (Unit {0}) Refusal) → a ≡ cond (nat_lt k d) (Ok tt) (Err r) → a ≡ cond (nat_le d k) (Err r) (Ok tt)
none_left k d r a e =
    ⊎_elim
    (λ (h : k < d). e ∙ cond-true (nat_lt k d) (Ok tt) (Err r) (lt-ltb k d h) ∙ sym (cond-false (nat_le d k) (Err r) (Ok tt) (lt-leb d k h)))
    (λ (h : d ≤ k). e ∙ cond-false (nat_lt k d) (Ok tt) (Err r) (le-ltb k d h) ∙ sym (cond-true (nat_le d k) (Err r) (Ok tt) (le-leb d k h)))
    (cases_lt k d)
