-- A call by the rules: from its tests to its answer and the state after it. Assumes nothing.
use Rattle.std.proofs.Common.{◌≡◌, ℕ, Bool, true, false, not, List, ◌∷◌, Some, None, sym, ap, ◌∙◌, arith}
use Rattle.std.proofs.lemmas.Bool.{cond-true, cond-false}
use Rattle.faults.specs.declared.refusal.Refusal.{Refusal}
use Rattle.faults.specs.declared.refusal.Refusal.TheVariants.{WrongStage}
use Rattle.database.specs.declared.database.Database.{Ghosts}
use Rattle.database.specs.Meaning.{Meaning}
use Rattle.calculus.specs.declared.answer.Answer.{Answer}
use Rattle.calculus.specs.declared.answer.Answer.TheVariants.{Taken, Refused}
use Rattle.calculus.specs.declared.call.Call.{Call}
use Rattle.calculus.specs.State.{State, Ground, allows, grounds, first, check, effect, answered}
use Rattle.session.specs.declared.session.Session.{Session}
use Rattle.session.specs.States.{state_of, Does}

-- the first ground holds, or does not
pub hit : (b : Bool) (r : Refusal) (gs : List Ground) → b ≡ true → first ((b, r) ∷ gs) ≡ Some r
hit b r gs e = cond-true b (Some r) (first gs) e

pub miss : (b : Bool) (r : Refusal) (gs : List Ground) → b ≡ false → first ((b, r) ∷ gs) ≡ first gs
miss b r gs e = cond-false b (Some r) (first gs) e

-- the stage allows the call
pub allowed : (σ : State) (c : Call) → allows σ.stage c ≡ true → check σ c ≡ first (grounds σ c)
allowed σ c e = miss (not (allows σ.stage c)) WrongStage (grounds σ c) (ap not e)

-- A refused call: the session is the one that came in.
pub refuses : {C D : Type 0} {G : Ghosts C} {H : Ghosts D} (c : Call) (s t : Session C D G H) (r : Refusal)
    → check (state_of s) c ≡ Some r → t ≡ s → Does c s (Refused r) t
refuses c s t r e q =
    let by : answered (state_of s) c (check (state_of s) c) ≡ (state_of s, Refused r) = ap (answered (state_of s) c) e in
    record {
      state = ap state_of q ∙ sym (ap (λ p. p.0) by);
      answers = sym (ap (λ p. p.1) by);
      refused = λ r' w. q;
    }

-- A taken call: no ground holds, and state and answer are what the effect gives.
pub takes : {C D : Type 0} {G : Ghosts C} {H : Ghosts D} (c : Call) (s t : Session C D G H) (a : Answer)
    → check (state_of s) c ≡ None → (state_of t, a) ≡ effect (state_of s) c → ((r : Refusal) → a ≡ Refused r → ⊥) → Does c s a t
takes c s t a e w never =
    let by : answered (state_of s) c (check (state_of s) c) ≡ effect (state_of s) c = ap (answered (state_of s) c) e in
    record {
      state = ap (λ p. p.0) (w ∙ sym by);
      answers = ap (λ p. p.1) (w ∙ sym by);
      refused = λ r q. absurd (never r q);
    }

pub taken_no : (r : Refusal) → Taken ≡ Refused r → ⊥
taken_no r e = let z : ◌≡◌ {A = ℕ} 0 1 = cc in omega arith
