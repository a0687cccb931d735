-- What a staged call's result says. Assumes nothing.
use Rattle.std.specs.Prelude.{◌≡◌, ℕ, Ok, Err, Result}
use Rattle.faults.specs.declared.refusal.Refusal.{Refusal}
use Rattle.calculus.specs.declared.answer.Answer.{Answer}
use Rattle.calculus.specs.declared.answer.Answer.TheVariants.{Taken, Stored, Refused}
use Rattle.stages.specs.declared.stage.Stage.{Stage}

-- The next stage, or the stage back with the refusal.
abbrev pub told : {A B : Type 0} → Result A (B × Refusal) → Answer
told (Ok x) = Taken
told (Err e) = Refused e.1

-- The next stage with the number stored, or the stage back with the refusal.
abbrev pub told_number : {A B : Type 0} → Result (A × ℕ) (B × Refusal) → Answer
told_number (Ok x) = Stored x.1
told_number (Err e) = Refused e.1

-- The next stage, or the one that came back, has the session's number.
abbrev pub Numbers : {A B : Type 0} → ℕ → Result (Stage A) (Stage B × Refusal) → Type 0
Numbers n (Ok t) = t.number ≡ n
Numbers n (Err e) = e.0.number ≡ n
