-- The state that a session stands for, and what a call does to it. Assumes nothing.
use Rattle.std.specs.Prelude.{◌≡◌, ℕ, true, false, cond, is_ok, Ok, Err, Result}
use Rattle.qbf.specs.declared.side.Side.{Side}
use Rattle.qbf.specs.Qbf.{resolve}
use Rattle.qbf.specs.Constraints.{codes_of}
use Rattle.faults.specs.declared.refusal.Refusal.{Refusal}
use Rattle.faults.specs.declared.refusal.Refusal.TheVariants.{Full}
use Rattle.database.specs.declared.database.Database.{Ghosts}
use Rattle.database.specs.Meaning.{Meaning}
use Rattle.calculus.specs.declared.answer.Answer.{Answer}
use Rattle.calculus.specs.declared.answer.Answer.TheVariants.{Refused}
use Rattle.calculus.specs.declared.call.Call.{Call}
use Rattle.calculus.specs.State.{State, at, constraint, database, fits, with_added, step}
use Rattle.operations.specs.Clashes.{clash_of}
use Rattle.operations.specs.Fetches.{fetch_of}
use Rattle.operations.specs.Trails.{trail_of}
use Rattle.prefix.specs.Prefixes.{quantifiers_of}
use Rattle.session.specs.declared.session.Session.{Session}

abbrev pub state_of : {C D : Type 0} {G : Ghosts C} {H : Ghosts D} → Session C D G H → State
state_of {G = G} {H = H} s =
    record { prefix = quantifiers_of s.prefix; stage = s.stage; trail = trail_of s.trail; working = codes_of s.working; clauses = G.meaning s.clauses; cubes = H.meaning s.cubes }

-- A call's answer and the state after it are those of the rules; a refusal leaves the whole session as it came in.
pub record Does {C D : Type 0} {G : Ghosts C} {H : Ghosts D} (call : Call) (before : Session C D G H) (answer : Answer) (after : Session C D G H) : Type 0 where
  pub state : state_of after ≡ (step (state_of before) call).0
  pub answers : answer ≡ (step (state_of before) call).1
  pub refused : (r : Refusal) → answer ≡ Refused r → after ≡ before

-- The working constraint goes to the end of a side's list if its cells suffice; all else stays, and a refusal leaves the whole session.
pub record Fills {C D : Type 0} {G : Ghosts C} {H : Ghosts D} (s : Side) (before : Session C D G H) (answer : Result (Unit {0}) Refusal) (after : Session C D G H) : Type 0 where
  pub answers : answer ≡ cond (fits (database s (state_of before)) (codes_of before.working)) (Ok tt) (Err (Full s))
  pub state : is_ok answer ≡ true → state_of after ≡ with_added s (codes_of before.working) (state_of before)
  pub refused : is_ok answer ≡ false → after ≡ before

-- The constraint of a number is copied into the working constraint, if there is one; all else stays, and a refusal leaves the whole session.
pub record Fetches {C D : Type 0} {G : Ghosts C} {H : Ghosts D} (s : Side) (number : ℕ) (before : Session C D G H) (answer : Result (Unit {0}) Refusal) (after : Session C D G H) : Type 0 where
  pub answers : answer ≡ fetch_of (database s (state_of before)).list number
  pub state : is_ok answer ≡ true → state_of after ≡ at before.stage (constraint (database s (state_of before)).list number) (state_of before)
  pub refused : is_ok answer ≡ false → after ≡ before

-- The working constraint is resolved with that of a number, where they can be; all else stays.
abbrev pub Joins : {C D : Type 0} {G : Ghosts C} {H : Ghosts D} → Side → ℕ → ℕ → Session C D G H → Session C D G H → Type 0
Joins s number v before after =
    clash_of (codes_of before.working) (constraint (database s (state_of before)).list number) v ≡ Ok tt
    → state_of after ≡ at before.stage (resolve (codes_of before.working) (constraint (database s (state_of before)).list number) v) (state_of before)
