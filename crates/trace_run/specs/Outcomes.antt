-- What the answer of a run says of the trace, in the words of the subject. Assumes nothing.
use Rattle.std.specs.Prelude.{◌≡◌, ℕ, ◌+◌, true, List, [], ◌∷◌, ◌++◌, reverse, length, None, Ok, Err, Result}
use Rattle.faults.specs.declared.fault.Fault.{Fault}
use Rattle.faults.specs.declared.refusal.Refusal.{Refusal}
use Rattle.faults.specs.declared.refusal.Refusal.TheVariants.{Unclosed}
use Rattle.trace.specs.Reading.{Item, spelled, Stops}
use Rattle.database.specs.Meaning.{Meaning}
use Rattle.calculus.specs.declared.answer.Answer.TheVariants.{Refused}
use Rattle.calculus.specs.declared.call.Call.{Call}
use Rattle.calculus.specs.declared.call.Call.TheVariants.{Close}
use Rattle.calculus.specs.declared.verdict.Verdict.{Verdict}
use Rattle.calculus.specs.State.{State, opening, step}
use Rattle.qbf.specs.Qbf.{value}
use Rattle.calculus.specs.Verdicts.{side_of, value_of}
use Rattle.calculus.specs.History.{Event, Happens, taken_calls, is_taken, verdict_at, told, loaded_of, Sound}
use Rattle.trace_run.specs.Calls.{Spells}
use Rattle.trace_run.specs.Runs.{ran}

-- the records spell the calls, one by one
abbrev pub AllSpell : List Item → List Call → Type 0
AllSpell [] [] = Unit {0}
AllSpell [] (c ∷ cs) = ⊥
AllSpell (r ∷ rs) [] = ⊥
AllSpell (r ∷ rs) (c ∷ cs) = Spells r c × AllSpell rs cs

-- the calls are all taken, one after the other; and the state after them
abbrev pub AllTaken : State → List Call → Type 0
AllTaken σ [] = Unit {0}
AllTaken σ (c ∷ cs) = (is_taken (step σ c).1 ≡ true) × AllTaken (step σ c).0 cs

abbrev pub after : State → List Call → State
after σ [] = σ
after σ (c ∷ cs) = after (step σ c).0 cs

-- The bytes are records that spell calls, which are all taken from the state, the last of them the closing with the verdict.
pub record Closes (σ : State) (bs : List ℕ) (v : Verdict) : Type 0 where
  pub records : List Item
  pub calls : List Call
  pub spells : bs ≡ spelled records
  pub each : AllSpell records calls
  pub taken : AllTaken σ calls
  pub closing : (first : List Call) × (calls ≡ first ++ (Close v ∷ []))

-- The verdict is the value of the table that the calls, the first of them first, load on its side, with no literal set.
abbrev pub TrueOf : Verdict → List Call → Type 0
TrueOf v calls = value (side_of v) (told (reverse calls)).prefix (loaded_of (side_of v) (reverse calls)) [] ≡ value_of v

-- Why a run stops where the bytes go on with rest: no whole record stands there; or one whose call is refused; or none is left and the session is not closed.
pub data Breaks (σ : State) : Refusal → List ℕ → Type 0 where
  unread : {r : Refusal} {rest : List ℕ} → Stops r rest → Breaks σ r rest
  refused : {r : Refusal} (rest : List ℕ) (item : Item) (c : Call) → Spells item c → (step σ c).1 ≡ Refused r → Breaks σ r ((item.0 ∷ item.1) ++ rest)
  unclosed : verdict_at σ.stage ≡ None → Breaks σ Unclosed []

-- The bytes begin with records that spell calls, which are all taken; the fault names the record after them, the byte where it begins, and why the run stops there.
pub record Faults (σ : State) (bs : List ℕ) (f : Fault) : Type 0 where
  pub records : List Item
  pub calls : List Call
  pub rest : List ℕ
  pub spells : bs ≡ spelled records ++ rest
  pub each : AllSpell records calls
  pub taken : AllTaken σ calls
  pub breaks : Breaks (after σ calls) f.refusal rest
  pub number : f.«record» ≡ length records + 1
  pub place : f.byte ≡ length (spelled records)

-- What an answer says of the bytes.
abbrev pub Says : State → List ℕ → Result Verdict Fault → Type 0
Says σ bs (Ok v) = Closes σ bs v
Says σ bs (Err f) = Faults σ bs f

-- And the other way round: such bytes get that verdict.
abbrev pub OnlyThose : Type 0
OnlyThose = (σ : State) (bs : List ℕ) (v : Verdict) → Closes σ bs v → (ran σ bs).answer ≡ Ok v

-- After any history that led to the state, the calls of the run make a longer one, and of that all holds that holds of every history.
pub record Extends (before : State) (bs : List ℕ) (state : State) : Type 0 where
  pub history : (M N : Meaning) (h : List Event) → Happens M N h before → Happens M N ((ran before bs).events ++ h) state
  pub sound : (M N : Meaning) (h : List Event) → Happens M N h before → Sound (taken_calls ((ran before bs).events ++ h))

-- A check of the bytes over two databases: the run from their opening, what its answer says, and what holds of its history.
pub record Checks (M N : Meaning) (bs : List ℕ) (answer : Result Verdict Fault) (last_clauses last_cubes : Meaning) : Type 0 where
  pub answers : answer ≡ (ran (opening M N) bs).answer
  pub clauses : last_clauses ≡ (ran (opening M N) bs).state.clauses
  pub cubes : last_cubes ≡ (ran (opening M N) bs).state.cubes
  pub says : Says (opening M N) bs answer
  pub happens : Happens M N (ran (opening M N) bs).events (ran (opening M N) bs).state
  pub sound : Sound (taken_calls (ran (opening M N) bs).events)
  -- a verdict is the value of the table that its side loaded, with no literal set
  pub verdict : (v : Verdict) → answer ≡ Ok v
      → value (side_of v) (told (taken_calls (ran (opening M N) bs).events)).prefix (loaded_of (side_of v) (taken_calls (ran (opening M N) bs).events)) [] ≡ value_of v
  -- and so it is of whatever calls the bytes spell that are all taken, the last of them the closing
  pub loads : (v : Verdict) (w : Closes (opening M N) bs v) → TrueOf v w.calls
