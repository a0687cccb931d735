-- What the methods of a trail do. Assumes nothing.
use Rattle.std.specs.Prelude.{◌≡◌, ℕ, true, false, cond, List, [], ◌∷◌, ◌++◌, is_ok, Ok, Err, vec_items, Result, nat_lt}
use Rattle.faults.specs.declared.refusal.Refusal.{Refusal}
use Rattle.faults.specs.declared.refusal.Refusal.TheVariants.{KeepsEveryDecision}
use Rattle.qbf.specs.Qbf.{variable, is_code, is_set}
use Rattle.calculus.specs.State.{Entry, literals, decisions, cut}
use Rattle.operations.specs.declared.entry.Entry.{Entry as Kept}
use Rattle.operations.specs.declared.trail.NotAppended.{NotAppended}
use Rattle.operations.specs.declared.trail.NotAppended.TheVariants.{NoCode, VariableSet}
use Rattle.operations.specs.declared.trail.Trail.{Trail}
use Rattle.operations.specs.Entries.{entry_of, entries_of}

-- the trail of the calculus, the oldest entry first
abbrev pub trail_of : Trail → List Entry
trail_of t = entries_of (vec_items t.entries)

-- A literal may be appended if it is a code and its variable is not set.
abbrev pub may_append : List Entry → ℕ → Result (Unit {0}) NotAppended
may_append t l = cond (is_code l) (cond (is_set (literals t) (variable l)) (Err VariableSet) (Ok tt)) (Err NoCode)

-- Pushing answers that, and adds the entry at the end where it is taken; a refusal leaves the whole trail as it was.
pub record Appends (before : Trail) (e : Kept) (answer : Result (Unit {0}) NotAppended) (after : Trail) : Type 0 where
  pub answers : answer ≡ may_append (trail_of before) e.code
  pub trail : trail_of after ≡ cond (is_ok answer) (trail_of before ++ (entry_of e ∷ [])) (trail_of before)
  pub refused : is_ok answer ≡ false → after ≡ before

-- The trail is cut if there are more decisions than are kept; a refusal leaves the whole trail as it was.
pub record Undoes (before : Trail) (k : ℕ) (answer : Result (Unit {0}) Refusal) (after : Trail) : Type 0 where
  pub answers : answer ≡ cond (nat_lt k (decisions (trail_of before))) (Ok tt) (Err KeepsEveryDecision)
  pub trail : is_ok answer ≡ true → trail_of after ≡ cut k (trail_of before)
  pub refused : is_ok answer ≡ false → after ≡ before
