-- Why a constraint cannot be fetched by its number. Assumes nothing.
use Rattle.std.specs.Prelude.{ℕ, cond, List, is_none, Ok, Err, Result}
use Rattle.faults.specs.declared.refusal.Refusal.{Refusal}
use Rattle.faults.specs.declared.refusal.Refusal.TheVariants.{NoSuchConstraint}
use Rattle.database.specs.Meaning.{numbered}

-- It is refused exactly where no constraint has the number.
abbrev pub fetch_of : List (List ℕ) → ℕ → Result (Unit {0}) Refusal
fetch_of T n = cond (is_none (numbered T n)) (Err NoSuchConstraint) (Ok tt)
