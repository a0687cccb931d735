-- Why two constraints cannot be resolved on a variable. Assumes nothing.
use Rattle.std.specs.Prelude.{ℕ, Bool, cond, List, Ok, Err, Result}
use Rattle.faults.specs.declared.refusal.Refusal.{Refusal}
use Rattle.faults.specs.declared.refusal.Refusal.TheVariants.{NoClash, SecondClash}
use Rattle.calculus.specs.State.{clash, second_clash}

-- by whether there is a clash on the variable, and one on another
abbrev pub refusal_of : Bool → Bool → Result (Unit {0}) Refusal
refusal_of pivot second = cond pivot (cond second (Err SecondClash) (Ok tt)) (Err NoClash)

abbrev pub clash_of : List ℕ → List ℕ → ℕ → Result (Unit {0}) Refusal
clash_of C D v = refusal_of (clash C D v) (second_clash C D v)
