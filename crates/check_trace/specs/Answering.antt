-- The session that the program opens, and what its answer to a trace is. Assumes nothing.
use Rattle.std.specs.Prelude.{◌≡◌, ℕ, ◌+◌, List, [], Result}
use Rattle.faults.specs.declared.fault.Fault.{Fault}
use Rattle.database.specs.Meaning.{Meaning}
use Rattle.database.specs.Complemented.{complemented_meaning}
use Rattle.calculus.specs.declared.verdict.Verdict.{Verdict}
use Rattle.calculus.specs.State.{State, opening}
use Rattle.trace_run.specs.Runs.{ran}
use Rattle.trace_run.specs.Outcomes.{Closes, Says, TrueOf}

-- The clauses' database: an empty list in 16,384 cells, none of them used. A constraint costs its length, and two cells more.
abbrev pub list_cells : Meaning
list_cells = record { list = []; cells = 16384; left = 16384; cost = λ n. n + 2 }

-- The cubes' database, below its layer: no row of bits as yet, in 256 cells. A constraint costs one cell.
abbrev pub row_cells : Meaning
row_cells = record { list = []; cells = 256; left = 256; cost = λ n. 1 }

-- The session that the program opens, with the cubes' database behind a layer that complements.
abbrev pub start : State
start = opening list_cells (complemented_meaning row_cells)

-- The answer to the bytes, from a state: that of their run, and what it says of them. A verdict is true of what the bytes load.
pub record Answers (σ : State) (bs : List ℕ) (answer : Result Verdict Fault) : Type 0 where
  pub run : answer ≡ (ran σ bs).answer
  pub says : Says σ bs answer
  pub verdict : (v : Verdict) (w : Closes σ bs v) → TrueOf v w.calls
