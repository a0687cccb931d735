-- The line that tells the answer to a trace. Assumes nothing.
use Rattle.std.specs.Prelude.{ℕ, List, Ok, Err, codes, Result}
use Rattle.faults.specs.declared.fault.Fault.{Fault}
use Rattle.faults.specs.Faults.{fault_line}
use Rattle.calculus.specs.declared.verdict.Verdict.{Verdict}
use Rattle.calculus.specs.declared.verdict.Verdict.TheVariants.{False, True}

-- The verdict, or the fault.
abbrev pub answer_line : Result Verdict Fault → List ℕ
answer_line (Ok False) = codes "verdict false"
answer_line (Ok True) = codes "verdict true"
answer_line (Err f) = fault_line f
