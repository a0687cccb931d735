-- What a verdict states, of which side, and how it is written. Assumes nothing.
use Rattle.std.specs.Prelude.{ℕ, Bool, true, false, List, codes}
use Rattle.qbf.specs.declared.side.Side.{Side}
use Rattle.qbf.specs.declared.side.Side.TheVariants.{Clause, Cube}
use Rattle.calculus.specs.declared.verdict.Verdict.{Verdict}
use Rattle.calculus.specs.declared.verdict.Verdict.TheVariants.{False, True}

abbrev pub value_of : Verdict → Bool
value_of False = false
value_of True = true

abbrev pub side_of : Verdict → Side
side_of False = Clause
side_of True = Cube

abbrev pub verdict_name : Verdict → List ℕ
verdict_name False = codes "false"
verdict_name True = codes "true"
