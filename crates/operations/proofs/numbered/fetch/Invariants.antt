-- The codes copied so far are the first of the constraint.
use Rattle.std.proofs.Common.{◌≡◌, ◌++◌}
use Rattle.qbf.specs.Constraints.{codes_of}
use Rattle.database.specs.Codes.{codes_left}
use Rattle.calculus.specs.State.{constraint}
use Rattle.operations.proofs.numbered.fetch.Given as goal

abbrev pub invariant-loop-code : goal.invariant-loop-code
invariant-loop-code g l =
    codes_of l.into ++ codes_left l.code-iterator ≡ constraint (g.D.Database.meaning l.database).list l.number
