-- What the rest of the pass answers.
use Rattle.std.proofs.Common.{◌≡◌}
use Rattle.qbf.specs.Qbf.{unit}
use Rattle.database.specs.Codes.{codes_left}
use Rattle.calculus.specs.State.{constraint, literals}
use Rattle.operations.specs.Trails.{trail_of}
use Rattle.operations.proofs.Units.{scan}
use Rattle.operations.proofs.unit.unit_literal.Given as goal

abbrev pub invariant-loop-code : goal.invariant-loop-code
invariant-loop-code g l =
    scan l.side l.prefix (literals (trail_of l.trail)) l.first (codes_left l.code-iterator)
    ≡ unit l.side l.prefix (literals (trail_of l.trail)) (constraint (g.D.Database.meaning l.database).list l.number)
