-- At first the whole constraint is left.
use Rattle.calculus.specs.State.{literals}
use Rattle.operations.specs.Trails.{trail_of}
use Rattle.operations.proofs.Units.{begun}
use Rattle.operations.proofs.unit.unit_literal.Goals as goal

pub loop-code-init : goal.loop-code-init
loop-code-init g c =
    rw (c.into_iter-code-iterator.ensures.into_iter_gives, c.of-code-items.ensures)
    (begun c.args.side c.args.prefix.now (literals (trail_of c.args.trail.now)) (g.D.Database.meaning c.args.database.now).list c.args.number (g.D.Database.lawful c.args.database.now).formed)
