-- What the rest of the pass gives.
use Rattle.qbf.specs.Constraints.{codes_of}
use Rattle.database.specs.Codes.{codes_left}
use Rattle.calculus.specs.State.{constraint}
use Rattle.operations.specs.Fronts.{with_first}
use Rattle.operations.proofs.Passes.{Passing}
use Rattle.operations.proofs.resolve.resolve_into.Given as goal

abbrev pub invariant-loop-front : goal.invariant-loop-front
invariant-loop-front g l =
    Passing l.variable (codes_of l.into) l.front-iterator.left.now (with_first l.front-iterator.right_first (codes_left l.front-iterator.right_behind))
    (codes_of l.working) (constraint (g.D.Database.meaning l.database).list l.number)
