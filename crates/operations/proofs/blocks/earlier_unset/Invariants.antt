-- How far the walk has come.
use Rattle.calculus.specs.State.{literals}
use Rattle.operations.specs.Trails.{trail_of}
use Rattle.operations.proofs.Earlier.{Walk}
use Rattle.operations.proofs.blocks.earlier_unset.Given as goal

abbrev pub invariant-variables : goal.invariant-variables
invariant-variables l = Walk l.prefix (literals (trail_of l.trail)) l.variable l.next l.earlier
