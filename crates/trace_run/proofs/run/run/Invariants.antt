-- The rest of the run, from here, comes to the run of the trace.
use Rattle.std.proofs.Common.{◌≡◌, List}
use Rattle.trace.specs.Readers.{to_go}
use Rattle.calculus.specs.History.{Event}
use Rattle.session.specs.States.{state_of}
use Rattle.trace_run.specs.Runs.{ran}
use Rattle.trace_run.proofs.Turns.{comes}
use Rattle.trace_run.proofs.run.run.Given as goal

abbrev pub invariant-records : goal.invariant-records
invariant-records g l =
    (h : List Event)
    × (comes (state_of l.session) h l.reader ≡ ran (state_of l.initial.session) l.trace)
    × (l.reader.trace.now ≡ l.trace)

abbrev pub decreases-records : goal.decreases-records
decreases-records g l = to_go l.reader
