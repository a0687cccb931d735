-- The run starts at the opening, and the databases that are given back are those of the session that it left.
use Rattle.std.proofs.Common.{ap}
use Rattle.session.specs.States.{state_of}
use Rattle.trace_run.proofs.Checking.{checked}
use Rattle.trace_run.proofs.check.check.Goals as goal

pub returns : goal.returns
returns g c =
    let m = g.C.Database.meaning in
    let n = g.D.Database.meaning in
    let run = c.run-answer.ensures in
    let back = c.into_databases-clauses in
    checked (m c.args.clauses) (n c.args.cubes) c.args.trace.now c.run-answer.result (state_of c.in_ok-session.session) (state_of c.run-answer.new.session) (m back.result.0) (n back.result.1) c.in_ok-session.ensures run.answer run.state (ap m back.ensures.clauses) (ap n back.ensures.cubes)
