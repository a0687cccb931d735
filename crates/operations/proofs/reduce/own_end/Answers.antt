-- The place is that of the last own literal.
use Rattle.std.proofs.Common.{rules}
use Rattle.qbf.specs.Constraints.{codes_of}
use Rattle.operations.proofs.Trims.{reduced_last, reduced_none}
use Rattle.operations.proofs.reduce.own_end.Goals as goal

pub returns-in-Some : goal.returns-in-Some
returns-in-Some c =
    let w = c.args.working.now in
    reduced_last c.args.side c.args.prefix.now (codes_of w) w.formed c.in-Some.place (search rules) (search rules) (search rules)

pub returns-in-None : goal.returns-in-None
returns-in-None c =
    let w = c.args.working.now in
    reduced_none c.args.side c.args.prefix.now (codes_of w) w.formed (search rules)
