-- The codes of a constraint may follow one another.
use Rattle.std.proofs.Common.{◌∙◌}
use Rattle.qbf.specs.Constraints.{codes_of}
use Rattle.calculus.specs.State.{constraint}
use Rattle.operations.proofs.ByNumber.{constraint_formed, follows_here}
use Rattle.operations.proofs.numbered.fetch.Goals as goal

pub unreachable-requires : goal.unreachable-requires
unreachable-requires g c =
    let T = (g.D.Database.meaning c.args.database.now).list in
    let f = follows_here (codes_of c.loop-code.into) _ _ (constraint T c.args.number) c.in-Some.code c.loop-code.invariant c.in-Some.ensures.steps (constraint_formed T c.args.number (g.D.Database.lawful c.args.database.now).formed) in
    c.in_default.not-Ok tt (c.push.ensures.answers ∙ f)
