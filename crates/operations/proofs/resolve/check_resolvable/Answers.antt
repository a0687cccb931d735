-- Each turn looks at what comes first.
use Rattle.qbf.specs.Constraints.{codes_of}
use Rattle.operations.proofs.Looks.{looking, look_past, look_pivot, look_second}
use Rattle.operations.proofs.resolve.check_resolvable.Goals as goal

pub loop-front-init : goal.loop-front-init
loop-front-init g c =
    rw (c.into_iter-front-iterator.ensures.into_iter_gives, c.of-front-items.ensures.left, c.of-front-items.ensures.right)
    (looking c.args.variable (codes_of c.args.working.now) (g.D.Database.meaning c.args.database.now).list c.args.number c.args.working.now.formed (g.D.Database.lawful c.args.database.now).formed)

pub loop-front-preserved-then-variable : goal.loop-front-preserved-then-variable
loop-front-preserved-then-variable g c = look_pivot _ _ _ _ _ _ _ _ _ c.loop-front.invariant c.in-Some.front _ _ c.in-Some.ensures.steps c.in-Opposite.is c.variable.ensures c.if-variable.true

pub loop-front-preserved-else-variable : goal.loop-front-preserved-else-variable
loop-front-preserved-else-variable g c = look_second _ _ _ _ _ _ _ _ _ c.loop-front.invariant c.in-Some.front _ _ c.in-Some.ensures.steps c.in-Opposite.is c.variable.ensures c.if-variable.false

pub loop-front-preserved : goal.loop-front-preserved
loop-front-preserved g c = look_past _ _ _ _ _ _ _ _ _ c.loop-front.invariant c.in-Some.front c.in-Some.ensures.steps c.in_default.not-Opposite
