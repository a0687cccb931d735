-- Each turn takes what comes first.
use Rattle.qbf.specs.Constraints.{codes_of}
use Rattle.operations.proofs.Passes.{passing, pass_kept, pass_opposite}
use Rattle.operations.proofs.resolve.resolve_into.Goals as goal

pub loop-front-init : goal.loop-front-init
loop-front-init g c =
    rw (c.into_iter-front-iterator.ensures.into_iter_gives, c.of-front-items.ensures.left, c.of-front-items.ensures.right)
    (passing c.args.variable (codes_of c.clear.new.self) (codes_of c.args.working.now) (g.D.Database.meaning c.args.database.now).list c.args.number c.clear.ensures c.args.working.now.formed (g.D.Database.lawful c.args.database.now).formed)

pub loop-front-preserved-in-Opposite-1 : goal.loop-front-preserved-in-Opposite-1
loop-front-preserved-in-Opposite-1 g c = pass_opposite _ _ _ _ _ _ _ _ c.loop-front.invariant c.in-Some.front _ c.in-Some.ensures.steps c.in-Opposite.is

pub loop-front-preserved : goal.loop-front-preserved
loop-front-preserved g c = pass_kept _ _ _ _ _ _ _ _ c.loop-front.invariant c.in-Left.code _ c.keep.ensures c.in-Some.front c.in-Some.ensures.steps c.in-Left.is
