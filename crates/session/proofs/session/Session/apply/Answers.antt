-- What a call does goes on with any history.
use Rattle.session.proofs.Continuing.{continues}
use Rattle.session.proofs.session.Session.apply.Goals as goal

pub returns : goal.returns
returns g c =
    record {
      does = c.dispatch.ensures;
      continues = continues c.args.call c.args.self.now _ c.dispatch.result c.dispatch.ensures;
    }
