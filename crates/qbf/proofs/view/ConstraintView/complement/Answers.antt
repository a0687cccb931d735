use Rattle.qbf.proofs.Views.{shown_not}
use Rattle.qbf.proofs.view.ConstraintView.complement.Goals as goal

pub returns : goal.returns
returns c = shown_not c.args.self.complemented c.args.self.codes.now
