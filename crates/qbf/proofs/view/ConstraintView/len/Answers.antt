use Rattle.std.proofs.Common.{sym}
use Rattle.qbf.proofs.Formed.{length_most}
use Rattle.qbf.proofs.Views.{length_shown}
use Rattle.qbf.proofs.view.ConstraintView.len.Goals as goal

pub returns : goal.returns
returns c =
    let v = c.args.self in
    record { value = sym (length_shown v.complemented v.codes.now); bound = length_most v.codes.now v.formed }
