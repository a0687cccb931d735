use Rattle.std.proofs.Common.{Some, ap, sym, ◌∙◌}
use Rattle.qbf.proofs.Views.{code_shown}
use Rattle.qbf.proofs.view.ConstraintView.code.Goals as goal

pub returns : goal.returns
returns c =
    let v = c.args.self in
    ap Some c.shown.ensures ∙ code_shown v.complemented v.codes.now c.args.place c.in_ok-item.field-0 (sym c.in_ok-item.was ∙ c.item.ensures)
