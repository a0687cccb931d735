use Rattle.std.proofs.Common.{◌≡◌, ◌+◌, ◌-◌, option_copied, sym, ap, ◌∙◌, arith}
use Rattle.database.proofs.Counted.{numbered_counted, numbered_not_counted}
use Rattle.list_database.specs.Page.{held}
use Rattle.list_database.proofs.Pages.{slot_size}
use Rattle.list_database.proofs.list.ListDatabase.codes.Goals as goal

pub returns-in_err-index-clause-value : goal.returns-in_err-index-clause-value
returns-in_err-index-clause-value c =
    let v = c.args.self.now in
    ap option_copied c.from_residual.ensures ∙ sym (numbered_not_counted (held v.cells.now v.total) v.count c.args.number c.in_err-index.ensures)

pub returns-clause-value : goal.returns-clause-value
returns-clause-value c =
    let v = c.args.self.now in
    let k = c.in_ok-index.index in
    let a = c.from-start.ensures in
    let b = c.from-size.ensures ∙ slot_size v.cells.now v.total k (omega arith) in
    let e : c.from-start.result + c.from-size.result - c.from-start.result ≡ c.from-size.result = omega arith in
    rw (e, a, b) (sym (numbered_counted (held v.cells.now v.total) v.count c.args.number k (omega arith) (omega arith)))
