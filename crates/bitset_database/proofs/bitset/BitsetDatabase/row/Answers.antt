use Rattle.std.proofs.Common.{◌+◌, ◌*◌, option_map, sym, ap, ◌∙◌, arith}
use Rattle.bitset_rows.specs.Rows.{row}
use Rattle.database.proofs.Counted.{numbered_counted, numbered_not_counted}
use Rattle.bitset_database.proofs.Tables.{first_row}
use Rattle.bitset_database.proofs.bitset.BitsetDatabase.row.Goals as goal

pub returns-in_err-start : goal.returns-in_err-start
returns-in_err-start c =
    let v = c.args.self.now in
    ap (option_map (λ words. row words.now 0)) c.from_residual.ensures ∙ sym (numbered_not_counted (row v.words.now) v.count c.args.number c.in_err-start.ensures)

pub returns : goal.returns
returns c =
    let v = c.args.self.now in
    let k = c.in_ok-start.field-0 in
    first_row c.first_chunk.result v.words.now k (16 * k + 16) (omega arith) (omega arith) c.first_chunk.ensures.cases
    ∙ sym (numbered_counted (row v.words.now) v.count c.args.number k (omega arith) (omega arith))
