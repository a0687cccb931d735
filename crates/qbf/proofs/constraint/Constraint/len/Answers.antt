use Rattle.std.proofs.Common.{vec_items, arith, rules}
use Rattle.qbf.proofs.Formed.{length_most}
use Rattle.qbf.proofs.constraint.Constraint.len.Goals as goal

pub returns : goal.returns
returns c =
    let v = c.args.self.now in
    let m = length_most (vec_items v.codes) v.formed in
    record { value = search rules; bound = omega arith }
