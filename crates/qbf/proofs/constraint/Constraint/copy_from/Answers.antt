-- A constraint has no more codes than there is room for, so that the copy never wants memory.
use Rattle.std.proofs.Common.{◌≡◌, true, false, length, vec_items, ap, arith}
use Rattle.qbf.proofs.Formed.{length_most}
use Rattle.qbf.proofs.constraint.Constraint.copy_from.Goals as goal

pub unreachable-requires : goal.unreachable-requires
unreachable-requires c =
    let m = length_most (vec_items c.args.other.now.codes) c.args.other.now.formed in
    let no : false ≡ true = c.in_default.ensures.succeeds (omega (arith, m, ap length c.clear.ensures)) in
    cc
