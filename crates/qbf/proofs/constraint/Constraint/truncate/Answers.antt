-- The first codes of a constraint are as well formed.
use Rattle.std.proofs.Common.{vec_items, arith}
use Rattle.qbf.proofs.Formed.{formed_take}
use Rattle.qbf.proofs.constraint.Constraint.truncate.Goals as goal

pub invariant_of-self : goal.invariant_of-self
invariant_of-self c =
    let v = c.args.self.now in
    record { formed = simp c.truncate.ensures.items (formed_take c.args.most (vec_items v.codes) v.formed); room = omega arith }
