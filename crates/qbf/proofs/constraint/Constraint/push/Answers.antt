use Rattle.std.proofs.Common.{◌≡◌, ◌<◌, true, vec_items, arith}
use Rattle.qbf.specs.Qbf.{variable, is_code}
use Rattle.qbf.specs.Constraints.{last_variable}
use Rattle.qbf.proofs.Formed.{room, formed_push}
use Rattle.qbf.proofs.constraint.Constraint.push.Goals as goal

pub push_reserved-requires : goal.push_reserved-requires
push_reserved-requires c =
    let v = c.args.self.now in
    let is : is_code c.args.code ≡ true = grind arith in
    let up : last_variable (vec_items v.codes) < variable c.args.code = omega arith in
    omega (arith, room (vec_items v.codes) c.args.code v.formed is up)

pub invariant_of-self : goal.invariant_of-self
invariant_of-self c =
    let v = c.args.self.now in
    let is : is_code c.args.code ≡ true = grind arith in
    let up : last_variable (vec_items v.codes) < variable c.args.code = omega arith in
    record { formed = simp c.push_reserved.ensures.items (formed_push (vec_items v.codes) c.args.code v.formed is up); room = omega arith }
