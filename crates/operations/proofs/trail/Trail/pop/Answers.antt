-- The last entry leaves, and its code is unmarked.
use Rattle.std.proofs.Common.{◌≡◌, length, vec_items, arith}
use Rattle.operations.proofs.Sets.{popped}
use Rattle.operations.proofs.trail.Trail.pop.Goals as goal

pub bounds-self-from : goal.bounds-self-from
bounds-self-from c =
    let t = c.args.self.now in
    let n : length t.truth ≡ 1026 = omega arith in
    rw c.from.ensures
    (omega (arith, (popped t.truth (vec_items t.entries) (vec_items c.take_last-last.new.self) c.take_last-last.result c.take_last-last.ensures.items n (t.tied, t.once, t.ranged)).0))

pub invariant_of-self : goal.invariant_of-self
invariant_of-self c =
    let t = c.args.self.now in
    let n : length t.truth ≡ 1026 = omega arith in
    let s = (popped t.truth (vec_items t.entries) (vec_items c.take_last-last.new.self) c.take_last-last.result c.take_last-last.ensures.items n (t.tied, t.once, t.ranged)).1 in
    record { tied = rw c.from.ensures s.0; once = s.1; ranged = s.2; room = omega arith }
