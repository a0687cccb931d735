-- There is room, the code is marked, and the entry is the calculus's.
use Rattle.std.proofs.Common.{◌≡◌, true, false, length, vec_items, sym, ap, ◌∙◌, arith}
use Rattle.qbf.specs.Qbf.{variable, is_code, is_set}
use Rattle.calculus.specs.State.{literals}
use Rattle.operations.specs.Trails.{trail_of}
use Rattle.operations.proofs.Sets.{pushed, room}
use Rattle.operations.proofs.trail.Trail.push.Goals as goal

pub push_reserved-requires : goal.push_reserved-requires
push_reserved-requires c =
    let t = c.args.self.now in
    let l = c.args.entry.code in
    let i : is_code l ≡ true = grind arith in
    let u : is_set (literals (trail_of t)) (variable l) ≡ false = ap (is_set (literals (trail_of t))) (sym c.variable.ensures) ∙ sym c.if-is_set.ensures in
    omega (arith, room (vec_items t.entries) l i u t.once t.ranged)

pub invariant_of-self : goal.invariant_of-self
invariant_of-self c =
    let t = c.args.self.now in
    let l = c.args.entry.code in
    let i : is_code l ≡ true = grind arith in
    let u : is_set (literals (trail_of t)) (variable l) ≡ false = ap (is_set (literals (trail_of t))) (sym c.variable.ensures) ∙ sym c.if-is_set.ensures in
    let n : length t.truth ≡ 1026 = omega arith in
    let s = pushed t.truth (vec_items t.entries) (vec_items c.push_reserved.new.self) c.args.entry c.push_reserved.ensures.items i u n (t.tied, t.once, t.ranged) in
    record { tied = rw c.from.ensures s.0; once = s.1; ranged = s.2; room = omega arith }
