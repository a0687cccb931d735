-- Each turn goes down by one variable.
use Rattle.std.proofs.Common.{◌≡◌, ◌-◌, ◌+◌, refl, ap, ◌∙◌, ap₂, length, min}
use Rattle.qbf.specs.Qbf.{quantifier_of}
use Rattle.calculus.specs.Blocks.{differ}
use Rattle.calculus.specs.State.{literals}
use Rattle.operations.specs.Trails.{trail_of}
use Rattle.operations.proofs.Earlier.{begun, found, same_block, was_set}
use Rattle.operations.proofs.blocks.earlier_unset.Goals as goal
use Rattle.operations.proofs.blocks.earlier_unset.Goals.{else-earlier-via-then-earlier+else-not-is_set, else-earlier-via-else-earlier}

pub variables-init : goal.variables-init
variables-init c = begun c.args.prefix.now (literals (trail_of c.args.trail.now)) c.args.variable c.min-last.result (c.min-last.ensures ∙ ap (min (length c.args.prefix.now)) c.from.ensures)

pub returns-then-not-is_set : goal.returns-then-not-is_set
returns-then-not-is_set c =
    let P = c.args.prefix.now in
    let n = c.variables.next in
    let d = c.begins_block-earlier.result in
    let e : d ≡ differ (quantifier_of P (n - 1)) (quantifier_of P (n - 1 + 1)) = c.begins_block-earlier.ensures.value ∙ ap₂ differ c.quantifier_of.ensures c.quantifier_of-here.ensures in
    found P (literals (trail_of c.args.trail.now)) c.args.variable n (n - 1) c.variables.earlier d c.variables-test.true refl e c.variables.invariant c.if-earlier.true c.if-not-is_set.ensures

pub variables-preserved : goal.variables-preserved
variables-preserved c =
    let P = c.args.prefix.now in
    let A = literals (trail_of c.args.trail.now) in
    let n = c.variables.next in
    let d = c.begins_block-earlier.result in
    let e : d ≡ differ (quantifier_of P (n - 1)) (quantifier_of P (n - 1 + 1)) = c.begins_block-earlier.ensures.value ∙ ap₂ differ c.quantifier_of.ensures c.quantifier_of-here.ensures in
    elim c.else-earlier.branch [
      | else-earlier-via-then-earlier+else-not-is_set w ↦ was_set P A c.args.variable n (n - 1) c.variables.earlier d c.variables-test.true refl e c.variables.invariant w.if-not-is_set.ensures
      | else-earlier-via-else-earlier w ↦ same_block P A c.args.variable n (n - 1) c.variables.earlier d c.variables-test.true refl e c.variables.invariant w.if-earlier.false
    ]
