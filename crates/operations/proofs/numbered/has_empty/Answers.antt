-- Each number is asked until one has no literals.
use Rattle.std.proofs.Common.{rules, tests, refl, arith}
use Rattle.std.proofs.lemmas.Iterator.{cases_from_any, YieldsList-from_range}
use Rattle.std.specs.Prelude.{◌≡◌, ◌-◌, length}
use Rattle.operations.proofs.Asked.{Empty, Full, empty_among}
use Rattle.operations.proofs.numbered.has_empty.Goals as goal

pub returns : goal.returns
returns g c =
    let T = (g.D.Database.meaning c.args.database.now).list in
    let n : c.count.result - 0 ≡ length T = omega arith in
    empty_among T (omega arith) c.any.result
    (cases_from_any _ _ c.any.result (Empty T) (Full T) c.any.ensures.ran (YieldsList-from_range 0 c.count.result (length T) refl n)
    (λ x q k. search (rules, tests)) (λ x q k. search (rules, tests)))
