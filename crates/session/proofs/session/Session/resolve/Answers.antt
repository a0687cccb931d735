-- The two last grounds are told by one answer.
use Rattle.std.proofs.Common.{◌≡◌, true, false, refl, rules, is_none}
use Rattle.std.proofs.lemmas.Result.{err_from_is_err_and}
use Rattle.qbf.specs.Qbf.{own, quantifier_of}
use Rattle.database.specs.Meaning.{numbered}
use Rattle.calculus.specs.declared.call.Call.TheVariants.{Resolve}
use Rattle.calculus.specs.State.{allows, database, is_named}
use Rattle.session.specs.States.{state_of}
use Rattle.session.proofs.Clashing.{resolve_clashes}
use Rattle.session.proofs.Steps.{refuses}
use Rattle.session.proofs.session.Session.resolve.Goals as goal

pub returns-in_err-resolvable : goal.returns-in_err-resolvable
returns-in_err-resolvable g c =
    let s = c.args.self.now in
    let σ = state_of s in
    let side = c.side-side.result in
    let number = c.args.number in
    let variable = c.args.variable in
    let is_allowed : allows s.stage (Resolve number variable) ≡ true = search rules in
    let named : is_named σ.prefix variable ≡ true = search rules in
    let there : is_none (numbered (database side σ).list number) ≡ false = search rules in
    let owned : own side (quantifier_of σ.prefix variable) ≡ true = search rules in
    let p = err_from_is_err_and c.from_residual-in_err-resolvable.result c.from_residual-in_err-resolvable.ensures.1 in
    rw (p.1, p.2)
    (refuses (Resolve number variable) s s c.in_err-resolvable.field-0.0 (resolve_clashes σ side number variable _ c.side-side.ensures is_allowed named there owned (search rules)) refl)
