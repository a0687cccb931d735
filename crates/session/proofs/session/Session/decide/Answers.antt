-- Each test that fails is the first ground that holds.
use Rattle.std.proofs.Common.{◌≡◌, true, false, refl, rules}
use Rattle.qbf.specs.Qbf.{variable, is_set}
use Rattle.faults.specs.declared.refusal.Refusal.TheVariants.{UnnamedVariable, VariableSet, EarlierBlockUnset}
use Rattle.calculus.specs.declared.call.Call.TheVariants.{Decide}
use Rattle.calculus.specs.Blocks.{earlier_unset}
use Rattle.calculus.specs.State.{allows, is_named, literals}
use Rattle.session.specs.States.{state_of}
use Rattle.session.proofs.Same.{same}
use Rattle.session.proofs.Settings.{decide_unnamed, decide_set, decide_early}
use Rattle.session.proofs.Steps.{refuses}
use Rattle.session.proofs.session.Session.decide.Goals as goal

pub returns-then-not-names : goal.returns-then-not-names
returns-then-not-names g c =
    let s = c.args.self.now in
    let σ = state_of s in
    let l = c.args.code in
    let a : allows s.stage (Decide l) ≡ true = search rules in
    let n : is_named σ.prefix (variable l) ≡ false = search rules in
    refuses (Decide l) s _ UnnamedVariable (decide_unnamed σ l a n) (same s _ refl refl refl refl refl refl refl)

pub returns-then-is_set : goal.returns-then-is_set
returns-then-is_set g c =
    let s = c.args.self.now in
    let σ = state_of s in
    let l = c.args.code in
    let a : allows s.stage (Decide l) ≡ true = search rules in
    let n : is_named σ.prefix (variable l) ≡ true = search rules in
    let u : is_set (literals σ.trail) (variable l) ≡ true = search rules in
    refuses (Decide l) s _ VariableSet (decide_set σ l a n u) (same s _ refl refl refl refl refl refl refl)

pub returns-then-earlier_unset : goal.returns-then-earlier_unset
returns-then-earlier_unset g c =
    let s = c.args.self.now in
    let σ = state_of s in
    let l = c.args.code in
    let a : allows s.stage (Decide l) ≡ true = search rules in
    let n : is_named σ.prefix (variable l) ≡ true = search rules in
    let u : is_set (literals σ.trail) (variable l) ≡ false = search rules in
    let e : earlier_unset σ.prefix (literals σ.trail) (variable l) ≡ true = search rules in
    refuses (Decide l) s _ EarlierBlockUnset (decide_early σ l a n u e) (same s _ refl refl refl refl refl refl refl)
