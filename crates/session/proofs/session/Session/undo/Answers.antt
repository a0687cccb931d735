-- What the trail refuses is passed on.
use Rattle.std.proofs.Common.{◌≡◌, true, refl, ◌∙◌, rules}
use Rattle.faults.specs.declared.refusal.Refusal.TheVariants.{KeepsEveryDecision}
use Rattle.calculus.specs.declared.call.Call.TheVariants.{Undo}
use Rattle.calculus.specs.State.{allows, decisions}
use Rattle.calculus.proofs.Keeping.{at_home}
use Rattle.session.specs.States.{state_of}
use Rattle.session.proofs.Same.{none_left, one_ground, passes_on, same}
use Rattle.session.proofs.Settings.{trailed}
use Rattle.session.proofs.Steps.{allowed}
use Rattle.session.proofs.session.Session.undo.Goals as goal

pub returns : goal.returns
returns g c =
    let s = c.args.self.now in
    let σ = state_of s in
    let k = c.args.decisions in
    let is_allowed : allows s.stage (Undo k) ≡ true = search rules in
    passes_on (Undo k) s _ c.undo.result
    (allowed σ (Undo k) is_allowed ∙ one_ground _ KeepsEveryDecision c.undo.result (none_left k (decisions σ.trail) KeepsEveryDecision c.undo.result c.undo.ensures.answers))
    (λ e. trailed σ _ _ (at_home s.stage (Undo k) is_allowed) (c.undo.ensures.trail e))
    (λ e. same _ _ refl refl (c.undo.ensures.refused e) refl refl refl refl)
