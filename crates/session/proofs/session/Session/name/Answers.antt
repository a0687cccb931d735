-- What the prefix refuses is passed on.
use Rattle.std.proofs.Common.{◌≡◌, true, length, nat_le, refl, ◌∙◌, rules}
use Rattle.faults.specs.declared.refusal.Refusal.TheVariants.{TooManyVariables}
use Rattle.calculus.specs.declared.call.Call.TheVariants.{Name}
use Rattle.calculus.specs.State.{allows}
use Rattle.calculus.proofs.Keeping.{at_home}
use Rattle.session.specs.States.{state_of}
use Rattle.session.proofs.Same.{one_ground, passes_on, same}
use Rattle.session.proofs.Steps.{allowed}
use Rattle.session.proofs.session.Session.name.Goals as goal

pub returns : goal.returns
returns g c =
    let s = c.args.self.now in
    let σ = state_of s in
    let q = c.args.quantifier in
    let is_allowed : allows s.stage (Name q) ≡ true = search rules in
    passes_on (Name q) s _ c.push.result
    (allowed σ (Name q) is_allowed ∙ one_ground (nat_le 512 (length σ.prefix)) TooManyVariables c.push.result c.push.ensures.answers)
    (λ e. let home = at_home s.stage (Name q) is_allowed in search rules)
    (λ e. same _ _ (c.push.ensures.refused e) refl refl refl refl refl refl)
