-- What the working constraint refuses is refused as not above.
use Rattle.std.proofs.Common.{◌≡◌, true, false, is_ok, refl, rules}
use Rattle.calculus.specs.declared.call.Call.TheVariants.{Put}
use Rattle.calculus.specs.State.{allows, check}
use Rattle.calculus.proofs.Keeping.{at_home}
use Rattle.session.specs.States.{state_of}
use Rattle.session.proofs.Same.{passes_on, refusal_in, same}
use Rattle.session.proofs.session.Session.put.Goals as goal

pub returns : goal.returns
returns g c =
    let s = c.args.self.now in
    let σ = state_of s in
    let l = c.args.code in
    let is_allowed : allows s.stage (Put l) ≡ true = search rules in
    let home = at_home s.stage (Put l) is_allowed in
    let told : check σ (Put l) ≡ refusal_in c.map_err.result = search rules in
    passes_on (Put l) s _ c.map_err.result told
    (λ e. search rules)
    (λ e. let r : is_ok c.push.result ≡ false = search rules in same _ _ refl refl refl (c.push.ensures.refused r) refl refl refl)
