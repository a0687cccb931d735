-- The implied literal is a code of an unset variable, so it is appended.
use Rattle.std.proofs.Common.{◌≡◌, ℕ, true, false, [], ◌∷◌, ◌++◌, Some, is_none, is_ok, sym, ap, ◌∙◌, rules}
use Rattle.std.proofs.lemmas.Bool.{both_ways, not-true}
use Rattle.qbf.specs.Qbf.{unit}
use Rattle.database.specs.Meaning.{numbered}
use Rattle.calculus.specs.declared.call.Call.TheVariants.{Imply}
use Rattle.calculus.specs.State.{allows, constraint, database, implication, literals}
use Rattle.operations.proofs.ByNumber.{constraint_formed}
use Rattle.operations.specs.Trails.{may_append, trail_of}
use Rattle.session.specs.States.{state_of}
use Rattle.session.proofs.Settings.{appended, implied_free, imply_effect, imply_passes, side_formed}
use Rattle.session.proofs.Steps.{taken_no, takes}
use Rattle.session.proofs.session.Session.imply.Goals as goal

-- the literal may be appended
pub unreachable-requires : goal.unreachable-requires
unreachable-requires g c =
    let s = c.args.self.now in
    let σ = state_of s in
    let side = c.args.side in
    let number = c.args.number in
    let literal = c.in_ok-literal.literal in
    let C = constraint (database side σ).list number in
    let is_unit : unit side σ.prefix (literals σ.trail) C ≡ Some literal = search rules in
    let formed_c = constraint_formed (database side σ).list number (side_formed side σ.clauses σ.cubes (g.C.Database.lawful s.clauses) (g.D.Database.lawful s.cubes)) in
    let pushed : is_ok c.push.result ≡ true =
    ap is_ok (c.push.ensures.answers ∙ ap (may_append σ.trail) c.implied-code.ensures.value ∙ implied_free side σ.prefix σ.trail C literal formed_c is_unit) in
    let failed : is_ok c.push.result ≡ false = search rules in
    both_ways (is_ok c.push.result) failed pushed

pub returns : goal.returns
returns g c =
    let s = c.args.self.now in
    let σ = state_of s in
    let side = c.args.side in
    let number = c.args.number in
    let literal = c.in_ok-literal.literal in
    let C = constraint (database side σ).list number in
    let is_allowed : allows s.stage (Imply side number) ≡ true = search rules in
    let was_there : c.is_there.result ≡ true = search rules in
    let there : is_none (numbered (database side σ).list number) ≡ false = not-true (is_none (numbered (database side σ).list number)) (sym c.is_there.ensures ∙ was_there) in
    let is_unit : unit side σ.prefix (literals σ.trail) C ≡ Some literal = search rules in
    let code = c.implied-code.ensures.value in
    let pushed : is_ok c.push.result ≡ true = search rules in
    takes (Imply side number) s _ _ (imply_passes σ side number literal is_allowed there is_unit)
    (imply_effect σ side number literal (trail_of c.push.new.self) is_allowed is_unit
    (appended (is_ok c.push.result) σ.trail (trail_of c.push.new.self) _ c.push.ensures.trail pushed ∙ ap (λ (l : ℕ). σ.trail ++ (implication l side number ∷ [])) code))
    taken_no
