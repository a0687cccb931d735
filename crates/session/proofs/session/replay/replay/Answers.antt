-- The opening is the empty history, and each call one event more.
use Rattle.std.proofs.Common.{◌≡◌, List, take, sym, subst}
use Rattle.std.proofs.lemmas.List.{take_all}
use Rattle.calculus.specs.declared.call.Call.{Call}
use Rattle.session.specs.States.{state_of}
use Rattle.session.proofs.Continuing.{Sofar, replayed, sofar_more, sofar_none}
use Rattle.session.proofs.session.replay.replay.Goals as goal

pub calls-init : goal.calls-init
calls-init g c = λ M N e. sofar_none M N _ e

pub calls-preserved : goal.calls-preserved
calls-preserved g c =
    λ M N e.
    sofar_more M N c.args.calls.now c.calls.call-index _ _ _ c.apply.result c.calls-test.true c.apply.ensures.does.state c.apply.ensures.does.answers
    (c.calls.invariant M N e)

pub returns : goal.returns
returns g c =
    let M = g.C.Database.meaning c.args.clauses in
    let N = g.D.Database.meaning c.args.cubes in
    let σ = state_of c.calls.session in
    let all : take c.calls.call-index c.args.calls.now ≡ c.args.calls.now = take_all c.calls.call-index c.args.calls.now c.calls-test.false in
    replayed M N c.args.calls.now σ (subst (λ (l : List Call). Sofar M N l σ) all (c.calls.invariant M N (sym c.in_ok-session.ensures)))
