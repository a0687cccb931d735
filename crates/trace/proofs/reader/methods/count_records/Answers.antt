-- The calls of `next` come to the outcome of the trace, and so to what it tells.
use Rattle.std.proofs.Common.{sym, ◌∙◌, subst}
use Rattle.trace.specs.Reading.{Tells}
use Rattle.trace.proofs.Turns.{went, stops}
use Rattle.trace.proofs.Tellings.{tells}
use Rattle.trace.proofs.reader.methods.count_records.Goals as goal

pub loop-preserved : goal.loop-preserved
loop-preserved c =
    let h = c.in-Some.ensures.steps in
    (went _ _ _ h ∙ c.loop.invariant.0, h.same ∙ c.loop.invariant.1)

pub returns : goal.returns
returns c =
    let v = c.outcome.ensures ∙ stops _ _ c.in_default.ensures.steps ∙ c.loop.invariant.0 in
    record { value = v; tells = subst (Tells c.args.trace.now) (sym v) (tells c.args.trace.now) }
