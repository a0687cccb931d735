-- The calls so far make a history from the opening.
use Rattle.std.proofs.Common.{◌≡◌, take}
use Rattle.database.specs.Meaning.{Meaning}
use Rattle.calculus.specs.State.{opening}
use Rattle.session.specs.States.{state_of}
use Rattle.session.proofs.Continuing.{Sofar}
use Rattle.session.proofs.session.replay.replay.Given as goal

abbrev pub invariant-calls : goal.invariant-calls
invariant-calls g l =
    (M N : Meaning) → opening M N ≡ state_of l.initial.session
    → Sofar M N (take l.call-index l.calls) (state_of l.session)
