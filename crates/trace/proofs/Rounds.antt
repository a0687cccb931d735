-- Reading what a record is written as gives the record back. Assumes nothing.
use Rattle.std.proofs.Common.{refl}
use Rattle.trace.specs.declared.record.Record.TheVariants.{Existential, Universal, EndNaming, Literal, LoadClause, LoadCube, EndLoading, ImplyByClause, ImplyByCube, Decide, Undo, BeginFromClause, BeginFromCube, Resolve, Reduce, Store, Abandon, CloseFalse, CloseTrue}
use Rattle.trace.specs.Laws.{RoundTrip}

pub round : RoundTrip
round Existential rest = refl
round Universal rest = refl
round EndNaming rest = refl
round (Literal code) rest = refl
round LoadClause rest = refl
round LoadCube rest = refl
round EndLoading rest = refl
round (ImplyByClause n) rest = refl
round (ImplyByCube n) rest = refl
round (Decide code) rest = refl
round (Undo n) rest = refl
round (BeginFromClause n) rest = refl
round (BeginFromCube n) rest = refl
round (Resolve n v) rest = refl
round Reduce rest = refl
round Store rest = refl
round Abandon rest = refl
round CloseFalse rest = refl
round CloseTrue rest = refl
