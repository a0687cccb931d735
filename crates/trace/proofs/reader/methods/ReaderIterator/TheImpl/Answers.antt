-- A record that is read leaves fewer bytes to go, as an iterator that ends asks.
use Rattle.std.proofs.Common.{◌<◌, Some, None, Option}
use Rattle.std.specs.Prelude.{OnSome, ⊤}
use Rattle.std.specs.Iterator.{MakesProgress, at_most}
use Rattle.trace.specs.declared.reader.Reader.{Reader}
use Rattle.trace.specs.declared.record.Record.{Record}
use Rattle.trace.specs.Readers.{to_go}
use Rattle.trace.proofs.reader.methods.ReaderIterator.TheImpl.Goals as goal

goes : (r r' : Reader) (got : Option Record) → OnSome got (to_go r' < to_go r) → MakesProgress (λ _. ⊤) (λ s. at_most (to_go s)) r got r'
goes r r' None h = record { on = λ _. tt; keeps = tt; rests = λ _. tt }
goes r r' (Some x) h = record { on = λ _. (tt, tt, h); keeps = tt; rests = λ _. tt }

pub next-tells : goal.next-tells
next-tells g x c = record { steps = c.ensures.steps; goes = goes _ _ _ c.ensures.falls }
