-- What looking at a session tells. Assumes nothing.
use Rattle.std.specs.Prelude.{ℕ, cond, List, Some, None, vec_items, Option}
use Rattle.qbf.specs.declared.quantifier.Quantifier.{Quantifier}
use Rattle.qbf.specs.Qbf.{quantifier_of}
use Rattle.calculus.specs.State.{is_named}
use Rattle.operations.specs.declared.entry.Entry.{Entry}
use Rattle.operations.specs.declared.trail.Trail.{Trail}

-- the quantifier of a named variable
abbrev pub quantifier_at : List Quantifier → ℕ → Option Quantifier
quantifier_at prefix v = cond (is_named prefix v) (Some (quantifier_of prefix v)) None

-- the entries that a trail keeps, the oldest first
abbrev pub kept : Trail → List Entry
kept t = vec_items t.entries
