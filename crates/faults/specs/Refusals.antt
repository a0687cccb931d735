-- The number and the layer of each refusal, and how a layer is written. Assumes nothing.
use Rattle.std.specs.Prelude.{ℕ, List, codes}
use Rattle.qbf.specs.declared.side.Side.TheVariants.{Clause, Cube}
use Rattle.faults.specs.declared.refusal.Layer.{Layer}
use Rattle.faults.specs.declared.refusal.Layer.TheVariants.{Bytes, Stage, Rule, Clauses, Cubes}
use Rattle.faults.specs.declared.refusal.Refusal.{Refusal}
use Rattle.faults.specs.declared.refusal.Refusal.TheVariants.{UnknownKind, CutBody, WrongStage, TooManyVariables, UnnamedVariable, VariableNotAbove, LiteralsWaiting, NoSuchConstraint, VariableSet, EarlierBlockUnset, ImpliesNothing, KeepsEveryDecision, NotOwnQuantifier, NoClash, SecondClash, Full, NoEmptyConstraint, Unclosed, InputTooLong}

-- A refusal's number and layer.
abbrev pub numbered : Refusal → ℕ × Layer
numbered UnknownKind = (1, Bytes)
numbered CutBody = (2, Bytes)
numbered WrongStage = (3, Stage)
numbered TooManyVariables = (4, Rule)
numbered UnnamedVariable = (5, Rule)
numbered VariableNotAbove = (6, Rule)
numbered LiteralsWaiting = (7, Rule)
numbered NoSuchConstraint = (8, Rule)
numbered VariableSet = (9, Rule)
numbered EarlierBlockUnset = (10, Rule)
numbered ImpliesNothing = (11, Rule)
numbered KeepsEveryDecision = (12, Rule)
numbered NotOwnQuantifier = (13, Rule)
numbered NoClash = (14, Rule)
numbered SecondClash = (15, Rule)
numbered (Full Clause) = (16, Clauses)
numbered (Full Cube) = (16, Cubes)
numbered NoEmptyConstraint = (17, Rule)
numbered Unclosed = (18, Bytes)
numbered InputTooLong = (19, Bytes)

abbrev pub number_of : Refusal → ℕ
number_of r = (numbered r).0

abbrev pub layer_of : Refusal → Layer
layer_of r = (numbered r).1

abbrev pub layer_name : Layer → List ℕ
layer_name Bytes = codes "bytes"
layer_name Stage = codes "stage"
layer_name Rule = codes "rule"
layer_name Clauses = codes "clauses"
layer_name Cubes = codes "cubes"
