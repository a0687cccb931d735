-- A record of the program as its kind and the bytes of its body. Assumes nothing.
use Rattle.std.specs.Prelude.{◌≡◌, ℕ, ◌<◌, ◌≤◌, List, [], ◌∷◌, ◌++◌, length, take, drop, slice_index, Some, None, Ok, Err, Option, Result, MatchResult}
use Rattle.std.specs.Option.{option_map}
use Rattle.faults.specs.declared.refusal.Refusal.{Refusal}
use Rattle.faults.specs.declared.refusal.Refusal.TheVariants.{UnknownKind, CutBody}
use Rattle.std.specs.Borrow.{Bor}
use Rattle.trace.specs.declared.record.Record.{Record}
use Rattle.trace.specs.declared.record.Record.TheVariants.{Existential, Universal, EndNaming, Literal, LoadClause, LoadCube, EndLoading, ImplyByClause, ImplyByCube, Decide, Undo, BeginFromClause, BeginFromCube, Resolve, Reduce, Store, Abandon, CloseFalse, CloseTrue}
use Rattle.trace.specs.Format.{Front, end, whole, unknown_kind, cut_body}

-- the bytes of a body, in the order of the trace
abbrev pub two_bytes : List ℕ → List ℕ
two_bytes b = slice_index b 0 ∷ slice_index b 1 ∷ []

abbrev pub four_bytes : List ℕ → List ℕ
four_bytes b = slice_index b 0 ∷ slice_index b 1 ∷ slice_index b 2 ∷ slice_index b 3 ∷ []

-- The kind of a record and the bytes of its body.
abbrev pub parts : Record → ℕ × List ℕ
parts Existential = (0x01, [])
parts Universal = (0x02, [])
parts EndNaming = (0x03, [])
parts (Literal code) = (0x04, two_bytes code.now)
parts LoadClause = (0x05, [])
parts LoadCube = (0x06, [])
parts EndLoading = (0x07, [])
parts (ImplyByClause n) = (0x08, four_bytes n.now)
parts (ImplyByCube n) = (0x09, four_bytes n.now)
parts (Decide code) = (0x0a, two_bytes code.now)
parts (Undo n) = (0x0b, two_bytes n.now)
parts (BeginFromClause n) = (0x0c, four_bytes n.now)
parts (BeginFromCube n) = (0x0d, four_bytes n.now)
parts (Resolve n v) = (0x0e, four_bytes n.now ++ two_bytes v.now)
parts Reduce = (0x0f, [])
parts Store = (0x10, [])
parts Abandon = (0x11, [])
parts CloseFalse = (0x12, [])
parts CloseTrue = (0x13, [])

abbrev pub kind_of : Record → ℕ
kind_of r = (parts r).0

abbrev pub body_of : Record → List ℕ
body_of r = (parts r).1

-- A record's encoding: its kind, then its body.
abbrev pub encode : Record → List ℕ
encode r = kind_of r ∷ body_of r

-- what an answer of `split` says: a record's kind and body with the rest, the end, or a refusal
abbrev pub told : Result (Option (Record × Bor (List ℕ))) Refusal → Result (Option ((ℕ × List ℕ) × List ℕ)) Refusal
told (Ok o) = Ok (option_map (λ p. (parts p.0, p.1.now)) o)
told (Err r) = Err r

-- the same of an answer that is not the end
abbrev pub told_record : Result (Record × Bor (List ℕ)) Refusal → Result (Option ((ℕ × List ℕ) × List ℕ)) Refusal
told_record (Ok p) = told (Ok (Some p))
told_record (Err r) = told (Err r)

-- what `split` is to answer of a front
abbrev pub answer_of : Front → Result (Option ((ℕ × List ℕ) × List ℕ)) Refusal
answer_of end = Ok None
answer_of (whole k body rest) = Ok (Some ((k, body), rest))
answer_of unknown_kind = Err UnknownKind
answer_of cut_body = Err CutBody

-- the first n bytes and the rest, or fewer bytes are there
abbrev pub TakesBody : ℕ → List ℕ → Result (Bor (List ℕ) × Bor (List ℕ)) Refusal → Type 0
TakesBody n bs r = MatchResult r (λ p. (p.0.now ≡ take n bs) × (p.1.now ≡ drop n bs) × (n ≤ length bs)) (λ e. (e ≡ CutBody) × (length bs < n))
