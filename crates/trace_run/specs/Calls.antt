-- The call that a record spells. Assumes nothing.
use Rattle.std.specs.Prelude.{◌≡◌, ℕ, zero, suc, ◌/◌, ◌%◌, ◌^◌, ◌<◌, cond, List, [], ◌∷◌, ◌++◌, length, Some, None, Option, ◌==◌}
use Rattle.qbf.specs.declared.quantifier.Quantifier.TheVariants.{Existential, Universal}
use Rattle.qbf.specs.declared.side.Side.TheVariants.{Clause, Cube}
use Rattle.trace.specs.Format.{Row, row_of, body_length, numbers}
use Rattle.trace.specs.Reading.{Item}
use Rattle.calculus.specs.declared.call.Call.{Call}
use Rattle.calculus.specs.declared.call.Call.TheVariants.{Name, EndNaming, Put, Load, EndLoading, Imply, Decide, Undo, Begin, Resolve, Reduce, Store, Abandon, Close}
use Rattle.calculus.specs.declared.verdict.Verdict.TheVariants.{False, True}

-- Each kind with the call that it makes of its body's first and second number.
abbrev pub call_table : List (ℕ × (ℕ → ℕ → Call))
call_table =
    (0x01, λ a b. Name Existential)
    ∷ (0x02, λ a b. Name Universal)
    ∷ (0x03, λ a b. EndNaming)
    ∷ (0x04, λ a b. Put a)
    ∷ (0x05, λ a b. Load Clause)
    ∷ (0x06, λ a b. Load Cube)
    ∷ (0x07, λ a b. EndLoading)
    ∷ (0x08, λ a b. Imply Clause a)
    ∷ (0x09, λ a b. Imply Cube a)
    ∷ (0x0a, λ a b. Decide a)
    ∷ (0x0b, λ a b. Undo a)
    ∷ (0x0c, λ a b. Begin Clause a)
    ∷ (0x0d, λ a b. Begin Cube a)
    ∷ (0x0e, λ a b. Resolve a b)
    ∷ (0x0f, λ a b. Reduce)
    ∷ (0x10, λ a b. Store)
    ∷ (0x11, λ a b. Abandon)
    ∷ (0x12, λ a b. Close False)
    ∷ (0x13, λ a b. Close True)
    ∷ []

-- the first and the second number, 0 where there is none
abbrev pub first_of : List ℕ → ℕ
first_of [] = 0
first_of (a ∷ ns) = a

abbrev pub second_of : List ℕ → ℕ
second_of [] = 0
second_of (a ∷ ns) = first_of ns

abbrev pub made_by : ℕ → List (ℕ × (ℕ → ℕ → Call)) → List ℕ → Option Call
made_by k [] ns = None
made_by k (r ∷ rows) ns = cond (k == r.0) (Some (r.1 (first_of ns) (second_of ns))) (made_by k rows ns)

abbrev pub body_numbers : Option Row → List ℕ → List ℕ
body_numbers None body = []
body_numbers (Some r) body = numbers r.widths body

-- The call of a kind and a body; none where the kind is not listed.
abbrev pub call_of : ℕ → List ℕ → Option Call
call_of k body = made_by k call_table (body_numbers (row_of k) body)

-- A whole record that spells the call.
pub record Spells (r : Item) (c : Call) : Type 0 where
  pub whole : body_length r.0 ≡ Some (length r.1)
  pub call : call_of r.0 r.1 ≡ Some c

-- A number in so many bytes, low byte first.
abbrev pub bytes_of : ℕ → ℕ → List ℕ
bytes_of zero n = []
bytes_of (suc w) n = n % 256 ∷ bytes_of w (n / 256)

-- The record that a call is encoded as.
abbrev pub record_of : Call → Item
record_of (Name Existential) = (0x01, [])
record_of (Name Universal) = (0x02, [])
record_of EndNaming = (0x03, [])
record_of (Put l) = (0x04, bytes_of 2 l)
record_of (Load Clause) = (0x05, [])
record_of (Load Cube) = (0x06, [])
record_of EndLoading = (0x07, [])
record_of (Imply Clause n) = (0x08, bytes_of 4 n)
record_of (Imply Cube n) = (0x09, bytes_of 4 n)
record_of (Decide l) = (0x0a, bytes_of 2 l)
record_of (Undo k) = (0x0b, bytes_of 2 k)
record_of (Begin Clause n) = (0x0c, bytes_of 4 n)
record_of (Begin Cube n) = (0x0d, bytes_of 4 n)
record_of (Resolve n v) = (0x0e, bytes_of 4 n ++ bytes_of 2 v)
record_of Reduce = (0x0f, [])
record_of Store = (0x10, [])
record_of Abandon = (0x11, [])
record_of (Close False) = (0x12, [])
record_of (Close True) = (0x13, [])

-- The numbers of a call fit their places in a record.
abbrev pub Fits : Call → Type 0
Fits (Name q) = Unit {0}
Fits EndNaming = Unit {0}
Fits (Put l) = l < 2 ^ 16
Fits (Load s) = Unit {0}
Fits EndLoading = Unit {0}
Fits (Imply s n) = n < 2 ^ 32
Fits (Decide l) = l < 2 ^ 16
Fits (Undo k) = k < 2 ^ 16
Fits (Begin s n) = n < 2 ^ 32
Fits (Resolve n v) = (n < 2 ^ 32) × (v < 2 ^ 16)
Fits Reduce = Unit {0}
Fits Store = Unit {0}
Fits Abandon = Unit {0}
Fits (Close v) = Unit {0}

-- A call whose numbers fit is spelled by its encoding.
abbrev pub Encodings : Type 0
Encodings = (c : Call) → Fits c → Spells (record_of c) c
