-- What the reading of a whole trace comes to, and what that says of the trace. Assumes nothing.
use Rattle.std.specs.Prelude.{◌≡◌, ℕ, zero, suc, ◌+◌, ◌<◌, cond, List, [], ◌∷◌, ◌++◌, length, Some, None, Ok, Err, Option, Result, nat_le}
use Rattle.faults.specs.declared.fault.Fault.{Fault}
use Rattle.faults.specs.declared.refusal.Refusal.{Refusal}
use Rattle.faults.specs.declared.refusal.Refusal.TheVariants.{UnknownKind, CutBody, InputTooLong}
use Rattle.trace.specs.Format.{body_length, Front, end, whole, unknown_kind, cut_body, decode}

abbrev pub fault_at : Refusal → ℕ → ℕ → Fault
fault_at r n p = record { refusal = r; «record» = n; byte = p }

-- After n records, at byte p, with this at the front: the end, one more record and then what on says of the rest, or a fault.
abbrev pub after : (ℕ → ℕ → List ℕ → Result ℕ Fault) → ℕ → ℕ → Front → Result ℕ Fault
after on n p end = Ok n
after on n p (whole k body rest) = on (n + 1) (p + (1 + length body)) rest
after on n p unknown_kind = Err (fault_at UnknownKind (n + 1) p)
after on n p cut_body = Err (fault_at CutBody (n + 1) p)

-- The reading goes on for as many turns as fuel says; each takes a byte or more, so that one turn more than bytes is enough.
abbrev pub reads : ℕ → ℕ → ℕ → List ℕ → Result ℕ Fault
reads zero n p bs = Ok n
reads (suc fuel) n p bs = after (reads fuel) n p (decode bs)

-- How many records the bytes are, or the fault.
abbrev pub outcome : List ℕ → Result ℕ Fault
outcome bs = reads (suc (length bs)) 0 0 bs

-- what a reader that stopped says
abbrev pub ending : Option Fault → ℕ → Result ℕ Fault
ending None n = Ok n
ending (Some f) n = Err f

-- A program's input has at most 65,536 bytes.
abbrev pub limited : ℕ → Result (Unit {0}) Fault
limited n = cond (nat_le n 65536) (Ok tt) (Err (fault_at InputTooLong 0 65536))

-- A kind with a body, and whether the body has the length that the kind fixes.
abbrev pub Item : Type 0
Item = ℕ × List ℕ

abbrev pub AllWhole : List Item → Type 0
AllWhole [] = Unit {0}
AllWhole (r ∷ rs) = (body_length r.0 ≡ Some (length r.1)) × AllWhole rs

-- the records' bytes, one record after the other
abbrev pub spelled : List Item → List ℕ
spelled [] = []
spelled (r ∷ rs) = (r.0 ∷ r.1) ++ spelled rs

-- The bytes are n whole records, one after the other.
pub record WholeTrace (bs : List ℕ) (n : ℕ) : Type 0 where
  pub items : List Item
  pub whole : AllWhole items
  pub spells : bs ≡ spelled items
  pub count : n ≡ length items

-- Why no whole record stands at the front of the bytes: the kind is not listed, or fewer bytes follow than its body needs.
pub data Stops : Refusal → List ℕ → Type 0 where
  not_listed : {k : ℕ} {bs : List ℕ} → body_length k ≡ None → Stops UnknownKind (k ∷ bs)
  too_short : {k n : ℕ} {bs : List ℕ} → body_length k ≡ Some n → length bs < n → Stops CutBody (k ∷ bs)

-- The bytes are whole records and then the fault, which names the record after them and the byte where it begins.
pub record CutTrace (bs : List ℕ) (f : Fault) : Type 0 where
  pub items : List Item
  pub rest : List ℕ
  pub whole : AllWhole items
  pub spells : bs ≡ spelled items ++ rest
  pub stops : Stops f.refusal rest
  pub number : f.«record» ≡ length items + 1
  pub place : f.byte ≡ length (spelled items)

-- What an outcome says of the bytes.
abbrev pub Tells : List ℕ → Result ℕ Fault → Type 0
Tells bs (Ok n) = WholeTrace bs n
Tells bs (Err f) = CutTrace bs f
