-- What one call of `next` does. Assumes nothing.
use Rattle.std.specs.Prelude.{◌≡◌, ℕ, ◌+◌, ◌-◌, List, length, drop, Some, None, Option}
use Rattle.std.specs.Option.{option_map}
use Rattle.faults.specs.declared.fault.Fault.{Fault}
use Rattle.faults.specs.declared.refusal.Refusal.TheVariants.{UnknownKind, CutBody}
use Rattle.trace.specs.declared.reader.Reader.{Reader}
use Rattle.trace.specs.declared.record.Record.{Record}
use Rattle.trace.specs.Format.{Front, end, whole, unknown_kind, cut_body, decode}
use Rattle.trace.specs.Reading.{Item, fault_at}
use Rattle.trace.specs.Records.{parts}

-- the trace that a reader stands over
abbrev pub trace_of : Reader → List ℕ
trace_of r = r.trace.now

-- what a reader stands before
abbrev pub ahead : Reader → Front
ahead r = decode (drop r.place (trace_of r))

-- how many bytes a reader has yet to read
abbrev pub to_go : Reader → ℕ
to_go r = length (trace_of r) - r.place

-- The record at a front, if it is whole; how many bytes and how many records reading it takes; its fault, after n records at byte p.
abbrev pub given : Front → Option Item
given end = None
given (whole k body rest) = Some (k, body)
given unknown_kind = None
given cut_body = None

abbrev pub bytes_taken : Front → ℕ
bytes_taken end = 0
bytes_taken (whole k body rest) = 1 + length body
bytes_taken unknown_kind = 0
bytes_taken cut_body = 0

abbrev pub records_taken : Front → ℕ
records_taken end = 0
records_taken (whole k body rest) = 1
records_taken unknown_kind = 0
records_taken cut_body = 0

abbrev pub fault_of : ℕ → ℕ → Front → Option Fault
fault_of n p end = None
fault_of n p (whole k body rest) = None
fault_of n p unknown_kind = Some (fault_at UnknownKind (n + 1) p)
fault_of n p cut_body = Some (fault_at CutBody (n + 1) p)

-- A call of `next` at r answers got and leaves r'.
pub record Next (r : Reader) (got : Option Record) (r' : Reader) : Type 0 where
  pub gives : option_map parts got ≡ given (ahead r)
  pub same : trace_of r' ≡ trace_of r
  pub place : r'.place ≡ r.place + bytes_taken (ahead r)
  pub records : r'.records ≡ r.records + records_taken (ahead r)
  pub fault : r'.fault ≡ fault_of r.records r.place (ahead r)
