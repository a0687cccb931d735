-- Each call of `next` leaves what the trace comes to as it was, and the last one tells it. Assumes nothing.
use Rattle.std.proofs.Common.{◌≡◌, ℕ, zero, suc, ◌+◌, ◌-◌, ◌<◌, List, ◌∷◌, length, take, drop, Some, None, Ok, Err, Option, Result, sym, refl, ap, ◌∙◌, add-zero, arith, length-drop, length-take-le, drop-drop}
use Rattle.std.specs.Option.{option_map}
use Rattle.faults.specs.declared.fault.Fault.{Fault}
use Rattle.faults.specs.declared.refusal.Refusal.{Refusal}
use Rattle.faults.specs.declared.refusal.Refusal.TheVariants.{UnknownKind, CutBody}
use Rattle.trace.specs.declared.reader.Reader.{Reader}
use Rattle.trace.specs.declared.record.Record.{Record}
use Rattle.trace.specs.Format.{Front, end, whole, unknown_kind, cut_body, decode}
use Rattle.trace.specs.Reading.{Item, after, reads, ending, fault_at}
use Rattle.trace.specs.Readers.{Next, trace_of, ahead, given, bytes_taken, records_taken, fault_of}
use Rattle.trace.specs.Records.{parts, answer_of}
use Rattle.trace.proofs.Fronts.{Seen, none, fits, unlisted, short, seen, from_place}

-- Two readings that agree on fewer bytes agree on these.
by_front : (on on' : ℕ → ℕ → List ℕ → Result ℕ Fault) (n p : ℕ) {bs : List ℕ} {s : Front} → Seen bs s → ((m q : ℕ) (rest : List ℕ) → length rest < length bs → on m q rest ≡ on' m q rest) → after on n p s ≡ after on' n p s
by_front on on' n p none h = refl
by_front on on' n p (fits {k = k} {n = j} {bs = bs} e l) h = h _ _ (drop j bs) (omega (arith, length-drop j bs))
by_front on on' n p (unlisted e) h = refl
by_front on on' n p (short e l) h = refl

-- more fuel than bytes changes nothing
fuel : (f g n p : ℕ) (bs : List ℕ) → length bs < f → length bs < g → reads f n p bs ≡ reads g n p bs
fuel zero g n p bs h i = absurd (omega arith)
fuel (suc f) zero n p bs h i = absurd (omega arith)
fuel (suc f) (suc g) n p bs h i = by_front (reads f) (reads g) n p (seen bs) (λ m q rest l. fuel f g m q rest (omega arith) (omega arith))

-- the bytes that a reader has yet to read, and what the trace comes to by them
abbrev pub left : Reader → List ℕ
left r = drop r.place (trace_of r)

abbrev pub comes : Reader → Result ℕ Fault
comes r = reads (suc (length (left r))) r.records r.place (left r)

-- A call that answers the front of the bytes left at the place, and moves past it, is what `next` is to do.
pub next_by : (s : Front) (r r' : Reader) (got : Option Record) → s ≡ decode (take (length (trace_of r) - r.place) (drop r.place (trace_of r))) → option_map parts got ≡ given s → trace_of r' ≡ trace_of r → r'.place ≡ r.place + bytes_taken s → r'.records ≡ r.records + records_taken s → r'.fault ≡ fault_of r.records r.place s → Next r got r'
next_by s r r' got e g t p n f =
    let a = from_place s r.place (trace_of r) e in
    record {
      gives = g ∙ ap given a;
      same = t;
      place = p ∙ ap (λ x. r.place + bytes_taken x) a;
      records = n ∙ ap (λ x. r.records + records_taken x) a;
      fault = f ∙ ap (fault_of r.records r.place) a;
    }

-- The front that an answer of `split` is of.
abbrev pub front_of : Result (Option (Item × List ℕ)) Refusal → Front
front_of (Ok None) = end
front_of (Ok (Some p)) = whole p.0.0 p.0.1 p.1
front_of (Err CutBody) = cut_body
front_of (Err _) = unknown_kind

answered : (s : Front) → front_of (answer_of s) ≡ s
answered end = refl
answered (whole k b rest) = refl
answered unknown_kind = refl
answered cut_body = refl

pub answers : (a : Result (Option (Item × List ℕ)) Refusal) (s : Front) → a ≡ answer_of s → front_of a ≡ s
answers a s e = ap front_of e ∙ answered s

-- No record is there: `next` stops with the refusal's fault.
pub next_refused : (q : Refusal) (s : Front) (r r' : Reader) → Err q ≡ answer_of s → s ≡ decode (take (length (trace_of r) - r.place) (drop r.place (trace_of r))) → trace_of r' ≡ trace_of r → r'.place ≡ r.place → r'.records ≡ r.records → r'.fault ≡ Some (fault_at q (r.records + 1) r.place) → Next r None r'
next_refused q end r r' a e t p n f = cc
next_refused q (whole k b rest) r r' a e t p n f = cc
next_refused q unknown_kind r r' a e t p n f = let h : q ≡ UnknownKind = cc in next_by unknown_kind r r' None e refl t (omega arith) (omega arith) (f ∙ ap (λ x. Some (fault_at x (r.records + 1) r.place)) h)
next_refused q cut_body r r' a e t p n f = let h : q ≡ CutBody = cc in next_by cut_body r r' None e refl t (omega arith) (omega arith) (f ∙ ap (λ x. Some (fault_at x (r.records + 1) r.place)) h)

-- After a record the trace comes to what it came to before.
went_by : {bs : List ℕ} {s : Front} → Seen bs s → (n p n' p' : ℕ) (bs' : List ℕ) (x : Item) → Some x ≡ given s → n' ≡ n + records_taken s → p' ≡ p + bytes_taken s → bs' ≡ drop (bytes_taken s) bs → reads (suc (length bs')) n' p' bs' ≡ after (reads (length bs)) n p s
went_by none n p n' p' bs' x g a b e = cc
went_by (fits {k = k} {n = j} {bs = bs} s l) n p n' p' bs' x g a b e =
    let taken : 1 + length (take j bs) ≡ suc j = omega (arith, length-take-le j bs l) in
    let there : bs' ≡ drop j bs = e ∙ ap (λ i. drop i (k ∷ bs)) taken in
    (λ i. reads (suc (length (there i))) (a i) (b i) (there i)) ∙ fuel (suc (length (drop j bs))) (suc (length bs)) _ _ (drop j bs) (omega arith) (omega (arith, length-drop j bs))
went_by (unlisted s) n p n' p' bs' x g a b e = cc
went_by (short s l) n p n' p' bs' x g a b e = cc

pub went : (r r' : Reader) (x : Record) → Next r (Some x) r' → comes r' ≡ comes r
went r r' x h =
    went_by (seen (left r)) _ _ _ _ _ (parts x) h.gives h.records h.place
    ((λ i. drop (h.place i) (h.same i)) ∙ sym (drop-drop (bytes_taken (ahead r)) r.place (trace_of r)))

-- What the reader tells when it stops is what the trace comes to.
stops_by : (on : ℕ → ℕ → List ℕ → Result ℕ Fault) (n p n' : ℕ) (f : Option Fault) (s : Front) → None ≡ given s → f ≡ fault_of n p s → n' ≡ n + records_taken s → ending f n' ≡ after on n p s
stops_by on n p n' f end g e h = (λ i. ending (e i) n') ∙ ap Ok (h ∙ add-zero n)
stops_by on n p n' f (whole k b rest) g e h = cc
stops_by on n p n' f unknown_kind g e h = ap (λ x. ending x n') e
stops_by on n p n' f cut_body g e h = ap (λ x. ending x n') e

pub stops : (r r' : Reader) → Next r None r' → ending r'.fault r'.records ≡ comes r
stops r r' h = stops_by (reads (length (left r))) r.records r.place r'.records r'.fault (ahead r) h.gives h.fault h.records
