-- Each record that is read and whose call is taken leaves what the run comes to as it was, and the last turn tells it. Assumes nothing.
use Rattle.std.proofs.Common.{◌≡◌, ℕ, zero, suc, ◌+◌, ◌<◌, List, ◌∷◌, length, take, drop, Some, None, Err, Option, sym, refl, ap, ◌∙◌, add-zero, arith, length-drop, length-take-le, drop-drop}
use Rattle.faults.specs.declared.fault.Fault.{Fault}
use Rattle.faults.specs.declared.refusal.Refusal.{Refusal}
use Rattle.trace.specs.declared.reader.Reader.{Reader}
use Rattle.trace.specs.declared.record.Record.{Record}
use Rattle.trace.specs.Format.{Front, end, whole, unknown_kind, cut_body}
use Rattle.trace.specs.Reading.{Item, fault_at}
use Rattle.trace.specs.Readers.{Next, trace_of, ahead, given, bytes_taken, records_taken, fault_of}
use Rattle.trace.specs.Records.{parts, kind_of, body_of}
use Rattle.trace.proofs.Fronts.{Seen, none, fits, unlisted, short, seen}
use Rattle.trace.proofs.Turns.{left}
use Rattle.calculus.specs.declared.answer.Answer.{Answer}
use Rattle.calculus.specs.declared.answer.Answer.TheVariants.{Taken, Stored, Refused}
use Rattle.calculus.specs.declared.call.Call.{Call}
use Rattle.calculus.specs.State.{State, step}
use Rattle.calculus.specs.History.{Event}
use Rattle.trace_run.specs.Calls.{call_of}
use Rattle.trace_run.specs.Runs.{Ran, stops, ended, goes_on, makes, run_front, run_from}
use Rattle.trace_run.proofs.Spelling.{some_no}

-- Two runs that agree on fewer bytes agree on these.
by_answer : (on on' : State → List Event → Ran) (h : List Event) (n p : ℕ) (c : Call) (τ : State) (a : Answer) → ((τ : State) (g : List Event) → on τ g ≡ on' τ g) → goes_on on h n p c τ a ≡ goes_on on' h n p c τ a
by_answer on on' h n p c τ Taken f = f τ ((c, Taken) ∷ h)
by_answer on on' h n p c τ (Stored k) f = f τ ((c, Stored k) ∷ h)
by_answer on on' h n p c τ (Refused r) f = refl

by_call : (on on' : State → List Event → Ran) (σ : State) (h : List Event) (n p : ℕ) (o : Option Call) → ((τ : State) (g : List Event) → on τ g ≡ on' τ g) → makes on σ h n p o ≡ makes on' σ h n p o
by_call on on' σ h n p None f = refl
by_call on on' σ h n p (Some c) f = by_answer on on' h n p c (step σ c).0 (step σ c).1 f

by_front : (on on' : State → List Event → ℕ → ℕ → List ℕ → Ran) (σ : State) (h : List Event) (n p : ℕ) {bs : List ℕ} {s : Front} → Seen bs s → ((τ : State) (g : List Event) (m q : ℕ) (rest : List ℕ) → length rest < length bs → on τ g m q rest ≡ on' τ g m q rest) → run_front on σ h n p s ≡ run_front on' σ h n p s
by_front on on' σ h n p none f = refl
by_front on on' σ h n p (fits {k = k} {n = j} {bs = bs} e l) f =
    let m = n + 1 in
    let q = p + (1 + length (take j bs)) in
    by_call (λ τ g. on τ g m q (drop j bs)) (λ τ g. on' τ g m q (drop j bs)) σ h n p (call_of k (take j bs)) (λ τ g. f τ g m q (drop j bs) (omega (arith, length-drop j bs)))
by_front on on' σ h n p (unlisted e) f = refl
by_front on on' σ h n p (short e l) f = refl

-- more fuel than bytes changes nothing
fuel : (a b : ℕ) (σ : State) (h : List Event) (n p : ℕ) (bs : List ℕ) → length bs < a → length bs < b → run_from a σ h n p bs ≡ run_from b σ h n p bs
fuel zero b σ h n p bs l m = absurd (omega arith)
fuel (suc a) zero σ h n p bs l m = absurd (omega arith)
fuel (suc a) (suc b) σ h n p bs l m = by_front (run_from a) (run_from b) σ h n p (seen bs) (λ τ g i j rest s. fuel a b τ g i j rest (omega arith) (omega arith))

-- what the run comes to by the bytes that a reader has yet to read
abbrev pub comes : State → List Event → Reader → Ran
comes σ h r = run_from (suc (length (left r))) σ h r.records r.place (left r)

went_by : {bs : List ℕ} {s : Front} → Seen bs s → (σ : State) (h : List Event) (n p n' p' : ℕ) (bs' : List ℕ) (x : Item) (c : Call) → Some x ≡ given s → Some c ≡ call_of x.0 x.1 → n' ≡ n + records_taken s → p' ≡ p + bytes_taken s → bs' ≡ drop (bytes_taken s) bs
    → goes_on (λ τ g. run_from (suc (length bs')) τ g n' p' bs') h n p c (step σ c).0 (step σ c).1 ≡ run_front (run_from (length bs)) σ h n p s
went_by none σ h n p n' p' bs' x c g w a b e = absurd (some_no x g)
went_by (fits {k = k} {n = j} {bs = bs} s l) σ h n p n' p' bs' x c g w a b e =
    let taken : 1 + length (take j bs) ≡ suc j = omega (arith, length-take-le j bs l) in
    let there : bs' ≡ drop j bs = e ∙ ap (λ i. drop i (k ∷ bs)) taken in
    let same : x ≡ (k, take j bs) = cc in
    let on = λ (τ : State) (f : List Event). run_from (suc (length bs)) τ f (n + 1) (p + (1 + length (take j bs))) (drop j bs) in
    by_answer _ on h n p c (step σ c).0 (step σ c).1 (λ τ f. (λ i. run_from (suc (length (there i))) τ f (a i) (b i) (there i)) ∙ fuel (suc (length (drop j bs))) (suc (length bs)) τ f _ _ (drop j bs) (omega arith) (omega (arith, length-drop j bs)))
    ∙ ap (makes on σ h n p) (w ∙ ap (λ y. call_of y.0 y.1) same)
went_by (unlisted s) σ h n p n' p' bs' x c g w a b e = absurd (some_no x g)
went_by (short s l) σ h n p n' p' bs' x c g w a b e = absurd (some_no x g)

-- A record is read, and the run goes on by the answer to its call.
went : (σ : State) (h : List Event) (r r' : Reader) (x : Record) (c : Call) → Next r (Some x) r' → Some c ≡ call_of (kind_of x) (body_of x) → goes_on (λ τ g. comes τ g r') h r.records r.place c (step σ c).0 (step σ c).1 ≡ comes σ h r
went σ h r r' x c e w =
    went_by (seen (left r)) σ h _ _ _ _ _ (parts x) c e.gives w e.records e.place
    ((λ i. drop (e.place i) (e.same i)) ∙ sym (drop-drop (bytes_taken (ahead r)) r.place (trace_of r)))

answered : (σ τ : State) (h : List Event) (r r' : Reader) (x : Record) (c : Call) (a : Answer) → Next r (Some x) r' → Some c ≡ call_of (kind_of x) (body_of x) → τ ≡ (step σ c).0 → a ≡ (step σ c).1 → goes_on (λ τ g. comes τ g r') h r.records r.place c τ a ≡ comes σ h r
answered σ τ h r r' x c a e w t q = (λ i. goes_on (λ τ g. comes τ g r') h r.records r.place c (t i) (q i)) ∙ went σ h r r' x c e w

-- The call was taken: the run comes to what it came to before. It was refused: the run stops there.
pub goes_on_lem : (σ τ : State) (h : List Event) (r r' : Reader) (x : Record) (c : Call) (a : Answer) → Next r (Some x) r' → Some c ≡ call_of (kind_of x) (body_of x) → τ ≡ (step σ c).0 → a ≡ (step σ c).1 → ((f : Refusal) → a ≡ Refused f → ⊥) → comes τ ((c, a) ∷ h) r' ≡ comes σ h r
goes_on_lem σ τ h r r' x c Taken e w t q k = answered σ τ h r r' x c Taken e w t q
goes_on_lem σ τ h r r' x c (Stored m) e w t q k = answered σ τ h r r' x c (Stored m) e w t q
goes_on_lem σ τ h r r' x c (Refused f) e w t q k = absurd (k f refl)

pub gives_up : (σ τ : State) (h : List Event) (r r' : Reader) (x : Record) (c : Call) (f : Refusal) → Next r (Some x) r' → Some c ≡ call_of (kind_of x) (body_of x) → τ ≡ (step σ c).0 → Refused f ≡ (step σ c).1 → stops (Err (fault_at f (r.records + 1) r.place)) τ ((c, Refused f) ∷ h) ≡ comes σ h r
gives_up σ τ h r r' x c f e w t q = answered σ τ h r r' x c (Refused f) e w t q

-- The reader gives no record: the run stops with its fault, or with what the end of the trace comes to.
ends_by : (on : State → List Event → ℕ → ℕ → List ℕ → Ran) (σ : State) (h : List Event) (n p n' p' : ℕ) (f : Option Fault) (s : Front) → None ≡ given s → f ≡ fault_of n p s → n' ≡ n + records_taken s → p' ≡ p + bytes_taken s → stops (ended f σ.stage n' p') σ h ≡ run_front on σ h n p s
ends_by on σ h n p n' p' f end g e a b = λ i. stops (ended (e i) σ.stage ((a ∙ add-zero n) i) ((b ∙ add-zero p) i)) σ h
ends_by on σ h n p n' p' f (whole k d rest) g e a b = absurd (some_no (k, d) (sym g))
ends_by on σ h n p n' p' f unknown_kind g e a b = ap (λ x. stops (ended x σ.stage n' p') σ h) e
ends_by on σ h n p n' p' f cut_body g e a b = ap (λ x. stops (ended x σ.stage n' p') σ h) e

pub ends : (σ : State) (h : List Event) (r r' : Reader) → Next r None r' → stops (ended r'.fault σ.stage r'.records r'.place) σ h ≡ comes σ h r
ends σ h r r' e = ends_by (run_from (length (left r))) σ h _ _ _ _ r'.fault (ahead r) e.gives e.fault e.records e.place

-- A reader that gave a record has read one more.
one_by : (n n' : ℕ) (x : Item) (s : Front) → Some x ≡ given s → n' ≡ n + records_taken s → n' ≡ n + 1
one_by n n' x end g e = absurd (some_no x g)
one_by n n' x (whole k b rest) g e = e
one_by n n' x unknown_kind g e = absurd (some_no x g)
one_by n n' x cut_body g e = absurd (some_no x g)

pub one_more : (r r' : Reader) (x : Record) → Next r (Some x) r' → r'.records ≡ r.records + 1
one_more r r' x e = one_by r.records r'.records (parts x) (ahead r) e.gives e.records
