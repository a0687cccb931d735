-- What the answer of a run says of the bytes, and which bytes get a verdict. Assumes nothing.
use Rattle.std.proofs.Common.{◌≡◌, ℕ, zero, suc, ◌+◌, ◌<◌, true, ◌⊎◌, List, [], ◌∷◌, ◌++◌, length, take, drop, Some, None, Ok, Err, Option, Result, sym, refl, ap, ◌∙◌, subst, inl, inr, append_assoc, arith, length-append, length-drop, take-append-drop, length-take-le}
use Rattle.faults.specs.declared.fault.Fault.{Fault}
use Rattle.faults.specs.declared.refusal.Refusal.{Refusal}
use Rattle.trace.specs.Format.{Front, body_length}
use Rattle.trace.specs.Reading.{Item, spelled, not_listed, too_short, fault_at}
use Rattle.trace.proofs.Fronts.{Seen, none, fits, unlisted, short, seen}
use Rattle.calculus.specs.declared.answer.Answer.{Answer}
use Rattle.calculus.specs.declared.answer.Answer.TheVariants.{Taken, Stored, Refused}
use Rattle.calculus.specs.declared.call.Call.{Call}
use Rattle.calculus.specs.declared.call.Call.TheVariants.{Close}
use Rattle.calculus.specs.declared.stage.Stage.{Stage}
use Rattle.calculus.specs.declared.stage.Stage.TheVariants.{Naming, Loading, Working, Derivation, Closed}
use Rattle.calculus.specs.declared.verdict.Verdict.{Verdict}
use Rattle.calculus.specs.State.{State, step}
use Rattle.calculus.specs.History.{Event, is_taken, verdict_at}
use Rattle.trace_run.specs.Calls.{Spells, call_of}
use Rattle.trace_run.specs.Runs.{Ran, stops, at_end, goes_on, makes, run_front, run_from, ran}
use Rattle.trace_run.specs.Outcomes.{AllSpell, AllTaken, after, Breaks, unread, refused, unclosed, Says}
use Rattle.trace_run.proofs.Closing.{closes}
use Rattle.trace_run.proofs.Spelling.{some_no, no_call}
use Rattle.trace_run.proofs.Stopping.{stops_answer}

-- The calls end with the closing, or there are none and the session was closed before.
abbrev Ends : State → List Call → Verdict → Type 0
Ends σ calls v = ((first : List Call) × (calls ≡ first ++ (Close v ∷ []))) ⊎ ((calls ≡ []) × (verdict_at σ.stage ≡ Some v))

-- What an answer says of the bytes that follow n records and p bytes.
abbrev Follows : State → ℕ → ℕ → List ℕ → Result Verdict Fault → Type 0
Follows σ n p bs (Ok v) = (items : List Item) × (calls : List Call) × (bs ≡ spelled items) × AllSpell items calls × AllTaken σ calls × Ends σ calls v
Follows σ n p bs (Err f) =
    (items : List Item) × (calls : List Call) × (rest : List ℕ) × (bs ≡ spelled items ++ rest) × AllSpell items calls × AllTaken σ calls × Breaks (after σ calls) f.refusal rest
    × (f.«record» ≡ n + length items + 1) × (f.byte ≡ p + length (spelled items))

ends_before : (σ : State) (c : Call) (calls : List Call) (v : Verdict) → is_taken (step σ c).1 ≡ true → Ends (step σ c).0 calls v → Ends σ (c ∷ calls) v
ends_before σ c calls v t (inl q) = inl (c ∷ q.0, ap (λ l. c ∷ l) q.1)
ends_before σ c calls v t (inr q) = let last = closes σ c v t q.1 in inl ([], λ i. last i ∷ q.0 i)

-- one record more before them, whose call was taken
before : (k : ℕ) (b rest : List ℕ) (c : Call) (σ : State) (n p : ℕ) (bs : List ℕ) (r : Result Verdict Fault) → Spells (k, b) c → bs ≡ k ∷ (b ++ rest) → is_taken (step σ c).1 ≡ true → Follows (step σ c).0 (n + 1) (p + (1 + length b)) rest r → Follows σ n p bs r
before k b rest c σ n p bs (Ok v) s e taken t =
    ((k, b) ∷ t.0, c ∷ t.1, e ∙ ap (λ l. k ∷ (b ++ l)) t.2, (s, t.3), (taken, t.4), ends_before σ c t.1 v taken t.5)
before k b rest c σ n p bs (Err f) s e taken t =
    ((k, b) ∷ t.0, c ∷ t.1, t.2, e ∙ ap (λ l. k ∷ (b ++ l)) t.3 ∙ ap (λ l. k ∷ l) (sym (append_assoc b (spelled t.0) t.2)), (s, t.4), (taken, t.5), t.6, omega (arith, t.7), omega (arith, t.8, length-append b (spelled t.0)))

-- the run stops here
stopped : (σ : State) (h : List Event) (n p : ℕ) (bs : List ℕ) (r : Refusal) → Breaks σ r bs → (τ : State) → Follows σ n p bs (stops (Err (fault_at r (n + 1) p)) τ h).answer
stopped σ h n p bs r w τ =
    subst (Follows σ n p bs) (sym (stops_answer (Err (fault_at r (n + 1) p)) τ h)) ([], [], bs, refl, tt, tt, w, omega arith, omega arith)

at_end_lem : (σ : State) (g : Stage) (n p : ℕ) → σ.stage ≡ g → Follows σ n p [] (at_end g n p)
at_end_lem σ Naming n p e = ([], [], [], refl, tt, tt, unclosed (ap verdict_at e), omega arith, omega arith)
at_end_lem σ Loading n p e = ([], [], [], refl, tt, tt, unclosed (ap verdict_at e), omega arith, omega arith)
at_end_lem σ Working n p e = ([], [], [], refl, tt, tt, unclosed (ap verdict_at e), omega arith, omega arith)
at_end_lem σ (Derivation s) n p e = ([], [], [], refl, tt, tt, unclosed (ap verdict_at e), omega arith, omega arith)
at_end_lem σ (Closed v) n p e = ([], [], refl, tt, tt, inr (refl, ap verdict_at e))

module _ (k : ℕ) (b rest bs : List ℕ) (σ : State) (h : List Event) (n p : ℕ) (w : body_length k ≡ Some (length b)) (cut : bs ≡ k ∷ (b ++ rest)) where
  by_answer : (on : State → List Event → Ran) → ((τ : State) (g : List Event) → Follows τ (n + 1) (p + (1 + length b)) rest (on τ g).answer) → (c : Call) → Spells (k, b) c → (a : Answer) → (step σ c).1 ≡ a → Follows σ n p bs (goes_on on h n p c (step σ c).0 a).answer
  by_answer on ok c s Taken e = before k b rest c σ n p bs _ s cut (ap is_taken e) (ok (step σ c).0 _)
  by_answer on ok c s (Stored m) e = before k b rest c σ n p bs _ s cut (ap is_taken e) (ok (step σ c).0 _)
  by_answer on ok c s (Refused r) e = stopped σ _ n p bs r (subst (λ l. Breaks σ r l) (sym cut) (refused rest (k, b) c s e)) (step σ c).0

  by_call : (on : State → List Event → Ran) → ((τ : State) (g : List Event) → Follows τ (n + 1) (p + (1 + length b)) rest (on τ g).answer) → (o : Option Call) → call_of k b ≡ o → Follows σ n p bs (makes on σ h n p o).answer
  by_call on ok None e = absurd (some_no (length b) (sym w ∙ no_call k b e))
  by_call on ok (Some c) e = by_answer on ok c (record { whole = w; call = e }) (step σ c).1 refl

by_front : (on : State → List Event → ℕ → ℕ → List ℕ → Ran) (σ : State) (h : List Event) (n p : ℕ) {bs : List ℕ} {s : Front} → Seen bs s → ((τ : State) (g : List Event) (m q : ℕ) (rest : List ℕ) → length rest < length bs → Follows τ m q rest (on τ g m q rest).answer) → Follows σ n p bs (run_front on σ h n p s).answer
by_front on σ h n p none ok = subst (Follows σ n p []) (sym (stops_answer (at_end σ.stage n p) σ h)) (at_end_lem σ σ.stage n p refl)
by_front on σ h n p (fits {k = k} {n = j} {bs = bs} e l) ok =
    by_call k (take j bs) (drop j bs) (k ∷ bs) σ h n p (e ∙ ap Some (sym (length-take-le j bs l))) (ap (λ x. k ∷ x) (sym (take-append-drop j bs))) (λ τ g. on τ g (n + 1) (p + (1 + length (take j bs))) (drop j bs)) (λ τ g. ok τ g (n + 1) (p + (1 + length (take j bs))) (drop j bs) (omega (arith, length-drop j bs))) (call_of k (take j bs)) refl
by_front on σ h n p {bs} (unlisted e) ok = stopped σ h n p bs _ (unread (not_listed e)) σ
by_front on σ h n p {bs} (short e l) ok = stopped σ h n p bs _ (unread (too_short e l)) σ

follows : (fuel : ℕ) (σ : State) (h : List Event) (n p : ℕ) (bs : List ℕ) → length bs < fuel → Follows σ n p bs (run_from fuel σ h n p bs).answer
follows zero σ h n p bs l = absurd (omega arith)
follows (suc fuel) σ h n p bs l = by_front (run_from fuel) σ h n p (seen bs) (λ τ g m q rest s. follows fuel τ g m q rest (omega arith))

closing : (σ : State) (calls : List Call) (v : Verdict) → verdict_at σ.stage ≡ None → Ends σ calls v → (first : List Call) × (calls ≡ first ++ (Close v ∷ []))
closing σ calls v fresh (inl q) = q
closing σ calls v fresh (inr q) = absurd (some_no v (sym q.1 ∙ fresh))

from_the_start : (σ : State) (bs : List ℕ) (r : Result Verdict Fault) → verdict_at σ.stage ≡ None → Follows σ 0 0 bs r → Says σ bs r
from_the_start σ bs (Ok v) fresh t =
    record { records = t.0; calls = t.1; spells = t.2; each = t.3; taken = t.4; closing = closing σ t.1 v fresh t.5 }
from_the_start σ bs (Err f) fresh t =
    record { records = t.0; calls = t.1; rest = t.2; spells = t.3; each = t.4; taken = t.5; breaks = t.6; number = omega (arith, t.7); place = omega (arith, t.8) }

pub says : (σ : State) (bs : List ℕ) (r : Result Verdict Fault) → r ≡ (ran σ bs).answer → verdict_at σ.stage ≡ None → Says σ bs r
says σ bs r e fresh = subst (Says σ bs) (sym e) (from_the_start σ bs (ran σ bs).answer fresh (follows (suc (length bs)) σ [] 0 0 bs (omega arith)))
