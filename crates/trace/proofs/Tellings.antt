-- Any bytes are whole records one after the other, or whole records and then the fault that the outcome names. Assumes nothing.
use Rattle.std.proofs.Common.{◌≡◌, ℕ, zero, suc, ◌+◌, ◌<◌, List, [], ◌∷◌, ◌++◌, length, take, drop, Some, Ok, Err, Result, sym, refl, ap, ◌∙◌, append_assoc, arith, length-append, length-drop, take-append-drop, length-take-le}
use Rattle.faults.specs.declared.fault.Fault.{Fault}
use Rattle.trace.specs.Format.{Front, body_length}
use Rattle.trace.specs.Reading.{Item, AllWhole, spelled, Stops, not_listed, too_short, Tells, after, reads, outcome}
use Rattle.trace.proofs.Fronts.{Seen, none, fits, unlisted, short, seen}

-- What an outcome says of the bytes that follow n records and p bytes.
abbrev Follows : ℕ → ℕ → List ℕ → Result ℕ Fault → Type 0
Follows n p bs (Ok m) = (items : List Item) × AllWhole items × (bs ≡ spelled items) × (m ≡ n + length items)
Follows n p bs (Err f) =
    (items : List Item) × (rest : List ℕ) × AllWhole items × (bs ≡ spelled items ++ rest) × Stops f.refusal rest
    × (f.«record» ≡ n + length items + 1) × (f.byte ≡ p + length (spelled items))

-- one record more before them
before : (k : ℕ) (b rest : List ℕ) (n p : ℕ) (bs : List ℕ) (r : Result ℕ Fault) → body_length k ≡ Some (length b) → bs ≡ k ∷ (b ++ rest) → Follows (n + 1) (p + (1 + length b)) rest r → Follows n p bs r
before k b rest n p bs (Ok m) w e t = ((k, b) ∷ t.0, (w, t.1), e ∙ ap (λ l. k ∷ (b ++ l)) t.2, omega (arith, t.3))
before k b rest n p bs (Err f) w e t =
    ((k, b) ∷ t.0, t.1, (w, t.2), e ∙ ap (λ l. k ∷ (b ++ l)) t.3 ∙ ap (λ l. k ∷ l) (sym (append_assoc b (spelled t.0) t.1)), t.4, omega (arith, t.5), omega (arith, t.6, length-append b (spelled t.0)))

by_front : (on : ℕ → ℕ → List ℕ → Result ℕ Fault) (n p : ℕ) {bs : List ℕ} {s : Front} → Seen bs s → ((m q : ℕ) (rest : List ℕ) → length rest < length bs → Follows m q rest (on m q rest)) → Follows n p bs (after on n p s)
by_front on n p none h = ([], tt, refl, omega arith)
by_front on n p (fits {k = k} {n = j} {bs = bs} e l) h =
    let long = length-take-le j bs l in
    before k (take j bs) (drop j bs) n p (k ∷ bs) _ (e ∙ ap Some (sym long)) (ap (λ x. k ∷ x) (sym (take-append-drop j bs))) (h _ _ (drop j bs) (omega (arith, length-drop j bs)))
by_front on n p {bs} (unlisted e) h = ([], bs, tt, refl, not_listed e, omega arith, omega arith)
by_front on n p {bs} (short e l) h = ([], bs, tt, refl, too_short e l, omega arith, omega arith)

follows : (fuel n p : ℕ) (bs : List ℕ) → length bs < fuel → Follows n p bs (reads fuel n p bs)
follows zero n p bs h = absurd (omega arith)
follows (suc fuel) n p bs h = by_front (reads fuel) n p (seen bs) (λ m q rest l. follows fuel m q rest (omega arith))

from_the_start : (bs : List ℕ) (r : Result ℕ Fault) → Follows 0 0 bs r → Tells bs r
from_the_start bs (Ok m) t = record { items = t.0; whole = t.1; spells = t.2; count = omega (arith, t.3) }
from_the_start bs (Err f) t = record { items = t.0; rest = t.1; whole = t.2; spells = t.3; stops = t.4; number = omega (arith, t.5); place = omega (arith, t.6) }

pub tells : (bs : List ℕ) → Tells bs (outcome bs)
tells bs = from_the_start bs (outcome bs) (follows (suc (length bs)) 0 0 bs (omega arith))
