-- What stands at the front of some bytes, and what that says of the bytes. Assumes nothing.
use Rattle.std.proofs.Common.{◌≡◌, ℕ, zero, suc, ◌+◌, ◌-◌, ◌<◌, ◌≤◌, List, [], ◌∷◌, length, get_or, take, drop, Some, None, Option, sym, refl, ap, ◌∙◌, subst, ⊎_elim, arith, length-drop, length-take-le, drop-cons}
use Rattle.std.proofs.lemmas.Slice.{between_to_end}
use Rattle.std.proofs.lemmas.Bool.{cases_lt}
use Rattle.trace.specs.Format.{Front, end, whole, unknown_kind, cut_body, body_length, longer, take_body, after_kind, decode}

-- a body that is there, and one that is not
takes : (k n : ℕ) (bs : List ℕ) → n ≤ length bs → take_body k n bs ≡ whole k (take n bs) (drop n bs)
takes k zero bs h = refl
takes k (suc n) [] h = absurd (omega arith)
takes k (suc n) (b ∷ bs) h = ap (longer b) (takes k n bs (omega arith))

cut : (k n : ℕ) (bs : List ℕ) → length bs < n → take_body k n bs ≡ cut_body
cut k zero bs h = absurd (omega arith)
cut k (suc n) [] h = refl
cut k (suc n) (b ∷ bs) h = ap (longer b) (cut k n bs (omega arith))

-- The bytes that have a front, by cases.
pub data Seen : List ℕ → Front → Type 0 where
  none : Seen [] end
  fits : {k n : ℕ} {bs : List ℕ} → body_length k ≡ Some n → n ≤ length bs → Seen (k ∷ bs) (whole k (take n bs) (drop n bs))
  unlisted : {k : ℕ} {bs : List ℕ} → body_length k ≡ None → Seen (k ∷ bs) unknown_kind
  short : {k n : ℕ} {bs : List ℕ} → body_length k ≡ Some n → length bs < n → Seen (k ∷ bs) cut_body

seen_after : (k : ℕ) (o : Option ℕ) (bs : List ℕ) → body_length k ≡ o → Seen (k ∷ bs) (after_kind k o bs)
seen_after k None bs e = unlisted e
seen_after k (Some n) bs e =
    ⊎_elim
    (λ l. subst (Seen (k ∷ bs)) (sym (cut k n bs l)) (short e l))
    (λ h. subst (Seen (k ∷ bs)) (sym (takes k n bs h)) (fits e h))
    (cases_lt (length bs) n)

pub seen : (xs : List ℕ) → Seen xs (decode xs)
seen [] = none
seen (k ∷ bs) = seen_after k (body_length k) bs refl

-- n bytes of a list from place i on, one by one
abbrev pub bytes_at : ℕ → ℕ → List ℕ → List ℕ
bytes_at zero i xs = []
bytes_at (suc n) i xs = get_or xs i 0 ∷ bytes_at n (suc i) xs

bytes_at_lem : (n i : ℕ) (xs : List ℕ) → i + n ≤ length xs → bytes_at n i xs ≡ take n (drop i xs)
bytes_at_lem zero i xs h = refl
bytes_at_lem (suc n) i xs h =
    ap (λ l. get_or xs i 0 ∷ l) (bytes_at_lem n (suc i) xs (omega arith)) ∙ ap (take (suc n)) (sym (drop-cons xs i 0 (omega arith)))

-- how long the parts of a front are
abbrev Spans : List ℕ → Front → Type 0
Spans xs end = Unit {0}
Spans xs (whole k b rest) = length xs ≡ 1 + length b + length rest
Spans xs unknown_kind = Unit {0}
Spans xs cut_body = Unit {0}

spans : {xs : List ℕ} {s : Front} → Seen xs s → Spans xs s
spans none = tt
spans (fits {k} {n} {bs} e h) = omega (arith, length-take-le n bs h, length-drop n bs)
spans (unlisted e) = tt
spans (short e h) = tt

-- `&trace[p..]` is what is left at p
pub from_place : (s : Front) (p : ℕ) (bs : List ℕ) → s ≡ decode (take (length bs - p) (drop p bs)) → s ≡ decode (drop p bs)
from_place s p bs e = e ∙ ap decode (between_to_end bs p (length bs) (omega arith))

-- the place after a record
pub placed : (k : ℕ) (b rest : List ℕ) (p : ℕ) (bs : List ℕ) → whole k b rest ≡ decode (take (length bs - p) (drop p bs)) → p ≤ length bs → length bs ≡ p + (1 + length b) + length rest
placed k b rest p bs e h =
    let l : length (drop p bs) ≡ 1 + length b + length rest = subst (Spans (drop p bs)) (sym (from_place _ p bs e)) (spans (seen (drop p bs))) in
    omega (arith, l, length-drop p bs)
