-- What whole records spell: every listed kind has a call, and a whole record stands at the front of its bytes. Assumes nothing.
use Rattle.std.proofs.Common.{◌≡◌, ℕ, Bool, true, false, cond, eqb, List, [], ◌∷◌, ◌++◌, length, Some, None, Option, sym, refl, ap, ◌∙◌, arith}
use Rattle.std.specs.Option.{option_map}
use Rattle.calculus.specs.declared.call.Call.{Call}
use Rattle.trace.specs.Format.{whole, Row, table, find, row_of, total, body_length, longer, take_body, after_kind, decode}
use Rattle.trace_run.specs.Calls.{call_table, first_of, second_of, made_by, body_numbers, call_of}

pub some_no : {X : Type 0} (x : X) → Some x ≡ None → ⊥
some_no x e = let z : ◌≡◌ {A = ℕ} 0 1 = cc in omega arith

-- the kinds of two tables are the same, row by row
abbrev SameKinds : List (ℕ × (ℕ → ℕ → Call)) → List Row → Type 0
SameKinds [] [] = Unit {0}
SameKinds [] (s ∷ ss) = ⊥
SameKinds (r ∷ rs) [] = ⊥
SameKinds (r ∷ rs) (s ∷ ss) = (r.0 ≡ s.kind) × SameKinds rs ss

by_test : {X Y : Type 0} (b b' : Bool) (x : X) (y : Y) (o : Option X) (q : Option Y) → b ≡ b' → (o ≡ None → q ≡ None) → cond b (Some x) o ≡ None → cond b' (Some y) q ≡ None
by_test true b' x y o q e f n = absurd (some_no x n)
by_test false b' x y o q e f n = ap (λ t. cond t (Some y) q) (sym e) ∙ f n

unlisted_in : (k : ℕ) (ns : List ℕ) (rs : List (ℕ × (ℕ → ℕ → Call))) (ss : List Row) → SameKinds rs ss → made_by k rs ns ≡ None → find k ss ≡ None
unlisted_in k ns [] [] s e = refl
unlisted_in k ns [] (t ∷ ss) s e = absurd s
unlisted_in k ns (r ∷ rs) [] s e = refl
unlisted_in k ns (r ∷ rs) (t ∷ ss) s e =
    by_test (eqb k r.0) (eqb k t.kind) (r.1 (first_of ns) (second_of ns)) t (made_by k rs ns) (find k ss) (ap (eqb k) s.0) (unlisted_in k ns rs ss s.1) e

same_kinds : SameKinds call_table table
same_kinds = (refl, (refl, (refl, (refl, (refl, (refl, (refl, (refl, (refl, (refl, (refl, (refl, (refl, (refl, (refl, (refl, (refl, (refl, (refl, tt)))))))))))))))))))

-- A kind without a call is not listed.
pub no_call : (k : ℕ) (body : List ℕ) → call_of k body ≡ None → body_length k ≡ None
no_call k body e = ap (option_map (λ r. total r.widths)) (unlisted_in k (body_numbers (row_of k) body) call_table table same_kinds e)

-- A whole record stands at the front of its bytes, whatever follows.
took : (k : ℕ) (body rest : List ℕ) → take_body k (length body) (body ++ rest) ≡ whole k body rest
took k [] rest = refl
took k (b ∷ body) rest = ap (longer b) (took k body rest)

pub at_front : (k : ℕ) (body rest : List ℕ) → body_length k ≡ Some (length body) → decode (k ∷ (body ++ rest)) ≡ whole k body rest
at_front k body rest e = ap (λ o. after_kind k o (body ++ rest)) e ∙ took k body rest
