-- The place where the trail is cut: that of the first decision that is not kept. Assumes nothing.
use Rattle.std.proofs.Common.{◌≡◌, ℕ, zero, suc, ◌+◌, true, false, ltb, List, [], ◌∷◌, take, None, Some, map, filter, Option, sym, refl, ap, ◌∙◌, subst, arith}
use Rattle.std.proofs.lemmas.Bool.{lt-ltb, le-ltb}
use Rattle.std.specs.List.{slice_get, enumerate_from}
use Rattle.std.specs.Prelude.{MatchOption}
use Rattle.calculus.specs.State.{Entry, decisions, cut}
use Rattle.operations.specs.declared.entry.Cause.{Cause}
use Rattle.operations.specs.declared.entry.Cause.TheVariants.{Decided, Implied}
use Rattle.operations.specs.declared.entry.Entry.{Entry as Kept}
use Rattle.operations.specs.Entries.{decides, entry_of, entries_of}

-- the decisions, each with its place, counted from i
abbrev pub decided_from : ℕ → List Kept → List (ℕ × Kept)
decided_from i es = filter (λ q. decides q.1.cause) (enumerate_from i es)

-- whether k decisions can be kept, and the place of the cut, counted from i
abbrev Cuts : ℕ → ℕ → List Kept → Option ℕ → Type 0
Cuts k i es r = MatchOption r (ltb k (decisions (entries_of es)) ≡ false) (λ p. (ltb k (decisions (entries_of es)) ≡ true) × ((j : ℕ) × (p ≡ i + j) × (entries_of (take j es) ≡ cut k (entries_of es))))

-- one more entry at the front
fronted : (k m i : ℕ) (e : Kept) (es : List Kept) (r : Option ℕ) → ltb m (decisions (entries_of (e ∷ es))) ≡ ltb k (decisions (entries_of es)) → cut m (entries_of (e ∷ es)) ≡ entry_of e ∷ cut k (entries_of es)
    → Cuts k (i + 1) es r → Cuts m i (e ∷ es) r
fronted k m i e es None a b h = a ∙ h
fronted k m i e es (Some p) a b h = (a ∙ h.0, (suc h.1.0, omega (arith, h.1.1), ap (λ (t : List Entry). entry_of e ∷ t) h.1.2 ∙ sym b))

-- of the code l and the cause c
abbrev kept : ℕ → Cause → Kept
kept l c = record { code = l; cause = c }

cuts : (k i : ℕ) (es : List Kept) → Cuts k i es (slice_get (map (λ q. q.0) (decided_from i es)) k)
cuts k i [] = le-ltb k 0 (omega arith)
cuts k i (e ∷ es) = go (λ k. cuts k (i + 1) es) k e.cause
  where
    go : ((k : ℕ) → Cuts k (i + 1) es (slice_get (map (λ q. q.0) (decided_from (i + 1) es)) k)) → (k : ℕ) (c : Cause) → Cuts k i (kept e.code c ∷ es) (slice_get (map (λ q. q.0) (decided_from i (kept e.code c ∷ es))) k)
    go ih zero Decided = (lt-ltb 0 (suc (decisions (entries_of es))) (omega arith), (0, omega arith, refl))
    go ih (suc k) Decided = fronted k (suc k) i (kept e.code Decided) es _ (grind arith) refl (ih k)
    go ih k (Implied s n) = fronted k k i (kept e.code (Implied s n)) es _ refl refl (ih k)

-- counted from 0
pub boundary : (k : ℕ) (es : List Kept) (r : Option ℕ) → r ≡ slice_get (map (λ q. q.0) (decided_from 0 es)) k
    → MatchOption r (ltb k (decisions (entries_of es)) ≡ false) (λ p. (ltb k (decisions (entries_of es)) ≡ true) × (entries_of (take p es) ≡ cut k (entries_of es)))
boundary k es r e = go r (subst (Cuts k 0 es) (sym e) (cuts k 0 es))
  where
    go : (r : Option ℕ) → Cuts k 0 es r → MatchOption r (ltb k (decisions (entries_of es)) ≡ false) (λ p. (ltb k (decisions (entries_of es)) ≡ true) × (entries_of (take p es) ≡ cut k (entries_of es)))
    go None h = h
    go (Some p) h = (h.0, ap (λ p. entries_of (take p es)) (let z : p ≡ h.1.0 = omega (arith, h.1.1) in z) ∙ h.1.2)
