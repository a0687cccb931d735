-- The list of codes whose bits are set: one bit more, the same bits, and how many there are. Assumes nothing.
use Rattle.std.proofs.Common.{◌≡◌, ℕ, zero, suc, ◌+◌, ◌%◌, ◌^◌, ◌<◌, ◌≤◌, ◌≢◌, List, [], ◌∷◌, ◌++◌, length, get_or, sym, refl, ap, ◌∙◌, ⊎_elim, add-zero, add-one, arith}
use lib.Count.{ones}
use Rattle.std.proofs.lemmas.List.{append-nil, length-append, get_or_append_left, get_or_push, length_push}
use Rattle.std.proofs.lemmas.Bool.{cases_lt}
use Rattle.bitset_rows.specs.Rows.{digit, once, chosen}
use Rattle.bitset_rows.proofs.Digits.{ones_below_none, ones_below_more}

-- the next bit
pub chosen_more : (f : ℕ → ℕ) (n : ℕ) → chosen f (n + 1) ≡ chosen f n ++ once (f n) (n + 2)
unfolding chosen
chosen_more f n = ap (chosen f) (add-one n)

once_none : (d c : ℕ) → d ≡ 0 → once d c ≡ []
once_none zero c e = refl
once_none (suc d) c e = absurd (omega arith)

once_one : (d c : ℕ) → d ≡ 1 → once d c ≡ c ∷ []
once_one zero c e = absurd (omega arith)
once_one (suc d) c e = refl

length_once : (d c : ℕ) → d < 2 → length (once d c) ≡ d
length_once zero c h = refl
length_once (suc zero) c h = refl
length_once (suc (suc d)) c h = absurd (omega arith)

pub chosen_more_none : (f : ℕ → ℕ) (n : ℕ) → f n ≡ 0 → chosen f (n + 1) ≡ chosen f n
chosen_more_none f n e = chosen_more f n ∙ ap (λ (ys : List ℕ). chosen f n ++ ys) (once_none (f n) (n + 2) e) ∙ append-nil (chosen f n)

pub chosen_more_one : (f : ℕ → ℕ) (n : ℕ) → f n ≡ 1 → chosen f (n + 1) ≡ chosen f n ++ (n + 2) ∷ []
chosen_more_one f n e = chosen_more f n ∙ ap (λ (ys : List ℕ). chosen f n ++ ys) (once_one (f n) (n + 2) e)

once_most : (d c : ℕ) → length (once d c) ≤ 1
once_most zero c = omega arith
once_most (suc d) c = omega arith

-- no more codes than bits
pub length_chosen : (f : ℕ → ℕ) (n : ℕ) → length (chosen f n) ≤ n
unfolding chosen
length_chosen f zero = omega arith
length_chosen f (suc n) = omega (arith, length_chosen f n, length-append (chosen f n) (once (f n) (n + 2)), once_most (f n) (n + 2))

pub length_chosen_more : (f : ℕ → ℕ) (n : ℕ) → f n < 2 → length (chosen f (n + 1)) ≡ length (chosen f n) + f n
length_chosen_more f n h =
    let a = ap length (chosen_more f n) in
    let b = length-append (chosen f n) (once (f n) (n + 2)) in
    let d = length_once (f n) (n + 2) h in
    omega arith

-- the same bits
pub chosen_same : (f g : ℕ → ℕ) (n : ℕ) → ((b : ℕ) → b < n → f b ≡ g b) → chosen f n ≡ chosen g n
unfolding chosen
chosen_same f g zero h = refl
chosen_same f g (suc n) h =
    let e = chosen_same f g n (λ b p. h b (omega arith)) in
    let d = h n (omega arith) in
    cc

-- no bit from m on
pub chosen_rest : (f : ℕ → ℕ) (m n : ℕ) → m ≤ n → ((b : ℕ) → m ≤ b → b < n → f b ≡ 0) → chosen f n ≡ chosen f m
chosen_rest f m zero l h = let e : 0 ≡ m = omega arith in ap (chosen f) e
chosen_rest f m (suc n) l h =
    ⊎_elim
    (λ (p : n < m). let e : suc n ≡ m = omega arith in ap (chosen f) e)
    (λ (p : m ≤ n). ap (chosen f) (sym (add-one n)) ∙ chosen_more_none f n (h n p (omega arith)) ∙ chosen_rest f m n p (λ b q r. h b q (omega arith)))
    (cases_lt n m)

-- the list of the bits below m is the front of that of the bits below n
pub chosen_front : (f : ℕ → ℕ) (m n : ℕ) → m ≤ n → (k : ℕ) → k < length (chosen f m) → (k < length (chosen f n)) × (get_or (chosen f n) k 0 ≡ get_or (chosen f m) k 0)
chosen_front f m zero l k h = let e : m ≡ 0 = omega arith in (rw e at h, rw e)
chosen_front f m (suc n) l k h =
    ⊎_elim
    (λ (p : n < m). let e : m ≡ suc n = omega arith in (rw e at h, rw e))
    (λ (p : m ≤ n).
    let i = chosen_front f m n p k h in
    let j : k < length (chosen f n) = i.0 in
    let a : chosen f (suc n) ≡ chosen f n ++ once (f n) (n + 2) = ap (chosen f) (sym (add-one n)) ∙ chosen_more f n in
    let b : length (chosen f (suc n)) ≡ length (chosen f n) + length (once (f n) (n + 2)) = ap length a ∙ length-append (chosen f n) (once (f n) (n + 2)) in
    (omega arith, ap (λ (ys : List ℕ). get_or ys k 0) a ∙ get_or_append_left (chosen f n) (once (f n) (n + 2)) 0 k j ∙ i.1))
    (cases_lt n m)

-- a bit that is set stands in the list, behind those below it
pub chosen_at : (f : ℕ → ℕ) (b n : ℕ) → b < n → f b ≡ 1 → (length (chosen f b) < length (chosen f n)) × (get_or (chosen f n) (length (chosen f b)) 0 ≡ b + 2)
chosen_at f b n h e =
    let a : chosen f (b + 1) ≡ chosen f b ++ (b + 2) ∷ [] = chosen_more_one f b e in
    let l : length (chosen f (b + 1)) ≡ length (chosen f b) + 1 = ap length a ∙ length_push (chosen f b) (b + 2) in
    let i = chosen_front f (b + 1) n (omega arith) (length (chosen f b)) (omega arith) in
    (i.0, i.1 ∙ ap (λ (ys : List ℕ). get_or ys (length (chosen f b)) 0) a ∙ get_or_push (chosen f b) (b + 2) 0 (length (chosen f b)) refl)

-- one more bit, above all others
pub chosen_set : (f g : ℕ → ℕ) (b n : ℕ) → b < n → g b ≡ 1 → ((x : ℕ) → x ≢ b → g x ≡ f x) → ((x : ℕ) → b ≤ x → x < n → f x ≡ 0) → chosen g n ≡ chosen f n ++ (b + 2) ∷ []
chosen_set f g b n h one other none =
    let a : chosen g n ≡ chosen g (b + 1) = chosen_rest g (b + 1) n (omega arith) (λ x p q. let ne : x ≢ b = omega arith in other x ne ∙ none x (omega arith) q) in
    let d : chosen g (b + 1) ≡ chosen g b ++ (b + 2) ∷ [] = chosen_more_one g b one in
    let e : chosen g b ≡ chosen f b = chosen_same g f b (λ x p. let ne : x ≢ b = omega arith in other x ne) in
    let k : chosen f n ≡ chosen f b = chosen_rest f b n (omega arith) none in
    cc

-- no bit at all
pub chosen_none : (f : ℕ → ℕ) (n : ℕ) → ((x : ℕ) → x < n → f x ≡ 0) → chosen f n ≡ []
unfolding chosen
chosen_none f zero h = refl
chosen_none f (suc n) h =
    let e = chosen_none f n (λ x p. h x (omega arith)) in
    let d = once_none (f n) (n + 2) (h n (omega arith)) in
    cc

-- the bits of a word that begins at the bit a, up to its place p
pub chosen_word : (f : ℕ → ℕ) (a w : ℕ) → ((q : ℕ) → q < 64 → f (a + q) ≡ digit w q) → (p : ℕ) → p ≤ 64 → length (chosen f (a + p)) ≡ length (chosen f a) + ones (w % 2 ^ p)
chosen_word f a w h zero l =
    let e = ones_below_none w in
    ap (λ (x : ℕ). length (chosen f x)) (add-zero a) ∙ omega arith
chosen_word f a w h (suc p) l =
    let i : length (chosen f (a + p)) ≡ length (chosen f a) + ones (w % 2 ^ p) = chosen_word f a w h p (omega arith) in
    let d : f (a + p) ≡ digit w p = h p (omega arith) in
    let e : a + suc p ≡ a + p + 1 = omega arith in
    let g : length (chosen f (a + suc p)) ≡ length (chosen f (a + p + 1)) = ap (λ (x : ℕ). length (chosen f x)) e in
    let k : length (chosen f (a + p + 1)) ≡ length (chosen f (a + p)) + f (a + p) = length_chosen_more f (a + p) (omega arith) in
    let m : ones (w % 2 ^ (p + 1)) ≡ ones (w % 2 ^ p) + digit w p = ones_below_more w p in
    let n : ones (w % 2 ^ suc p) ≡ ones (w % 2 ^ (p + 1)) = ap (λ (x : ℕ). ones (w % 2 ^ x)) (sym (add-one p)) in
    omega arith
