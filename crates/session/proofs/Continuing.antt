-- One call more, and a list of calls. Assumes nothing.
use Rattle.std.proofs.Common.{◌≡◌, ℕ, zero, suc, ◌+◌, ◌<◌, List, [], ◌∷◌, map, reverse, length, get_or, take, drop, sym, refl, ap, ◌∙◌, subst}
use Rattle.std.proofs.lemmas.List.{take_more, reverse-append}
use Rattle.database.specs.declared.database.Database.{Ghosts}
use Rattle.database.specs.Meaning.{Meaning}
use Rattle.calculus.specs.declared.answer.Answer.{Answer}
use Rattle.calculus.specs.declared.call.Call.{Call}
use Rattle.calculus.specs.State.{State, opening, step}
use Rattle.calculus.specs.History.{Event, Happens, opened, called}
use Rattle.calculus.proofs.Keeping.{every_sound, every_agrees, prefixes}
use Rattle.session.specs.declared.session.Session.{Session}
use Rattle.session.specs.States.{state_of, Does}
use Rattle.session.specs.Histories.{Continues, Replayed}

one_more : (M N : Meaning) (σ τ : State) (c : Call) (a : Answer) (h : List Event) → τ ≡ (step σ c).0 → a ≡ (step σ c).1 → Happens M N h σ → Happens M N ((c, a) ∷ h) τ
one_more M N σ τ c a h t e p =
    subst (λ x. Happens M N ((c, x) ∷ h) τ) (sym e) (subst (λ x. Happens M N ((c, (step σ c).1) ∷ h) x) (sym t) (called c p))

pub continues : {C D : Type 0} {G : Ghosts C} {H : Ghosts D} (c : Call) (s t : Session C D G H) (a : Answer) → Does c s a t → Continues c s a t
continues c s t a d =
    let on : (M N : Meaning) (h : List Event) → Happens M N h (state_of s) → Happens M N ((c, a) ∷ h) (state_of t) =
    λ M N h p. one_more M N (state_of s) (state_of t) c a h d.state d.answers p in
    record { history = on; sound = λ M N h p. every_sound M N ((c, a) ∷ h) (state_of t) (on M N h p) }

-- every history that a history went on from is one
earlier : (M N : Meaning) (k : ℕ) (h : List Event) (σ : State) → Happens M N h σ → (τ : State) × Happens M N (drop k h) τ
earlier M N zero h σ p = (σ, p)
earlier M N (suc k) [] σ p = (σ, p)
earlier M N (suc k) (e ∷ h) σ p = let r = prefixes M N e h σ p in earlier M N k h r.0 r.1

-- the calls so far
pub record Sofar (M N : Meaning) (calls : List Call) (σ : State) : Type 0 where
  pub events : List Event
  pub happens : Happens M N events σ
  pub in_order : map (λ e. e.0) events ≡ reverse calls

pub replayed : (M N : Meaning) (calls : List Call) (σ : State) → Sofar M N calls σ → Replayed M N calls σ
replayed M N calls σ w =
    record {
      events = w.events;
      happens = w.happens;
      in_order = w.in_order;
      sound = λ k. (let r = earlier M N k w.events σ w.happens in every_sound M N (drop k w.events) r.0 r.1);
      agrees = every_agrees M N w.events σ w.happens;
    }

-- no call yet, and one more
pub sofar_none : (M N : Meaning) (σ : State) → opening M N ≡ σ → Sofar M N [] σ
sofar_none M N σ e = record { events = []; happens = subst (λ x. Happens M N [] x) e opened; in_order = refl }

pub sofar_more : (M N : Meaning) (calls : List Call) (i : ℕ) (σ τ : State) (d : Call) (a : Answer) → i < length calls → τ ≡ (step σ (get_or calls i d)).0 → a ≡ (step σ (get_or calls i d)).1
    → Sofar M N (take i calls) σ → Sofar M N (take (i + 1) calls) τ
sofar_more M N calls i σ τ d a h t q w =
    record {
      events = (get_or calls i d, a) ∷ w.events;
      happens = one_more M N σ τ (get_or calls i d) a w.events t q w.happens;
      in_order =
          ap (λ l. get_or calls i d ∷ l) w.in_order
          ∙ sym (ap reverse (take_more calls i d h) ∙ reverse-append (take i calls) (get_or calls i d ∷ []));
    }
