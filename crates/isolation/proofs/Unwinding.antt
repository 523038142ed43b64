-- Unwinding: where a holder's view goes by what the holder is told, holders that see and are told the same observe the same.
use Rattle.std.proofs.Common.{◌≡◌, ℕ, zero, suc, Bool, true, false, if◌then◌else◌, List, [], ◌∷◌, ◌++◌, map, length, take, sym, refl, ap, ◌∙◌, ap₂, append_assoc}
use Rattle.models.specs.Meaning.{Meaning}
use Rattle.tables.specs.Books.{Book}
use Rattle.rules.specs.declared.call.Event.{Event}
use Rattle.rules.specs.declared.call.Reply.{Reply}
use Rattle.rules.specs.Stands.{Stand}
use Rattle.isolation.specs.Runs.{after, reply, run, replies}
use Rattle.isolation.specs.Views.{View, concerns, Told, called, turned, trace, observed, own_replies}

module _ {B : Type 0} (figure : Stand → B) (same : B → B → Bool) (m : Meaning) (i : ℕ) (view : Stand → View B) where
  -- `says` answers an event that concerns the holder; `by_call` and `by_turn` carry the view on
  pub record Unwound : Type 1 where
    pub Kept : Stand → Type 0
    pub says : View B → View B → Event → Reply
    pub by_call : View B → Event → B → View B
    pub by_turn : View B → B → View B
    pub same_is : (a b : B) → same a b ≡ true → a ≡ b
    pub keeps : (s : Stand) (e : Event) → Kept s → Kept (after m s e)
    pub on_answer : (s : Stand) (e : Event) → Kept s → concerns i e ≡ true → reply m s e ≡ says (view s) (view (after m s e)) e
    pub on_call : (s : Stand) (e : Event) → Kept s → concerns i e ≡ true → view (after m s e) ≡ by_call (view s) e (figure (after m s e))
    pub on_other : (s : Stand) (e : Event) → Kept s → concerns i e ≡ false → view (after m s e) ≡ by_turn (view s) (figure (after m s e))
    pub rests : (s : Stand) → Kept s → by_turn (view s) (figure s) ≡ view s

  module _ (U : Unwound) where
    own : Stand → Book
    own s = (view s).own

    abbrev final : View B → List (Told B) → View B
    final v [] = v
    final v (called e b ∷ is) = final (U.by_call v e b) is
    final v (turned b ∷ is) = final (U.by_turn v b) is

    abbrev lived : View B → List (Told B) → List (Reply × Book)
    lived v [] = []
    lived v (called e b ∷ is) = (U.says v (U.by_call v e b) e, (U.by_call v e b).own) ∷ lived (U.by_call v e b) is
    lived v (turned b ∷ is) = lived (U.by_turn v b) is

    stays : (s : Stand) (e : Event) → U.Kept s → concerns i e ≡ false → same (figure s) (figure (after m s e)) ≡ true → view s ≡ view (after m s e)
    stays s e k p q = sym (U.rests s k) ∙ ap (λ (b : B). U.by_turn (view s) b) (U.same_is _ _ q) ∙ sym (U.on_other s e k p)

    final_step : (s : Stand) (e : Event) (is : List (Told B)) → U.Kept s → (c d : Bool) → concerns i e ≡ c → same (figure s) (figure (after m s e)) ≡ d
        → final (view s) ((if c then called e (figure (after m s e)) ∷ [] else (if d then [] else turned (figure (after m s e)) ∷ [])) ++ is) ≡ final (view (after m s e)) is
    final_step s e is k true d p q = ap (λ (v : View B). final v is) (sym (U.on_call s e k p))
    final_step s e is k false true p q = ap (λ (v : View B). final v is) (stays s e k p q)
    final_step s e is k false false p q = ap (λ (v : View B). final v is) (sym (U.on_other s e k p))

    final_is : (s : Stand) (es : List Event) → U.Kept s → view (run m s es) ≡ final (view s) (trace figure same m i s es)
    final_is s [] k = refl
    final_is s (e ∷ es) k =
        final_is (after m s e) es (U.keeps s e k) ∙ sym (final_step s e (trace figure same m i (after m s e) es) k (concerns i e) (same (figure s) (figure (after m s e))) refl refl)

    lived_step : (s : Stand) (e : Event) (is : List (Told B)) → U.Kept s → (c d : Bool) → concerns i e ≡ c → same (figure s) (figure (after m s e)) ≡ d
        → lived (view s) ((if c then called e (figure (after m s e)) ∷ [] else (if d then [] else turned (figure (after m s e)) ∷ [])) ++ is)
        ≡ (if c then (reply m s e, (view (after m s e)).own) ∷ [] else []) ++ lived (view (after m s e)) is
    lived_step s e is k true d p q = rw (U.on_answer s e k p, U.on_call s e k p)
    lived_step s e is k false true p q = ap (λ (v : View B). lived v is) (stays s e k p q)
    lived_step s e is k false false p q = ap (λ (v : View B). lived v is) (sym (U.on_other s e k p))

    lived_is : (s : Stand) (es : List Event) → U.Kept s → observed m i (λ t. (view t).own) s es ≡ lived (view s) (trace figure same m i s es)
    lived_is s [] k = refl
    lived_is s (e ∷ es) k =
        ap (λ (r : List (Reply × Book)). (if concerns i e then (reply m s e, (view (after m s e)).own) ∷ [] else []) ++ r) (lived_is (after m s e) es (U.keeps s e k))
        ∙ sym (lived_step s e (trace figure same m i (after m s e) es) k (concerns i e) (same (figure s) (figure (after m s e))) refl refl)

    -- from two stands that look the same to the holder
    pub isolated : (s t : Stand) (es fs : List Event) → U.Kept s → U.Kept t → view s ≡ view t → trace figure same m i s es ≡ trace figure same m i t fs
        → (observed m i (λ x. (view x).own) s es ≡ observed m i (λ x. (view x).own) t fs) × (view (run m s es) ≡ view (run m t fs))
    isolated s t es fs ks kt v h = (
      lived_is s es ks ∙ ap₂ lived v h ∙ sym (lived_is t fs kt),
      final_is s es ks ∙ ap₂ final v h ∙ sym (final_is t fs kt),
    )

-- the answers alone
module _ (m : Meaning) (i : ℕ) (own : Stand → Book) where
  firsts : (e : Event) (s : Stand) (b : Bool) (xs : List (Reply × Book)) (os : List Reply) → map (λ (x : Reply × Book). x.0) xs ≡ os
      → map (λ (x : Reply × Book). x.0) ((if b then (reply m s e, own (after m s e)) ∷ [] else []) ++ xs) ≡ (if b then reply m s e ∷ [] else []) ++ os
  firsts e s true xs os p = ap (λ (l : List Reply). reply m s e ∷ l) p
  firsts e s false xs os p = p

  replies_observed : (s : Stand) (es : List Event) → map (λ (x : Reply × Book). x.0) (observed m i own s es) ≡ own_replies i es (replies m s es)
  replies_observed s [] = refl
  replies_observed s (e ∷ es) = firsts e s (concerns i e) _ _ (replies_observed (after m s e) es)

-- the answers to account i, out of what it observed
pub heard : (m l : Meaning) (i : ℕ) (own : Stand → Book) (s t : Stand) (es fs : List Event) → observed m i own s es ≡ observed l i own t fs → own_replies i es (replies m s es) ≡ own_replies i fs (replies l t fs)
heard m l i own s t es fs e =
    sym (replies_observed m i own s es) ∙ ap (map (λ (x : Reply × Book). x.0)) e ∙ replies_observed l i own t fs

-- one list after the other, and the first part of a list
module _ (m : Meaning) where
  pub run_append : (s : Stand) (es fs : List Event) → run m s (es ++ fs) ≡ run m (run m s es) fs
  run_append s [] fs = refl
  run_append s (e ∷ es) fs = run_append (after m s e) es fs

  pub replies_append : (s : Stand) (es fs : List Event) → replies m s (es ++ fs) ≡ replies m s es ++ replies m (run m s es) fs
  replies_append s [] fs = refl
  replies_append s (e ∷ es) fs = ap (λ (l : List Reply). reply m s e ∷ l) (replies_append (after m s e) es fs)

  -- an account's answers to one list and then another
  pub own_append : (i : ℕ) (s : Stand) (es fs : List Event)
      → own_replies i (es ++ fs) (replies m s (es ++ fs)) ≡ own_replies i es (replies m s es) ++ own_replies i fs (replies m (run m s es) fs)
  own_append i s [] fs = refl
  own_append i s (e ∷ es) fs =
      ap (λ (l : List Reply). (if concerns i e then reply m s e ∷ [] else []) ++ l) (own_append i (after m s e) es fs)
      ∙ sym (append_assoc (if concerns i e then reply m s e ∷ [] else []) _ _)

  pub length_replies : (s : Stand) (es : List Event) → length (replies m s es) ≡ length es
  length_replies s [] = refl
  length_replies s (e ∷ es) = ap suc (length_replies (after m s e) es)

  pub take_replies : (s : Stand) (i : ℕ) (es : List Event) → take i (replies m s es) ≡ replies m s (take i es)
  take_replies s zero es = refl
  take_replies s (suc i) [] = refl
  take_replies s (suc i) (e ∷ es) = ap (λ (l : List Reply). reply m s e ∷ l) (take_replies (after m s e) i es)
