-- A text gives one answer and no other. Assumes nothing.
--   first_least, first_one   tables have one first place out of range
--   refused_one    tables are refused for one reason
--   sound_passes   and for none where they make a model
--   makes_one      a part makes one model
--   ends_one       and ends with one answer
--   makes_or_ends  and does not do both
--   then_one       a part and what is asked next of it give one answer
--   second_one, by_one   so do a second model, and a text with or without the word `joined`
--   gives_one      two answers of one text are the same
use Rattle.std.specs.Prelude.{◌≡◌, ℕ, ◌≤◌, Bool, true, false, List, codes, refl}
use Rattle.std.proofs.Common.{ap, sym, subst, ◌∙◌, ⊎_elim, arith}
use Rattle.std.proofs.lemmas.Bool.{both_ways, cases_lt}
use Rattle.std.specs.Str.{bytes_eq}
use Rattle.models.specs.Meaning.{Meaning}
use Rattle.models.specs.Refusals.{Refused}
use Rattle.models.specs.Sound.{Sound, FirstOut, in_range}
use Rattle.models.specs.Tables.{Tables}
use Rattle.models.specs.declared.refusal.MakingRefusal.{MakingRefusal}
use Rattle.models.specs.declared.refusal.MakingRefusal.TheVariants.{WrongCounts, WrongLengths, OutOfRange, TooManyScenarios}
use Rattle.scan.specs.Words.{word_of, rest_of}
use Rattle.modelfile.specs.Parts.{Answer, means, refused, malformed, Part, stopped, numbers, part_of, Makes, EndsWith}
use Rattle.modelfile.specs.Texts.{Then, ending, joining, Second, GivesBy, Gives}

-- a place before the first one out of range is in range
first_least : (limit : ℕ) (t : Tables) (i j : ℕ) → FirstOut limit t i → FirstOut limit t j → j ≤ i
first_least limit t i j h k =
    ⊎_elim (λ lt. absurd (both_ways (in_range limit t i) h.0 (k.1 i lt))) (λ ge. ge) (cases_lt i j)

first_one : (limit : ℕ) (t : Tables) (i j : ℕ) → FirstOut limit t i → FirstOut limit t j → i ≡ j
first_one limit t i j h k =
    let a = first_least limit t i j h k in
    let b = first_least limit t j i k h in
    omega arith

module _ (cells limit : ℕ) (t : Tables) where
  pub refused_one : (r q : MakingRefusal) → Refused cells limit t r → Refused cells limit t q → r ≡ q
  refused_one WrongCounts WrongCounts h k = refl
  refused_one WrongCounts WrongLengths h k = absurd (h k.0)
  refused_one WrongCounts (OutOfRange j) h k = absurd (h k.0)
  refused_one WrongCounts TooManyScenarios h k = absurd k
  refused_one WrongLengths WrongCounts h k = absurd (k h.0)
  refused_one WrongLengths WrongLengths h k = refl
  refused_one WrongLengths (OutOfRange j) h k = absurd (h.1 k.1)
  refused_one WrongLengths TooManyScenarios h k = absurd k
  refused_one (OutOfRange i) WrongCounts h k = absurd (k h.0)
  refused_one (OutOfRange i) WrongLengths h k = absurd (k.1 h.1)
  refused_one (OutOfRange i) (OutOfRange j) h k = ap OutOfRange (first_one limit t i j h.2 k.2)
  refused_one (OutOfRange i) TooManyScenarios h k = absurd k
  refused_one TooManyScenarios q h k = absurd h

  pub sound_passes : (r : MakingRefusal) → Sound cells limit t → Refused cells limit t r → ⊥
  sound_passes WrongCounts ok h = h ok.0
  sound_passes WrongLengths ok h = h.1 ok.1
  sound_passes (OutOfRange i) ok h = both_ways (in_range limit t i) h.2.0 (ok.2 i)
  sound_passes TooManyScenarios ok h = h

makes_one : (p : Part) (m n : Meaning) (after rest : List ℕ) → Makes p m after → Makes p n rest → (m ≡ n) × (after ≡ rest)
makes_one (stopped a) m n after rest h k = absurd h
makes_one (numbers kind t left) m n after rest h k = (h.1 ∙ sym k.1, h.2 ∙ sym k.2)

ends_one : (p : Part) (a b : Answer) → EndsWith p a → EndsWith p b → a ≡ b
ends_one (stopped c) a b h k = h ∙ sym k
ends_one (numbers kind t rest) (means m) b h k = absurd h
ends_one (numbers kind t rest) malformed b h k = absurd h
ends_one (numbers kind t rest) (refused r) (means m) h k = absurd k
ends_one (numbers kind t rest) (refused r) malformed h k = absurd k
ends_one (numbers kind t rest) (refused r) (refused q) h k = ap refused (refused_one _ _ t r q h k)

makes_or_ends : (p : Part) (m : Meaning) (after : List ℕ) (a : Answer) → Makes p m after → EndsWith p a → ⊥
makes_or_ends (stopped c) m after a h k = h
makes_or_ends (numbers kind t rest) m after (means o) h k = k
makes_or_ends (numbers kind t rest) m after malformed h k = k
makes_or_ends (numbers kind t rest) m after (refused r) h k = sound_passes _ _ t r h.0 k

then_one : (p : Part) (next : Meaning → List ℕ → Answer → Type 0)
    → ((m : Meaning) (after : List ℕ) (a b : Answer) → next m after a → next m after b → a ≡ b)
    → (a b : Answer) → Then p next a → Then p next b → a ≡ b
then_one p next one a b x y =
    ⊎_elim
    (λ e. ⊎_elim (λ f. ends_one p a b e f) (λ g. absurd (makes_or_ends p g.0 g.1.0 a g.1.1.0 e)) y)
    (λ h. ⊎_elim (λ f. absurd (makes_or_ends p h.0 h.1.0 b h.1.1.0 f))
    (λ g.
    let q = makes_one p h.0 g.0 h.1.0 g.1.0 h.1.1.0 g.1.1.0 in
    one g.0 g.1.0 a b
    (subst (λ u. next u g.1.0 a) q.0 (subst (λ v. next h.0 v a) q.1 h.1.1.1)) g.1.1.1) y)
    x

second_one : (f : Meaning) (bs : List ℕ) (a b : Answer) → Second f bs a → Second f bs b → a ≡ b
second_one f bs = then_one (part_of bs) (λ g after c. c ≡ joining f g after) (λ g after a b h k. h ∙ sym k)

by_one : (joined : Bool) (bs : List ℕ) (a b : Answer) → GivesBy joined bs a → GivesBy joined bs b → a ≡ b
by_one true bs = then_one (part_of (rest_of bs)) (λ f mid c. Second f mid c) (λ f mid a b h k. second_one f mid a b h k)
by_one false bs = then_one (part_of bs) (λ m after c. c ≡ ending m after) (λ m after a b h k. h ∙ sym k)

pub gives_one : (bs : List ℕ) (a b : Answer) → Gives bs a → Gives bs b → a ≡ b
gives_one bs a b h k = by_one (bytes_eq (word_of bs) (codes "joined")) bs a b h k
