-- The order of entries, the list of entries from the highest down, and its k-th.
-- Orders: an order that compares any two, ties allowed. reaches_loss: losses, by their size.
-- placed, ranked: the entries from the highest down, ties in the order in which they came.
-- Holds: what the keeper's places hold after some entries.
-- count_at_least: how many entries reach one.
-- Kth: the k-th highest. Short: there is none.
use Rattle.std.specs.Prelude.{◌≡◌, ℕ, ◌<◌, ◌≤◌, min, Bool, true, false, cond, ◌⊎◌, List, [], ◌∷◌, length, take, ℤ, fold, count_by, int_le}
use Rattle.std.specs.List.{ContainsAt}

-- `ge x y` says that x is at least y: it compares any two, and two may tie
pub record Orders {X : Type 0} (ge : X → X → Bool) : Type 0 where
  pub any_two : (x y : X) → ge x y ≡ false → ge y x ≡ true
  pub chain : (x y z : X) → ge x y ≡ true → ge y z ≡ true → ge x z ≡ true

abbrev pub reaches_loss : ℤ → ℤ → Bool
reaches_loss x y = int_le y x

-- x goes in before the first entry below it
abbrev pub placed : {X : Type 0} → (X → X → Bool) → X → List X → List X
placed ge x [] = x ∷ []
placed ge x (y ∷ ys) = cond (ge y x) (y ∷ placed ge x ys) (x ∷ y ∷ ys)

-- the entries from the highest down, and ties in the order that they came
abbrev pub ranked : {X : Type 0} → (X → X → Bool) → List X → List X
ranked ge xs = fold (λ ys x. placed ge x ys) [] xs

-- the first f of the places hold the highest of xs, as many as there are places for, from the highest down
pub record Holds {X : Type 0} (ge : X → X → Bool) (xs : List X) (f : ℕ) (places : List X) : Type 0 where
  pub count : f ≡ min (length xs) (length places)
  pub top : take f places ≡ take (length places) (ranked ge xs)

abbrev pub count_at_least : {X : Type 0} → (X → X → Bool) → X → List X → ℕ
count_at_least ge l xs = count_by (λ x. ge x l) xs

-- l is the k-th highest of xs: at least k entries reach it, it reaches everything that k entries reach, and it is one of them
pub record Kth {X : Type 0} (ge : X → X → Bool) (k : ℕ) (xs : List X) (l : X) : Type 0 where
  pub enough : k ≤ count_at_least ge l xs
  pub greatest : (m : X) → k ≤ count_at_least ge m xs → ge l m ≡ true
  pub among : ContainsAt xs l

-- there is no k-th highest
abbrev pub Short : {X : Type 0} → ℕ → List X → Type 0
Short k xs = (k ≡ 0) ⊎ (length xs < k)
