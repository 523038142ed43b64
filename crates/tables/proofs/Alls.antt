-- A test of every element: what it tells of one, and what keeps it.
use Rattle.std.proofs.Common.{◌≡◌, ℕ, ◌<◌, Bool, true, ◌&&◌, ap, sym, ◌∙◌, List, [], ◌∷◌, ◌++◌, map, length, get_or, take, drop, set, replicate, filter}
use Rattle.std.specs.List.{All, AllPass, list_all}
use Rattle.std.proofs.Math.Bool.{and-true}
use Rattle.std.proofs.lemmas.List.Folds.{list_all-append}
use Rattle.std.proofs.lemmas.List.Elements.{All-weaker, All-get_or, All-set, All-filter, All-append, All-drop, All-take, All-map, All-replicate}
use Rattle.std.proofs.lemmas.List.Sums.{AllPass-from_list_all, list_all-from_AllPass}

module _ {X : Type 0} (p : X → Bool) where
  abbrev passes : X → Type 0
  passes x = p x ≡ true

  by_each : (xs ys : List X) → (AllPass p xs → AllPass p ys) → list_all p xs ≡ true → list_all p ys ≡ true
  by_each xs ys f h = list_all-from_AllPass p ys (f (AllPass-from_list_all p xs h))

  -- what a test tells of each element
  pub all_from : (P : X → Type 0) → ((x : X) → p x ≡ true → P x) → (xs : List X) → list_all p xs ≡ true → All P xs
  all_from P tells xs h = All-weaker passes P tells xs (AllPass-from_list_all p xs h)

  pub list_all_set : (xs : List X) (i : ℕ) (v : X) → p v ≡ true → list_all p xs ≡ true → list_all p (set xs i v) ≡ true
  list_all_set xs i v e = by_each xs (set xs i v) (All-set passes xs i v e)

  -- what a filter keeps passes as well
  pub list_all_kept : (q : X → Bool) (xs : List X) → list_all p xs ≡ true → list_all p (filter q xs) ≡ true
  list_all_kept q xs = by_each xs (filter q xs) (All-filter q passes xs)

  pub list_all_at : (xs : List X) (i : ℕ) (d : X) → i < length xs → list_all p xs ≡ true → p (get_or xs i d) ≡ true
  list_all_at xs i d l h = All-get_or passes xs i d l (AllPass-from_list_all p xs h)

  pub list_all_append : (xs ys : List X) → list_all p xs ≡ true → list_all p ys ≡ true → list_all p (xs ++ ys) ≡ true
  list_all_append xs ys h k = by_each xs (xs ++ ys) (λ a. All-append passes xs ys a (AllPass-from_list_all p ys k)) h

  pub list_all_push : (xs : List X) (x : X) (b : Bool) → b ≡ list_all p xs → (b && p x) ≡ list_all p (xs ++ (x ∷ []))
  list_all_push xs x b e = ap (λ all. all && p x) e ∙ sym (list_all-append p xs (x ∷ []) ∙ ap (λ one. list_all p xs && one) (and-true (p x)))

  pub list_all_drop : (n : ℕ) (xs : List X) → list_all p xs ≡ true → list_all p (drop n xs) ≡ true
  list_all_drop n xs = by_each xs (drop n xs) (All-drop passes n xs)

  pub list_all_take : (n : ℕ) (xs : List X) → list_all p xs ≡ true → list_all p (take n xs) ≡ true
  list_all_take n xs = by_each xs (take n xs) (All-take passes n xs)

  pub list_all_map : {Y : Type 0} (q : Y → Bool) (f : Y → X) → ((y : Y) → q y ≡ true → p (f y) ≡ true) → (ys : List Y) → list_all q ys ≡ true → list_all p (map f ys) ≡ true
  list_all_map q f k ys h =
      list_all-from_AllPass p (map f ys) (All-map passes f ys (All-weaker (λ y. q y ≡ true) (λ y. p (f y) ≡ true) k ys (AllPass-from_list_all q ys h)))

  pub list_all_replicate : (x : X) (n : ℕ) → p x ≡ true → list_all p (replicate n x) ≡ true
  list_all_replicate x n e = list_all-from_AllPass p (replicate n x) (All-replicate passes n x e)
