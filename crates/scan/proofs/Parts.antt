-- A text in two parts: before the first byte that stops, and from there on.
use Rattle.std.proofs.Common.{◌≡◌, ℕ, Bool, true, false, cond, not, Bor, suc, ◌+◌, ◌<◌, ◌≤◌, List, [], ◌∷◌, ◌++◌, length, take, drop, get_or, sym, refl, ap, ap₂, ◌∙◌, subst, arith, take_at, drop_at}
use Rattle.std.proofs.Math.Bool.{not-not}
use Rattle.std.proofs.lemmas.List.{take-append-drop, get_or-take, get_or-drop, length-take, length-drop}
use Rattle.std.specs.Fn.{Shared, FnReturnsAt}
use Rattle.std.specs.List.{All, AllWithin, HoldsAt, prefix_len, position_or_len}
use Rattle.std.specs.Prelude.{Option, Some, None, MatchOption, unwrap_or}

-- what `position` says, of the two parts
module _ (Yes No : ℕ → Type 0) (xs : List ℕ) where
  cut : (n : ℕ) → n ≤ length xs → AllWithin No xs 0 n → (n < length xs → HoldsAt Yes xs n)
      → (take n xs ++ drop n xs ≡ xs) × All No (take n xs) × (0 < length (drop n xs) → HoldsAt Yes (drop n xs) 0)
  cut n m a s = (
    take-append-drop n xs,
    (λ k d h.
        let l : k < n = omega (arith, length-take n xs, h, m) in
        subst No (sym (get_or-take n xs k d l)) (a k d (omega arith) l)),
    λ h d. subst Yes (first d) (s (omega (arith, length-drop n xs, h)) d),
  )
    where
      first : (d : ℕ) → get_or xs n d ≡ get_or (drop n xs) 0 d
      first d = ap (λ k. get_or xs k d) (omega arith) ∙ sym (get_or-drop n xs 0 d)

  pub parts : (front back : List ℕ) (r : Option ℕ)
      → MatchOption r (AllWithin No xs 0 (length xs)) (λ i. (i < length xs) × HoldsAt Yes xs i × AllWithin No xs 0 i)
      → front ≡ take (unwrap_or r (length xs)) xs → back ≡ drop (unwrap_or r (length xs)) xs
      → (front ++ back ≡ xs) × All No front × (0 < length back → HoldsAt Yes back 0)
  parts front back None h f b = rw (f, b) (cut (length xs) (omega arith) h (λ l. absurd (omega arith)))
  parts front back (Some i) h f b = rw (f, b) (cut i (omega arith) h.2 (λ l. h.1))

-- where the answers are those of a test p
module _ {F : Type 0} {g : Shared F (Bor ℕ × Unit {0}) Bool} {f : F} (p : ℕ → Bool) (says : (b : ℕ) (r : Bool) → FnReturnsAt g f b r → r ≡ p b) where
  counted : (xs ys : List ℕ) → All (λ b. FnReturnsAt g f b false) xs → (0 < length ys → HoldsAt (λ b. FnReturnsAt g f b true) ys 0)
      → position_or_len p (xs ++ ys) ≡ length xs
  counted [] [] a s = refl
  counted [] (y ∷ ys) a s = ap (λ b. cond (not b) (1 + position_or_len p ys) 0) (sym (says y true (s (omega arith) 0)))
  counted (x ∷ xs) ys a s =
      let e : position_or_len p (xs ++ ys) ≡ length xs = counted xs ys (λ k d h. a (suc k) d (omega (arith, h))) s in
      ap (λ b. cond (not b) (1 + position_or_len p (xs ++ ys)) 0) (sym (says x false (a 0 0 (omega arith)))) ∙ omega (arith, e)

  pub split_is : {text xs ys : List ℕ} → xs ++ ys ≡ text → All (λ b. FnReturnsAt g f b false) xs → (0 < length ys → HoldsAt (λ b. FnReturnsAt g f b true) ys 0)
      → (xs ≡ take (position_or_len p text) text) × (ys ≡ drop (position_or_len p text) text)
  split_is {text} {xs} {ys} e a s =
      let m = sym (counted xs ys a s) in (
        sym (ap (λ t. take (position_or_len p t) t) (sym e) ∙ take_at xs ys (position_or_len p (xs ++ ys)) m),
        sym (ap (λ t. drop (position_or_len p t) t) (sym e) ∙ drop_at xs ys (position_or_len p (xs ++ ys)) m),
      )

-- the first that fails a test
pub turned : (p : ℕ → Bool) (xs : List ℕ) → position_or_len (λ b. not (p b)) xs ≡ prefix_len p xs
turned p [] = refl
turned p (x ∷ xs) = ap₂ (λ b n. cond b (1 + n) 0) (not-not (p x)) (turned p xs)
