-- A list whose elements are those of another, each turned by a function.
use Rattle.std.proofs.Common.{◌≡◌, ℕ, suc, ◌<◌, List, [], ◌∷◌, length, map, get_or, refl, ap₂, arith}

pub mapped : {A B : Type 0} (f : A → B) (xs : List A) (ys : List B) → length ys ≡ length xs → ((i : ℕ) (d : A) (e : B) → i < length xs → get_or ys i e ≡ f (get_or xs i d)) → ys ≡ map f xs
mapped f [] [] h each = refl
mapped f [] (y ∷ ys) h each = absurd (omega arith)
mapped f (x ∷ xs) [] h each = absurd (omega arith)
mapped f (x ∷ xs) (y ∷ ys) h each = ap₂ (λ z zs. z ∷ zs) (each 0 x y (omega arith)) (mapped f xs ys (omega arith) (λ i d e lt. each (suc i) d e (omega arith)))
