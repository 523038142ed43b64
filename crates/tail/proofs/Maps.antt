-- The entries from the highest down, where a map that keeps the order both ways turns each.
use Rattle.std.proofs.Common.{◌≡◌, Bool, true, false, cond, List, [], ◌∷◌, map, fold, refl, ap, ◌∙◌}
use Rattle.tail.specs.Tail.{placed, ranked}

module _ {X Y : Type 0} (ge : X → X → Bool) (gf : Y → Y → Bool) (f : X → Y) (keeps : (x y : X) → gf (f x) (f y) ≡ ge x y) where
  placed_map : (x : X) (ys : List X) → placed gf (f x) (map f ys) ≡ map f (placed ge x ys)
  placed_map x [] = refl
  placed_map x (y ∷ ys) =
      ap (λ b. cond b (f y ∷ placed gf (f x) (map f ys)) (f x ∷ f y ∷ map f ys)) (keeps y x)
      ∙ elim (ge y x) as (λ b. cond b (f y ∷ placed gf (f x) (map f ys)) (f x ∷ f y ∷ map f ys) ≡ map f (cond b (y ∷ placed ge x ys) (x ∷ y ∷ ys))) [
        | true ↦ ap (λ u. f y ∷ u) (placed_map x ys)
        | false ↦ refl
      ]

  onto_map : (acc xs : List X) → fold (λ ys x. placed gf x ys) (map f acc) (map f xs) ≡ map f (fold (λ ys x. placed ge x ys) acc xs)
  onto_map acc [] = refl
  onto_map acc (x ∷ xs) =
      ap (λ u. fold (λ ys y. placed gf y ys) u (map f xs)) (placed_map x acc) ∙ onto_map (placed ge x acc) xs

  pub ranked_map : (xs : List X) → ranked gf (map f xs) ≡ map f (ranked ge xs)
  ranked_map xs = onto_map [] xs
