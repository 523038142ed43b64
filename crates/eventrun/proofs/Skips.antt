-- What an iterator over a slice gives after some of its items are skipped.
use Rattle.std.proofs.Common.{◌≡◌, ℕ, suc, ◌+◌, ◌≤◌, List, [], ◌∷◌, length, drop, Bor, sym, ap, ◌∙◌, arith}
use Rattle.std.specs.Prelude.{Some, None}
use Rattle.std.specs.Iterator.{Yields, SkipsThenYields}
use Rattle.std.specs.Slice.Iter.{iter_rest, iter_steps}
use Rattle.std.specs.declared.slice.Iter.{Iter}

module _ {A : Type 0} where
  left_after : (xs : List (Bor A)) (s t : Iter A) → Yields iter_steps s xs t
      → (drop (length xs) (iter_rest s) ≡ iter_rest t) × (length (iter_rest s) ≡ length xs + length (iter_rest t))
  left_after [] s t e = (ap iter_rest e, omega (arith, ap (λ (u : Iter A). length (iter_rest u)) e))
  left_after (x ∷ xs) s t y =
      let more = left_after xs y.0 t y.2 in
      (ap (drop (suc (length xs))) y.1 ∙ more.0, omega (arith, ap length y.1, more.1))

  pub skipped_item : (s t : Iter A) (n : ℕ) (x : Bor A) → SkipsThenYields iter_steps s n (Some x) t
      → (drop n (iter_rest s) ≡ x.now ∷ iter_rest t) × (length (iter_rest s) ≡ n + suc (length (iter_rest t)))
  skipped_item s t n x y =
      let more = left_after y.0 s y.1.0 y.1.1 in
      (ap (λ (k : ℕ). drop k (iter_rest s)) (sym y.2) ∙ more.0 ∙ y.1.2, omega (arith, more.1, y.2, ap length y.1.2))

  pub skipped_end : (s t : Iter A) (n : ℕ) → SkipsThenYields iter_steps s n None t → length (iter_rest s) ≤ n
  skipped_end s t n y =
      let more = left_after y.0 s y.1.0 y.1.1 in
      omega (arith, more.1, y.2, y.1.2.0)
