-- The bytes that a reader gives, where they are known, read within a limit.
use Rattle.std.proofs.Common.{◌≡◌, ℕ, List, [], ◌++◌, take, Some, None, Option, ap₂, ◌∙◌, subst}
use Rattle.std.specs.Prelude.{IfSome, option_map}

pub within : (n m : ℕ) (r q : Option (List ℕ)) (read held : List ℕ) → m ≡ n → q ≡ r → held ≡ [] → IfSome (option_map (take m) q) (λ xs. read ≡ held ++ xs)
    → IfSome r (λ xs. read ≡ take n xs)
within n m None q read held same is none gives = tt
within n m (Some xs) q read held same is none gives =
    let given : read ≡ held ++ take m xs = subst (λ (o : Option (List ℕ)). IfSome (option_map (take m) o) (λ ys. read ≡ held ++ ys)) is gives in
    given ∙ ap₂ (λ (old : List ℕ) (k : ℕ). old ++ take k xs) none same
