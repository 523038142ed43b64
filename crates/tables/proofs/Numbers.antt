-- Sums one term more, and a quotient that is rounded up.
use Rattle.std.proofs.Common.{◌≡◌, ℕ, zero, suc, ◌+◌, ◌*◌, ◌/◌, ◌%◌, ◌<◌, ◌≤◌, sym, refl, ap, subst, ⊎_elim, mul-le-mul_right, mod-lt, mul_comm, div-add-mod', mul_right_comm, le_of_mul-le-mul_right, add-one, arith}
use native.Mathlib.Nat.{div-le_of_le-mul}
use Rattle.std.proofs.lemmas.Bool.{cases_lt}
use Rattle.tables.specs.Numbers.{sum_below, rounded_up, RoundsUp}

pub sum_more : (f : ℕ → ℕ) (n : ℕ) → sum_below f (n + 1) ≡ sum_below f n + f n
unfolding sum_below
sum_more f n = ap (sum_below f) (add-one n)

pub sum_none : (f : ℕ → ℕ) → sum_below f 0 ≡ 0
unfolding sum_below
sum_none f = refl

-- a loop's step
pub sum_next : (f : ℕ → ℕ) (sum k one : ℕ) → sum ≡ sum_below f k → one ≡ f k → sum + one ≡ sum_below f (k + 1)
sum_next f sum k one so_far is = omega (arith, sum_more f k)

-- term by term, at most 2 × 10^12 times another sum
pub sum_le : (f g : ℕ → ℕ) (n : ℕ) → ((k : ℕ) → f k ≤ 2000000000000 * g k) → sum_below f n ≤ 2000000000000 * sum_below g n
unfolding sum_below
sum_le f g zero h = omega arith
sum_le f g (suc n) h = omega (arith, sum_le f g n h, h n)

-- terms that are all 0
pub sum_nil : (f : ℕ → ℕ) (n : ℕ) → ((k : ℕ) → f k ≡ 0) → sum_below f n ≡ 0
unfolding sum_below
sum_nil f zero h = refl
sum_nil f (suc n) h = omega (arith, sum_nil f n h, h n)

-- a product that is one factor larger
times_next : (x b : ℕ) → (x + 1) * b ≡ x * b + b
times_next x b = grind arith

pub covers : (a b : ℕ) → 1 ≤ b → a ≤ rounded_up a b * b
covers a b some =
    let whole = div-add-mod' a b in
    let part : a % b < b = mod-lt a (omega arith) in
    ⊎_elim
    (λ none.
    let e : rounded_up a b ≡ a / b = omega arith in
    subst (λ n. a ≤ n * b) (sym e) (omega arith))
    (λ rest.
    let e : rounded_up a b ≡ a / b + 1 = omega arith in
    subst (λ n. a ≤ n * b) (sym e) (omega (arith, times_next (a / b) b)))
    (cases_lt (a % b) 1)

pub least : (a b q : ℕ) → a ≤ q * b → rounded_up a b ≤ q
least a b q enough =
    let whole = div-add-mod' a b in
    let down : a / b ≤ q = div-le_of_le-mul b (omega (arith, mul_comm b q)) in
    ⊎_elim
    (λ none. omega arith)
    (λ rest.
    ⊎_elim
    (λ below. omega arith)
    (λ reached. let over : q * b ≤ a / b * b = mul-le-mul_right b reached in absurd (omega arith))
    (cases_lt (a / b) q))
    (cases_lt (a % b) 1)

pub rounds_up : RoundsUp
rounds_up a b q some = (covers a b some, least a b q)

-- a ratio that is not above another is rounded up to no more
pub rounded_up_mono : (n d m e : ℕ) → 1 ≤ d → 1 ≤ e → n * e ≤ m * d → rounded_up n d ≤ rounded_up m e
rounded_up_mono n d m e some other under =
    let c = rounded_up m e in
    let top : m * d ≤ c * e * d = mul-le-mul_right d (covers m e other) in
    let all : n * e ≤ c * d * e = omega (arith, mul_right_comm c e d) in
    least n d c (le_of_mul-le-mul_right {m = n} {n = c * d} {k = e} all (omega arith))
