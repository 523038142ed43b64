-- A number read digit by digit.
use Rattle.std.proofs.Common.{◌≡◌, ℕ, ◌+◌, ◌-◌, ◌*◌, ◌<◌, ◌≤◌, min, true, false, if◌then◌else◌, ◌&&◌, List, [], ◌∷◌, length, get_or, drop, Some, None, sym, ap, ◌∙◌, ⊎_elim, add-one, arith, drop_of_length-le, drop-cons}
use Rattle.std.proofs.lemmas.Bool.{cases_lt}
use Rattle.std.specs.List.{fold}
use Rattle.scan.specs.Number.{digit, digits, decimal, cap, step, read_on}

-- digits never make a number smaller
decimal_least : (n : ℕ) (bs : List ℕ) → n ≤ decimal n bs
decimal_least n [] = omega arith
decimal_least n (b ∷ bs) = omega (arith, decimal_least (n * 10 + (b - 48)) bs)

-- so that a number may be capped before its last digit
capped : (n : ℕ) (bs : List ℕ) → min (decimal n bs) cap ≡ min (decimal (min n cap) bs) cap
capped n bs =
    ⊎_elim (λ lt. let e : n ≡ min n cap = omega arith in ap (λ k. min (decimal k bs) cap) e)
    (λ ge. omega (arith, decimal_least n bs, decimal_least (min n cap) bs)) (cases_lt n cap)

-- each step capped, and so the whole
pub read : (n : ℕ) (bs : List ℕ) → n ≤ cap → fold step n bs ≡ min (decimal n bs) cap
read n [] h = omega arith
read n (b ∷ bs) h = read (step n b) bs (omega arith) ∙ sym (capped (n * 10 + (b - 48)) bs)

pub most : (bs : List ℕ) → fold step 0 bs ≤ cap
most bs = let e = read 0 bs (omega arith) in omega (arith, e)

-- a place of a text, and what follows it
pub opened : (xs : List ℕ) (n : ℕ) → n < length xs → drop n xs ≡ get_or xs n 0 ∷ drop (n + 1) xs
opened xs n h = rw (add-one, drop-cons xs n 0)

read_next : (m b : ℕ) (bs : List ℕ) → digit b ≡ true → read_on m (b ∷ bs) ≡ read_on (step m b) bs
read_next m b bs t =
    ap (λ d. if d && digits bs then Some (min (decimal (m * 10 + (b - 48)) bs) cap) else None) t
    ∙ ap (λ (k : ℕ). if digits bs then Some k else None) (capped (m * 10 + (b - 48)) bs)

-- a digit read, a byte that is none, and the end
pub read_go : (m : ℕ) (xs : List ℕ) (n : ℕ) → n < length xs → digit (get_or xs n 0) ≡ true → read_on m (drop n xs) ≡ read_on (step m (get_or xs n 0)) (drop (n + 1) xs)
read_go m xs n h t = ap (read_on m) (opened xs n h) ∙ read_next m (get_or xs n 0) (drop (n + 1) xs) t

pub read_stop : (m : ℕ) (xs : List ℕ) (n : ℕ) → n < length xs → digit (get_or xs n 0) ≡ false → read_on m (drop n xs) ≡ None
read_stop m xs n h t =
    ap (read_on m) (opened xs n h)
    ∙ ap (λ d. if d && digits (drop (n + 1) xs) then Some (min (decimal (m * 10 + (get_or xs n 0 - 48)) (drop (n + 1) xs)) cap) else None) t

pub read_end : (m : ℕ) (xs : List ℕ) (n : ℕ) → length xs ≤ n → m ≤ cap → read_on m (drop n xs) ≡ Some m
read_end m xs n h most = let e : min m cap ≡ m = omega arith in ap (read_on m) (drop_of_length-le xs h) ∙ ap (λ (k : ℕ). Some k) e
