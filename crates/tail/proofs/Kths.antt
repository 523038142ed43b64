-- The k-th of the entries from the highest down is the k-th highest.
use Rattle.std.proofs.Common.{◌≡◌, ℕ, zero, suc, ◌+◌, ◌-◌, ◌<◌, ◌≤◌, min, Bool, true, false, cond, List, [], ◌∷◌, ◌++◌, length, get_or, take, fold, count_by, ◌⊎◌, inl, inr, ⊎_elim, Option, None, Some, MatchOption, sym, refl, ap, ◌∙◌, subst, true≢false, arith}
use Rattle.std.specs.List.{ContainsAt, AllByRecursion}
use Rattle.std.proofs.lemmas.Bool.{cases_lt, false_from_ne_true, true_from_ne_false}
use Rattle.std.proofs.lemmas.List.Sums.{sum_by-cons, fold_push}
use Rattle.std.proofs.lemmas.List.{get_or-take, get_or_default, take_at, length_push, length-take-le}
use Rattle.std.proofs.ByRecursion.{All-weaker, All-get_or, All-take, all_has_itself}
use Rattle.tail.proofs.Places.{placed_take}
use Rattle.tail.specs.Tail.{Orders, Holds, placed, ranked, count_at_least, Kth, Short}

abbrev pub one : Bool → ℕ
one b = cond b 1 0

-- each entry is at least each later one
abbrev pub Falls : {X : Type 0} → (X → X → Bool) → List X → Type 0
Falls ge [] = Unit {0}
Falls ge (y ∷ ys) = AllByRecursion (λ z. ge y z ≡ true) ys × Falls ge ys

module _ {X : Type 0} (p : X → Bool) where
  pub count_cons : (x : X) (xs : List X) → count_by p (x ∷ xs) ≡ one (p x) + count_by p xs
  count_cons x xs = sum_by-cons (λ y. one (p y)) x xs

  pub count_none : (xs : List X) → AllByRecursion (λ x. p x ≡ false) xs → count_by p xs ≡ 0
  count_none [] h = refl
  count_none (x ∷ xs) h =
      let r : count_by p xs ≡ 0 = count_none xs h.1 in
      let o : one (p x) ≡ 0 = ap one h.0 in
      omega (arith, count_cons x xs)

  one_le : (b : Bool) → one b ≤ 1
  one_le true = omega arith
  one_le false = omega arith

module _ {X : Type 0} (ge : X → X → Bool) where
  pub all_placed : (P : X → Type 0) (x : X) (ys : List X) → P x → AllByRecursion P ys → AllByRecursion P (placed ge x ys)
  all_placed P x [] h k = (h, tt)
  all_placed P x (y ∷ ys) h k =
      elim (ge y x) as (λ b. AllByRecursion P (cond b (y ∷ placed ge x ys) (x ∷ y ∷ ys))) [
        | true ↦ (k.0, all_placed P x ys h k.1)
        | false ↦ (h, k)
      ]

  pub length_placed : (x : X) (ys : List X) → length (placed ge x ys) ≡ suc (length ys)
  length_placed x [] = refl
  length_placed x (y ∷ ys) =
      elim (ge y x) as (λ b. length (cond b (y ∷ placed ge x ys) (x ∷ y ∷ ys)) ≡ suc (suc (length ys))) [
        | true ↦ ap suc (length_placed x ys)
        | false ↦ refl
      ]

  pub count_placed : (p : X → Bool) (x : X) (ys : List X) → count_by p (placed ge x ys) ≡ one (p x) + count_by p ys
  count_placed p x [] = count_cons p x []
  count_placed p x (y ∷ ys) =
      let here = count_cons p y ys in
      elim (ge y x) as (λ b. count_by p (cond b (y ∷ placed ge x ys) (x ∷ y ∷ ys)) ≡ one (p x) + count_by p (y ∷ ys)) [
        | true ↦ omega (arith, count_cons p y (placed ge x ys), count_placed p x ys)
        | false ↦ count_cons p x (y ∷ ys)
      ]

  abbrev onto : List X → List X → List X
  onto acc xs = fold (λ ys x. placed ge x ys) acc xs

  all_onto : (P : X → Type 0) (acc xs : List X) → AllByRecursion P acc → AllByRecursion P xs → AllByRecursion P (onto acc xs)
  all_onto P acc [] h k = h
  all_onto P acc (x ∷ xs) h k = all_onto P (placed ge x acc) xs (all_placed P x acc k.0 h) k.1

  length_onto : (acc xs : List X) → length (onto acc xs) ≡ length acc + length xs
  length_onto acc [] = omega arith
  length_onto acc (x ∷ xs) = omega (arith, length_onto (placed ge x acc) xs, length_placed x acc)

  count_onto : (p : X → Bool) (acc xs : List X) → count_by p (onto acc xs) ≡ count_by p acc + count_by p xs
  count_onto p acc [] = omega arith
  count_onto p acc (x ∷ xs) = omega (arith, count_onto p (placed ge x acc) xs, count_placed p x acc, count_cons p x xs)

  pub length_ranked : (xs : List X) → length (ranked ge xs) ≡ length xs
  length_ranked xs = omega (arith, length_onto [] xs)

  pub count_ranked : (p : X → Bool) (xs : List X) → count_by p (ranked ge xs) ≡ count_by p xs
  count_ranked p xs = omega (arith, count_onto p [] xs)

  pub among_ranked : (xs : List X) → AllByRecursion (ContainsAt xs) (ranked ge xs)
  among_ranked xs = all_onto (ContainsAt xs) [] xs tt (all_has_itself xs)

module _ {X : Type 0} {ge : X → X → Bool} (o : Orders ge) where
  pub itself : (x : X) → ge x x ≡ true
  itself x = let decide : (b : Bool) → ge x x ≡ b → ge x x ≡ true = λ b. elim b as (λ v. ge x x ≡ v → ge x x ≡ true) [ true ↦ λ e. e | false ↦ λ e. o.any_two x x e ] in decide (ge x x) refl

  pub falls_placed : (x : X) (ys : List X) → Falls ge ys → Falls ge (placed ge x ys)
  falls_placed x [] h = (tt, tt)
  falls_placed x (y ∷ ys) h =
      let by : (b : Bool) → ge y x ≡ b → Falls ge (cond b (y ∷ placed ge x ys) (x ∷ y ∷ ys)) = λ b. elim b as (λ v. ge y x ≡ v → Falls ge (cond v (y ∷ placed ge x ys) (x ∷ y ∷ ys))) [
        | true ↦ λ e. (all_placed ge (λ z. ge y z ≡ true) x ys e h.0, falls_placed x ys h.1)
        | false ↦ λ e.
            let up = o.any_two y x e in
            ((up, All-weaker (λ z. ge y z ≡ true) (λ z. ge x z ≡ true) (λ z k. o.chain x y z up k) ys h.0), h)
      ] in
      by (ge y x) refl

  falls_onto : (acc xs : List X) → Falls ge acc → Falls ge (onto ge acc xs)
  falls_onto acc [] h = h
  falls_onto acc (x ∷ xs) h = falls_onto (placed ge x acc) xs (falls_placed x acc h)

  pub falls_ranked : (xs : List X) → Falls ge (ranked ge xs)
  falls_ranked xs = falls_onto [] xs tt

  -- at the place j at least j + 1 entries are as high
  pub falls_enough : (ys : List X) (j : ℕ) (l : X) → Falls ge ys → j < length ys → l ≡ get_or ys j l → suc j ≤ count_at_least ge l ys
  falls_enough [] j l f lt read = absurd (omega arith)
  falls_enough (y ∷ ys) zero l f lt read =
      let e : ge y l ≡ true = subst (λ z. ge y z ≡ true) (sym read) (itself y) in
      let n : one (ge y l) ≡ 1 = ap one e in
      omega (arith, count_cons (λ x. ge x l) y ys)
  falls_enough (y ∷ ys) (suc j) l f lt read =
      let e : ge y l ≡ true = subst (λ z. ge y z ≡ true) (sym read) (All-get_or (λ z. ge y z ≡ true) ys j l (omega arith) f.0) in
      let n : one (ge y l) ≡ 1 = ap one e in
      omega (arith, count_cons (λ x. ge x l) y ys, falls_enough ys j l f.1 (omega arith) read)

  -- not more than j entries reach what the entry at the place j does not
  pub falls_few : (ys : List X) (j : ℕ) (l m : X) → Falls ge ys → j < length ys → l ≡ get_or ys j l → ge l m ≡ false → count_at_least ge m ys ≤ j
  falls_few [] j l m f lt read no-reach = absurd (omega arith)
  falls_few (y ∷ ys) zero l m f lt read below =
      let e : ge y m ≡ false = subst (λ z. ge z m ≡ false) read below in
      let none : AllByRecursion (λ z. ge z m ≡ false) ys = All-weaker (λ z. ge y z ≡ true) (λ z. ge z m ≡ false) (λ z up. false_from_ne_true (ge z m) (λ k. true≢false (sym (o.chain y z m up k) ∙ e))) ys f.0 in
      let n : one (ge y m) ≡ 0 = ap one e in
      omega (arith, count_cons (λ x. ge x m) y ys, count_none (λ x. ge x m) ys none)
  falls_few (y ∷ ys) (suc j) l m f lt read below =
      omega (arith, count_cons (λ x. ge x m) y ys, one_le (λ (x : X). ge x m) (ge y m), falls_few ys j l m f.1 (omega arith) read below)

  pub kth_from_ranked : (xs : List X) (k : ℕ) (l : X) → 0 < k → k ≤ length xs → l ≡ get_or (ranked ge xs) (k - 1) l → Kth ge k xs l
  kth_from_ranked xs k l some enough read =
      let n = length_ranked ge xs in
      let lt : k - 1 < length (ranked ge xs) = omega arith in
      let f = falls_ranked xs in
      record {
        enough = omega (arith, count_ranked ge (λ x. ge x l) xs, falls_enough (ranked ge xs) (k - 1) l f lt read);
        greatest = λ m many. true_from_ne_false (ge l m) (λ below.
            let few = falls_few (ranked ge xs) (k - 1) l m f lt read below in
            let c = count_ranked ge (λ x. ge x m) xs in
            omega arith);
        among = subst (ContainsAt xs) (sym read) (All-get_or (ContainsAt xs) (ranked ge xs) (k - 1) l lt (among_ranked ge xs));
      }

module _ {X : Type 0} (ge : X → X → Bool) where
  pub holds_push : (xs ps qs : List X) (f r : ℕ) (x : X) → length qs ≡ length ps → r ≡ min (f + 1) (length ps) → take r qs ≡ take (length ps) (placed ge x (take f ps)) → Holds ge xs f ps → Holds ge (xs ++ x ∷ []) r qs
  holds_push xs ps qs f r x same count top h = record {
    count = let c = h.count in omega (arith, length_push xs x);
    top =
        top
        ∙ ap (λ u. take (length ps) (placed ge x u)) h.top
        ∙ placed_take ge (length ps) x (ranked ge xs)
        ∙ ap (take (length ps)) (sym (fold_push (λ ys y. placed ge y ys) [] xs x))
        ∙ ap (λ m. take m (ranked ge (xs ++ x ∷ []))) (sym same);
  }

  -- what stands in the last of the places, all filled
  pub last_held : (xs ps : List X) (f k : ℕ) (l : X) → Holds ge xs f ps → length ps ≡ k → f ≡ k → 0 < k → l ≡ get_or ps (f - 1) l → (d : X) → l ≡ get_or (ranked ge xs) (k - 1) d
  last_held xs ps f k l h len e some read d =
      let below : f - 1 < f = omega arith in
      let at : f - 1 < length ps = omega arith in
      let c = h.count in
      let in' : k - 1 < length (ranked ge xs) = omega (arith, length_ranked ge xs) in
      read ∙ sym (get_or-take f ps (f - 1) l below) ∙ ap (λ u. get_or u (f - 1) l) h.top ∙ get_or-take (length ps) (ranked ge xs) (f - 1) l at
      ∙ ap (λ m. get_or (ranked ge xs) (m - 1) l) e ∙ get_or_default (ranked ge xs) (k - 1) l d in'

module _ {X : Type 0} {ge : X → X → Bool} (o : Orders ge) where
  pub kth_held : (xs ps : List X) (f k : ℕ) (l : X) → Holds ge xs f ps → length ps ≡ k → f ≡ k → 0 < k → l ≡ get_or ps (f - 1) l → Kth ge k xs l
  kth_held xs ps f k l h len e some read = let c = h.count in kth_from_ranked o xs k l some (omega arith) (last_held ge xs ps f k l h len e some read l)

  falls_take : (n : ℕ) (ys : List X) → Falls ge ys → Falls ge (take n ys)
  falls_take zero ys f = tt
  falls_take (suc n) [] f = tt
  falls_take (suc n) (y ∷ ys) f = (All-take (λ z. ge y z ≡ true) n ys f.0, falls_take n ys f.1)

  placed_stays : (x y : X) (ys : List X) → ge y x ≡ true → placed ge x (y ∷ ys) ≡ y ∷ placed ge x ys
  placed_stays x y ys h = rw h

  -- what the lowest reaches goes behind it
  passed : (ys : List X) (j : ℕ) (l x : X) → Falls ge ys → length ys ≡ suc j → l ≡ get_or ys j l → ge l x ≡ true → placed ge x ys ≡ ys ++ x ∷ []
  passed [] j l x f len read up = absurd (omega arith)
  passed (y ∷ []) zero l x f len read up = placed_stays x y [] (subst (λ z. ge z x ≡ true) read up)
  passed (y ∷ z ∷ ys) zero l x f len read up = absurd (omega arith)
  passed (y ∷ ys) (suc j) l x f len read up =
      let e : ge y l ≡ true = subst (λ z. ge y z ≡ true) (sym read) (All-get_or (λ z. ge y z ≡ true) ys j l (omega arith) f.0) in
      placed_stays x y ys (o.chain y l x e up) ∙ ap (λ u. y ∷ u) (passed ys j l x f.1 (omega arith) read up)

  -- an entry that the lowest of the places reaches, all filled, changes nothing
  pub holds_stays : (xs ps : List X) (f : ℕ) (l x : X) → f ≡ length ps → 0 < f → l ≡ get_or ps (f - 1) l → true ≡ ge l x → Holds ge xs f ps → Holds ge (xs ++ x ∷ []) f ps
  holds_stays xs ps f l x full some read up h =
      let n = length ps in
      let ys = take n (ranked ge xs) in
      let c = h.count in
      let len : length ys ≡ n = length-take-le n (ranked ge xs) (omega (arith, length_ranked ge xs)) in
      let at : f - 1 < f = omega arith in
      let here : l ≡ get_or ys (f - 1) l = read ∙ sym (get_or-take f ps (f - 1) l at) ∙ ap (λ u. get_or u (f - 1) l) h.top in
      let behind : placed ge x ys ≡ ys ++ x ∷ [] = passed ys (f - 1) l x (falls_take n (ranked ge xs) (falls_ranked o xs)) (omega arith) here (sym up) in
      record {
        count = omega (arith, length_push xs x);
        top =
            h.top
            ∙ sym (take_at ys (x ∷ []) n len)
            ∙ ap (take n) (sym behind)
            ∙ placed_take ge n x (ranked ge xs)
            ∙ ap (take n) (sym (fold_push (λ zs z. placed ge z zs) [] xs x));
      }

  -- the lowest that is kept, where every place is in use, and what that there is none tells
  pub kth_of : (xs ps : List X) (f k : ℕ) (l : Option X) → Holds ge xs f ps → length ps ≡ k → MatchOption l ((f ≡ 0) ⊎ (f < length ps)) (λ y. (0 < f) × (f ≡ length ps) × (y ≡ get_or ps (f - 1) y))
      → MatchOption l (Short k xs) (λ y. Kth ge k xs y)
  kth_of xs ps f k None h len none = elim (cases_lt (length xs) k) [ inl few ↦ inr few | inr many ↦ inl (let c = h.count in ⊎_elim (λ (e : f ≡ 0). omega arith) (λ (e : f < length ps). omega arith) none) ]
  kth_of xs ps f k (Some l) h len some = kth_held xs ps f k l h len (omega (arith, some.1)) (omega (arith, some.0, some.1)) some.2
