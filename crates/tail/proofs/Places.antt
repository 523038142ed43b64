-- What an entry that is carried through the places makes of them: `placed`.
use Rattle.std.proofs.Common.{◌≡◌, ℕ, zero, suc, ◌+◌, ◌<◌, Bool, true, false, cond, not, ◌||◌, List, [], ◌∷◌, ◌++◌, length, get_or, take, drop, set, sym, refl, ap, ap₂, ◌∙◌, append_assoc, arith, length-set}
use Rattle.std.proofs.lemmas.Bool.{or_parts}
use Rattle.std.proofs.lemmas.List.{take_all, take-take, take_more_set, drop_more, drop_all, drop-set-lt}
use Rattle.tail.specs.Tail.{placed}

module _ {X : Type 0} (ge : X → X → Bool) (item : X) where
  -- what stands from a place on in the end, where these stand there now and one is carried to it
  abbrev coming : Bool → X → List X → List X
  coming below carried ys = cond below (carried ∷ ys) (placed ge item ys)

  -- n places are gone through, and now they hold these; below: the item has its place
  pub record Carried (old now : List X) (n : ℕ) (below : Bool) (carried : X) : Type 0 where
    pub len : length now ≡ length old
    pub first : below ≡ false → carried ≡ item
    pub parts : take n now ++ coming below carried (drop n now) ≡ placed ge item old

  pub carried_none : (old : List X) → Carried old old 0 false item
  carried_none old = record { len = refl; first = λ e. refl; parts = refl }

  step : (below : Bool) (carried here : X) (ys : List X) → (below ≡ false → carried ≡ item)
      → cond (below || not (ge here item)) carried here ∷ coming (below || not (ge here item)) (cond (below || not (ge here item)) here carried) ys ≡ coming below carried (here ∷ ys)
  step true carried here ys first = refl
  step false carried here ys first =
      elim (ge here item) as (λ b. cond (not b) carried here ∷ coming (not b) (cond (not b) here carried) ys ≡ cond b (here ∷ placed ge item ys) (item ∷ here ∷ ys)) [
        | true ↦ refl
        | false ↦ ap (λ z. z ∷ here ∷ ys) (first refl)
      ]

  stays : (below : Bool) (carried here : X) → (below ≡ false → carried ≡ item) → (below || not (ge here item)) ≡ false → cond (below || not (ge here item)) here carried ≡ item
  stays below carried here first e = ap (λ b. cond b here carried) e ∙ first (or_parts below (not (ge here item)) e).0

  pub carried_more : (old now : List X) (n : ℕ) (below : Bool) (carried here : X) → n < length now → here ≡ get_or now n here → Carried old now n below carried
      → Carried old (set now n (cond (below || not (ge here item)) carried here)) (n + 1) (below || not (ge here item)) (cond (below || not (ge here item)) here carried)
  carried_more old now n below carried here lt read h =
      let b = below || not (ge here item) in
      let v = cond b carried here in
      let on = cond b here carried in
      let ys = drop (n + 1) now in
      record {
        len = length-set now n v ∙ h.len;
        first = stays below carried here h.first;
        parts =
            ap₂ (λ u w. u ++ coming b on w) (take_more_set now n v lt) (drop-set-lt (n + 1) now n v (omega arith))
            ∙ append_assoc (take n now) (v ∷ []) (coming b on ys)
            ∙ ap (λ u. take n now ++ u) (step below carried here ys h.first)
            ∙ ap (λ z. take n now ++ coming below carried (z ∷ ys)) read
            ∙ ap (λ u. take n now ++ coming below carried u) (sym (drop_more now n here lt))
            ∙ h.parts;
      }

  last : (below : Bool) (carried : X) → (below ≡ false → carried ≡ item) → carried ∷ [] ≡ coming below carried []
  last true carried first = refl
  last false carried first = ap (λ z. z ∷ []) (first refl)

  pub carried_all : (old now : List X) (n : ℕ) (below : Bool) (carried : X) → n ≡ length now → Carried old now n below carried → now ++ carried ∷ [] ≡ placed ge item old
  carried_all old now n below carried e h =
      let none : drop n now ≡ [] = drop_all n now (omega arith) in
      ap₂ (λ u w. u ++ w) (sym (take_all n now (omega arith))) (last below carried h.first ∙ ap (λ u. coming below carried u) (sym none)) ∙ h.parts

module _ {X : Type 0} where
  short : (n : ℕ) (y : X) (ys : List X) → take n (y ∷ take n ys) ≡ take n (y ∷ ys)
  short zero y ys = refl
  short (suc n) y ys = ap (λ u. y ∷ u) (take-take n (suc n) ys (omega arith))

  pub placed_take : (ge : X → X → Bool) (k : ℕ) (x : X) (ys : List X) → take k (placed ge x (take k ys)) ≡ take k (placed ge x ys)
  placed_take ge zero x ys = refl
  placed_take ge (suc n) x [] = refl
  placed_take ge (suc n) x (y ∷ ys) =
      elim (ge y x) as (λ b. take (suc n) (cond b (y ∷ placed ge x (take n ys)) (x ∷ y ∷ take n ys)) ≡ take (suc n) (cond b (y ∷ placed ge x ys) (x ∷ y ∷ ys))) [
        | true ↦ ap (λ u. y ∷ u) (placed_take ge n x ys)
        | false ↦ ap (λ u. x ∷ u) (short n y ys)
      ]
