-- One number more of a text.
use Rattle.std.proofs.Common.{◌≡◌, ℕ, suc, ◌+◌, ◌-◌, ◌<◌, ◌≤◌, List, [], ◌∷◌, ◌++◌, map, length, ℤ, Some, None, sym, ap, ◌∙◌, arith}
use Rattle.std.proofs.lemmas.List.{append-nil, append_assoc, length-append}
use Rattle.scan.specs.Number.{number_of}
use Rattle.scan.specs.Words.{word_of, rest_of, after_by, after_number}
use Rattle.modelfile.specs.Taken.{taken, taken_by, left}

fuel : (most i : ℕ) → i < most → most - i ≡ suc (most - (i + 1))
fuel most i h = omega arith

taken_some : (most i : ℕ) (bs after : List ℕ) (z : ℤ) → i < most → number_of (word_of bs) ≡ Some z → after ≡ after_number bs
    → taken (most - i) bs ≡ z ∷ taken (most - (i + 1)) after
taken_some most i bs after z h n a =
    let here : after ≡ rest_of bs = a ∙ ap (λ o. after_by o bs (rest_of bs)) n in
    ap (λ f. taken f bs) (fuel most i h)
    ∙ (ap (λ o. taken_by o (taken (most - (i + 1)) (rest_of bs))) n ∙ ap (λ r. z ∷ taken (most - (i + 1)) r) (sym here))

left_some : (most i : ℕ) (bs after : List ℕ) (z : ℤ) → i < most → number_of (word_of bs) ≡ Some z → after ≡ after_number bs
    → left (most - i) bs ≡ left (most - (i + 1)) after
left_some most i bs after z h n a =
    let here : after ≡ rest_of bs = a ∙ ap (λ o. after_by o bs (rest_of bs)) n in
    ap (λ f. left f bs) (fuel most i h)
    ∙ (ap (λ o. after_by o bs (left (most - (i + 1)) (rest_of bs))) n ∙ ap (λ r. left (most - (i + 1)) r) (sym here))

taken_none : (most i : ℕ) (bs : List ℕ) → i < most → number_of (word_of bs) ≡ None → taken (most - i) bs ≡ []
taken_none most i bs h n = ap (λ f. taken f bs) (fuel most i h) ∙ ap (λ o. taken_by o (taken (most - (i + 1)) (rest_of bs))) n

left_none : (most i : ℕ) (bs after : List ℕ) → i < most → number_of (word_of bs) ≡ None → after ≡ after_number bs → left (most - i) bs ≡ after
left_none most i bs after h n a =
    ap (λ f. left f bs) (fuel most i h)
    ∙ (ap (λ o. after_by o bs (left (most - (i + 1)) (rest_of bs))) n ∙ sym (a ∙ ap (λ o. after_by o bs (rest_of bs)) n))

taken_end : (most i : ℕ) (bs : List ℕ) → most ≤ i → taken (most - i) bs ≡ []
taken_end most i bs h = let e : most - i ≡ 0 = omega arith in ap (λ f. taken f bs) e

left_end : (most i : ℕ) (bs : List ℕ) → most ≤ i → left (most - i) bs ≡ bs
left_end most i bs h = let e : most - i ≡ 0 = omega arith in ap (λ f. left f bs) e

-- numbers that are held one by one: those found so far, and those that still come first in the text, are all of them
module _ {X : Type 0} (held : ℤ → X) (most : ℕ) (found : List X) (bs after : List ℕ) (all : List X) (rest : List ℕ)
    (so : found ++ map held (taken (most - length found) bs) ≡ all) (on : left (most - length found) bs ≡ rest) where
  pub goes_on : length found < most → (z : ℤ) → number_of (word_of bs) ≡ Some z → after ≡ after_number bs → (longer : List X) → longer ≡ found ++ (held z ∷ [])
      → (longer ++ map held (taken (most - length longer) after) ≡ all) × (left (most - length longer) after ≡ rest)
  goes_on h z n a longer e =
      let i = length found in
      let later = taken (most - (i + 1)) after in
      let fewer : most - length longer ≡ most - (i + 1) = ap (λ xs. most - length xs) e ∙ ap (λ k. most - k) (length-append found (held z ∷ [])) in (
        ap (λ k. longer ++ map held (taken k after)) fewer
            ∙ ap (λ xs. xs ++ map held later) e
            ∙ append_assoc found (held z ∷ []) (map held later)
            ∙ ap (λ zs. found ++ map held zs) (sym (taken_some most i bs after z h n a))
            ∙ so,
        ap (λ k. left k after) fewer ∙ sym (left_some most i bs after z h n a) ∙ on,
      )

  nothing : taken (most - length found) bs ≡ [] → found ≡ all
  nothing e = sym (append-nil found) ∙ ap (λ zs. found ++ map held zs) (sym e) ∙ so

  pub stops : length found < most → number_of (word_of bs) ≡ None → after ≡ after_number bs → (found ≡ all) × (after ≡ rest)
  stops h n a = (nothing (taken_none most (length found) bs h n), sym (left_none most (length found) bs after h n a) ∙ on)

  pub is_full : most ≤ length found → (found ≡ all) × (bs ≡ rest)
  is_full h = (nothing (taken_end most (length found) bs h), sym (left_end most (length found) bs h) ∙ on)
