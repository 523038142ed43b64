-- Elements in two parts, and those whose groups are done.
use Rattle.std.proofs.Common.{◌≡◌, ℕ, zero, suc, ◌+◌, ◌*◌, ◌<◌, ◌≤◌, Bool, true, false, cond, ◌⊎◌, inl, inr, List, [], ◌∷◌, Option, Some, None, MatchOption, is_some, length, get_or, take, set, replicate, filter, fold, ℤ, pos, ◌+ℤ◌, nat_abs, refl, sym, ap, ◌∙◌, ⊎_elim, arith}
use Rattle.std.specs.Prelude.{◌==◌}
use Rattle.std.proofs.Math.IntN.{+ℤ_assoc, +ℤ_comm}
use Rattle.std.proofs.lemmas.Bool.{cases_Bool, cases_eq, cases_lt, eq-eqb, ne_eqb}
use Rattle.std.proofs.lemmas.List.{get_or-set_same, get_or-set_other, get_or_past, get_or-take, get_or-replicate, length-replicate, length-take}
use Rattle.std.proofs.lemmas.List.Elements.{All-from_get_or, All-filter}
use Rattle.std.proofs.lemmas.List.Sums.{length-filter, count_by-le-length}
use Rattle.models.specs.Meaning.{Meaning, Lawful}
use Rattle.tables.specs.Limits.{no_trade}
use Rattle.tables.specs.declared.row.TradeRow.{TradeRow}
use Rattle.market.specs.declared.day.Day.{Day}
use Rattle.risk.specs.declared.grouping.Grouping.{Grouping}
use Rattle.risk.specs.Groups.{TradeFits, Standing, key_of, in_group, group_trades}
use Rattle.risk.specs.Losses.{leg_of, loss_of, losses_of, var_of}
use Rattle.risk.specs.Signs.{signed_sum}
use Rattle.risk.proofs.Adds.{losses_are}
use Rattle.risk.proofs.Risks.{loss_most}
use Rattle.risk.proofs.Alones.{Known, filter_all, filter_none, nothing_known}

-- r tells what p and q tell, which never both do
abbrev Parted : Bool → Bool → Bool → Type 0
Parted p q r = ((p ≡ true) × (q ≡ false) × (r ≡ true)) ⊎ (((p ≡ false) × (q ≡ true) × (r ≡ true)) ⊎ ((p ≡ false) × (q ≡ false) × (r ≡ false)))

-- the filter of a list that has one more
module _ {X : Type 0} (p : X → Bool) (x : X) (xs : List X) where
  kept : p x ≡ true → filter p (x ∷ xs) ≡ x ∷ filter p xs
  kept e = ap (λ b. cond b (x ∷ filter p xs) (filter p xs)) e

  left : p x ≡ false → filter p (x ∷ xs) ≡ filter p xs
  left e = ap (λ b. cond b (x ∷ filter p xs) (filter p xs)) e

module _ {X : Type 0} (p q r : X → Bool) (parted : (x : X) → Parted (p x) (q x) (r x)) where
  length_more : (x : X) (xs : List X) → Parted (p x) (q x) (r x) → length (filter r xs) ≡ length (filter p xs) + length (filter q xs) → length (filter r (x ∷ xs)) ≡ length (filter p (x ∷ xs)) + length (filter q (x ∷ xs))
  length_more x xs (inl h) rest = omega (arith, ap length (kept p x xs h.0), ap length (left q x xs h.1), ap length (kept r x xs h.2))
  length_more x xs (inr (inl h)) rest = omega (arith, ap length (left p x xs h.0), ap length (kept q x xs h.1), ap length (kept r x xs h.2))
  length_more x xs (inr (inr h)) rest = omega (arith, ap length (left p x xs h.0), ap length (left q x xs h.1), ap length (left r x xs h.2))

  length_parts : (xs : List X) → length (filter r xs) ≡ length (filter p xs) + length (filter q xs)
  length_parts [] = refl
  length_parts (x ∷ xs) = length_more x xs (parted x) (length_parts xs)

  module _ (f : X → ℤ) where
    abbrev from : ℤ → List X → ℤ
    from a xs = fold (λ b x. b +ℤ f x) a xs

    abbrev Parts : List X → Type 0
    Parts xs = (a b : ℤ) → from (a +ℤ b) (filter r xs) ≡ from a (filter p xs) +ℤ from b (filter q xs)

    parts_more : (x : X) (xs : List X) → Parted (p x) (q x) (r x) → Parts xs → Parts (x ∷ xs)
    parts_more x xs (inl h) rest a b =
        rw (kept p x xs h.0, left q x xs h.1, kept r x xs h.2)
        (ap (λ z. from z (filter r xs)) (+ℤ_assoc a b (f x) ∙ ap (λ u. a +ℤ u) (+ℤ_comm b (f x)) ∙ sym (+ℤ_assoc a (f x) b)) ∙ rest (a +ℤ f x) b)
    parts_more x xs (inr (inl h)) rest a b =
        rw (left p x xs h.0, kept q x xs h.1, kept r x xs h.2)
        (ap (λ z. from z (filter r xs)) (+ℤ_assoc a b (f x)) ∙ rest a (b +ℤ f x))
    parts_more x xs (inr (inr h)) rest a b = rw (left p x xs h.0, left q x xs h.1, left r x xs h.2) (rest a b)

    parts : (xs : List X) → Parts xs
    parts [] = λ a b. refl
    parts (x ∷ xs) = parts_more x xs (parted x) (parts xs)

    sum_parts : (xs : List X) → signed_sum f (filter r xs) ≡ signed_sum f (filter p xs) +ℤ signed_sum f (filter q xs)
    sum_parts xs = parts xs (pos 0) (pos 0)

-- whether the group of an element is done: something is known of it
abbrev pub done : {X : Type 0} → (X → ℕ) → List (Option ℕ) → X → Bool
done key vs x = is_some (get_or vs (key x) None)

module _ {X : Type 0} (key : X → ℕ) where
  -- a group more is done
  done_more : (vs : List (Option ℕ)) (k v : ℕ) → k < length vs → is_some (get_or vs k None) ≡ false → (x : X) → Parted (done key vs x) (key x == k) (done key (set vs k (Some v)) x)
  done_more vs k v lt new x =
      ⊎_elim
      (λ same. inr (inl (ap (λ i. is_some (get_or vs i None)) same ∙ new, eq-eqb (key x) k same, ap (λ i. is_some (get_or (set vs k (Some v)) i None)) same ∙ ap is_some (get_or-set_same vs k (Some v) None lt))))
      (λ other.
      let q = ne_eqb (key x) k other in
      let r = ap is_some (get_or-set_other vs k (key x) (Some v) None other) in
      ⊎_elim (λ t. inl (t, q, r ∙ t)) (λ f. inr (inr (f, q, r ∙ f))) (cases_Bool (done key vs x)))
      (cases_eq (key x) k)

  none_done : (n : ℕ) (xs : List X) (d : X) → filter (done key (replicate n None)) xs ≡ []
  none_done n xs d = filter_none (done key (replicate n None)) xs (All-from_get_or (λ x. done key (replicate n None) x ≡ false) xs d (λ i lt. ap is_some (nothing_known n (key (get_or xs i d)))))

  not_nil : (p : X → Bool) (xs : List X) (i : ℕ) (d : X) → i < length xs → p (get_or xs i d) ≡ true → filter p xs ≡ [] → ⊥
  not_nil p [] i d lt here none = omega arith
  not_nil p (x ∷ xs) zero d lt here none = let e = ap length (sym (kept p x xs here) ∙ none) in omega arith
  not_nil p (x ∷ xs) (suc i) d lt here none =
      ⊎_elim
      (λ t. let e = ap length (sym (kept p x xs t) ∙ none) in omega arith)
      (λ f. not_nil p xs i d (omega arith) here (sym (left p x xs f) ∙ none))
      (cases_Bool (p x))

  some_unless : (o : Option ℕ) (P : Type 0) (Q : ℕ → Type 0) → (P → ⊥) → MatchOption o P Q → is_some o ≡ true
  some_unless None P Q un h = absurd (un h)
  some_unless (Some v) P Q un h = refl

  -- where each group with elements has its value, all elements are done
  all_done : (value : ℕ → ℕ) (vs : List (Option ℕ)) (xs : List X) (d : X) → ((k : ℕ) → Known key value vs xs k) → filter (done key vs) xs ≡ xs
  all_done value vs xs d known =
      filter_all (done key vs) xs
      (All-from_get_or (λ x. done key vs x ≡ true) xs d
      (λ i lt. let k = key (get_or xs i d) in some_unless (get_or vs k None) _ _ (not_nil (λ x. key x == k) xs i d lt (eq-eqb k k refl)) (known k)))

-- losses of 0, before any are added
noughts : (k n j : ℕ) → get_or (take n (replicate k (pos 0))) j (pos 0) ≡ pos 0
noughts k n j =
    ⊎_elim
    (λ lt. get_or-take n (replicate k (pos 0)) j (pos 0) lt ∙ ⊎_elim (λ in'. get_or-replicate k j (pos 0) (pos 0) in') (λ out. get_or_past (replicate k (pos 0)) j (pos 0) (omega (arith, length-replicate k (pos 0)))) (cases_lt j k))
    (λ past. get_or_past (take n (replicate k (pos 0))) j (pos 0) (omega (arith, length-take n (replicate k (pos 0)))))
    (cases_lt j n)

-- the trades whose groups are done, and what they lose
module _ (m : Meaning) (d : Day) (g : Grouping) (ts : List TradeRow) where
  abbrev pub done_trades : List (Option ℕ) → List TradeRow
  done_trades vs = filter (done (key_of g d) vs) ts

  -- at first: losses of 0, of which the first c are read, and nothing known of n groups
  pub none_lost : (n k c j : ℕ) → get_or (take c (replicate k (pos 0))) j (pos 0) ≡ loss_of m d j (done_trades (replicate n None))
  none_lost n k c j = noughts k c j ∙ sym (ap (loss_of m d j) (none_done (key_of g d) n ts no_trade))

  pub all_lost : (vs : List (Option ℕ)) (xs : List ℤ) → length xs ≡ m.scenarios → ((k : ℕ) → Known (key_of g d) (λ q. var_of m d (group_trades g d q ts)) vs ts k) → ((j : ℕ) → j < length xs → get_or xs j (pos 0) ≡ loss_of m d j (done_trades vs)) → xs ≡ losses_of m d ts
  all_lost vs xs len known is =
      losses_are m d ts xs len (λ j h. is j (omega (arith, len)) ∙ ap (loss_of m d j) (all_done (key_of g d) (λ q. var_of m d (group_trades g d q ts)) vs ts no_trade known))

  -- group k, whose trades are us, is not done yet
  module _ (vs : List (Option ℕ)) (k : ℕ) (us : List TradeRow) (lt : k < length vs) (new : is_some (get_or vs k None) ≡ false) (them : us ≡ group_trades g d k ts) where
    pub group_small : (xs : List ℤ) → Lawful m → Standing ts → ((j : ℕ) → j < length xs → get_or xs j (pos 0) ≡ loss_of m d j (done_trades vs)) → (j : ℕ) → nat_abs (get_or xs j (pos 0)) + 2000000000000 * length us ≤ 128000000000000
    unfolding group_trades
    group_small xs law h is j =
        let r = done (key_of g d) (set vs k (Some 0)) in
        let few = length_parts (done (key_of g d) vs) (in_group g d k) r (done_more (key_of g d) vs k 0 lt new) ts in
        let same = ap length them in
        let most : length (filter r ts) ≤ length ts = omega (arith, length-filter r ts, count_by-le-length r ts) in
        ⊎_elim
        (λ in'. let e = ap nat_abs (is j in') in omega (arith, few, most, same, h.few, loss_most m d j (done_trades vs) law (All-filter (done (key_of g d) vs) TradeFits ts h.each)))
        (λ past. let e = ap nat_abs (get_or_past xs j (pos 0) past) in omega (arith, few, most, same, h.few))
        (cases_lt j (length xs))

    -- x is a loss before the group, and y after it
    pub group_more : (v j : ℕ) (x y : ℤ) → x ≡ loss_of m d j (done_trades vs) → y ≡ x +ℤ loss_of m d j us → y ≡ loss_of m d j (done_trades (set vs k (Some v)))
    unfolding group_trades
    group_more v j x y so_far is =
        is
        ∙ ap (λ u. u +ℤ loss_of m d j us) so_far
        ∙ ap (λ ys. loss_of m d j (done_trades vs) +ℤ loss_of m d j ys) them
        ∙ sym (sum_parts (done (key_of g d) vs) (in_group g d k) (done (key_of g d) (set vs k (Some v))) (done_more (key_of g d) vs k v lt new) (leg_of m d j) ts)
