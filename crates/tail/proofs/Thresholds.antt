-- What a threshold rules out: where at least k entries reach it, the k highest are among those that do.
use Rattle.std.proofs.Common.{◌≡◌, ℕ, zero, suc, ◌+◌, ◌-◌, ◌*◌, ◌/◌, ◌<◌, ◌≤◌, Bool, true, false, cond, List, [], ◌∷◌, ◌++◌, length, get_or, take, drop, fold, count_by, Option, None, Some, IfSome, IsSomeAnd, MatchOption, ◌⊎◌, inl, inr, ⊎_elim, sym, refl, ap, ◌∙◌, subst, true≢false, arith, append_assoc, length-append, length-drop}
use denote.Ref.{Bor}
use denote.Param.Members.{Shared}
use Rattle.std.specs.Fn.{FnReturnsAt}
use Rattle.std.specs.List.{AllByRecursion, ContainsAt, filter}
use Rattle.std.proofs.Math.Nat.{mul-div-le, mul-le-mul_right, add-mul}
use Rattle.std.proofs.Math.Seq.{take-nil}
use Rattle.std.proofs.lemmas.Bool.{cases_lt, false_from_ne_true}
use Rattle.std.proofs.lemmas.List.{append-nil, take_all, take-take, take-append-drop}
use Rattle.std.proofs.lemmas.List.Elements.{filter-append}
use Rattle.std.proofs.lemmas.List.Sums.{length-filter, count_by-le-length, sum_by-append}
use Rattle.std.proofs.ByRecursion.{All-weaker, all_has_itself}
use Rattle.tail.proofs.Kths.{Falls, one, itself, count_cons, count_none, falls_placed, falls_ranked, count_ranked, holds_stays}
use Rattle.tail.specs.Tail.{Orders, Holds, placed, ranked, count_at_least}

module _ {X : Type 0} (ge : X → X → Bool) (t : X) where
  abbrev pub reaching : List X → List X
  reaching xs = filter (λ x. ge x t) xs

  -- an entry that does not reach t goes behind those that do
  placed_misses : (x : X) (ys : List X) → ge x t ≡ false → reaching (placed ge x ys) ≡ reaching ys
  placed_misses x [] e = rw e
  placed_misses x (y ∷ ys) e =
      elim (ge y x) as (λ b. reaching (cond b (y ∷ placed ge x ys) (x ∷ y ∷ ys)) ≡ reaching (y ∷ ys)) [
        | true ↦ ap (λ l. cond (ge y t) (y ∷ l) l) (placed_misses x ys e)
        | false ↦ rw e
      ]

  -- where all are below x, it goes in front, and so it does among those that reach t
  placed_first : (x : X) (ys : List X) → AllByRecursion (λ z. ge z x ≡ false) ys → placed ge x (reaching ys) ≡ x ∷ reaching ys
  placed_first x [] h = refl
  placed_first x (y ∷ ys) h =
      elim (ge y t) as (λ b. placed ge x (cond b (y ∷ reaching ys) (reaching ys)) ≡ x ∷ cond b (y ∷ reaching ys) (reaching ys)) [
        | true ↦ ap (λ b. cond b (y ∷ placed ge x (reaching ys)) (x ∷ y ∷ reaching ys)) h.0
        | false ↦ placed_first x ys h.1
      ]

module _ {X : Type 0} {ge : X → X → Bool} (o : Orders ge) (t : X) where
  -- an entry that reaches t goes to the same place among those that do
  placed_reaches : (x : X) (ys : List X) → ge x t ≡ true → Falls ge ys → reaching ge t (placed ge x ys) ≡ placed ge x (reaching ge t ys)
  placed_reaches x [] e f = rw e
  placed_reaches x (y ∷ ys) e f =
      let by : (b : Bool) → ge y x ≡ b → reaching ge t (cond b (y ∷ placed ge x ys) (x ∷ y ∷ ys)) ≡ placed ge x (reaching ge t (y ∷ ys)) = λ b. elim b as (λ v. ge y x ≡ v → reaching ge t (cond v (y ∷ placed ge x ys) (x ∷ y ∷ ys)) ≡ placed ge x (reaching ge t (y ∷ ys))) [
        | true ↦ λ up.
            let high : ge y t ≡ true = o.chain y x t up e in
            rw (high, up) (ap (λ u. y ∷ u) (placed_reaches x ys e f.1))
        | false ↦ λ down.
            let below : AllByRecursion (λ z. ge z x ≡ false) ys = All-weaker (λ z. ge y z ≡ true) (λ z. ge z x ≡ false) (λ z up. false_from_ne_true (ge z x) (λ k. true≢false (sym (o.chain y z x up k) ∙ down))) ys f.0 in
            ap (λ b. cond b (x ∷ reaching ge t (y ∷ ys)) (reaching ge t (y ∷ ys))) e
            ∙ sym (placed_first ge t x (y ∷ ys) (down, below))
      ] in
      by (ge y x) refl

  abbrev onto : List X → List X → List X
  onto acc xs = fold (λ ys x. placed ge x ys) acc xs

  reaching_onto : (acc xs : List X) → Falls ge acc → reaching ge t (onto acc xs) ≡ onto (reaching ge t acc) (reaching ge t xs)
  reaching_onto acc [] f = refl
  reaching_onto acc (x ∷ xs) f =
      let by : (b : Bool) → ge x t ≡ b → reaching ge t (onto (placed ge x acc) xs) ≡ onto (reaching ge t acc) (cond b (x ∷ reaching ge t xs) (reaching ge t xs)) = λ b. elim b as (λ v. ge x t ≡ v → reaching ge t (onto (placed ge x acc) xs) ≡ onto (reaching ge t acc) (cond v (x ∷ reaching ge t xs) (reaching ge t xs))) [
        | true ↦ λ e. reaching_onto (placed ge x acc) xs (falls_placed o x acc f) ∙ ap (λ u. onto u (reaching ge t xs)) (placed_reaches x acc e f)
        | false ↦ λ e. reaching_onto (placed ge x acc) xs (falls_placed o x acc f) ∙ ap (λ u. onto u (reaching ge t xs)) (placed_misses ge t x acc e)
      ] in
      by (ge x t) refl

  -- of entries from the highest down, those that reach t stand first
  reaching_first : (k : ℕ) (ys : List X) → Falls ge ys → k ≤ count_at_least ge t ys → take k (reaching ge t ys) ≡ take k ys
  reaching_first zero ys f le = refl
  reaching_first (suc k) [] f le = refl
  reaching_first (suc k) (y ∷ ys) f le =
      let c = count_cons (λ x. ge x t) y ys in
      let by : (b : Bool) → ge y t ≡ b → take (suc k) (cond b (y ∷ reaching ge t ys) (reaching ge t ys)) ≡ y ∷ take k ys = λ b. elim b as (λ v. ge y t ≡ v → take (suc k) (cond v (y ∷ reaching ge t ys) (reaching ge t ys)) ≡ y ∷ take k ys) [
        | true ↦ λ e.
            let n : one (ge y t) ≡ 1 = ap one e in
            ap (λ u. y ∷ u) (reaching_first k ys f.1 (omega arith))
        | false ↦ λ e.
            let n : one (ge y t) ≡ 0 = ap one e in
            let none : AllByRecursion (λ z. ge z t ≡ false) ys = All-weaker (λ z. ge y z ≡ true) (λ z. ge z t ≡ false) (λ z up. false_from_ne_true (ge z t) (λ k. true≢false (sym (o.chain y z t up k) ∙ e))) ys f.0 in
            let z = count_none (λ x. ge x t) ys none in
            absurd (omega arith)
      ] in
      by (ge y t) refl

  pub ranked_reaching : (k : ℕ) (xs : List X) → k ≤ count_at_least ge t xs → take k (ranked ge (reaching ge t xs)) ≡ take k (ranked ge xs)
  ranked_reaching k xs le =
      ap (take k) (sym (reaching_onto [] xs tt))
      ∙ reaching_first k (ranked ge xs) (falls_ranked o xs) (omega (arith, count_ranked ge (λ x. ge x t) xs))

module _ {X : Type 0} where
  pub first_and_others : (ys : List X) (x : X) → 1 ≤ length ys → x ≡ get_or ys 0 x → ys ≡ x ∷ take (length ys - 1) (drop 1 ys)
  first_and_others [] x le read = absurd (omega arith)
  first_and_others (y ∷ ys) x le read = ap (λ z. z ∷ ys) (sym read) ∙ ap (λ u. x ∷ u) (sym (take_all (suc (length ys) - 1) ys (omega arith)))

-- of none, no place is in use
pub holds_none : {X : Type 0} (ge : X → X → Bool) (ps : List X) → Holds ge [] 0 ps
holds_none ge ps = record { count = omega arith; top = sym (take-nil (length ps)) }

-- what reaches the threshold, where there is one
abbrev pub of_bar : {X : Type 0} → (X → X → Bool) → Option X → List X → List X
of_bar ge None xs = xs
of_bar ge (Some t) xs = reaching ge t xs

-- through the entries that are done: what the places hold, they hold of some that are those done but for what does not reach the threshold
pub record Kept {X : Type 0} (ge : X → X → Bool) (bar : Option X) (xs rest : List X) (f : ℕ) (ps : List X) : Type 0 where
  pub done : List X
  pub some : List X
  pub parts : xs ≡ done ++ rest
  pub same : of_bar ge bar some ≡ of_bar ge bar done
  pub holds : Holds ge some f ps

module _ {X : Type 0} {ge : X → X → Bool} (o : Orders ge) where
  -- where every place is in use, what the lowest that is kept reaches changes nothing
  pub holds_with : (xs gone ps : List X) (f : ℕ) (l : X) → f ≡ length ps → 0 < f → l ≡ get_or ps (f - 1) l → AllByRecursion (λ y. ge l y ≡ true) gone → Holds ge xs f ps → Holds ge (xs ++ gone) f ps
  holds_with xs [] ps f l full some at h k = subst (λ u. Holds ge u f ps) (sym (append-nil xs)) k
  holds_with xs (x ∷ gone) ps f l full some at h k =
      subst (λ u. Holds ge u f ps) (append_assoc xs (x ∷ []) gone)
      (holds_with (xs ++ x ∷ []) gone ps f l full some at h.1 (holds_stays o xs ps f l x full some at (sym h.0) k))

module _ {X : Type 0} (ge : X → X → Bool) where
  misses : (t : X) (gone : List X) → AllByRecursion (λ y. ge y t ≡ false) gone → reaching ge t gone ≡ []
  misses t [] h = refl
  misses t (x ∷ gone) h = rw h.0 (misses t gone h.1)

  with_more : (bar : Option X) (some done more : List X) → of_bar ge bar some ≡ of_bar ge bar done → of_bar ge bar (some ++ more) ≡ of_bar ge bar (done ++ more)
  with_more None some done more e = ap (λ u. u ++ more) e
  with_more (Some t) some done more e =
      filter-append (λ y. ge y t) some more ∙ ap (λ u. u ++ reaching ge t more) e ∙ sym (filter-append (λ y. ge y t) done more)

  with_missed : (bar : Option X) (done gone : List X) → IsSomeAnd bar (λ t. AllByRecursion (λ y. ge y t ≡ false) gone) → of_bar ge bar done ≡ of_bar ge bar (done ++ gone)
  with_missed None done gone h = absurd h
  with_missed (Some t) done gone h =
      sym (append-nil (reaching ge t done)) ∙ ap (λ u. reaching ge t done ++ u) (sym (misses t gone h)) ∙ sym (filter-append (λ y. ge y t) done gone)

module _ {X : Type 0} (ge : X → X → Bool) (bar : Option X) (xs : List X) where
  pub kept_none : (ps : List X) → Kept ge bar xs xs 0 ps
  kept_none ps = record { done = []; some = []; parts = refl; same = refl; holds = holds_none ge ps }

  -- what does not reach the threshold is passed over
  kept_below : (gone rest : List X) (f : ℕ) (ps : List X) → IsSomeAnd bar (λ t. AllByRecursion (λ y. ge y t ≡ false) gone) → Kept ge bar xs (gone ++ rest) f ps → Kept ge bar xs rest f ps
  kept_below gone rest f ps h k = record {
    done = k.done ++ gone;
    some = k.some;
    parts = k.parts ∙ sym (append_assoc k.done gone rest);
    same = k.same ∙ with_missed ge bar k.done gone h;
    holds = k.holds;
  }

  -- more are done, whether they are kept or change nothing
  kept_with : (more rest : List X) (f r : ℕ) (ps qs : List X) → ((ys : List X) → Holds ge ys f ps → Holds ge (ys ++ more) r qs) → Kept ge bar xs (more ++ rest) f ps → Kept ge bar xs rest r qs
  kept_with more rest f r ps qs step k = record {
    done = k.done ++ more;
    some = k.some ++ more;
    parts = k.parts ∙ sym (append_assoc k.done more rest);
    same = with_more ge bar k.some k.done more k.same;
    holds = step k.some k.holds;
  }

  pub kept_from : (left : List X) (f : ℕ) (ps rest : List X)
      → (gone : List X) × (left ≡ gone ++ rest) × (IsSomeAnd bar (λ t. AllByRecursion (λ y. ge y t ≡ false) gone) ⊎ ((ys : List X) → Holds ge ys f ps → Holds ge (ys ++ gone) f ps))
      → Kept ge bar xs left f ps → Kept ge bar xs rest f ps
  kept_from left f ps rest p k =
      let here : Kept ge bar xs (p.0 ++ rest) f ps = subst (λ u. Kept ge bar xs u f ps) p.1 k in
      elim p.2 [
        | inl missed ↦ kept_below p.0 rest f ps missed here
        | inr stays ↦ kept_with p.0 rest f f ps ps stays here
      ]

  pub kept_more : (left : List X) (x : X) (f r : ℕ) (ps qs : List X) → 1 ≤ length left → x ≡ get_or left 0 x → ((ys : List X) → Holds ge ys f ps → Holds ge (ys ++ x ∷ []) r qs) → Kept ge bar xs left f ps → Kept ge bar xs (take (length left - 1) (drop 1 left)) r qs
  kept_more left x f r ps qs le read step k =
      kept_with (x ∷ []) (take (length left - 1) (drop 1 left)) f r ps qs step (subst (λ u. Kept ge bar xs u f ps) (first_and_others left x le read) k)

module _ {X : Type 0} {ge : X → X → Bool} (o : Orders ge) (xs : List X) where
  -- the end: of all entries the places hold the same
  pub kept_all : (bar : Option X) (f : ℕ) (ps : List X) → IfSome bar (λ t. length ps ≤ count_at_least ge t xs) → Kept ge bar xs [] f ps → Holds ge xs f ps
  kept_all None f ps le k = subst (λ u. Holds ge u f ps) (k.same ∙ sym (k.parts ∙ append-nil k.done)) k.holds
  kept_all (Some t) f ps le k =
      let n = length ps in
      let all : xs ≡ k.done = k.parts ∙ append-nil k.done in
      let same : reaching ge t k.some ≡ reaching ge t xs = k.same ∙ ap (reaching ge t) (sym all) in
      let h = k.holds in
      let c = h.count in
      let as_many : count_at_least ge t k.some ≡ count_at_least ge t xs = sym (length-filter (λ x. ge x t) k.some) ∙ ap length same ∙ length-filter (λ x. ge x t) xs in
      record {
        count = omega (arith, count_by-le-length (λ x. ge x t) k.some, count_by-le-length (λ x. ge x t) xs);
        top =
            h.top
            ∙ sym (ranked_reaching o t n k.some (omega arith))
            ∙ ap (λ u. take n (ranked ge u)) same
            ∙ ranked_reaching o t n xs le;
      }

module _ {X : Type 0} where
  all_append : (P : X → Type 0) (xs ys : List X) → AllByRecursion P xs → AllByRecursion P ys → AllByRecursion P (xs ++ ys)
  all_append P [] ys h k = k
  all_append P (x ∷ xs) ys h k = (h.0, all_append P xs ys h.1 k)

  -- the first four that are left
  pub first_four : (ys : List X) (a b c d : X) → 4 ≤ length ys → a ≡ get_or ys 0 a → b ≡ get_or ys 1 b → c ≡ get_or ys 2 c → d ≡ get_or ys 3 d → take 4 ys ≡ a ∷ b ∷ c ∷ d ∷ []
  first_four [] a b c d le p q r s = absurd (omega arith)
  first_four (_ ∷ []) a b c d le p q r s = absurd (omega arith)
  first_four (_ ∷ _ ∷ []) a b c d le p q r s = absurd (omega arith)
  first_four (_ ∷ _ ∷ _ ∷ []) a b c d le p q r s = absurd (omega arith)
  first_four (w ∷ x ∷ y ∷ z ∷ ys) a b c d le p q r s = rw (p, q, r, s)

  first_some : (ys : List X) (a b c d : X) (n : ℕ) → n ≤ 3 → take 4 ys ≡ a ∷ b ∷ c ∷ d ∷ [] → take n (a ∷ b ∷ c ∷ []) ≡ take n ys
  first_some ys a b c d n le e = take-take n 3 (a ∷ b ∷ c ∷ d ∷ []) le ∙ ap (take n) (sym e) ∙ take-take n 4 ys (omega arith)

  -- a loop that passes over what fails: the first n that are left go
  pub gone_more : (P : X → Type 0) (xs rest : List X) (n : ℕ) → n ≤ length rest → AllByRecursion P (take n rest) → (gone : List X) × (xs ≡ gone ++ rest) × AllByRecursion P gone
      → (gone : List X) × (xs ≡ gone ++ take (length rest - n) (drop n rest)) × AllByRecursion P gone
  gone_more P xs rest n le fail h =
      let after : take (length rest - n) (drop n rest) ≡ drop n rest = take_all (length rest - n) (drop n rest) (omega (arith, length-drop n rest)) in (
        h.0 ++ take n rest,
        h.1 ∙ ap (λ u. h.0 ++ u) (sym (take-append-drop n rest)) ∙ sym (append_assoc h.0 (take n rest) (drop n rest)) ∙ ap (λ u. (h.0 ++ take n rest) ++ u) (sym after),
        all_append P h.0 (take n rest) h.2 fail,
      )

module _ {X : Type 0} (ge : X → X → Bool) where
  fold_among : (P : X → Type 0) (x : X) (xs : List X) → P x → AllByRecursion P xs → P (fold (λ a b. cond (ge a b) a b) x xs)
  fold_among P x [] h k = h
  fold_among P x (y ∷ ys) h k = fold_among P (cond (ge x y) x y) ys (elim (ge x y) as (λ b. P (cond b x y)) [ true ↦ h | false ↦ k.0 ]) k.1

  -- the higher of each two is one of them
  pub best_among : (Acts : (X → X → X) → Type 0) (xs items : List X) (n : ℕ) (r : Option X) → items ≡ xs → n ≡ length items → Acts (λ a b. cond (ge a b) a b)
      → MatchOption r (n ≡ 0) (λ y. (0 < n) × ((z : X) × (zs : List X) × (items ≡ z ∷ zs) × ((h : X → X → X) → Acts h → y ≡ fold h z zs))) → MatchOption r (length xs ≡ 0) (ContainsAt xs)
  best_among Acts xs items n None e len acts none = omega (arith, ap length e)
  best_among Acts xs items n (Some y) e len acts some =
      let q = some.1 in
      let all : AllByRecursion (ContainsAt xs) (q.0 ∷ q.1) = subst (AllByRecursion (ContainsAt xs)) (sym e ∙ q.2) (all_has_itself xs) in
      subst (ContainsAt xs) (sym (q.3 (λ a b. cond (ge a b) a b) acts)) (fold_among (ContainsAt xs) q.0 q.1 all.0 all.1)

-- of three entries, those before the first that does not fail, and how many they are
before_three : {X : Type 0} (P : X → Type 0) (x y z : X) (a b c : Bool) → (a ≡ false → P x) → (b ≡ false → P y) → (c ≡ false → P z)
    → (cond a 0 (cond b 1 (cond c 2 3)) ≤ 3) × AllByRecursion P (take (cond a 0 (cond b 1 (cond c 2 3))) (x ∷ y ∷ z ∷ []))
before_three P x y z true b c h k l = (omega arith, tt)
before_three P x y z false true c h k l = (omega arith, (h refl, tt))
before_three P x y z false false true h k l = (omega arith, (h refl, (k refl, tt)))
before_three P x y z false false false h k l = (omega arith, (h refl, (k refl, (l refl, tt))))

-- the same of the first four that are left
pub before_wanted : {X : Type 0} (P : X → Type 0) (ys : List X) (x y z last : X) (a b c : Bool) (n : ℕ) → n ≡ cond a 0 (cond b 1 (cond c 2 3)) → take 4 ys ≡ x ∷ y ∷ z ∷ last ∷ [] → (a ≡ false → P x) → (b ≡ false → P y) → (c ≡ false → P z)
    → (n ≤ 3) × AllByRecursion P (take n ys)
before_wanted P ys x y z last a b c n is four h k l =
    let three = before_three P x y z a b c h k l in
    let le : n ≤ 3 = omega (arith, is, three.0) in
    (le, subst (AllByRecursion P) (first_some ys x y z last n le four) (subst (λ m. AllByRecursion P (take m (x ∷ y ∷ z ∷ []))) (sym is) three.1))

-- what a call at a reference gave
pub fails_at : {F X : Type 0} (g : Shared F (Bor X × Unit {0}) Bool) (f : F) (p : Bor X) (b : Bool) → g.post f (p, tt) b → b ≡ false → FnReturnsAt g f p.now false
fails_at g f p b met e = record { shown = p; shows = refl; says = record { met = subst (g.post f (p, tt)) e met } }

-- n chunks of xs are through, each of so many entries, and rest is left: as many of xs reach what l reaches as of the rest, and n more
pub record Reached {X : Type 0} (ge : X → X → Bool) (xs : List X) (size n : ℕ) (rest : List X) (l : X) : Type 0 where
  pub long : n * size + length rest ≡ length xs
  pub counts : (m : X) → ge l m ≡ true → n + count_at_least ge m rest ≤ count_at_least ge m xs

module _ {X : Type 0} {ge : X → X → Bool} (o : Orders ge) where
  counts_one : (p : X → Bool) (xs : List X) (k : ℕ) (x : X) → k < length xs → x ≡ get_or xs k x → p x ≡ true → 1 ≤ count_by p xs
  counts_one p [] k x lt read e = absurd (omega arith)
  counts_one p (y ∷ ys) zero x lt read e =
      let n : one (p y) ≡ 1 = ap one (subst (λ z. p z ≡ true) read e) in
      omega (arith, count_cons p y ys)
  counts_one p (y ∷ ys) (suc k) x lt read e = omega (arith, count_cons p y ys, counts_one p ys k x (omega arith) read e)

  -- as many of the chunk and the rest reach m as of the rest, and one more
  chunk_counts : (rest after chunk : List X) (x m : X) → rest ≡ chunk ++ after → ContainsAt chunk x → ge x m ≡ true → 1 + count_at_least ge m after ≤ count_at_least ge m rest
  chunk_counts rest after chunk x m parts at e =
      let one_of : 1 ≤ count_at_least ge m chunk = counts_one (λ y. ge y m) chunk at.0 x at.1 (sym (at.2 x)) e in
      let both : count_at_least ge m rest ≡ count_at_least ge m chunk + count_at_least ge m after = ap (count_at_least ge m) parts ∙ sum_by-append (λ y. one (ge y m)) chunk after in
      omega arith

  pub reached_first : (xs after chunk : List X) (size : ℕ) (x : X) → xs ≡ chunk ++ after → length chunk ≡ size → ContainsAt chunk x → Reached ge xs size 1 after x
  reached_first xs after chunk size x parts len at = record {
    long = omega (arith, ap length parts, length-append chunk after);
    counts = λ m e. chunk_counts xs after chunk x m parts at e;
  }

  -- one chunk more: the lower of the two stands for all
  pub reached_more : (xs rest after chunk : List X) (size n : ℕ) (l x r : X) → rest ≡ chunk ++ after → length chunk ≡ size → ContainsAt chunk x → r ≡ cond (ge l x) x l → Reached ge xs size n rest l → Reached ge xs size (n + 1) after r
  reached_more xs rest after chunk size n l x r parts len at low h = record {
    long =
        let more : (n + 1) * size ≡ n * size + size = omega (arith, add-mul n 1 size) in
        omega (arith, h.long, ap length parts, length-append chunk after);
    counts = λ m e.
        let by : (b : Bool) → ge l x ≡ b → ge (cond b x l) m ≡ true → (ge l m ≡ true) × (ge x m ≡ true) = λ b. elim b as (λ v. ge l x ≡ v → ge (cond v x l) m ≡ true → (ge l m ≡ true) × (ge x m ≡ true)) [
          | true ↦ λ up k. (o.chain l x m up k, k)
          | false ↦ λ down k. (k, o.chain x l m (o.any_two l x down) k)
        ] in
        let two = by (ge l x) refl (subst (λ z. ge z m ≡ true) low e) in
        omega (arith, h.counts m two.0, chunk_counts rest after chunk x m parts at two.1);
  }

  -- the end: what is left is no whole chunk
  pub reached_all : (xs rest : List X) (k size n : ℕ) (l : X) → size ≡ length xs / k → length rest < size → Reached ge xs size n rest l → k ≤ count_at_least ge l xs
  reached_all xs rest k size n l is few h =
      let c = h.counts l (itself o l) in
      let enough : k ≤ n = ⊎_elim
      (λ (lt : n < k).
      let a : (n + 1) * size ≤ k * size = mul-le-mul_right size (omega arith) in
      let b : k * size ≤ length xs = subst (λ s. k * s ≤ length xs) (sym is) (mul-div-le (length xs) k) in
      let more : (n + 1) * size ≡ n * size + size = omega (arith, add-mul n 1 size) in
      absurd (omega (arith, h.long)))
      (λ (le : k ≤ n). le)
      (cases_lt n k) in
      omega arith
