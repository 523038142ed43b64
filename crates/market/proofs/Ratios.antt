-- The highest of the ratios, and the per cent that it gives.
use Rattle.std.proofs.Common.{◌≡◌, ℕ, zero, suc, ◌-◌, ◌*◌, ◌<◌, ◌≤◌, min, max, Bool, true, false, cond, leb, nat_lt, ◌⊎◌, List, [], ◌∷◌, length, get_or, Some, None, count_by, Option, sym, refl, ap, ap₂, ◌∙◌, subst, inl, inr, ⊎_elim, mul_assoc, arith, MatchOption}
use Rattle.std.specs.List.{zip}
use Rattle.std.proofs.lemmas.List.Sums.{get_or-le-sum_by}
use Rattle.std.proofs.lemmas.Bool.{cases_eq, leb-true, leb-false, le-leb}
use Rattle.tail.specs.Tail.{Kth, Short}
use Rattle.tail.specs.declared.ratio.Ratio.{Ratio}
use Rattle.tail.specs.Crosses.{cross_chain}
use Rattle.tables.specs.Numbers.{rounded_up}
use Rattle.tables.proofs.Numbers.{rounded_up_mono}
use Rattle.market.specs.Volatility.{ratio_at, higher, highest_upto, highest, tenths_of, exceeding, Highest, RatioFound}

-- p is not below q
abbrev pub Tops : ℕ × ℕ → ℕ × ℕ → Type 0
Tops p q = q.0 * p.1 ≤ p.0 * q.1

higher_tops : (p q : ℕ × ℕ) → Tops (higher p q) p × Tops (higher p q) q
higher_tops p q =
    let go : (b : Bool) → leb (q.0 * p.1) (p.0 * q.1) ≡ b → Tops (cond b p q) p × Tops (cond b p q) q =
    λ b. elim b as (λ v. leb (q.0 * p.1) (p.0 * q.1) ≡ v → Tops (cond v p q) p × Tops (cond v p q) q) [
      | true ↦ λ e. (omega arith, leb-true _ _ e)
      | false ↦ λ e. (let l = leb-false (q.0 * p.1) (p.0 * q.1) e in omega arith, omega arith)
    ] in
    go (leb (q.0 * p.1) (p.0 * q.1)) refl

higher_one : (p q : ℕ × ℕ) → (higher p q ≡ p) ⊎ (higher p q ≡ q)
higher_one p q = elim (leb (q.0 * p.1) (p.0 * q.1)) as (λ b. (cond b p q ≡ p) ⊎ (cond b p q ≡ q)) [ true ↦ inl refl | false ↦ inr refl ]

module _ (r : ℕ → ℕ × ℕ) (some : (i : ℕ) → 1 ≤ (r i).1) where
  pub highest_one : (n : ℕ) → (j : ℕ) × ((j ≤ n) × (highest_upto r n ≡ r j))
  highest_one zero = (0, (omega arith, refl))
  highest_one (suc n) =
      let before = highest_one n in
      elim (higher_one (highest_upto r n) (r (suc n))) [
        | inl e ↦ (before.0, (omega (arith, before.1.0), e ∙ before.1.1))
        | inr e ↦ (suc n, (omega arith, e))
      ]

  pub highest_tops : (n i : ℕ) → i ≤ n → Tops (highest_upto r n) (r i)
  highest_tops zero i h = let e : i ≡ 0 = omega arith in subst (λ k. Tops (r 0) (r k)) (sym e) (omega arith)
  highest_tops (suc n) i h =
      let p = highest_upto r n in
      let q = r (suc n) in
      let tops = higher_tops p q in
      elim (cases_eq i (suc n)) [
        | inl same ↦ subst (λ k. Tops (higher p q) (r k)) (sym same) tops.1
        | inr other ↦
            let one = highest_one n in
            let pos' : 1 ≤ p.1 = subst (λ (x : ℕ × ℕ). 1 ≤ x.1) (sym one.1.1) (some one.0) in
            cross_chain (higher p q).0 (higher p q).1 p.0 p.1 (r i).0 (r i).1 (omega arith) tops.0 (highest_tops n i (omega arith))
      ]

-- two ratios that each top the other give one per cent
same_tenths : (n d m e : ℕ) → 1 ≤ d → 1 ≤ e → n * e ≤ m * d → m * d ≤ n * e → tenths_of n d ≡ tenths_of m e
same_tenths n d m e some other up down =
    let a = rounded_up_mono (20 * n) d (20 * m) e some other (omega (arith, mul_assoc 20 n e, mul_assoc 20 m d)) in
    let b = rounded_up_mono (20 * m) e (20 * n) d other some (omega (arith, mul_assoc 20 n e, mul_assoc 20 m d)) in
    let same : rounded_up (20 * n) d ≡ rounded_up (20 * m) e = omega arith in
    ap (λ k. min (5 * (5 * k - 100)) 1000) same

pub highest_tenths : (ts rs : List ℕ) (q : Ratio) → Highest ts rs q → tenths_of q.num q.den ≡ tenths_of (highest ts rs).0 (highest ts rs).1
highest_tenths ts rs q h =
    let r = ratio_at ts rs in
    let some : (i : ℕ) → 1 ≤ (r i).1 = λ i. omega arith in
    let one = highest_one r some 4 in
    let top : Tops (highest ts rs) (q.num, q.den) =
    subst (λ (x : ℕ). x * (highest ts rs).1 ≤ (highest ts rs).0 * q.den) (sym h.num)
    (subst (λ (x : ℕ). get_or rs h.place 0 * (highest ts rs).1 ≤ (highest ts rs).0 * x) (sym h.den) (highest_tops r some 4 h.place (omega (arith, h.within)))) in
    let under : (highest ts rs).0 * q.den ≤ q.num * (highest ts rs).1 =
    subst (λ (x : ℕ × ℕ). x.0 * q.den ≤ q.num * x.1) (sym one.1.1) (h.most one.0 (omega (arith, one.1.0))) in
    let den : 1 ≤ q.den = q.ok in
    let den' : 1 ≤ (highest ts rs).1 = subst (λ (x : ℕ × ℕ). 1 ≤ x.1) (sym one.1.1) (some one.0) in
    same_tenths q.num q.den (highest ts rs).0 (highest ts rs).1 den den' top under

-- as the keeper compares ratios
abbrev pub reaches : Ratio → Ratio → Bool
reaches x y = leb (y.num * x.den) (x.num * y.den)

-- q is the ratio of the i-th return
abbrev pub Is : List ℕ → List ℕ → ℕ → Ratio → Type 0
Is ts rs i q = (q.num ≡ get_or rs i 0) × (q.den ≡ max (get_or ts i 0) 1)

module _ (ts rs : List ℕ) (xs : List Ratio) (each : (i : ℕ) → i < 5 → (d : Ratio) → Is ts rs i (get_or xs i d)) where
  -- an entry is reached by itself, so that it counts
  counted : (i : ℕ) (d : Ratio) → i < length xs → 1 ≤ count_by (λ x. reaches x (get_or xs i d)) xs
  counted i d lt =
      let q = get_or xs i d in
      let own : cond (reaches q q) 1 0 ≡ 1 = ap (λ b. cond {A = ℕ} b 1 0) (le-leb (q.num * q.den) (q.num * q.den) (omega arith)) in
      omega (arith, own, get_or-le-sum_by (λ x. cond (reaches x q) 1 0) xs i d lt)

  highest_of : (q : Ratio) → length xs ≡ 5 → Kth reaches 1 xs q → Highest ts rs q
  highest_of q len kth =
      let at = kth.among.0 in
      let in' : at < 5 = omega (arith, kth.among.1) in
      let here : get_or xs at q ≡ q = kth.among.2 q in
      let is = each at in' q in
      record {
        place = at;
        within = in';
        num = ap (λ (x : Ratio). x.num) (sym here) ∙ is.0;
        den = ap (λ (x : Ratio). x.den) (sym here) ∙ is.1;
        most = λ i lt.
            let up = leb-true ((get_or xs i q).num * q.den) (q.num * (get_or xs i q).den) (kth.greatest (get_or xs i q) (counted i q (omega arith))) in
            let one = each i lt q in
            subst (λ (n : ℕ). n * q.den ≤ q.num * max (get_or ts i 0) 1) one.0 (subst (λ (n : ℕ). (get_or xs i q).num * q.den ≤ q.num * n) one.1 up);
      }

  pub found : (o : Option Ratio) → length xs ≡ 5 → 2 ≤ exceeding ts rs → MatchOption o (Short 1 xs) (λ q. Kth reaches 1 xs q) → RatioFound ts rs o
  found None len two h = absurd (⊎_elim (λ (e : ◌≡◌ {A = ℕ} 1 0). omega arith) (λ (f : length xs < 1). omega arith) h)
  found (Some q) len two h = (two, highest_of q len h)

-- what is told of each of five entries
pub five : (P : ℕ → Ratio → Type 0) (xs : List Ratio) → ((z : Ratio) → P 0 (get_or xs 0 z)) → ((z : Ratio) → P 1 (get_or xs 1 z)) → ((z : Ratio) → P 2 (get_or xs 2 z)) → ((z : Ratio) → P 3 (get_or xs 3 z)) → ((z : Ratio) → P 4 (get_or xs 4 z))
    → (i : ℕ) → i < 5 → (z : Ratio) → P i (get_or xs i z)
five P xs p q r s t zero h z = p z
five P xs p q r s t (suc zero) h z = q z
five P xs p q r s t (suc (suc zero)) h z = r z
five P xs p q r s t (suc (suc (suc zero))) h z = s z
five P xs p q r s t (suc (suc (suc (suc zero)))) h z = t z
five P xs p q r s t (suc (suc (suc (suc (suc i))))) h z = absurd (omega arith)

five_of : (xs : List ℕ) → length xs ≡ 5 → xs ≡ (get_or xs 0 0 ∷ get_or xs 1 0 ∷ get_or xs 2 0 ∷ get_or xs 3 0 ∷ get_or xs 4 0 ∷ [])
five_of [] h = absurd (omega arith)
five_of (a ∷ []) h = absurd (omega arith)
five_of (a ∷ b ∷ []) h = absurd (omega arith)
five_of (a ∷ b ∷ c ∷ []) h = absurd (omega arith)
five_of (a ∷ b ∷ c ∷ d ∷ []) h = absurd (omega arith)
five_of (a ∷ b ∷ c ∷ d ∷ e ∷ []) h = refl
five_of (a ∷ b ∷ c ∷ d ∷ e ∷ f ∷ xs) h = absurd (omega arith)

-- the pairs that count, one by one
pub counts : (ts rs : List ℕ) → length ts ≡ 5 → length rs ≡ 5 → count_by (λ (p : ℕ × ℕ). nat_lt p.0 p.1) (zip ts rs) ≡ exceeding ts rs
counts ts rs p q = ap₂ (λ u v. count_by (λ (p : ℕ × ℕ). nat_lt p.0 p.1) (zip u v)) (five_of ts p) (five_of rs q) ∙ omega arith
