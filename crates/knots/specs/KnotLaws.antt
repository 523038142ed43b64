-- The meaning of tables at the knots keeps the law of interpolation. Assumes nothing.
--   toward_between   a value on the way from low to high is between them
--   found          the value of a residual by the finder's two places
--   found_on       at a knot it is the number there
--   found_between  between two knots it is interpolated
--   found_inside   and lies between theirs
--   interpolates   values that are the finder's keep the law
--   is_within      a set, benchmark and residual in range are within the model
--   read           a rate or tick value within the model is the one between the knots
--   by_knots       the meaning of the tables keeps it
use Rattle.std.proofs.Common.{◌≡◌, ℕ, ◌+◌, ◌-◌, ◌<◌, ◌≤◌, true, cond, List, ℤ, pos, negsuc, ◌+ℤ◌, ◌-ℤ◌, ◌*ℤ◌, sym, refl, ap, ◌∙◌, subst, inl, inr, arith, lt-ltb, eq-eqb, ne_eqb}
use Rattle.std.proofs.lemmas.Int.{ints}
use Rattle.std.proofs.lemmas.Bool.{and_from, cond-true, cond-false}
use Rattle.models.specs.Meaning.{within}
use Rattle.models.specs.Tables.{Tables}
use Rattle.knots.specs.Knots.{knot, low_place, high_place}
use Rattle.knots.specs.Interpolation.{floor, interpolated, value_at, Between, Interpolates}
use Rattle.knots.specs.InterpolationLaws.{Toward, part_toward}
use Rattle.knots.specs.KnotTable.{row_at, size_at, shock_at, knot_table}
use Rattle.knots.specs.KnotTableLaws.{number_exact}
use Rattle.knots.specs.KnotLaw.{ByKnots}
use Rattle.knots.specs.Floors.{floor_down}
use Rattle.knots.specs.Rising.{knot_most, on_low, between_low}

toward_between : (low high z s : ℤ) → z ≡ high -ℤ low → Toward z s → Between low high (low +ℤ s)
toward_between low high (pos k) s e h = inl (omega (arith, ints), omega (arith, ints))
toward_between low high (negsuc k) s e h = inr (omega (arith, ints), omega (arith, ints))

module _ (given : ℕ → ℤ) where
  abbrev pub found : ℕ → ℤ
  found m = value_at (given (low_place m)) (given (high_place m)) m (low_place m) (high_place m)

  found_on : (i : ℕ) → i < 12 → found (knot i) ≡ given i
  found_on i h =
      let e = on_low i h in
      let t = eq-eqb (knot (low_place (knot i))) (knot i) (ap knot e) in
      let same : low_place (knot i) ≡ high_place (knot i) = sym (cond-true _ _ _ t) in
      cond-true _ _ _ (eq-eqb (low_place (knot i)) (high_place (knot i)) same) ∙ ap given e

  found_between : (i m : ℕ) → i < 11 → knot i < m → m < knot (i + 1) → found m ≡ interpolated (given i) (given (i + 1)) (m - knot i) (knot (i + 1) - knot i)
  found_between i m h a b =
      let e = between_low i m h a b in
      let ne : knot (low_place m) ≡ m → ⊥ = λ s. let k : knot (low_place m) ≡ knot i = ap knot e in omega arith in
      let up : high_place m ≡ i + 1 = cond-false _ _ _ (ne_eqb (knot (low_place m)) m ne) ∙ ap (λ (z : ℕ). z + 1) e in
      let apart : i ≡ i + 1 → ⊥ = λ s. omega arith in
      ap (λ (p : ℕ). value_at (given p) (given (high_place m)) m p (high_place m)) e
      ∙ (ap (λ (q : ℕ). value_at (given i) (given q) m i q) up ∙ cond-false _ _ _ (ne_eqb i (i + 1) apart))

  found_inside : (i m : ℕ) → i < 11 → knot i < m → m < knot (i + 1) → Between (given i) (given (i + 1)) (found m)
  found_inside i m h a b =
      subst (λ (z : ℤ). Between (given i) (given (i + 1)) z) (sym (found_between i m h a b))
      (toward_between (given i) (given (i + 1)) (given (i + 1) -ℤ given i) _ refl
      (part_toward (m - knot i) (knot (i + 1) - knot i) (given (i + 1) -ℤ given i) (omega arith) (omega arith)))

  -- values that are the finder's up to 120 keep the law
  pub interpolates : (value : ℕ → ℤ) → ((m : ℕ) → m ≤ 120 → value m ≡ found m) → Interpolates given value
  interpolates value is = record {
    on_knot = λ i h. is (knot i) (knot_most i) ∙ found_on i h;
    between = λ i m h a b. is m (omega (arith, knot_most (i + 1))) ∙ found_between i m h a b;
    inside = λ i m h a b.
        subst (λ (z : ℤ). Between (given i) (given (i + 1)) z) (sym (is m (omega (arith, knot_most (i + 1))))) (found_inside i m h a b);
  }

module _ (t : Tables) where
  is_within : (s b m : ℕ) → s < t.sets → b < 4 → m ≤ 120 → within t.sets s b m ≡ true
  is_within s b m hs hb hm = and_from _ _ (lt-ltb s t.sets hs) (and_from _ _ (lt-ltb b 4 hb) (lt-ltb m 121 (omega arith)))

  -- a rate or tick value inside the model is the one between the knots
  read : (xs : List ℕ) (s b m : ℕ) → s < t.sets → b < 4 → m ≤ 120 → cond (within t.sets s b m) (size_at xs s b m) 0 ≡ size_at xs s b m
  read xs s b m hs hb hm = cond-true _ _ _ (is_within s b m hs hb hm)

  pub by_knots : ByKnots t (knot_table t)
  by_knots = record {
    sets = refl;
    scenarios = refl;
    rounding = floor_down;
    rates = λ s b hs hb. interpolates _ _ (λ m hm. ap pos (read t.rates s b m hs hb hm) ∙ number_exact t.rates (row_at s b) m hm);
    ticks = λ s b hs hb. interpolates _ _ (λ m hm. ap pos (read t.ticks s b m hs hb hm) ∙ number_exact t.ticks (row_at s b) m hm);
    changes = λ s b k hs hb hk. (
      λ m. shock_at t.changes (row_at s b) t.scenarios k m,
      (
        interpolates _ _ (λ m hm. refl),
        λ m hm.
            cond-true _ _ _ (and_from _ _ (is_within s b m hs hb hm) (lt-ltb k t.scenarios hk))
            ∙ ap (λ (n : ℕ). floor (pos n *ℤ shock_at t.changes (row_at s b) t.scenarios k m) 1000) (sym (read t.ticks s b m hs hb hm)),
      ),
    );
  }
