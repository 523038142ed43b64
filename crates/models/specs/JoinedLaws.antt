-- What is so of two lawful models joined. Assumes nothing.
--   either_size, either_none   what is within a limit, or 0, of both is so of either
--   masked_none, masked_nil    what is 0 where a test holds, and elsewhere, is 0
--   outside_same   what is outside for its benchmark or residual is outside of any model
--   joint_lawful   the joined model is lawful
--   inner          within the joined counts a change is the first's or the second's
--   past           past the joined scenarios it is 0
--   of_second      past the first's scenarios it is the second's
--   joint_joins    it keeps the law of joining
use Rattle.std.specs.Prelude.{◌≡◌, ℕ, ◌+◌, ◌-◌, ◌<◌, ◌≤◌, Bool, true, false, cond, ◌&&◌, ℤ, pos, nat_lt, unsigned_abs, refl}
use Rattle.std.proofs.Common.{sym, ◌∙◌, inl, inr, ⊎_elim, arith, le-ltb, lt-ltb}
use Rattle.std.proofs.lemmas.Bool.{and_left, and_right, cond-true, cond-false, and_from, and_parts, cases_lt, ltb-true}
use Rattle.models.specs.Meaning.{Meaning, Lawful, Outside}
use Rattle.models.specs.MeaningLaws.{masked_most, masked_size}
use Rattle.models.specs.Joined.{joint, joint_sets, joint_scenarios, Joins}

either_size : (t : Bool) (x y : ℤ) (most : ℕ) → unsigned_abs x ≤ most → unsigned_abs y ≤ most → unsigned_abs (cond t x y) ≤ most
either_size true x y most h k = h
either_size false x y most h k = k

either_none : (t : Bool) (x y : ℤ) → x ≡ pos 0 → y ≡ pos 0 → cond t x y ≡ pos 0
either_none true x y h k = h
either_none false x y h k = k

masked_none : (t : Bool) (x : ℕ) → (t ≡ true → x ≡ 0) → cond t x 0 ≡ 0
masked_none true x h = h refl
masked_none false x h = refl

masked_nil : (t : Bool) (x : ℤ) → (t ≡ true → x ≡ pos 0) → cond t x (pos 0) ≡ pos 0
masked_nil true x h = h refl
masked_nil false x h = refl

-- a cell that is outside for its benchmark or residual is outside of any model
outside_same : (k n s b r : ℕ) → nat_lt s k ≡ true → Outside k s b r → Outside n s b r
outside_same k n s b r t = ⊎_elim (λ h. inl (omega (arith, ltb-true s k t))) (λ h. inr h)

pub joint_lawful : (m n : Meaning) → Lawful m → Lawful n → Lawful (joint m n)
joint_lawful m n p q = record {
  some_set = omega (arith, p.some_set, q.some_set);
  few_sets = omega (arith, p.few_sets);
  some_scenario = omega (arith, p.some_scenario);
  few_scenarios = omega arith;
  rate_most = λ s b r. masked_most (nat_lt s (joint_sets m n)) _ 200000 (λ _. p.rate_most s b r);
  tick_most = λ s b r. masked_most (nat_lt s (joint_sets m n)) _ 100000 (λ _. p.tick_most s b r);
  change_most = λ s b r j.
      masked_size (nat_lt s (joint_sets m n) && nat_lt j (joint_scenarios m n)) _ 2000000
      (λ _. either_size (nat_lt j m.scenarios) _ _ 2000000 (p.change_most s b r j) (q.change_most s b r (j - m.scenarios)));
  rate_outside = λ s b r h.
      masked_none (nat_lt s (joint_sets m n)) _ (λ t. p.rate_outside s b r (outside_same (joint_sets m n) m.sets s b r t h));
  tick_outside = λ s b r h.
      masked_none (nat_lt s (joint_sets m n)) _ (λ t. p.tick_outside s b r (outside_same (joint_sets m n) m.sets s b r t h));
  change_outside = λ s b r j h.
      masked_nil (nat_lt s (joint_sets m n) && nat_lt j (joint_scenarios m n)) _
      (λ t. let u = (and_parts (nat_lt s (joint_sets m n)) _ t).0 in
      either_none (nat_lt j m.scenarios) _ _
      (p.change_outside s b r j (outside_same (joint_sets m n) m.sets s b r u h))
      (q.change_outside s b r (j - m.scenarios) (outside_same (joint_sets m n) n.sets s b r u h)));
  change_past = λ s b r j h. cond-false _ _ _ (and_right (nat_lt s (joint_sets m n)) _ (le-ltb j (joint_scenarios m n) h));
}

module _ (m n : Meaning) (p : Lawful m) (q : Lawful n) where
  -- within the joined model's counts a change is the first's or the second's
  inner : (s b r k : ℕ) → s < joint_sets m n → k < joint_scenarios m n
      → (joint m n).change s b r k ≡ cond (nat_lt k m.scenarios) (m.change s b r k) (n.change s b r (k - m.scenarios))
  inner s b r k hs hk = cond-true _ _ _ (and_from _ _ (lt-ltb s (joint_sets m n) hs) (lt-ltb k (joint_scenarios m n) hk))

  past : (s b r k : ℕ) → joint_scenarios m n ≤ k → (joint m n).change s b r k ≡ pos 0
  past s b r k h = cond-false _ _ _ (and_right (nat_lt s (joint_sets m n)) _ (le-ltb k (joint_scenarios m n) h))

  of_second : (s b r k : ℕ) → s < joint_sets m n → m.scenarios + k < 1000 → (joint m n).change s b r (m.scenarios + k) ≡ n.change s b r k
  of_second s b r k hs hk =
      let back : (m.scenarios + k) - m.scenarios ≡ k = omega arith in
      ⊎_elim
      (λ h. inner s b r (m.scenarios + k) hs (omega arith)
      ∙ (cond-false _ _ _ (le-ltb (m.scenarios + k) m.scenarios (omega arith)) ∙ rw back refl))
      (λ h. past s b r (m.scenarios + k) (omega arith) ∙ sym (q.change_past s b r k h))
      (cases_lt k n.scenarios)

  pub joint_joins : Joins m n (joint m n)
  joint_joins = record {
    sets = refl;
    scenarios = refl;
    rates = λ s b r h. cond-true _ _ _ (lt-ltb s (joint_sets m n) h);
    ticks = λ s b r h. cond-true _ _ _ (lt-ltb s (joint_sets m n) h);
    first = λ s b r k hs hk.
        inner s b r k hs (omega (arith, p.few_scenarios)) ∙ cond-true _ _ _ (lt-ltb k m.scenarios hk);
    second = of_second;
    no_rate = λ s b r h. cond-false _ _ _ (le-ltb s (joint_sets m n) h);
    no_tick = λ s b r h. cond-false _ _ _ (le-ltb s (joint_sets m n) h);
    no_change = λ s b r k.
        ⊎_elim (λ h. cond-false _ _ _ (and_left _ _ (le-ltb s (joint_sets m n) h))) (λ h. past s b r k h);
  }
