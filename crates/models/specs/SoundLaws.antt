-- What it says of each table that every number is in range. Assumes nothing.
--   AllTrue      every one of a list of marks is true
--   all_front, all_rest   every one of the front of a list is, and of the rest
--   passed       a test that every number passes, and the default too, is passed at every place
--   rate_bound, tick_bound, change_bound   each number of its table is within its limit, as is the 0 past the end
use Rattle.std.specs.Prelude.{◌≡◌, ℕ, ◌+◌, ◌≤◌, Bool, true, List, ◌++◌, map, length, pos, nat_le, slice_index, slice_index_or, unsigned_abs}
use Rattle.std.proofs.Common.{sym, ◌∙◌, ⊎_elim, arith}
use Rattle.std.proofs.lemmas.List.{get_or_append_left, get_or-append-add, get_or-map, get_or_past}
use Rattle.std.proofs.lemmas.Bool.{cases_lt, le-leb, leb-true}
use Rattle.models.specs.Tables.{Tables}
use Rattle.models.specs.Sound.{Ranges}

abbrev pub AllTrue : List Bool → Type 0
AllTrue vs = (k : ℕ) → slice_index_or vs k true ≡ true

all_front : (us vs : List Bool) → AllTrue (us ++ vs) → AllTrue us
all_front us vs all k =
    ⊎_elim (λ h. sym (get_or_append_left us vs true k h) ∙ all k) (λ h. get_or_past us k true h) (cases_lt k (length us))

all_rest : (us vs : List Bool) → AllTrue (us ++ vs) → AllTrue vs
all_rest us vs all k = sym (get_or-append-add us vs k true) ∙ all (length us + k)

-- a test that every number passes, and the default too, is passed at every place
passed : {X : Type 0} (test : X → Bool) (d : X) (xs : List X) → test d ≡ true → AllTrue (map test xs) → (k : ℕ) → test (slice_index_or xs k d) ≡ true
passed test d xs past all k =
    ⊎_elim (λ h. sym (get_or-map test xs k d true h) ∙ all k) (λ h. rw (get_or_past xs k d h) past) (cases_lt k (length xs))

module _ (limit : ℕ) (t : Tables) (all : Ranges limit t) where
  pub rate_bound : (k : ℕ) → slice_index t.rates k ≤ 200000
  rate_bound k = leb-true (slice_index t.rates k) 200000 (passed (λ x. nat_le x 200000) 0 t.rates (le-leb 0 200000 (omega arith)) (all_front _ _ all) k)

  pub tick_bound : (k : ℕ) → slice_index t.ticks k ≤ 100000
  tick_bound k =
      leb-true (slice_index t.ticks k) 100000
      (passed (λ x. nat_le x 100000) 0 t.ticks (le-leb 0 100000 (omega arith)) (all_front _ _ (all_rest (map (λ x. nat_le x 200000) t.rates) _ all)) k)

  pub change_bound : (k : ℕ) → unsigned_abs (slice_index_or t.changes k (pos 0)) ≤ limit
  change_bound k =
      leb-true (unsigned_abs (slice_index_or t.changes k (pos 0))) limit
      (passed (λ z. nat_le (unsigned_abs z) limit) (pos 0) t.changes (le-leb 0 limit (omega arith))
      (all_rest (map (λ x. nat_le x 100000) t.ticks) _ (all_rest (map (λ x. nat_le x 200000) t.rates) _ all)) k)
