-- A row of changes, as the code reads it.
use Rattle.std.proofs.Common.{ℕ, ◌≤◌, List, get_or, ℤ, pos, nat_abs, ap, ⊎_elim, arith}
use Rattle.std.proofs.lemmas.Bool.{cases_lt}
use Rattle.std.proofs.lemmas.List.{get_or_past}
use Rattle.models.specs.Meaning.{Meaning, Lawful}
use Rattle.models.specs.Rows.{Row}

module _ (m : Meaning) (s b r n : ℕ) where
  pub row_small : (law : Lawful m) (xs : List ℤ) → Row (m.change s b r) n xs → (j : ℕ) → nat_abs (get_or xs j (pos 0)) ≤ 2000000
  row_small law xs row j =
      ⊎_elim
      (λ within. let e = ap nat_abs (row.1 j within) in omega (arith, law.change_most s b r j))
      (λ past. let e = ap nat_abs (get_or_past xs j (pos 0) (omega (arith, row.0))) in omega arith)
      (cases_lt j n)
