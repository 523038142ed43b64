-- Rows made numbers and read back are the same rows, and their flags fit.
use Rattle.std.proofs.Common.{◌≡◌, Bool, true, false, List, [], ◌∷◌, map, refl, ap, ap₂}
use Rattle.std.proofs.lemmas.Bool.{and_from}
use Rattle.std.specs.List.{list_all}
use Rattle.std.specs.Prelude.{nat_le}
use Rattle.tables.specs.declared.row.AccountRow.{AccountRow}
use Rattle.tables.specs.declared.row.SecurityRow.{SecurityRow}
use Rattle.crows.specs.Rows.{flag_of, number_of_flag, account_of, account_numbers, account_fits, security_of, security_numbers, security_fits}

flag_back : (b : Bool) → flag_of (number_of_flag b) ≡ b
flag_back true = refl
flag_back false = refl

pub flag_fits : (b : Bool) → nat_le (number_of_flag b) 1 ≡ true
flag_fits true = refl
flag_fits false = refl

account_back : (r : AccountRow) → account_of (account_numbers r) ≡ r
account_back r = ap₂ (λ (a b : Bool). record r { own = a; second = b }) (flag_back r.own) (flag_back r.second)

pub accounts_back : (rs : List AccountRow) → map account_of (map account_numbers rs) ≡ rs
accounts_back [] = refl
accounts_back (r ∷ rs) = ap₂ (λ (x : AccountRow) (xs : List AccountRow). x ∷ xs) (account_back r) (accounts_back rs)

pub accounts_fit_back : (rs : List AccountRow) → list_all account_fits (map account_numbers rs) ≡ true
accounts_fit_back [] = refl
accounts_fit_back (r ∷ rs) = and_from _ _ (and_from _ _ (flag_fits r.own) (flag_fits r.second)) (accounts_fit_back rs)

security_back : (s : SecurityRow) → security_of (security_numbers s) ≡ s
security_back s = ap (λ (a : Bool). record s { listed = a }) (flag_back s.listed)

pub securities_back : (ss : List SecurityRow) → map security_of (map security_numbers ss) ≡ ss
securities_back [] = refl
securities_back (s ∷ ss) = ap₂ (λ (x : SecurityRow) (xs : List SecurityRow). x ∷ xs) (security_back s) (securities_back ss)

pub securities_fit_back : (ss : List SecurityRow) → list_all security_fits (map security_numbers ss) ≡ true
securities_fit_back [] = refl
securities_fit_back (s ∷ ss) = and_from _ _ (flag_fits s.listed) (securities_fit_back ss)
