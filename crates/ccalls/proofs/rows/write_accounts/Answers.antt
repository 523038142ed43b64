use Rattle.std.proofs.Common.{◌≡◌, ℕ, ◌≤◌, List, map, length, take, sym, ap, ◌∙◌, arith, take_all}
use Rattle.std.specs.List.{list_all}
use Rattle.tables.specs.declared.row.AccountRow.{AccountRow}
use Rattle.crows.specs.declared.row.CAccount.{CAccount}
use Rattle.crows.specs.Rows.{account_of, account_numbers, account_fits}
use Rattle.crows.proofs.Back.{accounts_back, accounts_fit_back}
use Rattle.ccalls.proofs.rows.write_accounts.Goals as goal

written : (xs : List CAccount) (rs : List AccountRow) (i : ℕ) → length xs ≡ length rs → take i xs ≡ map account_numbers (take i rs) → length rs ≤ i → xs ≡ map account_numbers rs
written xs rs i long so_far past = sym (take_all i xs (omega arith)) ∙ so_far ∙ ap (map account_numbers) (take_all i rs past)

pub returns-clause-rows : goal.returns-clause-rows
returns-clause-rows c =
    ap (map account_of) (written _ _ _ c.loop-i.invariant.0 c.loop-i.invariant.1 (omega (arith, c.loop-i-test.false))) ∙ accounts_back c.args.from.now

pub returns-clause-fits : goal.returns-clause-fits
returns-clause-fits c =
    ap (list_all account_fits) (written _ _ _ c.loop-i.invariant.0 c.loop-i.invariant.1 (omega (arith, c.loop-i-test.false))) ∙ accounts_fit_back c.args.from.now
