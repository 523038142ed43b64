-- Limits that stay kept.
use Rattle.std.proofs.Common.{◌≡◌, ℕ, ◌≤◌, true, nat_le}
use Rattle.std.proofs.lemmas.Bool.{and_parts, and_from, le-leb}
use Rattle.tables.specs.declared.row.AccountRow.{AccountRow}
use Rattle.tables.specs.declared.row.Levels.{Levels}
use Rattle.tables.specs.Limits.{holdings_keep, levels_keep, lots_keep}
use Rattle.margins.specs.declared.figures.Figures.{Figures}
use Rattle.rules.specs.Settling.{figured_row}

levels_kept : (l : Levels) → l.initial ≤ 2 → l.gross ≤ 2 → levels_keep l ≡ true
levels_kept l h k = and_from (nat_le l.initial 2) (nat_le l.gross 2) (le-leb _ 2 h) (le-leb _ 2 k)

-- a record that settles keeps its holdings within their limits
pub figured_keeps : (cover : ℕ) (r : AccountRow) (f : Figures) → holdings_keep r ≡ true → f.overnight.levels.initial ≤ 2 → f.overnight.levels.gross ≤ 2 → f.forward.levels.initial ≤ 2 → f.forward.levels.gross ≤ 2 → holdings_keep (figured_row cover r f) ≡ true
figured_keeps cover r f h a b d e =
    let p = and_parts (nat_le r.cash 100000000000000) _ h in
    let q = and_parts (nat_le r.trades 64) _ p.1 in
    let s = and_parts (levels_keep r.overnight) _ q.1 in
    let t = and_parts (levels_keep r.forward) (lots_keep r.lots) s.1 in
    and_from _ _ p.0 (and_from _ _ q.0 (and_from _ _ (levels_kept f.overnight.levels a b) (and_from _ _ (levels_kept f.forward.levels d e) t.1)))
