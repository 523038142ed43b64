-- Tables that are settled rest: settling once more changes nothing.
use Rattle.std.proofs.Common.{◌≡◌, ◌≤◌, List, [], ◌∷◌, length, take, drop, sym, ap, ◌∙◌, arith}
use Rattle.models.specs.Meaning.{Meaning}
use Rattle.tables.specs.declared.row.AccountRow.{AccountRow}
use Rattle.tables.specs.declared.row.TradeRow.{TradeRow}
use Rattle.tables.specs.Books.{Book, book}
use Rattle.market.specs.declared.state.MarketState.{MarketState}
use Rattle.rules.specs.Settling.{house_settled}
use Rattle.rules.specs.Stands.{Stand, standing, stand_of, finish, cover_of, rows_of}
use Rattle.rules.proofs.Resting.{finish_rests}
use Rattle.house.proofs.Finishing.{rows_reflagged, books_reflagged}

-- the tables that hold a settled stand
pub standing_finished : (m : Meaning) (k : MarketState) (rs : List AccountRow) (ts : List TradeRow) → 1 ≤ length rs → standing k (rows_of (finish m (standing k rs ts))) ts ≡ finish m (standing k rs ts)
standing_finished m k [] ts some = absurd (omega arith)
standing_finished m k (r ∷ cs) ts some =
    let s = standing k (r ∷ cs) ts in
    let h = house_settled m k (cover_of s) s.house in
    ap (λ (l : List AccountRow). standing k (h.row ∷ l) ts) (rows_reflagged h.row.own cs (drop 64 ts))
    ∙ ap (λ (l : List Book). stand_of k (book h.row (take 64 ts) ∷ l)) (books_reflagged h.row.own cs (drop 64 ts))

-- settling the tables once more changes nothing
pub tables_rest : (m : Meaning) (k : MarketState) (rs us : List AccountRow) (ts : List TradeRow) → 1 ≤ length rs → us ≡ rows_of (finish m (standing k rs ts)) → rows_of (finish m (standing k us ts)) ≡ us
tables_rest m k rs us ts some e =
    ap (λ (l : List AccountRow). rows_of (finish m (standing k l ts))) e
    ∙ ap (λ (s : Stand). rows_of (finish m s)) (standing_finished m k rs ts some)
    ∙ ap rows_of (finish_rests m (standing k rs ts))
    ∙ sym e
