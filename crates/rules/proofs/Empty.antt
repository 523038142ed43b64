-- Empty accounts: the books that an opening leaves, and that they rest.
use Rattle.std.proofs.Common.{◌≡◌, ℕ, zero, suc, ◌-◌, ◌*◌, false, List, [], ◌∷◌, map, take, drop, replicate, pos, refl, ap, ◌∙◌, ap₂, arith}
use Rattle.std.proofs.lemmas.List.{take-replicate, drop-replicate}
use Rattle.std.proofs.lemmas.List.Elements.{All-replicate}
use Rattle.std.proofs.lemmas.List.Folds.{map_fixed, sum_by-replicate}
use Rattle.models.specs.Meaning.{Meaning}
use Rattle.tables.specs.declared.codes.Benchmark.{Benchmark}
use Rattle.tables.specs.declared.row.AccountRow.{AccountRow}
use Rattle.tables.specs.declared.row.TradeRow.{TradeRow}
use Rattle.tables.specs.Books.{Book, book, books_of}
use Rattle.tables.specs.Limits.{no_trade}
use Rattle.tables.specs.Numbers.{sum_below}
use Rattle.market.specs.declared.state.MarketState.{MarketState}
use Rattle.risk.specs.declared.grouping.Grouping.TheVariants.{ByResidual, ByHalfYear}
use Rattle.risk.specs.declared.figures.RiskFigures.{RiskFigures}
use Rattle.risk.specs.Groups.{group_trades}
use Rattle.risk.specs.Initial.{grouped_risk, minimum_of, risk_from, risk_of}
use Rattle.risk.specs.Losses.{var_of}
use Rattle.risk.proofs.Apart.{grouped_none}
use Rattle.risk.proofs.Risks.{var_none}
use Rattle.margins.specs.declared.figures.BenchmarkFigures.{BenchmarkFigures}
use Rattle.margins.specs.declared.figures.FamilyFigures.{FamilyFigures}
use Rattle.margins.specs.declared.figures.Figures.{Figures}
use Rattle.margins.specs.Figures.{gross_of, benchmark_of, part_of, family_from, family_of, securities_of, figures_from, figures_of}
use Rattle.margins.specs.Marks.{marks_of}
use Rattle.rules.specs.Opening.{empty_row, opened_market, opened_rows, opened_trades, quiet_family}
use Rattle.rules.specs.Rows.{with_second}
use Rattle.rules.specs.Settling.{figured_row, settled_row, house_settled, reflagged}
use Rattle.rules.specs.Stands.{Stand, stand_of, shortfalls, finish}

abbrev pub empty_book : Book
empty_book = book empty_row (replicate 64 no_trade)

take_empty : (n : ℕ) → take 64 (replicate (64 * suc n) no_trade) ≡ replicate 64 no_trade
take_empty n = take-replicate 64 (64 * suc n) no_trade (omega arith)

drop_empty : (n : ℕ) → drop 64 (replicate (64 * suc n) no_trade) ≡ replicate (64 * n) no_trade
drop_empty n =
    let rest : 64 * suc n - 64 ≡ 64 * n = omega arith in drop-replicate 64 (64 * suc n) no_trade ∙ ap (λ (k : ℕ). replicate k no_trade) rest

-- the books of n empty accounts
pub books_empty : (n : ℕ) → books_of (opened_rows n) (opened_trades n) ≡ replicate n empty_book
books_empty zero = refl
books_empty (suc n) =
    ap₂ (λ (ps : List TradeRow) (bs : List Book). book empty_row ps ∷ bs) (take_empty n)
    (ap (books_of (opened_rows n)) (drop_empty n) ∙ books_empty n)

-- what no trades of a benchmark come to, with no step-up
abbrev nothing : BenchmarkFigures
nothing = record { trades = 0; gross = 0; risk = risk_from 0 0 0 0 0; mark = pos 0; loss = 0; credit = 0 }

part_none : (m : Meaning) (k : MarketState) (b : Benchmark) → k.percent ≡ 0 → part_of m k b [] ≡ nothing
unfolding part_of benchmark_of risk_of group_trades gross_of marks_of minimum_of
part_none m k b e =
    let with-risk : RiskFigures → BenchmarkFigures = λ r. record { trades = 0; gross = 0; risk = r; mark = pos 0; loss = 0; credit = 0 } in
    ap (λ (s : ℕ). with-risk (risk_from s (grouped_risk m k.day ByResidual []) (grouped_risk m k.day ByHalfYear []) (var_of m k.day []) 0)) e
    ∙ ap (λ (x : ℕ). with-risk (risk_from 0 x (grouped_risk m k.day ByHalfYear []) (var_of m k.day []) 0)) (grouped_none m k.day ByResidual)
    ∙ ap (λ (z : ℕ). with-risk (risk_from 0 0 z (var_of m k.day []) 0)) (grouped_none m k.day ByHalfYear)
    ∙ ap (λ (y : ℕ). with-risk (risk_from 0 0 0 y 0)) (var_none m k.day)

abbrev no_figures : Figures
no_figures = figures_from 0 0 (family_from quiet_family empty_row.overnight nothing nothing) (family_from quiet_family empty_row.forward nothing nothing)

empty_figures : (m : Meaning) (month : ℕ) → figures_of m (opened_market month) empty_row [] ≡ no_figures
unfolding figures_of family_of securities_of sum_below opened_market empty_row
empty_figures m month =
    let k = opened_market month in
    let each : (b : Benchmark) → part_of m k b [] ≡ nothing = λ b. part_none m k b refl in
    let family : (p q : Benchmark) → family_from quiet_family (record { initial = 0; gross = 0 }) (part_of m k p []) (part_of m k q []) ≡ family_from quiet_family (record { initial = 0; gross = 0 }) nothing nothing =
    λ p q. ap₂ (λ (x y : BenchmarkFigures). family_from quiet_family (record { initial = 0; gross = 0 }) x y) (each p) (each q) in
    ap₂ (λ (x y : FamilyFigures). figures_from 0 0 x y) (family _ _) (family _ _)

settled_empty : (m : Meaning) (month : ℕ) → settled_row m (opened_market month) 0 empty_row [] ≡ empty_row
unfolding settled_row empty_row
settled_empty m month = ap (figured_row 0 empty_row) (empty_figures m month)

house_empty : (m : Meaning) (month : ℕ) → house_settled m (opened_market month) 0 empty_book ≡ empty_book
unfolding empty_row
house_empty m month = ap (λ (r : AccountRow). book (with_second r false) (replicate 64 no_trade)) (settled_empty m month)

flag_empty : reflagged false empty_book ≡ empty_book
unfolding empty_row
flag_empty = refl

flags_empty : (n : ℕ) → map (reflagged false) (replicate n empty_book) ≡ replicate n empty_book
flags_empty n =
    map_fixed (reflagged false) (replicate n empty_book) (All-replicate (λ (b : Book). reflagged false b ≡ b) n empty_book flag_empty)

sum_empty : (n : ℕ) → shortfalls (replicate n empty_book) ≡ 0
unfolding empty_row
sum_empty n = let none : n * 0 ≡ 0 = omega arith in sum_by-replicate (λ (b : Book). b.row.shortfall) n empty_book ∙ none

flagged : (month n : ℕ) → ◌≡◌ {A = Stand} (record { market = opened_market month; house = empty_book; constituents = map (reflagged empty_book.row.own) (replicate n empty_book) }) (stand_of (opened_market month) (replicate (suc n) empty_book))
unfolding empty_row
flagged month n = ap (λ (l : List Book). record { market = opened_market month; house = empty_book; constituents = l }) (flags_empty n)

-- an opened house rests
pub opened_rests : (m : Meaning) (month n : ℕ) → finish m (stand_of (opened_market month) (replicate (suc n) empty_book)) ≡ stand_of (opened_market month) (replicate (suc n) empty_book)
opened_rests m month n =
    let k = opened_market month in
    let made : Book → Stand = λ h. record { market = k; house = h; constituents = map (reflagged h.row.own) (replicate n empty_book) } in
    ap (λ (x : ℕ). made (house_settled m k x empty_book)) (sum_empty n)
    ∙ ap made (house_empty m month)
    ∙ flagged month n
