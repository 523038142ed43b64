-- What is settled rests: settling once more changes nothing.
use Rattle.std.proofs.Common.{◌≡◌, ℕ, ◌+◌, Bool, false, List, [], ◌∷◌, map, refl, ap, ◌∙◌, ap₂}
use Rattle.std.proofs.lemmas.List.Folds.{fold-map}
use Rattle.models.specs.Meaning.{Meaning}
use Rattle.tables.specs.declared.row.AccountRow.{AccountRow}
use Rattle.tables.specs.declared.row.TradeRow.{TradeRow}
use Rattle.tables.specs.Books.{Book, book, standing_of}
use Rattle.market.specs.declared.state.MarketState.{MarketState}
use Rattle.margins.specs.declared.figures.Figures.{Figures}
use Rattle.margins.specs.Figures.{figures_of}
use Rattle.margins.specs.Settled.{with_levels}
use Rattle.margins.proofs.Settles.{own_settles, second_settles, figures_settle}
use Rattle.rules.specs.Rows.{with_second}
use Rattle.rules.specs.Settling.{figured_row, settled_row, house_settled, reflagged}
use Rattle.rules.specs.Stands.{Stand, flagged_by, finish, cover_of, shortfalls}

-- the figures depend on a record by its cash, lots and levels alone
same_figures : (m : Meaning) (k : MarketState) (cover : ℕ) (r : AccountRow) (f : Figures) (ts : List TradeRow) → figures_of m k (with_second (figured_row cover r f) false) ts ≡ figures_of m k (with_levels r f.overnight.levels f.forward.levels) ts
unfolding figures_of
same_figures m k cover r f ts = refl

-- the house's record as it settles, with the own flag b
abbrev made : ℕ → AccountRow → Figures → Bool → AccountRow
made cover r f b = record (figured_row cover r f) { own = b; second = false }

row_rests : (m : Meaning) (k : MarketState) (cover : ℕ) (r : AccountRow) (ts : List TradeRow) → with_second (settled_row m k cover (with_second (settled_row m k cover r ts) false) ts) false ≡ with_second (settled_row m k cover r ts) false
unfolding settled_row
row_rests m k cover r ts =
    let f = figures_of m k r ts in
    let q = with_second (figured_row cover r f) false in
    ap (λ (g : Figures). with_second (figured_row cover q g) false) (same_figures m k cover r f ts ∙ figures_settle m k r ts)
    ∙ ap (made cover r f) (own_settles r.own (f.obligation + cover) f.available)

house_rests : (m : Meaning) (k : MarketState) (cover : ℕ) (b : Book) → house_settled m k cover (house_settled m k cover b) ≡ house_settled m k cover b
unfolding settled_row
house_rests m k cover b = ap (λ (r : AccountRow). book r b.places) (row_rests m k cover b.row (standing_of b))

flag_rests : (r : Bool) (b : Book) → reflagged r (reflagged r b) ≡ reflagged r b
flag_rests r b = ap (λ (x : Bool). book (with_second b.row x) b.places) (second_settles r b.row.second b.row.obligation b.row.available)

flags_rest : (r : Bool) (bs : List Book) → map (reflagged r) (map (reflagged r) bs) ≡ map (reflagged r) bs
flags_rest r [] = refl
flags_rest r (b ∷ bs) = ap₂ (λ (x : Book) (l : List Book). x ∷ l) (flag_rests r b) (flags_rest r bs)

-- the cover does not depend on flags
pub cover_reflagged : (r : Bool) (bs : List Book) → shortfalls (map (reflagged r) bs) ≡ shortfalls bs
cover_reflagged r bs = fold-map (λ (x : ℕ) (b : Book). x + b.row.shortfall) (reflagged r) 0 bs

pub finish_rests : (m : Meaning) (s : Stand) → finish m (finish m s) ≡ finish m s
finish_rests m s =
    let k = s.market in
    let h = house_settled m k (cover_of s) s.house in
    let cs = map (reflagged h.row.own) s.constituents in
    ap (λ (x : ℕ). flagged_by k (house_settled m k x h) cs) (cover_reflagged h.row.own s.constituents)
    ∙ ap (λ (b : Book). flagged_by k b cs) (house_rests m k (cover_of s) s.house)
    ∙ ap (λ (l : List Book). record { market = k; house = h; constituents = l }) (flags_rest h.row.own s.constituents)
