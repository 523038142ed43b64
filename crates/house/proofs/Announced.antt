-- A market call on the tables, and by the rules.
use Rattle.std.proofs.Common.{◌≡◌, ℕ, ◌≤◌, true, List, [], ◌∷◌, map, length, get_or, drop, None, Ok, Err, Option, Result, sym, ap, ap₂, ◌∙◌, arith}
use mathlib.Core.List.{map-map}
use Rattle.std.proofs.lemmas.List.{map-id}
use Rattle.models.specs.Meaning.{Meaning}
use Rattle.refusals.specs.declared.refusal.Refusal.{Refusal}
use Rattle.refusals.specs.Refusals.{first_no, decided, number_of, result_number}
use Rattle.tables.specs.declared.row.AccountRow.{AccountRow}
use Rattle.tables.specs.declared.row.TradeRow.{TradeRow}
use Rattle.tables.specs.Books.{Book, books_of, no_book}
use Rattle.tables.specs.Limits.{tables_keep}
use Rattle.tables.proofs.Books.{kept, length_books}
use Rattle.market.specs.declared.call.MarketCall.{MarketCall}
use Rattle.market.specs.declared.state.MarketState.{MarketState}
use Rattle.market.specs.Calls.{market_questions, market_changed}
use Rattle.rules.specs.Settling.{settled}
use Rattle.rules.specs.Stands.{Stand, standing, stand_of, finish, rows_of, trades_of}
use Rattle.rules.specs.MarketCalls.{aged, aged_by, all_settled, after_market, market_answer, market_reply}
use Rattle.house.proofs.Finishing.{trades_finished}
use Rattle.house.proofs.Resting.{standing_finished}
use Rattle.house.proofs.Lent.{rows_stand, trades_stand}

-- where no month begins, no book changes before it settles
pub unaged : (o : Option ℕ) (bs : List Book) → o ≡ None → bs ≡ map (aged_by o) bs
unaged o bs e = sym (ap (λ (p : Option ℕ). map (aged_by p) bs) e ∙ map-id bs)

-- every book aged, and then every constituent settled
passed : (m : Meaning) (k : MarketState) (c : MarketCall) (bs : List Book) → 1 ≤ length bs
    → finish m (stand_of k (get_or (map (aged c) bs) 0 no_book ∷ map (settled m k 0) (drop 1 (map (aged c) bs)))) ≡ finish m (record { market = k; house = aged c (get_or bs 0 no_book); constituents = map (λ (b : Book). settled m k 0 (aged c b)) (drop 1 bs) })
passed m k c [] some = absurd (omega arith)
passed m k c (b ∷ bs) some = ap (λ (l : List Book). finish m (record { market = k; house = aged c b; constituents = l })) (map-map (settled m k 0) (aged c) bs)

module _ (m : Meaning) (k : MarketState) (n : ℕ) (rs : List AccountRow) (ts : List TradeRow) (c : MarketCall) (some : 1 ≤ n) (h : tables_keep n rs ts ≡ true) where
  abbrev s : Stand
  s = standing k rs ts

  abbrev asked : Result (Unit {0}) Refusal
  asked = first_no (market_questions m.sets k c)

  pub market_refused : (e : Refusal) → asked ≡ Err e
      → (market_answer (number_of e) k ≡ market_reply m s c) × (k ≡ (after_market m s c).market) × (rs ≡ rows_of (after_market m s c)) × (ts ≡ trades_of (after_market m s c)) × (s ≡ after_market m s c)
  market_refused e is =
      let stays : after_market m s c ≡ s = ap (λ (r : Result (Unit {0}) Refusal). decided r (all_settled m (market_changed c k) c s) (λ e. s)) is in (
        sym (ap₂ (λ (r : Result (Unit {0}) Refusal) (t : Stand). market_answer (result_number r) t.market) is stays),
        sym (ap (λ (t : Stand). t.market) stays),
        sym (ap rows_of stays ∙ rows_stand k n rs ts some h),
        sym (ap trades_of stays ∙ trades_stand k n rs ts some h),
        sym stays,
      )

  pub market_granted : (k' : MarketState) (rs₁ rs₂ us : List AccountRow) (ts₁ : List TradeRow) → asked ≡ Ok tt → k' ≡ market_changed c k
      → books_of rs₁ ts₁ ≡ map (aged c) (books_of rs ts)
      → books_of rs₂ ts₁ ≡ (get_or (books_of rs₁ ts₁) 0 no_book ∷ map (settled m k' 0) (drop 1 (books_of rs₁ ts₁)))
      → tables_keep n rs₂ ts₁ ≡ true
      → us ≡ rows_of (finish m (standing k' rs₂ ts₁))
      → (market_answer 0 k' ≡ market_reply m s c) × (k' ≡ (after_market m s c).market) × (us ≡ rows_of (after_market m s c)) × (ts₁ ≡ trades_of (after_market m s c)) × (standing k' us ts₁ ≡ after_market m s c)
  market_granted k' rs₁ rs₂ us ts₁ yes' ek e₁ e₂ keeps eu =
      let goes : after_market m s c ≡ all_settled m (market_changed c k) c s = ap (λ (r : Result (Unit {0}) Refusal). decided r (all_settled m (market_changed c k) c s) (λ e. s)) yes' in
      let done : finish m (standing k' rs₂ ts₁) ≡ all_settled m k' c s =
      ap (λ (bs : List Book). finish m (stand_of k' bs)) (e₂ ∙ ap (λ (bs : List Book). get_or bs 0 no_book ∷ map (settled m k' 0) (drop 1 bs)) e₁)
      ∙ passed m k' c (books_of rs ts) (omega (arith, length_books rs ts, (kept n rs ts h).rows)) in
      let is : finish m (standing k' rs₂ ts₁) ≡ after_market m s c = done ∙ ap (λ (x : MarketState). all_settled m x c s) ek ∙ sym goes in
      let same : k' ≡ (after_market m s c).market = ap (λ (t : Stand). t.market) is in
      let f = kept n rs₂ ts₁ keeps in (
        ap (market_answer 0) same ∙ sym (ap (λ (r : Result (Unit {0}) Refusal). market_answer (result_number r) (after_market m s c).market) yes'),
        same,
        eu ∙ ap rows_of is,
        sym (trades_finished m k' rs₂ ts₁ (omega (arith, f.rows)) (omega (arith, f.rows, f.places))) ∙ ap trades_of is,
        ap (λ (xs : List AccountRow). standing k' xs ts₁) eu ∙ standing_finished m k' rs₂ ts₁ (omega (arith, f.rows)) ∙ is,
      )
