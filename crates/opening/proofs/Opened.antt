-- The tables that an opening leaves keep their limits, and so does its market.
use Rattle.std.proofs.Common.{◌≡◌, ℕ, zero, suc, ◌*◌, ◌≤◌, min, Bool, true, false, ◌&&◌, nat_eq, nat_le, List, [], ◌∷◌, length, slice_index_or, drop, Ok, refl, sym, ap, ap₂, ◌∙◌, arith}
use lib.ListN.{length-replicate}
use Rattle.std.proofs.lemmas.Bool.{and_from, and_parts, le-leb, leb-true, eqb-true}
use Rattle.tables.specs.declared.row.AccountRow.{AccountRow}
use Rattle.tables.specs.declared.row.TradeRow.{TradeRow}
use Rattle.tables.specs.Books.{Book}
use Rattle.tables.specs.Limits.{no_trade, house_keeps, constituent_keeps, tables_keep}
use Rattle.std.specs.List.{list_all}
use Rattle.tables.proofs.Alls.{list_all_replicate}
use Rattle.tables.proofs.Books.{keeps_from}
use Rattle.market.specs.States.{market_keeps}
use Rattle.refusals.specs.Refusals.{Question, first_no}
use Rattle.refusals.specs.declared.refusal.Refusal.TheVariants.{Tables, WrongAccounts, WrongOpeningMonth}
use Rattle.rules.specs.Opening.{empty_row, opened_market, opened_rows, opened_trades, opening_questions, opening_result}
use Rattle.rules.proofs.Empty.{empty_book, books_empty}
use Rattle.refusals.proofs.Facts.{all_yes}

pub market_opens : (month : ℕ) → month ≤ 1199 → market_keeps (opened_market month) ≡ true
unfolding opened_market
market_opens month h = and_from (nat_le month 1199) _ (le-leb month 1199 h) refl

house_empty : house_keeps empty_book ≡ true
unfolding empty_row
house_empty = refl

constituent_empty : constituent_keeps empty_book ≡ true
unfolding empty_row
constituent_empty = refl

pub opened_keeps : (n : ℕ) → 1 ≤ n → tables_keep n (opened_rows n) (opened_trades n) ≡ true
opened_keeps zero h = absurd (omega arith)
opened_keeps (suc n) h =
    keeps_from (suc n) (opened_rows (suc n)) (opened_trades (suc n)) (length-replicate (suc n) empty_row) (length-replicate (64 * suc n) no_trade)
    (ap (λ (bs : List Book). house_keeps (slice_index_or bs 0 empty_book)) (books_empty (suc n)) ∙ house_empty)
    (ap (λ (bs : List Book). list_all constituent_keeps (drop 1 bs)) (books_empty (suc n)) ∙ list_all_replicate constituent_keeps empty_book n constituent_empty)

-- what an opening whose questions are answered yes tells
pub record Allowed (n month : ℕ) (rs : List AccountRow) (ts : List TradeRow) : Type 0 where
  pub some : 1 ≤ n
  pub few : n ≤ 32
  pub rows : length rs ≡ n
  pub places : length ts ≡ 64 * n

pub allowed : (n month : ℕ) (rs : List AccountRow) (ts : List TradeRow) → first_no (opening_questions n month rs ts) ≡ Ok tt → Allowed n month rs ts
allowed n month rs ts e =
    let q = all_yes (opening_questions n month rs ts) e in
    let a = and_parts (nat_le 1 n) (nat_le n 32) q.0 in
    let b = and_parts (nat_eq (length rs) n) (nat_eq (length ts) (64 * n)) q.1.1.0 in
    record { some = leb-true _ _ a.0; few = leb-true _ _ a.1; rows = eqb-true _ _ b.0; places = eqb-true _ _ b.1 }

-- an opening asks nothing of the tables but their lengths: tables of at most 32 accounts answer as those that it leaves
abbrev later : ℕ → ℕ → ℕ → ℕ → List Question
later n month a b = (nat_le month 1199, WrongOpeningMonth) ∷ (nat_eq a n && nat_eq b (64 * n), Tables) ∷ []

by_lengths : (n month a b d e : ℕ) → ((nat_le 1 n && nat_le n 32) ≡ true → (a ≡ d) × (b ≡ e))
    → (t : Bool) → (nat_le 1 n && nat_le n 32) ≡ t → first_no ((t, WrongAccounts) ∷ later n month a b) ≡ first_no ((t, WrongAccounts) ∷ later n month d e)
by_lengths n month a b d e h false q = refl
by_lengths n month a b d e h true q = ap₂ (λ (x y : ℕ). first_no (later n month x y)) (h q).0 (h q).1

min_few : (n : ℕ) → (nat_le 1 n && nat_le n 32) ≡ true → min n 32 ≡ n
min_few n e = let le : n ≤ 32 = leb-true n 32 (and_parts (nat_le 1 n) (nat_le n 32) e).1 in omega arith

pub asked_same : (n month : ℕ) (rs : List AccountRow) (ts : List TradeRow) → length rs ≡ min n 32 → length ts ≡ 64 * min n 32
    → first_no (opening_questions n month rs ts) ≡ opening_result n month
asked_same n month rs ts er et =
    by_lengths n month (length rs) (length ts) (length (opened_rows n)) (length (opened_trades n))
    (λ e. (er ∙ (min_few n e ∙ sym (length-replicate n empty_row)), et ∙ (ap (λ (y : ℕ). 64 * y) (min_few n e) ∙ sym (length-replicate (64 * n) no_trade))))
    (nat_le 1 n && nat_le n 32) refl
