-- One call on the house's own account, on a constituent or of the market, as the rules make it.
use Rattle.std.proofs.Common.{◌≡◌, ℕ, zero, suc, ◌<◌, ◌≤◌, Bool, true, false, if◌then◌else◌, nat_eq, nat_lt, ◌⊎◌, List, [], ◌∷◌, map, length, slice_index_or, slice_set, Ok, Err, Result, sym, refl, ap, ◌∙◌, subst, inl, inr, arith, length-set}
use lib.ListN.{length-map}
use Rattle.std.proofs.lemmas.Bool.{lt-ltb, le-ltb, ne_eqb, cond-true, cond-false, cases_lt}
use Rattle.models.specs.Meaning.{Meaning}
use Rattle.refusals.specs.declared.refusal.Refusal.{Refusal}
use Rattle.refusals.specs.declared.refusal.Refusal.TheVariants.{NoAccount}
use Rattle.refusals.specs.Refusals.{first_no, decided, number_of}
use Rattle.tables.specs.Books.{Book, no_book}
use Rattle.market.specs.declared.call.MarketCall.{MarketCall}
use Rattle.market.specs.Calls.{market_questions, market_changed}
use Rattle.rules.specs.declared.call.AccountCall.{AccountCall}
use Rattle.rules.specs.declared.call.Call.TheVariants.{Account, Market}
use Rattle.rules.specs.declared.call.Event.{Event}
use Rattle.rules.specs.declared.call.Event.TheVariants.{RightTables, WrongTables}
use Rattle.rules.specs.Settling.{settled, reflagged}
use Rattle.rules.specs.Stands.{Stand, Verdict, refused, granted, books_in, cover_of, ordered, finish, verdict, concluded, after_account}
use Rattle.rules.specs.Outcomes.{answer_of, blank_answer, verdict_number, account_reply}
use Rattle.rules.specs.MarketCalls.{aged, all_settled}
use Rattle.rules.proofs.Resting.{finish_rests}
use Rattle.isolation.specs.Runs.{after, run}

-- what a verdict on the house's own account, or on constituent j, leaves
abbrev pub house_after : Meaning → Stand → Verdict Book → Stand
house_after m s (refused e) = s
house_after m s (granted b) = finish m (record { market = s.market; house = b; constituents = s.constituents })

abbrev pub constituent_after : Meaning → Stand → ℕ → Verdict Book → Stand
constituent_after m s j (refused e) = s
constituent_after m s j (granted b) = finish m (record { market = s.market; house = s.house; constituents = slice_set s.constituents j b })

-- the stand that a market call leaves before it is settled
abbrev pub announced : Meaning → Stand → MarketCall → Stand
announced m s c =
    record { market = market_changed c s.market; house = aged c s.house; constituents = map (λ (b : Book). settled m (market_changed c s.market) 0 (aged c b)) s.constituents }

abbrev pub market_after : Meaning → Stand → MarketCall → Result (Unit {0}) Refusal → Stand
market_after m s c r = decided r (all_settled m (market_changed c s.market) c s) (λ e. s)

-- what a call on the house's own account, and on constituent j, comes to
abbrev pub house_verdict : Meaning → Stand → AccountCall → Verdict Book
house_verdict m s c = ordered m s.market true (cover_of s) s.house c

abbrev pub constituent_verdict : Meaning → Stand → ℕ → AccountCall → Verdict Book
constituent_verdict m s j c = ordered m s.market false 0 (slice_index_or s.constituents j no_book) c

module _ (m : Meaning) (s : Stand) (c : AccountCall) where
  concluded_house : (v : Verdict Book) → concluded m s 0 v ≡ house_after m s v
  concluded_house (refused e) = refl
  concluded_house (granted b) = refl

  concluded_constituent : (j : ℕ) (v : Verdict Book) → concluded m s (suc j) v ≡ constituent_after m s j v
  concluded_constituent j (refused e) = refl
  concluded_constituent j (granted b) = refl

  here : nat_lt 0 (length (books_in s)) ≡ true
  here = lt-ltb 0 (length (books_in s)) (omega arith)

  pub house_steps : after_account m s 0 c ≡ house_after m s (house_verdict m s c)
  house_steps = cond-true (nat_lt 0 (length (books_in s))) (concluded m s 0 (verdict m s 0 c)) s here ∙ concluded_house (house_verdict m s c)

  pub house_replies : account_reply m s 0 c ≡ answer_of (verdict_number (house_verdict m s c)) (after_account m s 0 c).house.row
  house_replies = cond-true (nat_lt 0 (length (books_in s))) (answer_of (verdict_number (verdict m s 0 c)) (after_account m s 0 c).house.row) (blank_answer (number_of NoAccount)) here

  module _ (j : ℕ) where
    verdict_is : verdict m s (suc j) c ≡ constituent_verdict m s j c
    verdict_is =
        let no : nat_eq (suc j) 0 ≡ false = ne_eqb (suc j) 0 (λ z. omega arith) in
        ap (λ (b : Bool). ordered m s.market b (if b then cover_of s else 0) (slice_index_or s.constituents j no_book) c) no

    pub constituent_steps : j < length s.constituents → after_account m s (suc j) c ≡ constituent_after m s j (constituent_verdict m s j c)
    constituent_steps l =
        cond-true (nat_lt (suc j) (length (books_in s))) (concluded m s (suc j) (verdict m s (suc j) c)) s (lt-ltb (suc j) (length (books_in s)) (omega arith))
        ∙ ap (concluded m s (suc j)) verdict_is ∙ concluded_constituent j (constituent_verdict m s j c)

    pub constituent_replies : j < length s.constituents → account_reply m s (suc j) c ≡ answer_of (verdict_number (constituent_verdict m s j c)) (slice_index_or (after_account m s (suc j) c).constituents j no_book).row
    constituent_replies l =
        cond-true (nat_lt (suc j) (length (books_in s))) (answer_of (verdict_number (verdict m s (suc j) c)) (slice_index_or (after_account m s (suc j) c).constituents j no_book).row) (blank_answer (number_of NoAccount)) (lt-ltb (suc j) (length (books_in s)) (omega arith))
        ∙ ap (λ (v : Verdict Book). answer_of (verdict_number v) (slice_index_or (after_account m s (suc j) c).constituents j no_book).row) verdict_is

    pub absent_steps : length s.constituents ≤ j → after_account m s (suc j) c ≡ s
    absent_steps l = cond-false (nat_lt (suc j) (length (books_in s))) (concluded m s (suc j) (verdict m s (suc j) c)) s (le-ltb (suc j) (length (books_in s)) (omega arith))

    pub absent_replies : length s.constituents ≤ j → account_reply m s (suc j) c ≡ blank_answer (number_of NoAccount)
    absent_replies l = cond-false (nat_lt (suc j) (length (books_in s))) _ (blank_answer (number_of NoAccount)) (le-ltb (suc j) (length (books_in s)) (omega arith))

-- what holds of the stand after any account call: account 0 is the house, and beyond the constituents is no account
pub account_cases : (m : Meaning) (s : Stand) (i : ℕ) (c : AccountCall) (P : Stand → Type 0) → P s → (i ≡ 0 → P (house_after m s (house_verdict m s c)))
    → ((j : ℕ) → i ≡ suc j → j < length s.constituents → P (constituent_after m s j (constituent_verdict m s j c))) → P (after_account m s i c)
account_cases m s zero c P same house other = subst P (sym (house_steps m s c)) (house refl)
account_cases m s (suc j) c P same house other = go (cases_lt j (length s.constituents))
  where
    go : (j < length s.constituents) ⊎ (length s.constituents ≤ j) → P (after_account m s (suc j) c)
    go (inl l) = subst P (sym (constituent_steps m s c j l)) (other j refl l)
    go (inr l) = subst P (sym (absent_steps m s c j l)) same

-- what holds of a stand holds of it after any event, if it holds where a book is granted to the house or a constituent, or a market call
pub after_cases : (m : Meaning) (s : Stand) (P : Stand → Type 0) → P s → ((b : Book) → P (house_after m s (granted b)))
    → ((j : ℕ) (c : AccountCall) (b : Book) → constituent_verdict m s j c ≡ granted b → P (constituent_after m s j (granted b))) → ((c : MarketCall) → P (finish m (announced m s c)))
    → (e : Event) → P (after m s e)
after_cases m s P same house other turned (WrongTables c) = same
after_cases m s P same house other turned (RightTables (Account c)) =
    account_cases m s c.account c.call P same (λ e. by_house (house_verdict m s c.call)) (λ j e l. by_constituent j (constituent_verdict m s j c.call) refl)
  where
    by_house : (v : Verdict Book) → P (house_after m s v)
    by_house (refused e) = same
    by_house (granted b) = house b

    by_constituent : (j : ℕ) (v : Verdict Book) → constituent_verdict m s j c.call ≡ v → P (constituent_after m s j v)
    by_constituent j (refused e) is = same
    by_constituent j (granted b) is = other j c.call b is
after_cases m s P same house other turned (RightTables (Market c)) = by_market (first_no (market_questions m.sets s.market c))
  where
    by_market : (r : Result (Unit {0}) Refusal) → P (market_after m s c r)
    by_market (Ok x) = turned c
    by_market (Err e) = same

-- a stand at rest: settling it once more changes nothing
abbrev pub Rests : Meaning → Stand → Type 0
Rests m s = finish m s ≡ s

-- a stand stays at rest
pub rests_after : (m : Meaning) (s : Stand) (e : Event) → Rests m s → Rests m (after m s e)
rests_after m s e k = after_cases m s (Rests m) k (λ b. finish_rests m _) (λ j c b v. finish_rests m _) (λ c. finish_rests m _) e

pub rests_run : (m : Meaning) (s : Stand) (es : List Event) → Rests m s → Rests m (run m s es)
rests_run m s [] k = k
rests_run m s (e ∷ es) k = rests_run m (after m s e) es (rests_after m s e k)

-- the number of accounts stays
finish_length : (m : Meaning) (s : Stand) → length (finish m s).constituents ≡ length s.constituents
finish_length m s = length-map s.constituents (reflagged (finish m s).house.row.own)

pub length_after : (m : Meaning) (s : Stand) (e : Event) → length (after m s e).constituents ≡ length s.constituents
length_after m s e =
    after_cases m s (λ (t : Stand). length t.constituents ≡ length s.constituents) refl
    (λ b. finish_length m (record { market = s.market; house = b; constituents = s.constituents }))
    (λ j c b v. finish_length m (record { market = s.market; house = s.house; constituents = slice_set s.constituents j b }) ∙ length-set s.constituents j b)
    (λ c. finish_length m (announced m s c) ∙ length-map s.constituents (λ (b : Book). settled m (market_changed c s.market) 0 (aged c b))) e
