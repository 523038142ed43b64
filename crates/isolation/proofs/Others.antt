-- What an account call leaves of the accounts that it does not name.
use Rattle.std.proofs.Common.{◌≡◌, ℕ, zero, suc, ◌<◌, ◌≤◌, Bool, false, if◌then◌else◌, nat_eq, ◌⊎◌, length, slice_set, sym, refl, ap, ◌∙◌, subst, ap₂, inl, inr, length-set, get_or-set_other}
use Rattle.std.proofs.lemmas.List.{get_or-map}
use Rattle.std.proofs.lemmas.Bool.{ne_eqb, cond-false, cases_lt}
use Rattle.models.specs.Meaning.{Meaning}
use Rattle.refusals.specs.declared.refusal.Refusal.{Refusal}
use Rattle.refusals.specs.Refusals.{number_of}
use Rattle.refusals.proofs.Facts.{refusal_some}
use Rattle.tables.specs.Books.{Book, no_book}
use Rattle.market.specs.declared.state.MarketState.{MarketState}
use Rattle.rules.specs.declared.call.AccountCall.{AccountCall}
use Rattle.rules.specs.declared.call.Answer.{Answer}
use Rattle.rules.specs.Settling.{house_settled, reflagged}
use Rattle.rules.specs.Stands.{Stand, Verdict, refused, granted, cover_of, finish, after_account}
use Rattle.rules.specs.Outcomes.{verdict_number, account_reply}
use Rattle.rules.proofs.Resting.{cover_reflagged}
use Rattle.isolation.specs.Isolation.{book_of}
use Rattle.isolation.proofs.Steps.{house_after, constituent_after, house_verdict, constituent_verdict, house_steps, house_replies, constituent_steps, constituent_replies, absent_steps, absent_replies}

abbrev pub left_book : Bool → Bool → Book → Book
left_book accepted restricted b = (if accepted then reflagged restricted b else b)

refused_number : (r : Refusal) → nat_eq (number_of r) 0 ≡ false
refused_number r = ne_eqb (number_of r) 0 (refusal_some r)

-- a constituent's book when a stand is settled
finish_flags : (m : Meaning) (s : Stand) (j : ℕ) → j < length s.constituents → book_of (finish m s) (suc j) ≡ reflagged (finish m s).house.row.own (book_of s (suc j))
finish_flags m s j l = get_or-map (reflagged (finish m s).house.row.own) s.constituents j no_book no_book l

house_leaves : (m : Meaning) (s : Stand) (j : ℕ) (v : Verdict Book) → j < length s.constituents
    → book_of (house_after m s v) (suc j) ≡ left_book (nat_eq (verdict_number v) 0) (house_after m s v).house.row.own (book_of s (suc j))
house_leaves m s j (refused r) l = sym (cond-false (nat_eq (number_of r) 0) (reflagged s.house.row.own (book_of s (suc j))) (book_of s (suc j)) (refused_number r))
house_leaves m s j (granted b) l = finish_flags m (record { market = s.market; house = b; constituents = s.constituents }) j l

constituent_leaves : (m : Meaning) (s : Stand) (j i : ℕ) (v : Verdict Book) → j < length s.constituents → (j ≡ i → ⊥)
    → book_of (constituent_after m s i v) (suc j) ≡ left_book (nat_eq (verdict_number v) 0) (constituent_after m s i v).house.row.own (book_of s (suc j))
constituent_leaves m s j i (refused r) l ne = sym (cond-false (nat_eq (number_of r) 0) (reflagged s.house.row.own (book_of s (suc j))) (book_of s (suc j)) (refused_number r))
constituent_leaves m s j i (granted b) l ne =
    let d : Stand = record { market = s.market; house = s.house; constituents = slice_set s.constituents i b } in
    finish_flags m d j (subst (λ (n : ℕ). j < n) (sym (length-set s.constituents i b)) l)
    ∙ ap (reflagged (finish m d).house.row.own) (get_or-set_other s.constituents i j b no_book ne)

pub others_left : (m : Meaning) (s : Stand) (i : ℕ) (c : AccountCall) (j : ℕ) → j < length s.constituents → (suc j ≡ i → ⊥)
    → book_of (after_account m s i c) (suc j) ≡ left_book (nat_eq (account_reply m s i c).number 0) (after_account m s i c).house.row.own (book_of s (suc j))
others_left m s zero c j l ne =
    ap (λ (t : Stand). book_of t (suc j)) (house_steps m s c) ∙ house_leaves m s j (house_verdict m s c) l
    ∙ ap₂ (λ (n : ℕ) (t : Stand). left_book (nat_eq n 0) t.house.row.own (book_of s (suc j))) (sym (ap (λ (a : Answer). a.number) (house_replies m s c))) (sym (house_steps m s c))
others_left m s (suc i) c j l ne = go (cases_lt i (length s.constituents))
  where
    go : (i < length s.constituents) ⊎ (length s.constituents ≤ i) → book_of (after_account m s (suc i) c) (suc j) ≡ left_book (nat_eq (account_reply m s (suc i) c).number 0) (after_account m s (suc i) c).house.row.own (book_of s (suc j))
    go (inl h) =
        ap (λ (t : Stand). book_of t (suc j)) (constituent_steps m s c i h) ∙ constituent_leaves m s j i (constituent_verdict m s i c) l (λ e. ne (ap suc e))
        ∙ ap₂ (λ (n : ℕ) (t : Stand). left_book (nat_eq n 0) t.house.row.own (book_of s (suc j))) (sym (ap (λ (a : Answer). a.number) (constituent_replies m s c i h))) (sym (constituent_steps m s c i h))
    go (inr h) =
        ap (λ (t : Stand). book_of t (suc j)) (absent_steps m s c i h)
        ∙ ap (λ (n : ℕ). left_book (nat_eq n 0) (after_account m s (suc i) c).house.row.own (book_of s (suc j))) (sym (ap (λ (a : Answer). a.number) (absent_replies m s c i h)))

-- the house's book after a call on a constituent
abbrev pub left_house : Meaning → MarketState → Bool → ℕ → Book → Book
left_house m k accepted cover b = (if accepted then house_settled m k cover b else b)

constituent_settles : (m : Meaning) (s : Stand) (i : ℕ) (v : Verdict Book)
    → (constituent_after m s i v).house ≡ left_house m s.market (nat_eq (verdict_number v) 0) (cover_of (constituent_after m s i v)) s.house
constituent_settles m s i (refused r) = sym (cond-false (nat_eq (number_of r) 0) (house_settled m s.market (cover_of s) s.house) s.house (refused_number r))
constituent_settles m s i (granted b) =
    let d : Stand = record { market = s.market; house = s.house; constituents = slice_set s.constituents i b } in
    ap (λ (x : ℕ). house_settled m s.market x s.house) (sym (cover_reflagged (finish m d).house.row.own d.constituents))

pub house_kept : (m : Meaning) (s : Stand) (i : ℕ) (c : AccountCall) → (0 ≡ i → ⊥)
    → (after_account m s i c).house ≡ left_house m s.market (nat_eq (account_reply m s i c).number 0) (cover_of (after_account m s i c)) s.house
house_kept m s zero c ne = absurd (ne refl)
house_kept m s (suc i) c ne = go (cases_lt i (length s.constituents))
  where
    go : (i < length s.constituents) ⊎ (length s.constituents ≤ i) → (after_account m s (suc i) c).house ≡ left_house m s.market (nat_eq (account_reply m s (suc i) c).number 0) (cover_of (after_account m s (suc i) c)) s.house
    go (inl h) =
        ap (λ (t : Stand). t.house) (constituent_steps m s c i h) ∙ constituent_settles m s i (constituent_verdict m s i c)
        ∙ ap₂ (λ (n : ℕ) (t : Stand). left_house m s.market (nat_eq n 0) (cover_of t) s.house) (sym (ap (λ (a : Answer). a.number) (constituent_replies m s c i h))) (sym (constituent_steps m s c i h))
    go (inr h) =
        ap (λ (t : Stand). t.house) (absent_steps m s c i h)
        ∙ ap (λ (n : ℕ). left_house m s.market (nat_eq n 0) (cover_of (after_account m s (suc i) c)) s.house) (sym (ap (λ (a : Answer). a.number) (absent_replies m s c i h)))
