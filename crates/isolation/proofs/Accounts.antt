-- Cash and lots, as ledgers.
use Rattle.std.proofs.Common.{◌≡◌, ℕ, ◌+◌, ◌-◌, ◌<◌, ◌≤◌, if◌then◌else◌, nat_eq, ◌⊎◌, List, length, slice_index_or, slice_set, Ok, sym, refl, ap, ◌∙◌, subst, inl, inr, arith, length-set, get_or-set_other, get_or-set_same}
use Rattle.std.proofs.lemmas.Bool.{leb-true, eq-eqb, ne_eqb, cases_eq, cond-true, cond-false}
use Rattle.refusals.specs.Refusals.{first_no}
use Rattle.refusals.proofs.Facts.{all_yes}
use Rattle.tables.specs.Books.{Book}
use Rattle.market.specs.declared.state.MarketState.{MarketState}
use Rattle.rules.specs.declared.call.AccountCall.{AccountCall}
use Rattle.rules.specs.declared.call.AccountCall.TheVariants.{Trade, End, LodgeCash, DrawCash, LodgeSecurity, DrawSecurity, Show}
use Rattle.rules.specs.Changes.{changed}
use Rattle.rules.specs.Questions.{asked_before}
use Rattle.isolation.specs.Isolation.{lodged_cash, drawn_cash, lodged_lots, drawn_lots}
use Rattle.isolation.proofs.Ledgers.{Ledger}

pub cash_changes : (k : MarketState) (b : Book) (c : AccountCall) → first_no (asked_before k b c) ≡ Ok tt → (changed c b).row.cash + drawn_cash c ≡ b.row.cash + lodged_cash c
cash_changes k b (Trade t) e = refl
cash_changes k b (End n) e = refl
cash_changes k b (LodgeCash x) e = omega arith
cash_changes k b (DrawCash x) e = omega (arith, leb-true x b.row.cash (all_yes (asked_before k b (DrawCash x)) e).1.0)
cash_changes k b (LodgeSecurity s n) e = refl
cash_changes k b (DrawSecurity s n) e = refl
cash_changes k b Show e = refl

abbrev pub cash_ledger : Ledger
cash_ledger = record { hold = λ n ls. n; fits = λ ls. Unit {0}; into = lodged_cash; out = drawn_cash; keeps = λ k b c f. tt; changes = λ k b c f e. cash_changes k b c e }

pub lots_length : (b : Book) (c : AccountCall) → length b.row.lots ≡ 32 → length (changed c b).row.lots ≡ 32
lots_length b (Trade t) h = h
lots_length b (End n) h = h
lots_length b (LodgeCash x) h = h
lots_length b (DrawCash x) h = h
lots_length b (LodgeSecurity s n) h = length-set b.row.lots s (slice_index_or b.row.lots s 0 + n) ∙ h
lots_length b (DrawSecurity s n) h = length-set b.row.lots s (slice_index_or b.row.lots s 0 - n) ∙ h
lots_length b Show h = h

module _ (which : ℕ) (low : which < 32) where
  -- one entry of a list that is slice_set
  lodged_at : (ls : List ℕ) (s n : ℕ) → length ls ≡ 32 → (s ≡ which) ⊎ (s ≡ which → ⊥) → slice_index_or (slice_set ls s (slice_index_or ls s 0 + n)) which 0 + 0 ≡ slice_index_or ls which 0 + (if nat_eq s which then n else 0)
  lodged_at ls s n h (inl e) =
      let same : slice_index_or (slice_set ls which (slice_index_or ls which 0 + n)) which 0 ≡ slice_index_or ls which 0 + n = get_or-set_same ls which (slice_index_or ls which 0 + n) 0 (omega arith) in
      let is : slice_index_or (slice_set ls s (slice_index_or ls s 0 + n)) which 0 ≡ slice_index_or ls which 0 + n = ap (λ (x : ℕ). slice_index_or (slice_set ls x (slice_index_or ls x 0 + n)) which 0) e ∙ same in
      omega (arith, is, cond-true (nat_eq s which) n 0 (eq-eqb s which e))
  lodged_at ls s n h (inr ne) =
      let is : slice_index_or (slice_set ls s (slice_index_or ls s 0 + n)) which 0 ≡ slice_index_or ls which 0 = get_or-set_other ls s which (slice_index_or ls s 0 + n) 0 (λ e. ne (sym e)) in
      omega (arith, is, cond-false (nat_eq s which) n 0 (ne_eqb s which ne))

  drawn_at : (ls : List ℕ) (s n : ℕ) → length ls ≡ 32 → n ≤ slice_index_or ls s 0 → (s ≡ which) ⊎ (s ≡ which → ⊥) → slice_index_or (slice_set ls s (slice_index_or ls s 0 - n)) which 0 + (if nat_eq s which then n else 0) ≡ slice_index_or ls which 0 + 0
  drawn_at ls s n h le (inl e) =
      let same : slice_index_or (slice_set ls which (slice_index_or ls which 0 - n)) which 0 ≡ slice_index_or ls which 0 - n = get_or-set_same ls which (slice_index_or ls which 0 - n) 0 (omega arith) in
      let is : slice_index_or (slice_set ls s (slice_index_or ls s 0 - n)) which 0 ≡ slice_index_or ls which 0 - n = ap (λ (x : ℕ). slice_index_or (slice_set ls x (slice_index_or ls x 0 - n)) which 0) e ∙ same in
      let le' : n ≤ slice_index_or ls which 0 = subst (λ (x : ℕ). n ≤ slice_index_or ls x 0) e le in
      omega (arith, is, cond-true (nat_eq s which) n 0 (eq-eqb s which e))
  drawn_at ls s n h le (inr ne) =
      let is : slice_index_or (slice_set ls s (slice_index_or ls s 0 - n)) which 0 ≡ slice_index_or ls which 0 = get_or-set_other ls s which (slice_index_or ls s 0 - n) 0 (λ e. ne (sym e)) in
      omega (arith, is, cond-false (nat_eq s which) n 0 (ne_eqb s which ne))

  pub lots_changes : (k : MarketState) (b : Book) (c : AccountCall) → length b.row.lots ≡ 32 → first_no (asked_before k b c) ≡ Ok tt
      → slice_index_or (changed c b).row.lots which 0 + drawn_lots which c ≡ slice_index_or b.row.lots which 0 + lodged_lots which c
  lots_changes k b (Trade t) h e = refl
  lots_changes k b (End n) h e = refl
  lots_changes k b (LodgeCash x) h e = refl
  lots_changes k b (DrawCash x) h e = refl
  lots_changes k b (LodgeSecurity s n) h e = lodged_at b.row.lots s n h (cases_eq s which)
  lots_changes k b (DrawSecurity s n) h e = drawn_at b.row.lots s n h (leb-true n (slice_index_or b.row.lots s 0) (all_yes (asked_before k b (DrawSecurity s n)) e).1.1.0) (cases_eq s which)
  lots_changes k b Show h e = refl

  abbrev pub lots_ledger : Ledger
  lots_ledger = record { hold = λ n ls. slice_index_or ls which 0; fits = λ ls. length ls ≡ 32; into = lodged_lots which; out = drawn_lots which; keeps = λ k b c h. lots_length b c h; changes = lots_changes }
