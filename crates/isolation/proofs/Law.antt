-- The law, put together.
use Rattle.std.proofs.Common.{◌≡◌, ℕ, zero, suc, ◌+◌, ◌<◌, ◌≤◌, Bool, nat_eq, List, length, take, slice_index_or, replicate, ℤ, sym, refl, ap, ◌∙◌, subst, zero-add, arith}
use mathlib.Core.Path.{fun_ext}
use mathlib.Core.Bool.{beq}
use Rattle.std.proofs.lemmas.List.{length-replicate, get_or-replicate}
use Rattle.std.proofs.lemmas.List.Elements.{All-replicate}
use Rattle.std.specs.List.{All}
use Rattle.models.specs.Meaning.{Meaning}
use Rattle.tables.specs.Books.{Book, no_book}
use Rattle.rules.specs.declared.call.Event.{Event}
use Rattle.rules.specs.declared.call.Reply.{Reply}
use Rattle.rules.specs.Opening.{empty_row, opened_market}
use Rattle.rules.specs.Stands.{Stand, stand_of, books_in, cover_of}
use Rattle.rules.proofs.Empty.{empty_book, books_empty, opened_rests}
use Rattle.isolation.specs.Runs.{run, replies, opened, accepted}
use Rattle.isolation.specs.Views.{View, constituent_view, house_view, restriction_of_house, constituent_trace, house_trace, observed}
use Rattle.isolation.specs.Isolation.{Agree, book_of, lacking, drawn_cash, lodged_cash, drawn_lots, lodged_lots, Accounted, Covered, Alike, Isolation}
use Rattle.isolation.proofs.Unwinding.{isolated, heard, take_replies}
use Rattle.isolation.proofs.Steps.{Rests, rests_run}
use Rattle.isolation.proofs.Constituents.{constituent_unwound}
use Rattle.isolation.proofs.Houses.{house_unwound}
use Rattle.isolation.proofs.Ledgers.{ledger_run}
use Rattle.isolation.proofs.Accounts.{cash_ledger, lots_ledger}
use Rattle.isolation.proofs.Covers.{Short, short_run, covered_at}

-- meanings that agree at every question are one
pub same_meaning : (m l : Meaning) → Agree m l → m ≡ l
same_meaning m l a =
    let made : ℕ → ℕ → (ℕ → ℕ → ℕ → ℕ) → (ℕ → ℕ → ℕ → ℕ) → (ℕ → ℕ → ℕ → ℕ → ℤ) → Meaning = λ s n r t c. record { sets = s; scenarios = n; rate = r; tick = t; change = c } in
    let rates : m.rate ≡ l.rate = fun_ext (λ s. fun_ext (λ b. fun_ext (λ r. a.rate s b r))) in
    let ticks : m.tick ≡ l.tick = fun_ext (λ s. fun_ext (λ b. fun_ext (λ r. a.tick s b r))) in
    let changes : m.change ≡ l.change = fun_ext (λ s. fun_ext (λ b. fun_ext (λ r. fun_ext (λ j. a.change s b r j)))) in
    ap (λ (s : ℕ). made s m.scenarios m.rate m.tick m.change) a.sets
    ∙ ap (λ (n : ℕ). made l.sets n m.rate m.tick m.change) a.scenarios
    ∙ ap (λ (r : ℕ → ℕ → ℕ → ℕ). made l.sets l.scenarios r m.tick m.change) rates
    ∙ ap (λ (t : ℕ → ℕ → ℕ → ℕ). made l.sets l.scenarios l.rate t m.change) ticks
    ∙ ap (λ (c : ℕ → ℕ → ℕ → ℕ → ℤ). made l.sets l.scenarios l.rate l.tick c) changes

-- the opened stand has n empty books
pub opened_is : (month n : ℕ) → opened month n ≡ stand_of (opened_market month) (replicate n empty_book)
unfolding opened
opened_is month n = ap (stand_of (opened_market month)) (books_empty n)

pub opened_at_rest : (m : Meaning) (month n : ℕ) → 1 ≤ n → Rests m (opened month n)
opened_at_rest m month zero some = absurd (omega arith)
opened_at_rest m month (suc n) some = subst (Rests m) (sym (opened_is month (suc n))) (opened_rests m month n)

pub opened_length : (month n : ℕ) → 1 ≤ n → length (opened month n).constituents + 1 ≡ n
opened_length month zero some = absurd (omega arith)
opened_length month (suc n) some =
    let e : length (opened month (suc n)).constituents ≡ n = ap (λ (s : Stand). length s.constituents) (opened_is month (suc n)) ∙ length-replicate n empty_book in
    omega arith

short_empty : (n : ℕ) → All (λ (b : Book). b.row.shortfall ≡ lacking b) (replicate n empty_book)
unfolding empty_row
short_empty n = All-replicate (λ (b : Book). b.row.shortfall ≡ lacking b) n empty_book refl

opened_short : (month n : ℕ) → 1 ≤ n → Short (opened month n)
opened_short month zero some = absurd (omega arith)
opened_short month (suc n) some = subst Short (sym (opened_is month (suc n))) (short_empty n)

opened_book : (month n i : ℕ) → i < n → book_of (opened month n) i ≡ empty_book
opened_book month zero i l = absurd (omega arith)
opened_book month (suc n) i l = ap (λ (s : Stand). book_of s i) (opened_is month (suc n)) ∙ get_or-replicate (suc n) i empty_book no_book l

empty_lots : (which : ℕ) → slice_index_or empty_book.row.lots which 0 ≡ 0
unfolding empty_row
empty_lots which = go 32 which
  where
    go : (n w : ℕ) → ◌≡◌ {A = ℕ} (slice_index_or (replicate n 0) w 0) 0
    go zero w = refl
    go (suc n) zero = refl
    go (suc n) (suc w) = go n w

empty_cash : empty_book.row.cash ≡ 0
unfolding empty_row
empty_cash = refl

empty_long : length empty_book.row.lots ≡ 32
unfolding empty_row
empty_long = refl

module _ (m : Meaning) (month n : ℕ) where
  abbrev first : Stand
  first = opened month n

  constituents_isolated : (j : ℕ) → suc j < n → (l : Meaning) → Agree m l → (es fs : List Event) → constituent_trace m j first es ≡ constituent_trace l j first fs
      → (observed m (suc j) (λ s. book_of s (suc j)) first es ≡ observed l (suc j) (λ s. book_of s (suc j)) first fs) × (book_of (run m first es) (suc j) ≡ book_of (run l first fs) (suc j))
  constituents_isolated j lt l a es fs =
      subst (λ (k : Meaning). constituent_trace m j first es ≡ constituent_trace k j first fs
      → (observed m (suc j) (λ s. book_of s (suc j)) first es ≡ observed k (suc j) (λ s. book_of s (suc j)) first fs) × (book_of (run m first es) (suc j) ≡ book_of (run k first fs) (suc j)))
      (same_meaning m l a)
      (λ h.
      let kept : Rests m first × (j < length first.constituents) = (opened_at_rest m month n (omega arith), omega (arith, opened_length month n (omega arith))) in
      let o = isolated restriction_of_house beq m (suc j) (constituent_view j) (constituent_unwound m j) first first es fs kept kept refl h in
      (o.0, ap (λ (v : View Bool). v.own) o.1))

  house_isolated : 1 ≤ n → (l : Meaning) → Agree m l → (es fs : List Event) → house_trace m first es ≡ house_trace l first fs
      → (observed m 0 (λ s. book_of s 0) first es ≡ observed l 0 (λ s. book_of s 0) first fs) × (book_of (run m first es) 0 ≡ book_of (run l first fs) 0)
  house_isolated some l a es fs =
      subst (λ (k : Meaning). house_trace m first es ≡ house_trace k first fs
      → (observed m 0 (λ s. book_of s 0) first es ≡ observed k 0 (λ s. book_of s 0) first fs) × (book_of (run m first es) 0 ≡ book_of (run k first fs) 0))
      (same_meaning m l a)
      (λ h.
      let kept = opened_at_rest m month n some in
      let o = isolated cover_of nat_eq m 0 house_view (house_unwound m) first first es fs kept kept refl h in
      (o.0, ap (λ (v : View ℕ). v.own) o.1))

  many : 1 ≤ n → (i : ℕ) → i < n → i < length (books_in first)
  many some i l = omega (arith, opened_length month n some)

  accounted_run : 1 ≤ n → (es : List Event) → Accounted n es (replies m first es) (run m first es)
  accounted_run some es = record {
    cash = λ i l.
        let none : (book_of first i).row.cash ≡ 0 = ap (λ (b : Book). b.row.cash) (opened_book month n i l) ∙ empty_cash in
        let g : (book_of (run m first es) i).row.cash + accepted drawn_cash i es (replies m first es) ≡ (book_of first i).row.cash + accepted lodged_cash i es (replies m first es) = ledger_run cash_ledger m i first es (many some i l) tt in
        g ∙ ap (λ (x : ℕ). x + accepted lodged_cash i es (replies m first es)) none ∙ zero-add (accepted lodged_cash i es (replies m first es));
    lots = λ i l which low.
        let none : slice_index_or (book_of first i).row.lots which 0 ≡ 0 = ap (λ (b : Book). slice_index_or b.row.lots which 0) (opened_book month n i l) ∙ empty_lots which in
        let long : length (book_of first i).row.lots ≡ 32 = ap (λ (b : Book). length b.row.lots) (opened_book month n i l) ∙ empty_long in
        let g : slice_index_or (book_of (run m first es) i).row.lots which 0 + accepted (drawn_lots which) i es (replies m first es) ≡ slice_index_or (book_of first i).row.lots which 0 + accepted (lodged_lots which) i es (replies m first es) = ledger_run (lots_ledger which low) m i first es (many some i l) long in
        g ∙ ap (λ (x : ℕ). x + accepted (lodged_lots which) i es (replies m first es)) none ∙ zero-add (accepted (lodged_lots which) i es (replies m first es));
  }

  covered_run : 1 ≤ n → (es : List Event) → Covered m (run m first es)
  covered_run some es = covered_at m (run m first es) (rests_run m first es (opened_at_rest m month n some)) (short_run m first es (opened_short month n some))

pub isolation : (m : Meaning) → Isolation m
isolation m month n some es =
    let first = opened month n in
    let alike : (l : Meaning) (i : ℕ) (fs : List Event)
    → (observed m i (λ s. book_of s i) first es ≡ observed l i (λ s. book_of s i) first fs) × (book_of (run m first es) i ≡ book_of (run l first fs) i)
    → Alike m l i first es fs (replies m first es) (run m first es) =
    λ l i fs o. record { answered = heard m l i (λ s. book_of s i) first first es fs o.0; observes = o.0; holds = o.1 } in
    record {
      constituents = λ j lt l a fs h. alike l (suc j) fs (constituents_isolated m month n j lt l a es fs h);
      house = λ l a fs h. alike l 0 fs (house_isolated m month n some l a es fs h);
      accounted = λ i le. subst (λ (os : List Reply). Accounted n (take i es) os (run m first (take i es))) (sym (take_replies m first i es)) (accounted_run m month n some (take i es));
      covered = λ i le. covered_run m month n some (take i es);
      accounted_end = accounted_run m month n some es;
      covered_end = covered_run m month n some es;
    }
