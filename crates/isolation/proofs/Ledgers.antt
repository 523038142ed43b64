-- What an account holds is what its accepted calls lodged less what they drew.
use Rattle.std.proofs.Common.{◌≡◌, ℕ, zero, suc, ◌+◌, ◌<◌, Bool, true, false, if◌then◌else◌, nat_eq, ◌⊎◌, List, [], ◌∷◌, map, length, slice_index_or, slice_set, Some, None, Ok, Err, Option, Result, sym, refl, ap, ◌∙◌, subst, ap₂, inl, inr, arith, length-set, get_or-set_other, get_or-set_same}
use lib.ListN.{length-map}
use Rattle.std.proofs.lemmas.List.{get_or-map}
use Rattle.std.proofs.lemmas.Bool.{eq-eqb, ne_eqb, cases_eq, cond-true, cond-false, cond_both}
use Rattle.models.specs.Meaning.{Meaning}
use Rattle.refusals.specs.declared.refusal.Refusal.{Refusal}
use Rattle.refusals.specs.Refusals.{first_no, decided, number_of}
use Rattle.refusals.proofs.Facts.{refusal_some}
use Rattle.tables.specs.Books.{Book, no_book}
use Rattle.market.specs.declared.call.MarketCall.{MarketCall}
use Rattle.market.specs.declared.state.MarketState.{MarketState}
use Rattle.market.specs.Calls.{market_questions, market_changed}
use Rattle.rules.specs.declared.call.AccountCall.{AccountCall}
use Rattle.rules.specs.declared.call.Answer.{Answer}
use Rattle.rules.specs.declared.call.Call.TheVariants.{Account, Market}
use Rattle.rules.specs.declared.call.Event.{Event}
use Rattle.rules.specs.declared.call.Event.TheVariants.{RightTables, WrongTables}
use Rattle.rules.specs.declared.call.Reply.{Reply}
use Rattle.rules.specs.Changes.{changed}
use Rattle.rules.specs.Questions.{asked_before, asked_after}
use Rattle.rules.specs.Settling.{settled_row, settled, reflagged}
use Rattle.rules.specs.Stands.{Stand, Verdict, refused, granted, books_in, cover_of, tried, ordered, finish, after_account}
use Rattle.rules.specs.Outcomes.{verdict_number, account_reply}
use Rattle.rules.specs.Calls.{reply_number}
use Rattle.rules.specs.MarketCalls.{matured_out, aged_by, new_month, aged}
use Rattle.isolation.specs.Runs.{after, reply, run, replies, moved, accepted}
use Rattle.isolation.specs.Isolation.{book_of}
use Rattle.isolation.proofs.Steps.{house_after, constituent_after, announced, market_after, house_verdict, constituent_verdict, house_steps, house_replies, constituent_steps, constituent_replies, account_cases, length_after}

-- a granted call was asked, and leaves the book as it settles with the change
pub granted_asked : (m : Meaning) (k : MarketState) (h : Bool) (x : ℕ) (b y : Book) (c : AccountCall) → ordered m k h x b c ≡ granted y → (first_no (asked_before k b c) ≡ Ok tt) × (y ≡ tried m k x b c)
granted_asked m k h x b y c = go (first_no (asked_before k b c)) (first_no (asked_after h b.row (tried m k x b c).row c))
  where
    go : (p q : Result (Unit {0}) Refusal) → decided p (decided q (granted (tried m k x b c)) refused) refused ≡ granted y → (p ≡ Ok tt) × (y ≡ tried m k x b c)
    go (Ok u) (Ok v) e = (refl, sym (let z : tried m k x b c ≡ y = cc in z))
    go (Ok u) (Err r) e = absurd (let z : ◌≡◌ {A = ℕ} 0 1 = cc in omega arith)
    go (Err r) q e = absurd (let z : ◌≡◌ {A = ℕ} 0 1 = cc in omega arith)

-- a measure of cash and lots, with what calls add to it and take from it
pub record Ledger : Type 1 where
  pub hold : ℕ → List ℕ → ℕ
  pub fits : List ℕ → Type 0
  pub into : AccountCall → ℕ
  pub out : AccountCall → ℕ
  pub keeps : (k : MarketState) (b : Book) (c : AccountCall) → fits b.row.lots → fits (changed c b).row.lots
  pub changes : (k : MarketState) (b : Book) (c : AccountCall) → fits b.row.lots → first_no (asked_before k b c) ≡ Ok tt
      → hold (changed c b).row.cash (changed c b).row.lots + out c ≡ hold b.row.cash b.row.lots + into c

-- two books that hold the same cash and lots
abbrev Same : Book → Book → Type 0
Same a b = (a.row.cash ≡ b.row.cash) × (a.row.lots ≡ b.row.lots)

settled_same : (m : Meaning) (k : MarketState) (x : ℕ) (b : Book) → Same (settled m k x b) b
unfolding settled_row
settled_same m k x b = (refl, refl)

aged_same : (o : Option ℕ) (b : Book) → Same (aged_by o b) b
unfolding matured_out
aged_same None b = (refl, refl)
aged_same (Some month) b = (refl, refl)

-- settling a stand leaves what every account holds
finish_same : (m : Meaning) (s : Stand) (i : ℕ) → i < length (books_in s) → Same (book_of (finish m s) i) (book_of s i)
unfolding settled_row
finish_same m s zero l = (refl, refl)
finish_same m s (suc j) l =
    let r = (finish m s).house.row.own in
    let is : slice_index_or (map (reflagged r) s.constituents) j no_book ≡ reflagged r (slice_index_or s.constituents j no_book) = get_or-map (reflagged r) s.constituents j no_book no_book (omega arith) in
    (ap (λ (b : Book). b.row.cash) is, ap (λ (b : Book). b.row.lots) is)

through : (a b c : Book) → Same a b → Same b c → Same a c
through a b c p q = (p.0 ∙ q.0, p.1 ∙ q.1)

announced_same : (m : Meaning) (s : Stand) (c : MarketCall) (i : ℕ) → i < length (books_in s) → Same (book_of (finish m (announced m s c)) i) (book_of s i)
announced_same m s c zero l =
    through (book_of (finish m (announced m s c)) 0) (aged c s.house) s.house (finish_same m (announced m s c) 0 (omega arith)) (aged_same (new_month c) s.house)
announced_same m s c (suc j) l =
    let k = market_changed c s.market in
    let d = announced m s c in
    let f : Book → Book = λ b. settled m k 0 (aged c b) in
    let b = slice_index_or s.constituents j no_book in
    let is : book_of d (suc j) ≡ f b = get_or-map f s.constituents j no_book no_book (omega arith) in
    let at : Same (book_of d (suc j)) (f b) = (ap (λ (x : Book). x.row.cash) is, ap (λ (x : Book). x.row.lots) is) in
    let now' = finish_same m d (suc j) (omega (arith, length-map s.constituents f)) in
    through (book_of (finish m d) (suc j)) (book_of d (suc j)) b now'
    (through (book_of d (suc j)) (f b) b at (through (f b) (aged c b) b (settled_same m k 0 (aged c b)) (aged_same (new_month c) b)))

market_same : (m : Meaning) (s : Stand) (c : MarketCall) (i : ℕ) (a : Result (Unit {0}) Refusal) → i < length (books_in s) → Same (book_of (market_after m s c a) i) (book_of s i)
market_same m s c i (Err e) l = (refl, refl)
market_same m s c i (Ok x) l = announced_same m s c i l

-- a call on the house, or on a constituent, leaves what every other account holds
house_other : (m : Meaning) (s : Stand) (i : ℕ) (v : Verdict Book) → i < length (books_in s) → (i ≡ 0 → ⊥) → Same (book_of (house_after m s v) i) (book_of s i)
house_other m s i (refused e) l ne = (refl, refl)
house_other m s zero (granted b) l ne = absurd (ne refl)
house_other m s (suc j) (granted b) l ne = finish_same m (record { market = s.market; house = b; constituents = s.constituents }) (suc j) l

constituent_other : (m : Meaning) (s : Stand) (i a : ℕ) (v : Verdict Book) → i < length (books_in s) → (suc a ≡ i → ⊥) → Same (book_of (constituent_after m s a v) i) (book_of s i)
constituent_other m s i a (refused e) l ne = (refl, refl)
constituent_other m s zero a (granted b) l ne = finish_same m (record { market = s.market; house = s.house; constituents = slice_set s.constituents a b }) 0 (omega arith)
constituent_other m s (suc j) a (granted b) l ne =
    let d : Stand = record { market = s.market; house = s.house; constituents = slice_set s.constituents a b } in
    let is : book_of d (suc j) ≡ book_of s (suc j) = get_or-set_other s.constituents a j b no_book (λ e. ne (ap suc (sym e))) in
    through (book_of (finish m d) (suc j)) (book_of d (suc j)) (book_of s (suc j)) (finish_same m d (suc j) (omega (arith, length-set s.constituents a b))) (ap (λ (x : Book). x.row.cash) is, ap (λ (x : Book). x.row.lots) is)

other_same : (m : Meaning) (s : Stand) (i a : ℕ) (c : AccountCall) → i < length (books_in s) → (a ≡ i → ⊥) → Same (book_of (after_account m s a c) i) (book_of s i)
other_same m s i a c l ne =
    account_cases m s a c (λ (t : Stand). Same (book_of t i) (book_of s i)) (refl, refl) (λ e. house_other m s i (house_verdict m s c) l (λ z. ne (e ∙ sym z)))
    (λ j e h. constituent_other m s i j (constituent_verdict m s j c) l (λ z. ne (e ∙ z)))

module _ (L : Ledger) (m : Meaning) (i : ℕ) where
  abbrev held : Stand → ℕ
  held s = L.hold (book_of s i).row.cash (book_of s i).row.lots

  abbrev Fits : Stand → Type 0
  Fits s = L.fits (book_of s i).row.lots

  -- what an event moves, if it is accepted
  abbrev counted : (AccountCall → ℕ) → Event → Reply → ℕ
  counted f e o = (if nat_eq (reply_number o) 0 then moved f i e else 0)

  same_held : (s t : Stand) → Same (book_of t i) (book_of s i) → held t ≡ held s
  same_held s t p = ap₂ L.hold p.0 p.1

  same_fits : (s t : Stand) → Same (book_of t i) (book_of s i) → Fits s → Fits t
  same_fits s t p f = subst L.fits (sym p.1) f

  -- nothing moves
  none : (b : Bool) → ◌≡◌ {A = ℕ} (if b then 0 else 0) 0
  none b = cond_both b 0 0 (λ (n : ℕ). n ≡ 0) (λ t. refl) (λ f. refl)

  abbrev Goes : Stand → Stand → Event → Reply → Type 0
  Goes s t e o = (held t + counted L.out e o ≡ held s + counted L.into e o) × Fits t

  idle : (s t : Stand) (e : Event) (o : Reply) → Same (book_of t i) (book_of s i) → counted L.out e o ≡ 0 → counted L.into e o ≡ 0 → Fits s → Goes s t e o
  idle s t e o p x y f = (ap₂ (λ (a b : ℕ). a + b) (same_held s t p) (x ∙ sym y), same_fits s t p f)

  -- an account call that moves something: the verdict is on account i's own book b
  move : (s t : Stand) (k : MarketState) (x : ℕ) (h : Bool) (b y : Book) (c : AccountCall) → ordered m k h x b c ≡ granted y → book_of s i ≡ b → Same (book_of t i) y → Fits s
      → (held t + L.out c ≡ held s + L.into c) × Fits t
  move s t k x h b y c v at p f =
      let g = granted_asked m k h x b y c v in
      let fb : L.fits b.row.lots = subst (λ (z : Book). L.fits z.row.lots) at f in
      let q : Same (book_of t i) (changed c b) =
      through (book_of t i) y (changed c b) p (subst (λ (z : Book). Same z (changed c b)) (sym g.1) (settled_same m k x (changed c b))) in (
        ap (λ (n : ℕ). n + L.out c) (ap₂ L.hold q.0 q.1) ∙ L.changes k b c fb g.0 ∙ ap (λ (z : Book). L.hold z.row.cash z.row.lots + L.into c) (sym at),
        subst L.fits (sym q.1) (L.keeps k b c fb),
      )

  -- a refused call has a number, so that it is not counted
  uncounted : (f : AccountCall → ℕ) (e : Event) (o : Reply) (r : Refusal) → reply_number o ≡ number_of r → counted f e o ≡ 0
  uncounted f e o r n = cond-false (nat_eq (reply_number o) 0) (moved f i e) 0 (ne_eqb (reply_number o) 0 (λ z. refusal_some r (sym n ∙ z)))

  -- an accepted call of account i is counted
  counts : (f : AccountCall → ℕ) (a : ℕ) (c : AccountCall) (o : Reply) → a ≡ i → reply_number o ≡ 0 → (if nat_eq (reply_number o) 0 then (if nat_eq a i then f c else 0) else 0) ≡ f c
  counts f a c o at n = cond-true (nat_eq (reply_number o) 0) (if nat_eq a i then f c else 0) 0 (eq-eqb (reply_number o) 0 n) ∙ cond-true (nat_eq a i) (f c) 0 (eq-eqb a i at)

  -- a call of another account is not counted
  other_counts : (f : AccountCall → ℕ) (a : ℕ) (c : AccountCall) (o : Reply) → (a ≡ i → ⊥) → (if nat_eq (reply_number o) 0 then (if nat_eq a i then f c else 0) else 0) ≡ 0
  other_counts f a c o ne = ap (λ (x : ℕ). (if nat_eq (reply_number o) 0 then x else 0)) (cond-false (nat_eq a i) (f c) 0 (ne_eqb a i ne)) ∙ none (nat_eq (reply_number o) 0)

  -- a call of account i itself, by the verdict on its book: t is the stand after it
  own_goes : (s t : Stand) (e : Event) (a : ℕ) (c : AccountCall) (o : Reply) (k : MarketState) (x : ℕ) (h : Bool) (b : Book) (v : Verdict Book)
      → ((f : AccountCall → ℕ) → counted f e o ≡ (if nat_eq (reply_number o) 0 then (if nat_eq a i then f c else 0) else 0)) → a ≡ i
      → ordered m k h x b c ≡ v → book_of s i ≡ b → reply_number o ≡ verdict_number v
      → ((r : Refusal) → v ≡ refused r → t ≡ s) → ((y : Book) → v ≡ granted y → Same (book_of t i) y) → Fits s → Goes s t e o
  own_goes s t e a c o k x h b (refused r) is at w bs n stays goes f =
      idle s t e o (subst (λ (z : Stand). Same (book_of z i) (book_of s i)) (sym (stays r refl)) (refl, refl)) (uncounted L.out e o r n) (uncounted L.into e o r n) f
  own_goes s t e a c o k x h b (granted y) is at w bs n stays goes f =
      let g = move s t k x h b y c w bs (goes y refl) f in
      let paid : (q : AccountCall → ℕ) → counted q e o ≡ q c = λ q. is q ∙ counts q a c o at n in
      (ap (λ (z : ℕ). held t + z) (paid L.out) ∙ g.0 ∙ sym (ap (λ (z : ℕ). held s + z) (paid L.into)), g.1)

house_granted : (m : Meaning) (s : Stand) (y : Book) → Same (book_of (house_after m s (granted y)) 0) y
house_granted m s y = finish_same m (record { market = s.market; house = y; constituents = s.constituents }) 0 (omega arith)

constituent_granted : (m : Meaning) (s : Stand) (j : ℕ) (y : Book) → j < length s.constituents → Same (book_of (constituent_after m s j (granted y)) (suc j)) y
constituent_granted m s j y l =
    let d : Stand = record { market = s.market; house = s.house; constituents = slice_set s.constituents j y } in
    let is : book_of d (suc j) ≡ y = get_or-set_same s.constituents j y no_book l in
    through (book_of (finish m d) (suc j)) (book_of d (suc j)) y (finish_same m d (suc j) (omega (arith, length-set s.constituents j y))) (ap (λ (x : Book). x.row.cash) is, ap (λ (x : Book). x.row.lots) is)

module _ (L : Ledger) (m : Meaning) where
  named_goes : (i : ℕ) (s : Stand) (a : ℕ) (c : AccountCall) (o : Reply) (e : Event) → ((f : AccountCall → ℕ) → counted L m i f e o ≡ (if nat_eq (reply_number o) 0 then (if nat_eq a i then f c else 0) else 0))
      → reply_number o ≡ (account_reply m s a c).number → i < length (books_in s) → Fits L m i s → (a ≡ i) ⊎ (a ≡ i → ⊥) → Goes L m i s (after_account m s a c) e o
  named_goes i s a c o e is n l f (inr ne) =
      idle L m i s (after_account m s a c) e o (other_same m s i a c l ne) (is L.out ∙ other_counts L m i L.out a c o ne) (is L.into ∙ other_counts L m i L.into a c o ne) f
  named_goes zero s a c o e is n l f (inl at) =
      let steps : after_account m s a c ≡ house_after m s (house_verdict m s c) = ap (λ (x : ℕ). after_account m s x c) at ∙ house_steps m s c in
      own_goes L m 0 s (after_account m s a c) e a c o s.market (cover_of s) true s.house (house_verdict m s c) is at refl refl
      (n ∙ ap (λ (x : ℕ). (account_reply m s x c).number) at ∙ ap (λ (x : Answer). x.number) (house_replies m s c))
      (λ r v. steps ∙ ap (house_after m s) v) (λ y v. subst (λ (z : Stand). Same (book_of z 0) y) (sym (steps ∙ ap (house_after m s) v)) (house_granted m s y)) f
  named_goes (suc j) s a c o e is n l f (inl at) =
      let lt : j < length s.constituents = omega arith in
      let steps : after_account m s a c ≡ constituent_after m s j (constituent_verdict m s j c) = ap (λ (x : ℕ). after_account m s x c) at ∙ constituent_steps m s c j lt in
      own_goes L m (suc j) s (after_account m s a c) e a c o s.market 0 false (slice_index_or s.constituents j no_book) (constituent_verdict m s j c) is at refl refl
      (n ∙ ap (λ (x : ℕ). (account_reply m s x c).number) at ∙ ap (λ (x : Answer). x.number) (constituent_replies m s c j lt))
      (λ r v. steps ∙ ap (constituent_after m s j) v) (λ y v. subst (λ (z : Stand). Same (book_of z (suc j)) y) (sym (steps ∙ ap (constituent_after m s j) v)) (constituent_granted m s j y lt)) f

  event_goes : (i : ℕ) (s : Stand) (e : Event) → i < length (books_in s) → Fits L m i s → Goes L m i s (after m s e) e (reply m s e)
  event_goes i s (WrongTables (Account c)) l f = (refl, f)
  event_goes i s (WrongTables (Market c)) l f = (refl, f)
  event_goes i s (RightTables (Market c)) l f =
      idle L m i s (after m s (RightTables (Market c))) (RightTables (Market c)) (reply m s (RightTables (Market c))) (market_same m s c i (first_no (market_questions m.sets s.market c)) l)
      (none L m i (nat_eq (reply_number (reply m s (RightTables (Market c)))) 0)) (none L m i (nat_eq (reply_number (reply m s (RightTables (Market c)))) 0)) f
  event_goes i s (RightTables (Account c)) l f =
      named_goes i s c.account c.call (reply m s (RightTables (Account c))) (RightTables (Account c)) (λ g. refl) refl l f (cases_eq c.account i)

  -- over a list
  pub ledger_run : (i : ℕ) (s : Stand) (es : List Event) → i < length (books_in s) → Fits L m i s
      → held L m i (run m s es) + accepted L.out i es (replies m s es) ≡ held L m i s + accepted L.into i es (replies m s es)
  ledger_run i s [] l f = refl
  ledger_run i s (e ∷ es) l f =
      let g = event_goes i s e l f in
      let rest = ledger_run i (after m s e) es (subst (λ (n : ℕ). i < suc n) (sym (length_after m s e)) l) g.1 in
      omega (arith, g.0, rest)
