-- The cover is the sum of what the constituents lack, and the house's obligation carries it.
use Rattle.std.proofs.Common.{◌≡◌, ℕ, ◌+◌, false, List, [], ◌∷◌, map, slice_index_or, slice_set, fold, sym, refl, ap, ◌∙◌, subst}
use Rattle.std.specs.List.{All}
use Rattle.std.proofs.lemmas.List.Elements.{All-head, All-tail, All-set, All-map, All-from_get_or}
use Rattle.models.specs.Meaning.{Meaning}
use Rattle.tables.specs.Books.{Book, no_book}
use Rattle.market.specs.declared.state.MarketState.{MarketState}
use Rattle.market.specs.Calls.{market_changed}
use Rattle.rules.specs.declared.call.Event.{Event}
use Rattle.rules.specs.Changes.{changed}
use Rattle.rules.specs.Settling.{settled_row, settled, reflagged}
use Rattle.rules.specs.Stands.{Stand, finish}
use Rattle.rules.specs.MarketCalls.{aged}
use Rattle.isolation.specs.Runs.{after, run}
use Rattle.isolation.specs.Isolation.{lacking, Covered}
use Rattle.isolation.proofs.Steps.{announced, after_cases, Rests}
use Rattle.isolation.proofs.Ledgers.{granted_asked}

-- the stored shortfall is what the account lacks
abbrev IsShort : Book → Type 0
IsShort b = b.row.shortfall ≡ lacking b

abbrev pub Short : Stand → Type 0
Short s = All IsShort s.constituents

each_short : (f : Book → Book) → ((b : Book) → IsShort (f b)) → (bs : List Book) → All IsShort (map f bs)
each_short f g bs = All-map IsShort f bs (All-from_get_or (λ (b : Book). IsShort (f b)) bs no_book (λ i l. g (slice_index_or bs i no_book)))

settled_short : (m : Meaning) (k : MarketState) (x : ℕ) (b : Book) → IsShort (settled m k x b)
unfolding settled_row
settled_short m k x b = refl

finish_short : (m : Meaning) (s : Stand) → Short s → Short (finish m s)
finish_short m s h = All-map IsShort (reflagged (finish m s).house.row.own) s.constituents h

pub short_after : (m : Meaning) (s : Stand) (e : Event) → Short s → Short (after m s e)
short_after m s e h =
    after_cases m s Short h
    (λ b. finish_short m (record { market = s.market; house = b; constituents = s.constituents }) h)
    (λ j c b v.
    let own = slice_index_or s.constituents j no_book in
    let fits : IsShort b = subst IsShort (sym (granted_asked m s.market false 0 own b c v).1) (settled_short m s.market 0 (changed c own)) in
    finish_short m (record { market = s.market; house = s.house; constituents = slice_set s.constituents j b }) (All-set IsShort s.constituents j b fits h))
    (λ c.
    let k = market_changed c s.market in
    finish_short m (announced m s c) (each_short (λ b. settled m k 0 (aged c b)) (λ b. settled_short m k 0 (aged c b)) s.constituents)) e

pub short_run : (m : Meaning) (s : Stand) (es : List Event) → Short s → Short (run m s es)
short_run m s [] h = h
short_run m s (e ∷ es) h = short_run m (after m s e) es (short_after m s e h)

same_sum : (bs : List Book) (n : ℕ) → All IsShort bs → fold (λ (x : ℕ) (b : Book). x + b.row.shortfall) n bs ≡ fold (λ (x : ℕ) (b : Book). x + lacking b) n bs
same_sum [] n h = refl
same_sum (b ∷ bs) n h =
    ap (λ (x : ℕ). fold (λ (y : ℕ) (c : Book). y + c.row.shortfall) (n + x) bs) (All-head IsShort b bs h) ∙ same_sum bs (n + lacking b) (All-tail IsShort b bs h)

pub covered_at : (m : Meaning) (s : Stand) → Rests m s → Short s → Covered m s
unfolding settled_row
covered_at m s k h = record { cover = same_sum s.constituents 0 h; carried = sym (ap (λ (t : Stand). t.house.row.obligation) k) }
