-- Isolation over every list of calls.
-- Agree: two meanings that agree at every question. book_of: the record and places of account i.
-- lodged_cash, drawn_cash, lodged_lots, drawn_lots: what a call lodges or draws. lacking: obligation less available, where that is positive.
-- own_margins: the house's obligation without the cover. Accounted, Covered: what holds of cash, lots and cover.
-- Alike: what two lists leave one account is the same. Isolated: the isolation of one list of calls from an accepted opening.
-- Isolation: the law, for every such list, on every model that means m.
use Rattle.std.specs.Prelude.{◌≡◌, ℕ, suc, ◌+◌, ◌-◌, ◌<◌, ◌≤◌, if◌then◌else◌, List, length, take, sum_by, ◌==◌, slice_index, slice_index_or}
use Rattle.models.specs.Meaning.{Meaning}
use Rattle.tables.specs.Books.{Book, no_book, standing_of}
use Rattle.margins.specs.Figures.{figures_of}
use Rattle.rules.specs.declared.call.AccountCall.{AccountCall}
use Rattle.rules.specs.declared.call.AccountCall.TheVariants.{LodgeCash, DrawCash, LodgeSecurity, DrawSecurity}
use Rattle.rules.specs.declared.call.Event.{Event}
use Rattle.rules.specs.declared.call.Reply.{Reply}
use Rattle.rules.specs.Stands.{Stand, books_in, cover_of}
use Rattle.isolation.specs.Runs.{run, replies, opened, accepted}
use Rattle.isolation.specs.Views.{constituent_trace, house_trace, observed, own_replies}

pub record Agree (m l : Meaning) : Type 0 where
  pub sets : m.sets ≡ l.sets
  pub scenarios : m.scenarios ≡ l.scenarios
  pub rate : (s b r : ℕ) → m.rate s b r ≡ l.rate s b r
  pub tick : (s b r : ℕ) → m.tick s b r ≡ l.tick s b r
  pub change : (s b r j : ℕ) → m.change s b r j ≡ l.change s b r j

abbrev pub book_of : Stand → ℕ → Book
book_of s i = slice_index_or (books_in s) i no_book

abbrev pub lodged_cash : AccountCall → ℕ
lodged_cash (LodgeCash x) = x
lodged_cash _ = 0

abbrev pub drawn_cash : AccountCall → ℕ
drawn_cash (DrawCash x) = x
drawn_cash _ = 0

-- lots of security which
abbrev pub lodged_lots : ℕ → AccountCall → ℕ
lodged_lots which (LodgeSecurity s n) = if s == which then n else 0
lodged_lots which _ = 0

abbrev pub drawn_lots : ℕ → AccountCall → ℕ
drawn_lots which (DrawSecurity s n) = if s == which then n else 0
drawn_lots which _ = 0

abbrev pub lacking : Book → ℕ
lacking b = b.row.obligation - b.row.available

abbrev pub own_margins : Meaning → Stand → ℕ
own_margins m s = (figures_of m s.market s.house.row (standing_of s.house)).obligation

-- every account's cash, and its lots of each security, are what its accepted calls lodged less what they drew;
-- the events es of a house with n accounts were answered os, and led to t
pub record Accounted (n : ℕ) (es : List Event) (os : List Reply) (t : Stand) : Type 0 where
  pub cash : (i : ℕ) → i < n → (book_of t i).row.cash + accepted drawn_cash i es os ≡ accepted lodged_cash i es os
  pub lots : (i : ℕ) → i < n → (which : ℕ) → which < 32 → slice_index (book_of t i).row.lots which + accepted (drawn_lots which) i es os ≡ accepted (lodged_lots which) i es os

-- the cover is the sum of what the constituents lack, no surplus lowers it, and it is what the house's obligation carries beyond its own margins
pub record Covered (m : Meaning) (t : Stand) : Type 0 where
  pub cover : cover_of t ≡ sum_by lacking t.constituents
  pub carried : t.house.row.obligation ≡ own_margins m t + cover_of t

-- the list es from the stand s, on the model m, was answered os and led to t; another list fs from s, on the model l, leaves account i the same
pub record Alike (m l : Meaning) (i : ℕ) (s : Stand) (es fs : List Event) (os : List Reply) (t : Stand) : Type 0 where
  -- the answers to the events that concern it
  pub answered : own_replies i es os ≡ own_replies i fs (replies l s fs)
  -- its record and places after each of these events, beside the answer
  pub observes : observed m i (λ x. book_of x i) s es ≡ observed l i (λ x. book_of x i) s fs
  -- its record and places at the end
  pub holds : book_of t i ≡ book_of (run l s fs) i

-- the events es of a house that was opened with n accounts in a month were answered os, and led to t; fs is any other list from such an
-- opening, on any model of equal meaning
pub record Isolated (m : Meaning) (month n : ℕ) (es : List Event) (os : List Reply) (t : Stand) : Type 0 where
  -- whatever the others do: a constituent that is told the same is answered the same, observes the same, and holds the same at the end
  pub constituents : (j : ℕ) → suc j < n → (l : Meaning) → Agree m l → (fs : List Event)
      → constituent_trace m j (opened month n) es ≡ constituent_trace l j (opened month n) fs → Alike m l (suc j) (opened month n) es fs os t
  -- the house likewise; its restriction stands in its record
  pub house : (l : Meaning) → Agree m l → (fs : List Event)
      → house_trace m (opened month n) es ≡ house_trace l (opened month n) fs → Alike m l 0 (opened month n) es fs os t
  -- after each event: cash and lots are what was lodged less what was drawn
  pub accounted : (i : ℕ) → i ≤ length es → Accounted n (take i es) (take i os) (run m (opened month n) (take i es))
  -- after each event: the cover is the sum of what the constituents lack, and the house's obligation carries it
  pub covered : (i : ℕ) → i ≤ length es → Covered m (run m (opened month n) (take i es))
  -- and both of t, where the list ends
  pub accounted_end : Accounted n es os t
  pub covered_end : Covered m t

-- every list, as the rules answer it
abbrev pub Isolation : Meaning → Type 0
Isolation m = (month n : ℕ) → 1 ≤ n → (es : List Event) → Isolated m month n es (replies m (opened month n) es) (run m (opened month n) es)
