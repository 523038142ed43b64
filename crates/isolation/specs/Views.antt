-- What one holder of an account sees of a stand, is told of a list of events, and observes.
-- View: the market, the one figure that crosses, and the holder's own record and places. For a constituent the figure is
-- whether the house is restricted; for the house it is the cover.
-- restriction_of_house: that figure for a constituent. constituent_view, house_view: the views of a constituent and of the house.
-- names, concerns: a call names an account or all; an event concerns the account that its call names, and a market call concerns all.
-- Told, told, trace: what a holder is told, of an event and of a list: the events that concern it, each with the figure after it; and between
-- them each change of the figure. called, turned: an event that concerns it, and a change of the figure. constituent_trace, house_trace: of a constituent and of the house.
-- observed: the answer to each event that concerns a holder, with the holder's record and places after it.
-- own_replies: of the answers to a list of events, those to the events that concern a holder.
use Rattle.std.specs.Prelude.{ℕ, suc, Bool, true, if◌then◌else◌, List, [], ◌∷◌, ◌++◌, ◌==◌, nat_eq, slice_index_or}
use Rattle.std.specs.Bool.{beq}
use Rattle.models.specs.Meaning.{Meaning}
use Rattle.tables.specs.Books.{Book, no_book}
use Rattle.market.specs.declared.state.MarketState.{MarketState}
use Rattle.rules.specs.declared.call.Call.{Call}
use Rattle.rules.specs.declared.call.Call.TheVariants.{Account, Market}
use Rattle.rules.specs.declared.call.Event.{Event}
use Rattle.rules.specs.declared.call.Event.TheVariants.{RightTables, WrongTables}
use Rattle.rules.specs.declared.call.Reply.{Reply}
use Rattle.rules.specs.Stands.{Stand, cover_of}
use Rattle.isolation.specs.Runs.{after, reply}

pub record View (B : Type 0) : Type 0 where
  pub market : MarketState
  pub figure : B
  pub own : Book

abbrev pub restriction_of_house : Stand → Bool
restriction_of_house s = s.house.row.own

-- constituent j is account j + 1
abbrev pub constituent_view : ℕ → Stand → View Bool
constituent_view j s = record { market = s.market; figure = restriction_of_house s; own = slice_index_or s.constituents j no_book }

abbrev pub house_view : Stand → View ℕ
house_view s = record { market = s.market; figure = cover_of s; own = s.house }

abbrev pub names : ℕ → Call → Bool
names i (Account c) = c.account == i
names i (Market c) = true

abbrev pub concerns : ℕ → Event → Bool
concerns i (RightTables c) = names i c
concerns i (WrongTables c) = names i c

-- one thing that a holder is told
pub data Told (B : Type 0) : Type 0 where
  called : Event → B → Told B
  turned : B → Told B

module _ {B : Type 0} (figure : Stand → B) (same : B → B → Bool) (m : Meaning) (i : ℕ) where
  abbrev pub told : Stand → Event → List (Told B)
  told s e =
      if concerns i e
      then called e (figure (after m s e)) ∷ []
      else (if same (figure s) (figure (after m s e)) then [] else turned (figure (after m s e)) ∷ [])

  abbrev pub trace : Stand → List Event → List (Told B)
  trace s [] = []
  trace s (e ∷ es) = told s e ++ trace (after m s e) es

-- what constituent j, and the house, are told
abbrev pub constituent_trace : Meaning → ℕ → Stand → List Event → List (Told Bool)
constituent_trace m j s es = trace restriction_of_house beq m (suc j) s es

abbrev pub house_trace : Meaning → Stand → List Event → List (Told ℕ)
house_trace m s es = trace cover_of nat_eq m 0 s es

-- what account i observes; own reads its record and places off a stand
abbrev pub observed : Meaning → ℕ → (Stand → Book) → Stand → List Event → List (Reply × Book)
observed m i own s [] = []
observed m i own s (e ∷ es) = (if concerns i e then (reply m s e, own (after m s e)) ∷ [] else []) ++ observed m i own (after m s e) es

abbrev pub own_replies : ℕ → List Event → List Reply → List Reply
own_replies i [] os = []
own_replies i (e ∷ es) [] = []
own_replies i (e ∷ es) (o ∷ os) = (if concerns i e then o ∷ [] else []) ++ own_replies i es os
