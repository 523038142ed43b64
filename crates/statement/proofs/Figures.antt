-- The state, the model and the loss of the worked figures; and a line that follows others.
use Rattle.std.proofs.Common.{◌≡◌, ℕ, List, ℤ, pos, refl, ap, subst, Option, Some, MatchOption, replicate, slice_index_or, ◌++◌, ◌∙◌}
use Rattle.tail.specs.Tail.{Short, ranked, reaches_loss}
use Rattle.market.specs.declared.state.MarketState.{MarketState}
use Rattle.rules.specs.Opening.{opened_market}
use Rattle.statement.specs.Worked.{worked_line, worked_tables}
use Rattle.statement.proofs.Appended.{and_then}

abbrev pub at_month : MarketState → ℕ → MarketState
at_month k month = record { day = record { month = month; set = k.day.set }; percent = k.percent; overnight = k.overnight; forward = k.forward; securities = k.securities }

pub opened_at : (month : ℕ) → at_month (opened_market 0) month ≡ opened_market month
unfolding opened_market
opened_at month = refl

pub tables_are : (rates ticks : List ℕ) (changes : List ℤ) → rates ≡ replicate 484 65500 → ticks ≡ replicate 484 10000 → changes ≡ replicate 9680 (pos 0)
    → record { sets = 1; scenarios = 20; rates = rates; ticks = ticks; changes = changes } ≡ worked_tables
unfolding worked_tables
tables_are rates ticks changes r t c = rw (r, t, c) refl

pub second_of : (o : Option ℤ) (l : ℤ) (xs : List ℤ) → o ≡ Some l → MatchOption o (Short 2 xs) (λ l. (d : ℤ) → l ≡ slice_index_or (ranked reaches_loss xs) 1 d)
    → l ≡ slice_index_or (ranked reaches_loss xs) 1 (pos 0)
second_of o l xs is found = (subst (λ (p : Option ℤ). MatchOption p (Short 2 xs) (λ l. (d : ℤ) → l ≡ slice_index_or (ranked reaches_loss xs) 1 d)) is found) (pos 0)

pub value_is : (name o w : List ℕ) (n m e : ℕ) → w ≡ o ++ worked_line name n e → n ≡ m → w ≡ o ++ worked_line name m e
value_is name o w n m e line same = line ∙ ap (λ (k : ℕ). o ++ worked_line name k e) same

pub then_line : (name o a v w : List ℕ) (n m e : ℕ) → v ≡ o ++ a → w ≡ v ++ worked_line name n e → n ≡ m → w ≡ o ++ (a ++ worked_line name m e)
then_line name o a v w n m e first line same = and_then o a (worked_line name m e) v w first (value_is name v w n m e line same)
