-- Signed money.
-- negated_for: a flow, negated for trades on one side.
-- gain_of, lost_of: what of a sum is above 0, and what is below.
-- signed_sum: a sum over a list.
use Rattle.std.specs.Prelude.{ℕ, suc, List, ℤ, pos, negsuc, ◌+ℤ◌, neg_ℤ, fold}
use Rattle.tables.specs.declared.codes.Side.{Side}
use Rattle.tables.specs.declared.codes.Side.TheVariants.{Pay, Receive}

abbrev pub negated_for : Side → Side → ℤ → ℤ
negated_for Pay Pay z = neg_ℤ z
negated_for Pay Receive z = z
negated_for Receive Pay z = z
negated_for Receive Receive z = neg_ℤ z

abbrev pub gain_of : ℤ → ℕ
gain_of (pos n) = n
gain_of (negsuc n) = 0

abbrev pub lost_of : ℤ → ℕ
lost_of (pos n) = 0
lost_of (negsuc n) = suc n

abbrev pub signed_sum : {X : Type 0} → (X → ℤ) → List X → ℤ
signed_sum f xs = fold (λ a x. a +ℤ f x) (pos 0) xs
