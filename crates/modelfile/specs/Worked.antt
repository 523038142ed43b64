-- What some texts give. Assumes nothing.
--   nothing_written    an empty text is no model's
--   another_name       nor is one whose first word names no kind of model
--   one_count          nor one of a table model with one count
--   nine_sets          nine sets are refused for the counts, before any word after them is read
--   sets_below_zero    so is a count below zero, after the word `joined` too
--   no_number          a word that is no number ends a text that lacks numbers, and then it is no model's
use Rattle.std.specs.Prelude.{codes, refl}
use Rattle.std.proofs.Common.{inl}
use Rattle.models.specs.declared.refusal.MakingRefusal.TheVariants.{WrongCounts}
use Rattle.modelfile.specs.Parts.{refused, malformed, tables_of, part_of}
use Rattle.modelfile.specs.Texts.{Gives}

pub nothing_written : Gives (codes "") malformed
unfolding part_of
nothing_written = inl refl

pub another_name : Gives (codes "knots 1 1") malformed
unfolding part_of
another_name = inl refl

pub one_count : Gives (codes "table 9") malformed
unfolding part_of
one_count = inl refl

pub nine_sets : Gives (codes "table 9 20 x") (refused WrongCounts)
unfolding part_of
nine_sets = inl refl

pub sets_below_zero : Gives (codes "joined knot -1 20") (refused WrongCounts)
unfolding part_of
sets_below_zero = inl refl

pub no_number : Gives (codes "table 1 20 65000 x") malformed
unfolding part_of tables_of
no_number = inl refl
