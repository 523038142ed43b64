use Rattle.std.proofs.Common.{◌≡◌, ◌*◌, length}
use Rattle.std.specs.List.{list_all}
use Rattle.tables.specs.Books.{books_of}
use Rattle.tables.specs.Limits.{constituent_keeps}
use Rattle.tables.proofs.checking.constituents_keep.Given as goal

-- what is left decides
pub record Left (l : goal.Live-loop-row) : Type 0 where
  pub size : l.row-iterator.b.size ≡ 64
  pub long : length l.row-iterator.b.rest.now ≡ 64 * length l.row-iterator.a.rest.now
  pub decides : list_all constituent_keeps (books_of l.records l.trades) ≡ list_all constituent_keeps (books_of l.row-iterator.a.rest.now l.row-iterator.b.rest.now)

abbrev pub invariant-loop-row : goal.invariant-loop-row
invariant-loop-row l = Left l
