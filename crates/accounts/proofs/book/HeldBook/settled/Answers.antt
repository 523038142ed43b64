use Rattle.std.proofs.Common.{ℕ, ap, ◌∙◌, rules}
use Rattle.tables.specs.Books.{standing_of}
use Rattle.tables.specs.Limits.{places_keep}
use Rattle.accounts.specs.Changing.{book_in}
use Rattle.accounts.proofs.Steps.{settled_count}
use Rattle.accounts.proofs.book.HeldBook.settled.Goals as goal

pub new-requires : goal.new-requires
new-requires g c =
    let h = c.args.self.now in
    let m = g.M.MarginModel.meaning c.args.model.now in
    let count = settled_count m c.args.market.now.state c.args.cover.paise h.row (standing_of (book_in h)) c.settled_row-row.result (search rules) in
    (c.settled_row-row.ensures.keeps, ap (λ (n : ℕ). places_keep n c.places.result) count ∙ c.places.ensures.keeps)
