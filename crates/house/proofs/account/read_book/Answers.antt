use Rattle.std.proofs.Common.{◌≡◌, ℕ, ◌+◌, ◌-◌, ◌*◌, get_or, take, drop, ap, ◌∙◌, arith}
use Rattle.tables.specs.Books.{book, no_row, places_at}
use Rattle.tables.specs.Limits.{places_keep}
use Rattle.tables.proofs.Books.{kept, most_of}
use Rattle.tables.proofs.Facts.{booked}
use Rattle.house.proofs.account.read_book.Goals as goal

pub new-requires : goal.new-requires
new-requires c =
    let n = c.args.house.now.accounts in
    let rs = c.args.records.now in
    let ts = c.args.trades.now in
    let i = c.args.account in
    let r = get_or rs i no_row in
    let b = booked (most_of i) (book r (places_at ts i)) ((kept n rs ts c.requires.tables).each i c.requires.there) in
    let w : 64 * i + 64 - 64 * i ≡ 64 = omega arith in
    (b.holdings, ap (places_keep r.trades) (c.copy_from_slice.ensures.after ∙ ap (λ (k : ℕ). take k (drop (64 * i) ts)) w) ∙ b.places)
