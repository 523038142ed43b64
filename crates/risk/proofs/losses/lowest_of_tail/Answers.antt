use Rattle.std.proofs.Common.{◌≡◌, length, get_or, ◌-◌, ap, ◌∙◌, arith}
use Rattle.std.proofs.lemmas.List.{length-take-le}
use Rattle.tail.specs.Tail.{ranked}
use Rattle.risk.specs.Losses.{tail_size}
use Rattle.risk.proofs.Risks.{kth_or}
use Rattle.risk.proofs.losses.lowest_of_tail.Goals as goal

pub returns : goal.returns
returns g c none =
    let xs = c.args.entries.now in
    let size = length-take-le c.max-size.result c.args.places.now (omega (arith, c.max-size.ensures, c.requires, c.told-places)) in
    let tail : c.max-size.result ≡ tail_size (length xs) = omega (arith, c.max-size.ensures) in
    kth_or g.T.Ranked.reaches xs _ none c.kth_highest.result (omega (arith, size, c.max-size.ensures)) c.kth_highest.ensures.value
    ∙ ap (λ n. get_or (ranked g.T.Ranked.reaches xs) (n - 1) none) (size ∙ tail)
