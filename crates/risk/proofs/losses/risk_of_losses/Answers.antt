use Rattle.std.proofs.Common.{pos, ◌∙◌, w64, SFits, to_z, of_z}
use Rattle.std.proofs.lemmas.Int.{to_z-of_z}
use Rattle.risk.proofs.Risks.{var_from, tail_from}
use Rattle.risk.proofs.losses.risk_of_losses.Goals as goal

pub returns : goal.returns
returns c = λ m day ts filled.
    let x = c.unwrap_or.result in
    let fits : SFits w64 x = record { sfits = c.unwrap_or.type_inv } in
    let lowest = tail_from m day ts c.args.losses.now x filled (c.unwrap_or.ensures ∙ c.lowest_of_tail.ensures (pos 0)) in
    var_from m day ts x (to_z w64 (of_z w64 x)) c.gain.result (to_z-of_z w64 x fits) lowest c.gain.ensures
