use Rattle.std.proofs.Common.{◌≤◌, sym, subst, arith}
use Rattle.market.specs.declared.state.FamilyState.{FamilyState}
use Rattle.market.proofs.Facts.{orderly}
use Rattle.margins.proofs.Bounds.{family_within}
use Rattle.margins.proofs.figures.work.Valuation.family.Goals as goal

pub join_benchmarks-requires : goal.join_benchmarks-requires
join_benchmarks-requires g c =
    let k = c.args.self.now.market.now.state in
    let few = family_within k c.args.family c.args.trades in
    let p = simp c.first.ensures at c.part-first.ensures.bound in
    let q = simp c.second.ensures at c.part-second.ensures.bound in
    record {
      volatility = subst (λ (s : FamilyState). s.volatility ≤ 1000) (sym c.family.ensures) ((orderly k c.args.self.now.market.now.keeps).family c.args.family).volatile;
      initial = omega (arith, p.initial, q.initial);
      loss = omega (arith, p.loss, q.loss);
      credit = omega (arith, p.credit, q.credit);
      gross = omega (arith, p.gross, q.gross);
    }
