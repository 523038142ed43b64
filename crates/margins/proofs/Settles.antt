-- A level, a flag and the figures that are found again at the same values stay.
use Rattle.std.proofs.Common.{◌≡◌, ℕ, ◌+◌, true, false, Some, None, Option, refl, ap, ◌∙◌, arith}
use Rattle.std.proofs.lemmas.Bool.Decides.{nat_tests}
use Rattle.tables.specs.Codes.{first_benchmark, second_benchmark}
use Rattle.tables.specs.declared.codes.Family.TheVariants.{Overnight, Forward}
use Rattle.tables.specs.declared.row.Levels.{Levels}
use Rattle.market.specs.declared.state.Averages.{Averages}
use Rattle.market.specs.declared.state.FamilyState.{FamilyState}
use Rattle.margins.specs.declared.figures.BenchmarkFigures.{BenchmarkFigures}
use Rattle.margins.specs.Charges.{level_of, levels_of}
use Rattle.margins.specs.Figures.{both_initial, family_at, family_from, family_of, figures_from, figures_of, part_of, securities_of}
use Rattle.margins.specs.Settled.{LevelSettles, OwnSettles, SecondSettles, FiguresSettle}

pub level_settles : LevelSettles
level_settles l v a = grind (arith, nat_tests)

pub own_settles : OwnSettles
own_settles true o a = grind (arith, nat_tests)
own_settles false o a = grind (arith, nat_tests)

pub second_settles : SecondSettles
second_settles true true o a = grind (arith, nat_tests)
second_settles true false o a = grind (arith, nat_tests)
second_settles false was o a = refl

levels_settle : (a : Option Averages) (l : Levels) (v g : ℕ) → levels_of a (levels_of a l v g) v g ≡ levels_of a l v g
levels_settle None l v g = refl
levels_settle (Some a) l v g =
    let both : (x y : ℕ) → Levels = λ x y. record { initial = x; gross = y } in
    ap (λ x. both x (level_of (level_of l.gross g a.gross) g a.gross)) (level_settles l.initial v a.initial)
    ∙ ap (λ y. both (level_of l.initial v a.initial) y) (level_settles l.gross g a.gross)

family_settles : (s : FamilyState) (l : Levels) (p q : BenchmarkFigures) → family_from s (family_from s l p q).levels p q ≡ family_from s l p q
family_settles s l p q = ap (λ n. family_at s n p q) (levels_settle s.averages l (both_initial p q) (p.gross + q.gross))

pub figures_settle : FiguresSettle
unfolding family_of figures_of
figures_settle m k r ts =
    let held = securities_of r.lots k.securities in
    let a = part_of m k (first_benchmark Overnight) ts in
    let b = part_of m k (second_benchmark Overnight) ts in
    let c = part_of m k (first_benchmark Forward) ts in
    let d = part_of m k (second_benchmark Forward) ts in
    let first = family_from k.overnight r.overnight a b in
    let second = family_from k.forward r.forward c d in
    ap (λ f. figures_from r.cash held f (family_from k.forward second.levels c d)) (family_settles k.overnight r.overnight a b)
    ∙ ap (λ g. figures_from r.cash held first g) (family_settles k.forward r.forward c d)
