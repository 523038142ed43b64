-- What a list of questions tells, and that no refusal has the number 0.
use Rattle.std.proofs.Common.{◌≡◌, true, false, List, [], ◌∷◌, Ok, refl, arith}
use Rattle.std.specs.List.{AllByRecursion}
use Rattle.refusals.specs.declared.refusal.Refusal.{Refusal}
use Rattle.refusals.specs.Refusals.{Question, first_no, number_of}

-- where no question is answered no, each is answered yes
pub all_yes : (qs : List Question) → first_no qs ≡ Ok tt → AllByRecursion (λ q. q.0 ≡ true) qs
all_yes [] e = tt
all_yes ((true, r) ∷ qs) e = (refl, all_yes qs e)
all_yes ((false, r) ∷ qs) e = grind arith

-- no refusal has the number 0
pub refusal_some : (e : Refusal) → number_of e ≡ 0 → ⊥
refusal_some e z = grind arith
