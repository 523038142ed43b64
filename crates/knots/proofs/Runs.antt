-- A residual's changes, one scenario after the other. Assumes nothing.
use Rattle.std.proofs.Common.{◌≡◌, ℕ, ◌+◌, ◌-◌, ◌*◌, ◌<◌, ◌≤◌, List, length, get_or, take, drop, set, ℤ, pos, ◌*ℤ◌, nat_abs, ap, ◌∙◌, sym, ⊎_elim, arith, w32, SFits, take_all}
use Rattle.std.proofs.lemmas.Bool.{cases_eq}
use Rattle.std.proofs.lemmas.Int.{to_z-of_z}
use Rattle.std.proofs.lemmas.List.{get_or-take, get_or-drop, get_or-set_same, get_or-set_other, length-drop}
use Rattle.knots.specs.Interpolation.{floor, value_at}
use Rattle.knots.specs.Knots.{low_place, high_place}
use Rattle.knots.specs.KnotTable.{shock_at}
use Rattle.knots.proofs.Casts.{cast, same, shock_is}

-- a knot's shocks, as the code cuts them out
abbrev pub cut : List ℤ → ℕ → ℕ → List ℤ
cut xs start len = take len (take (length xs - start) (drop start xs))

pub cut_at : (xs : List ℤ) (start len j : ℕ) → j < len → get_or (cut xs start len) j (pos 0) ≡ get_or xs (start + j) (pos 0)
cut_at xs start len j h =
    get_or-take len (take (length xs - start) (drop start xs)) j (pos 0) h
    ∙ ap (λ l. get_or l j (pos 0)) (take_all (length xs - start) (drop start xs) (omega (arith, length-drop start xs)))
    ∙ get_or-drop start xs j (pos 0)

pub moved_is : (xs : List ℤ) (row runs len j m p q : ℕ) (v : ℤ) → ((k : ℕ) → nat_abs (get_or xs k (pos 0)) ≤ 20000) → j < len → p ≡ low_place m → q ≡ high_place m
    → v ≡ value_at (cast (get_or (cut xs ((row + p) * runs) len) j (pos 0))) (cast (get_or (cut xs ((row + q) * runs) len) j (pos 0))) m p q → v ≡ shock_at xs row runs j m
moved_is xs row runs len j m p q v ok h ep eq ev =
    let a = cut_at xs ((row + p) * runs) len j h in
    let b = cut_at xs ((row + q) * runs) len j h in
    shock_is xs row runs j m p q v ok ep eq (simp (a, b) at ev)

-- a change, as the code has it
pub change_is : (t : ℕ) (r v shock : ℤ) → SFits w32 r → r ≡ floor (pos t *ℤ cast v) 1000 → v ≡ shock → nat_abs v ≤ 20000 → cast r ≡ floor (pos t *ℤ shock) 1000
change_is t r v shock fits er ev h =
    to_z-of_z w32 r fits ∙ er ∙ ap (λ z. floor (pos t *ℤ z) 1000) (same v (omega arith) ∙ ev)

-- one place more
pub writes_more : (f : ℕ → ℤ) (ys : List ℤ) (i : ℕ) (v : ℤ) → i < length ys → v ≡ f i → ((k : ℕ) → k < i → get_or ys k (pos 0) ≡ f k) → (k : ℕ) → k < i + 1 → get_or (set ys i v) k (pos 0) ≡ f k
writes_more f ys i v lt is so_far k h =
    ⊎_elim
    (λ e. ap (λ n. get_or (set ys i v) n (pos 0)) e ∙ get_or-set_same ys i v (pos 0) lt ∙ is ∙ ap f (sym e))
    (λ other. get_or-set_other ys i k v (pos 0) other ∙ so_far k (omega arith))
    (cases_eq k i)
