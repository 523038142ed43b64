-- The restriction flags, with their hysteresis. o is the obligation, a is available.
-- own_after: the own flag. second_after: a constituent's second flag while the house is, or is not, restricted.
use Rattle.std.specs.Prelude.{ℕ, ◌*◌, Bool, true, false, ◌||◌, ◌==◌, nat_lt, if◌then◌else◌}

abbrev pub own_after : Bool → ℕ → ℕ → Bool
own_after was o a =
    if nat_lt (95 * a) (100 * o) then true
    else (if nat_lt (100 * o) (90 * a) || o == 0 then false else was)

abbrev pub second_after : Bool → Bool → ℕ → ℕ → Bool
second_after restricted was o a =
    if restricted then (if nat_lt (90 * a) (100 * o) then true
    else (if nat_lt (100 * o) (70 * a) || o == 0 then false else was)) else false
