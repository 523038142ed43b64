-- The lines of a script, played one after the other.
use Rattle.std.proofs.Common.{◌≡◌, ℕ, zero, suc, ◌+◌, ◌-◌, ◌<◌, ◌≤◌, List, [], ◌∷◌, ◌++◌, length, refl, sym, ap, ◌∙◌, subst, arith}
use Rattle.std.proofs.lemmas.List.{append-nil, append_assoc, nil_from_length}
use Rattle.script.specs.Lines.{line_of, lines_after}
use Rattle.session.specs.Held.{Held, first_held}
use Rattle.session.specs.Lines.{Reply, Plays}
use Rattle.scriptrun.specs.Lines.{said_text}
use Rattle.scriptrun.specs.Runs.{lines_in, lines_of, Prints}

-- so many lines are played and this text is printed: with whatever the lines of what is left print, it is what the script prints
abbrev pub SoFar : List ℕ → ℕ → List ℕ → Held → List ℕ → Type 0
SoFar script place rest h text =
    (t : List ℕ) → Prints (place + 1) (lines_in (length script - place) rest) h t → Prints 1 (lines_of script) first_held (text ++ t)

first_line : (m : ℕ) (rest : List ℕ) → 0 < length rest → lines_in (suc m) rest ≡ line_of rest ∷ lines_in m (lines_after rest)
first_line m [] some = absurd (omega (arith, some))
first_line m (b ∷ bs) some = refl

no_lines_in : (m : ℕ) → lines_in m [] ≡ []
no_lines_in zero = refl
no_lines_in (suc m) = refl

module _ (script : List ℕ) (place : ℕ) (rest : List ℕ) (h : Held) (text : List ℕ) (so : SoFar script place rest h text) where
  more : place + length rest ≤ length script → 0 < length rest → (r : Reply) (k : Held) → Plays (line_of rest) h r k → (longer : List ℕ) → longer ≡ text ++ said_text (place + 1) k r
      → SoFar script (place + 1) (lines_after rest) k longer
  more few some r k plays longer e t p =
      let m = length script - (place + 1) in
      let said = said_text (place + 1) k r in
      let fuel : length script - place ≡ suc m = omega (arith, few, some) in
      let lines = ap (λ (x : ℕ). lines_in x rest) fuel ∙ first_line m rest some in
      let all : Prints (place + 1) (line_of rest ∷ lines_in m (lines_after rest)) h (said ++ t) = (r, k, plays, t, refl, p) in
      let printed = so (said ++ t) (subst (λ (ls : List (List ℕ)). Prints (place + 1) ls h (said ++ t)) (sym lines) all) in
      subst (λ (x : List ℕ). Prints 1 (lines_of script) first_held x) (sym (append_assoc text said t) ∙ ap (λ (x : List ℕ). x ++ t) (sym e)) printed

  pub ends : length rest ≡ 0 → Prints 1 (lines_of script) first_held text
  ends none =
      let lines = ap (lines_in (length script - place)) (nil_from_length rest none) ∙ no_lines_in (length script - place) in
      let nothing : Prints (place + 1) [] h [] = refl in
      subst (λ (x : List ℕ). Prints 1 (lines_of script) first_held x) (append-nil text) (so [] (subst (λ (ls : List (List ℕ)). Prints (place + 1) ls h []) (sym lines) nothing))

  -- the same as the loop has it
  pub stepped : (n next : ℕ) (line left : List ℕ) → n ≡ place → next ≡ place + 1 → line ≡ line_of rest → left ≡ lines_after rest → place + length rest ≤ length script → length left < length rest
      → (r : Reply) (k : Held) → Plays line h r k → (longer : List ℕ) → longer ≡ text ++ said_text (n + 1) k r → SoFar script next left k longer
  stepped n next line left en ex el ea few fewer r k plays longer e =
      let here : Plays (line_of rest) h r k = subst (λ (x : List ℕ). Plays x h r k) el plays in
      let written : longer ≡ text ++ said_text (place + 1) k r = e ∙ ap (λ (x : ℕ). text ++ said_text (x + 1) k r) en in
      rw (ex, ea) (more few (let some : 0 < length rest = omega (arith, fewer) in some) r k here longer written)
