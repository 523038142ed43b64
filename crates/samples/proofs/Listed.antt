-- Names that are listed one after the other.
use Rattle.std.proofs.Common.{◌≡◌, ℕ, suc, ◌+◌, ◌<◌, ◌≤◌, List, [], ◌∷◌, ◌++◌, length, map, drop, get_or, inl, inr, refl, sym, ap, ◌∙◌, subst, arith, drop-cons, drop_of_length-le}
use Rattle.std.proofs.lemmas.List.{append-nil, append_assoc}
use Rattle.samples.specs.Lines.{verdict_text, IsVerdict, sample_line, ListsSamples}
use Rattle.samples.specs.declared.said.Verdict.{Verdict}
use Rattle.samples.specs.declared.said.Verdict.TheVariants.{AsExpected, Differs}

-- a verdict prints one of the two texts
pub prints_one : (v : Verdict) → IsVerdict (verdict_text v)
prints_one AsExpected = inl refl
prints_one Differs = inr refl

-- with whatever text lists the names from place i, this text lists all the names
abbrev pub SoFar : {A : Type 0} → (A → List ℕ) → List A → ℕ → List ℕ → Type 0
SoFar name_of names i text = (t : List ℕ) → ListsSamples (map name_of (drop i names)) t → ListsSamples (map name_of names) (text ++ t)

module _ {A : Type 0} (name_of : A → List ℕ) (names : List A) (i : ℕ) (text : List ℕ) (so : SoFar name_of names i text) where
  pub stepped : i < length names → (name : A) → name ≡ get_or names i name → (verdict : List ℕ) → IsVerdict verdict
      → (shown longer : List ℕ) → shown ≡ name_of name → longer ≡ text ++ sample_line shown verdict → SoFar name_of names (i + 1) longer
  stepped below name is verdict said shown longer here e t listed =
      let line = sample_line (name_of (get_or names i name)) verdict in
      let next : i + 1 ≡ suc i = omega arith in
      let rest : ListsSamples (map name_of (drop (suc i) names)) t = subst (λ (j : ℕ). ListsSamples (map name_of (drop j names)) t) next listed in
      let first : ListsSamples (name_of (get_or names i name) ∷ map name_of (drop (suc i) names)) (line ++ t) = (verdict, said, t, refl, rest) in
      let all = so (line ++ t) (subst (λ (xs : List A). ListsSamples (map name_of xs) (line ++ t)) (sym (drop-cons names i name below)) first) in
      let written : longer ≡ text ++ line = e ∙ ap (λ (x : List ℕ). text ++ sample_line x verdict) (here ∙ ap name_of is) in
      subst (ListsSamples (map name_of names)) (sym (append_assoc text line t) ∙ ap (λ (x : List ℕ). x ++ t) (sym written)) all

  pub ends : length names ≤ i → ListsSamples (map name_of names) text
  ends none =
      let nothing : ListsSamples (map name_of []) [] = refl in
      subst (ListsSamples (map name_of names)) (append-nil text)
      (so [] (subst (λ (xs : List A). ListsSamples (map name_of xs) []) (sym (drop_of_length-le names none)) nothing))
