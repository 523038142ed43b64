-- A column that is written with a width.
use Rattle.std.proofs.Common.{rules, ◌≡◌, ℕ, zero, suc, ◌-◌, ◌^◌, Bool, true, false, List, [], ◌∷◌, ◌++◌, length, replicate, refl, ap, ap₂, ◌∙◌, arith}
use Rattle.std.proofs.lemmas.List.{append-nil, append_assoc}
use lib.Utf8.{encode}
use Rattle.std.specs.List.{repeat}
use Rattle.std.specs.Fmt.{decimal, styled_decimal, styled_text, padded_integral, padded, format_spec, take_chars, char_count}
use Rattle.scan.specs.Texts.{line}
use Rattle.scriptrun.specs.Lines.{right, left, restriction_word}

blanks : (k : ℕ) → repeat {A = ℕ} k (32 ∷ []) ≡ replicate k 32
blanks zero = refl
blanks (suc k) = ap (λ (xs : List ℕ). 32 ∷ xs) (blanks k)

no_blanks : (q : ℕ) (d : List ℕ) → d ++ repeat {A = ℕ} (q - q) (32 ∷ []) ≡ d
no_blanks q d = ap (λ (k : ℕ). d ++ repeat {A = ℕ} k (32 ∷ [])) (let none : q - q ≡ 0 = omega arith in none) ∙ append-nil d

-- blanks, the digits, and no blank after them
shape : (q p : ℕ) (d : List ℕ) → q ≡ p → (((repeat {A = ℕ} q (32 ∷ []) ++ []) ++ []) ++ []) ++ (d ++ repeat {A = ℕ} (q - q) (32 ∷ [])) ≡ replicate p 32 ++ d
shape q p d e = ap₂ (λ (x y : List ℕ). x ++ y) (append-nil ((repeat {A = ℕ} q (32 ∷ []) ++ []) ++ []) ∙ append-nil (repeat {A = ℕ} q (32 ∷ []) ++ []) ∙ append-nil (repeat {A = ℕ} q (32 ∷ [])) ∙ blanks q ∙ ap (λ (k : ℕ). replicate k 32) e) (no_blanks q d)

-- a number of at most so many digits stands at the right end of its column
number_right : (width n : ℕ) → padded_integral (format_spec 32 3 0 width (2 ^ 64 - 1)) false [] (decimal n) ≡ right width n
unfolding padded_integral char_count encode
number_right width n = shape (width - length (decimal n) - 0 - 0) (width - length (decimal n)) (decimal n) (omega arith)

pub right_7 : (s : _) (n : ℕ) → s ≡ format_spec 32 3 0 7 (2 ^ 64 - 1) → styled_decimal s n ≡ right 7 n
right_7 s n e = ap (λ x. styled_decimal x n) e ∙ number_right 7 n

pub right_19 : (s : _) (n : ℕ) → s ≡ format_spec 32 3 0 19 (2 ^ 64 - 1) → styled_decimal s n ≡ right 19 n
right_19 s n e = ap (λ x. styled_decimal x n) e ∙ number_right 19 n

pub right_6 : (s : _) (n : ℕ) → s ≡ format_spec 32 3 0 6 (2 ^ 64 - 1) → styled_decimal s n ≡ right 6 n
right_6 s n e = ap (λ x. styled_decimal x n) e ∙ number_right 6 n

-- the word of a restriction stands at the left end
word_left : (own second : Bool) → styled_text (format_spec 32 1 0 11 (2 ^ 64 - 1)) (restriction_word own second) ≡ left 11 (restriction_word own second)
unfolding padded take_chars char_count encode
word_left true true = refl
word_left true false = refl
word_left false true = refl
word_left false false = refl

pub left_11 : (s : _) (own second : Bool) (w : List ℕ) → s ≡ format_spec 32 1 0 11 (2 ^ 64 - 1) → w ≡ restriction_word own second → styled_text s w ≡ left 11 (restriction_word own second)
left_11 s own second w e is = ap₂ styled_text e is ∙ word_left own second

-- a row that is written in two parts
pub row_joined : (old half new a a' o o' v v' s s' w w' t t' : List ℕ)
    → half ≡ old ++ (a ++ (32 ∷ (o ++ (32 ∷ (v ++ (32 ∷ []))))))
    → new ≡ half ++ (s ++ (32 ∷ 32 ∷ (w ++ (32 ∷ (t ++ (10 ∷ []))))))
    → a ≡ a' → o ≡ o' → v ≡ v' → s ≡ s' → w ≡ w' → t ≡ t'
    → new ≡ old ++ line (a' ∷ o' ∷ v' ∷ s' ∷ [] ∷ w' ∷ t' ∷ [])
row_joined old half new a a' o o' v v' s s' w w' t t' first second ea eo ev es ew et =
    rw (second, first, ea, eo, ev, es, ew, et) (search (rules, append_assoc))
