-- Texts that are written one after the other.
use Rattle.std.proofs.Common.{◌≡◌, ℕ, List, ◌++◌, sym, ap, ◌∙◌}
use Rattle.std.proofs.lemmas.List.{append_assoc}

pub and_then : (o a b v w : List ℕ) → v ≡ o ++ a → w ≡ v ++ b → w ≡ o ++ (a ++ b)
and_then o a b v w first second = second ∙ ap (λ (x : List ℕ). x ++ b) first ∙ append_assoc o a b

-- a line of three words, each with what stands before it
after_three : (p a q b r c e : List ℕ) → p ++ (a ++ (q ++ (b ++ (r ++ (c ++ e))))) ≡ (p ++ (a ++ (q ++ (b ++ (r ++ c))))) ++ e
after_three p a q b r c e =
    sym (append_assoc p (a ++ (q ++ (b ++ (r ++ c)))) e
    ∙ ap (λ xs. p ++ xs) (append_assoc a (q ++ (b ++ (r ++ c))) e
    ∙ ap (λ xs. a ++ xs) (append_assoc q (b ++ (r ++ c)) e
    ∙ ap (λ xs. q ++ xs) (append_assoc b (r ++ c) e
    ∙ ap (λ xs. b ++ xs) (append_assoc r c e)))))

pub three_words : (old new p a q b r c e a' b' c' : List ℕ) → new ≡ old ++ (p ++ (a ++ (q ++ (b ++ (r ++ (c ++ e)))))) → a ≡ a' → b ≡ b' → c ≡ c'
    → new ≡ old ++ ((p ++ (a' ++ (q ++ (b' ++ (r ++ c'))))) ++ e)
three_words old new p a q b r c e a' b' c' written ea eb ec = rw (written, ea, eb, ec) (ap (λ xs. old ++ xs) (after_three p a' q b' r c' e))
