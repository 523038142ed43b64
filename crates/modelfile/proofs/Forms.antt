-- What is known of a part of a text, word by word.
use Rattle.std.proofs.Common.{◌≡◌, ℕ, ◌≤◌, Bool, true, false, cond, leb, List, map, ℤ, Some, None, Decides, Result, sym, ap, ◌∙◌, subst, MatchResult}
use Rattle.std.proofs.lemmas.Bool.Decides.{same_from_decides, Decides-and}
use Rattle.std.proofs.lemmas.Bool.{leb-true, le-leb}
use Rattle.models.specs.Sound.{Counts}
use Rattle.models.specs.declared.refusal.MakingRefusal.TheVariants.{WrongCounts, WrongLengths}
use Rattle.scan.specs.Number.{number_of}
use Rattle.scan.specs.Words.{word_of, rest_of, after_number}
use Rattle.modelfile.specs.Kinds.{kind_of, fits}
use Rattle.modelfile.specs.Taken.{taken, left, as_size, as_change}
use Rattle.modelfile.specs.Parts.{Part, stopped, numbers, refused, malformed, counts_fit, followed, followed_by, tables_of, tables_after, sized, counted, count_of, named_part, part_of}
use Rattle.modelfile.specs.Texts.{UnlessMemory}
use Rattle.modelfile.specs.declared.kind.Kind.{Kind}
use Rattle.owned.specs.Owned.{owned}
use Rattle.modelfile.specs.declared.numbers.NamedNumbers.{NamedNumbers}
use Rattle.modelfile.specs.declared.refusal.LoadRefusal.{LoadRefusal}

module _ (k : Kind) (s n x y size volume : ℕ) (bs b1 b2 b3 : List ℕ) (rs ts : List ℕ) (cs : List ℤ) where
  pub tables_are : size ≡ x → volume ≡ y
      → rs ≡ map as_size (taken size bs) → b1 ≡ left size bs
      → ts ≡ map as_size (taken size b1) → b2 ≡ left size b1
      → cs ≡ map as_change (taken volume b2) → b3 ≡ left volume b2
      → tables_of k s n x y bs ≡ followed_by b3 (numbers k (record { sets = s; scenarios = n; rates = rs; ticks = ts; changes = cs }) b3)
  unfolding tables_of
  tables_are h v r e1 t e2 c e3 = cc

pub one_more : (bs : List ℕ) (p : Part) (z : ℤ) → number_of (word_of bs) ≡ Some z → followed_by bs p ≡ stopped (refused WrongLengths)
one_more bs p z e = ap (λ o. followed o (fits (word_of bs)) p) e

pub may_go_on : (bs : List ℕ) (p : Part) → number_of (word_of bs) ≡ None → fits (word_of bs) ≡ true → followed_by bs p ≡ p
may_go_on bs p e f = ap (λ o. followed o (fits (word_of bs)) p) e ∙ ap (λ t. cond t p (stopped malformed)) f

pub no_more : (bs : List ℕ) (p : Part) → number_of (word_of bs) ≡ None → fits (word_of bs) ≡ false → followed_by bs p ≡ stopped malformed
no_more bs p e f = ap (λ o. followed o (fits (word_of bs)) p) e ∙ ap (λ t. cond t p (stopped malformed)) f

pub nameless : (bs : List ℕ) → kind_of (word_of bs) ≡ None → part_of bs ≡ stopped malformed
unfolding part_of
nameless bs e = ap (λ o. named_part o (rest_of bs)) e

pub named_is : (bs b1 : List ℕ) (k : Kind) → kind_of (word_of bs) ≡ Some k → b1 ≡ rest_of bs → part_of bs ≡ named_part (Some k) b1
unfolding part_of
named_is bs b1 k e r = ap (λ o. named_part o (rest_of bs)) e ∙ ap (λ b. named_part (Some k) b) (sym r)

pub no_sets : (k : Kind) (b1 : List ℕ) → count_of b1 ≡ None → named_part (Some k) b1 ≡ stopped malformed
no_sets k b1 e = ap (λ o. counted k o (count_of (after_number b1)) (after_number (after_number b1))) e

with_sets : (k : Kind) (b1 b2 : List ℕ) (s : ℕ) → count_of b1 ≡ Some s → b2 ≡ after_number b1 → named_part (Some k) b1 ≡ counted k (Some s) (count_of b2) (after_number b2)
with_sets k b1 b2 s e r =
    ap (λ o. counted k o (count_of (after_number b1)) (after_number (after_number b1))) e
    ∙ ap (λ b. counted k (Some s) (count_of b) (after_number b)) (sym r)

pub no_scenarios : (k : Kind) (b1 b2 : List ℕ) (s : ℕ) → count_of b1 ≡ Some s → b2 ≡ after_number b1 → count_of b2 ≡ None → named_part (Some k) b1 ≡ stopped malformed
no_scenarios k b1 b2 s e r f = with_sets k b1 b2 s e r ∙ ap (λ o. counted k (Some s) o (after_number b2)) f

pub with_counts : (k : Kind) (b1 b2 b3 : List ℕ) (s n : ℕ) → count_of b1 ≡ Some s → b2 ≡ after_number b1 → count_of b2 ≡ Some n → b3 ≡ after_number b2
    → named_part (Some k) b1 ≡ sized k s n b3
with_counts k b1 b2 b3 s n e r f q =
    with_sets k b1 b2 s e r ∙ (ap (λ o. counted k (Some s) o (after_number b2)) f ∙ ap (λ b. sized k s n b) (sym q))

decides_leb : (a b : ℕ) → Decides (leb a b) (a ≤ b)
decides_leb a b = (leb-true a b, le-leb a b)

fit_decides : (s n : ℕ) → Decides (counts_fit s n) ((1 ≤ s) × ((s ≤ 8) × ((1 ≤ n) × (n ≤ 1000))))
fit_decides s n = Decides-and _ _ (decides_leb 1 s) (Decides-and _ _ (decides_leb s 8) (Decides-and _ _ (decides_leb 1 n) (decides_leb n 1000)))

pub fits_are : (s n : ℕ) (r : Bool) → Decides r (Counts s n) → counts_fit s n ≡ r
fits_are s n r d =
    same_from_decides (counts_fit s n) r (fit_decides s n)
    ((λ t. let q = d.0 t in (q.0, (q.1, (q.2, q.3)))), λ q. d.1 (q.0, q.1.0, q.1.1.0, q.1.1.1))

pub counts_good : (k : Kind) (s n : ℕ) (bs : List ℕ) → counts_fit s n ≡ true → sized k s n bs ≡ tables_after k s n bs
counts_good k s n bs e = ap (λ t. cond t (tables_after k s n bs) (stopped (refused WrongCounts))) e

pub counts_wrong : (k : Kind) (s n : ℕ) (bs : List ℕ) → counts_fit s n ≡ false → sized k s n bs ≡ stopped (refused WrongCounts)
counts_wrong k s n bs e = ap (λ t. cond t (tables_after k s n bs) (stopped (refused WrongCounts))) e

-- what is read of a part is read of the same part
pub read_same : (p q : Part) (r : Result NamedNumbers LoadRefusal) (rest : List ℕ) → p ≡ q
    → MatchResult r (λ n. q ≡ numbers n.kind (owned n.numbers) rest) (λ e. UnlessMemory e (λ a. q ≡ stopped a))
    → MatchResult r (λ n. p ≡ numbers n.kind (owned n.numbers) rest) (λ e. UnlessMemory e (λ a. p ≡ stopped a))
read_same p q r rest e =
    subst (λ x. MatchResult r (λ n. x ≡ numbers n.kind (owned n.numbers) rest) (λ d. UnlessMemory d (λ a. x ≡ stopped a))) (sym e)
