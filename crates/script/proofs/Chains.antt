-- Fields read one after the other.
use Rattle.std.proofs.Common.{◌≡◌, ℕ, List, [], ◌∷◌, ◌++◌, length, take, drop, ℤ, pos, negsuc, unsigned_abs, IsErrAnd, Some, None, Ok, Err, Option, Result, ◌<◌, ◌≤◌, OkIff, Bool, cond, ⊎_elim, rules, MatchResult, ◌-◌, ◌^◌, sym, refl, ap, ◌∙◌, ap₂, arith, take_at, drop_at, append_assoc, append-nil, replicate, ◌+◌, suc}
use Rattle.std.proofs.lemmas.List.{take_all}
use Rattle.std.proofs.lemmas.Bool.{cases_lt, ne_eqb}
use mir.Val.{bits}
use Rattle.std.specs.Int.{Width, w8, w16, w32, w64, w128, FitsUnsigned}
use Rattle.scan.specs.Number.{number_of}
use Rattle.scan.specs.Words.{word_of, rest_of}
use Rattle.script.specs.declared.command.Command.{Command}
use Rattle.script.specs.declared.reason.Reason.{Reason}
use Rattle.market.specs.declared.call.MarketCall.TheVariants.{Thresholds, Volatility}
use Rattle.script.specs.declared.reason.Reason.TheVariants.{MissingNumber}
use Rattle.script.specs.declared.word.Word.{Word}
use Rattle.script.specs.declared.word.Word.TheVariants.{Thresholds as ThresholdsWord, Check as CheckWord}
use Rattle.script.specs.Fields.{Field, upto, number_field, within, Converts, Reads, then, field_of, Taken, put, fields_of}
use Rattle.script.specs.Commands.{fields_for, of_market, made, made_of, command_in}

-- what an exit by `?` returns
pub stops : {T : Type 0} (fs : List Field) (numbers : T → List ℕ) (bs rest : List ℕ) (r : Result T Reason) (e : Reason)
    → IsErrAnd r (λ y. y ≡ e) → fields_of fs bs ≡ Err e → Reads fs numbers bs r rest
stops fs numbers bs rest (Ok x) e h k = absurd h
stops fs numbers bs rest (Err y) e h k = k ∙ ap Err (sym h)

-- the last field was read
pub none : (bs : List ℕ) → fields_of [] bs ≡ Ok ([], bs)
unfolding fields_of
none bs = refl

-- a field, and those after it
pub more : (f : Field) (fs : List Field) (bs mid : List ℕ) (x : ℕ) (xs rest : List ℕ)
    → Ok x ≡ field_of f (word_of bs) → mid ≡ rest_of bs → fields_of fs mid ≡ Ok (xs, rest) → fields_of (f ∷ fs) bs ≡ Ok (x ∷ xs, rest)
unfolding fields_of
more f fs bs mid x xs rest e m h =
    ap (λ (r : Result ℕ Reason). then r (λ n. then (fields_of fs (rest_of bs)) (put n))) (sym e)
    ∙ ap (λ (r : Result Taken Reason). then r (put x)) (ap (fields_of fs) (sym m) ∙ h)

-- the first field fails
pub fails : (f : Field) (fs : List Field) (bs : List ℕ) (e : Reason) → Err e ≡ field_of f (word_of bs) → fields_of (f ∷ fs) bs ≡ Err e
unfolding fields_of
fails f fs bs e h = ap (λ (r : Result ℕ Reason). then r (λ n. then (fields_of fs (rest_of bs)) (put n))) (sym h)

positive : (w : Width) → 0 < 2 ^ bits w
positive w8 = omega arith
positive w16 = omega arith
positive w32 = omega arith
positive w64 = omega arith
positive w128 = omega arith

-- a number, as a conversion to a type of that width gives it
converted : (w : Width) (E : Type 0) (o : Option ℤ) (r : Result ℕ Reason)
    → Converts {E = E} (λ z q. OkIff q (FitsUnsigned w z) (unsigned_abs z)) o r → r ≡ within (2 ^ bits w - 1) o
converted w E None r h = h
converted w E (Some (negsuc n)) r h = h
converted w E (Some (pos n)) (Ok x) h =
    let l : n < 2 ^ bits w = search rules in
    grind (arith, l, h.1)
converted w E (Some (pos n)) (Err e) h =
    let l : 2 ^ bits w ≤ n = ⊎_elim (λ a. absurd (h.1.1 (search rules, search rules))) (λ b. b) (cases_lt n (2 ^ bits w)) in
    grind (arith, l, h.0, positive w)

number_is : (w : Width) (E : Type 0) (word : List ℕ) (r : Result ℕ Reason)
    → (length word ≡ 0 → r ≡ Err MissingNumber) → (0 < length word → Converts {E = E} (λ z q. OkIff q (FitsUnsigned w z) (unsigned_abs z)) (number_of word) r)
    → r ≡ number_field (2 ^ bits w - 1) word
unfolding number_field
number_is w E [] r h k = h refl
number_is w E (b ∷ bs) r h k =
    converted w E (number_of (b ∷ bs)) r (k (omega arith))
    ∙ ap (λ (t : Bool). cond t (Err MissingNumber) (within (2 ^ bits w - 1) (number_of (b ∷ bs)))) (sym (ne_eqb (length (b ∷ bs)) 0 (λ e. omega (arith, e))))

pub one : (f : Field) (bs rest : List ℕ) (r : Result ℕ Reason) → r ≡ field_of f (word_of bs) → rest ≡ rest_of bs → Reads (f ∷ []) (λ x. x ∷ []) bs r rest
one f bs rest (Ok x) e h = more f [] bs rest x [] rest e h (none rest)
one f bs rest (Err y) e h = fails f [] bs y e

pub number_read : (w : Width) (E : Type 0) (bs word rest : List ℕ) (r : Result ℕ Reason) → word ≡ word_of bs → rest ≡ rest_of bs
    → (length word ≡ 0 → r ≡ Err MissingNumber) → (0 < length word → Converts {E = E} (λ z q. OkIff q (FitsUnsigned w z) (unsigned_abs z)) (number_of word) r)
    → Reads (upto (2 ^ bits w - 1) ∷ []) (λ x. x ∷ []) bs r rest
number_read w E bs word rest r a b h k = one _ bs rest r (number_is w E word r h k ∙ ap (number_field (2 ^ bits w - 1)) a) b

-- numbers before the others
abbrev pub prefixed : List ℕ → Taken → Result Taken Reason
prefixed xs t = Ok (xs ++ t.0, t.1)

-- fields after those that were read
abbrev rest_by : List Field → Taken → Result Taken Reason
rest_by gs t = then (fields_of gs t.1) (prefixed t.0)

pub same : (r : Result Taken Reason) → r ≡ then r (prefixed [])
same (Ok u) = refl
same (Err e) = refl

put_prefixed : (x : ℕ) (xs : List ℕ) (r : Result Taken Reason) → then (then r (prefixed xs)) (put x) ≡ then r (prefixed (x ∷ xs))
put_prefixed x xs (Ok u) = refl
put_prefixed x xs (Err e) = refl

put_rest : (gs : List Field) (x : ℕ) (r : Result Taken Reason) → then (then r (rest_by gs)) (put x) ≡ then (then r (put x)) (rest_by gs)
put_rest gs x (Ok t) = put_prefixed x t.0 (fields_of gs t.1)
put_rest gs x (Err e) = refl

one_more : (gs : List Field) (r : Result ℕ Reason) (p q : Result Taken Reason) → p ≡ then q (rest_by gs) → then r (λ x. then p (put x)) ≡ then (then r (λ x. then q (put x))) (rest_by gs)
one_more gs (Ok x) p q h = ap (λ (u : Result Taken Reason). then u (put x)) h ∙ put_rest gs x q
one_more gs (Err e) p q h = refl

joined : (fs gs : List Field) (bs : List ℕ) → fields_of (fs ++ gs) bs ≡ then (fields_of fs bs) (rest_by gs)
unfolding fields_of
joined [] gs bs = same (fields_of gs bs)
joined (f ∷ fs) gs bs = one_more gs (field_of f (word_of bs)) (fields_of (fs ++ gs) (rest_of bs)) (fields_of fs (rest_of bs)) (joined fs gs (rest_of bs))

pub both : (fs gs : List Field) (bs mid xs ys rest : List ℕ) → fields_of fs bs ≡ Ok (xs, mid) → fields_of gs mid ≡ Ok (ys, rest) → fields_of (fs ++ gs) bs ≡ Ok (xs ++ ys, rest)
both fs gs bs mid xs ys rest e f =
    joined fs gs bs ∙ ap (λ (r : Result Taken Reason). then r (rest_by gs)) e ∙ ap (λ (r : Result Taken Reason). then r (prefixed xs)) f

pub first_fails : (fs gs : List Field) (bs : List ℕ) (e : Reason) → fields_of fs bs ≡ Err e → fields_of (fs ++ gs) bs ≡ Err e
first_fails fs gs bs e h = joined fs gs bs ∙ ap (λ (r : Result Taken Reason). then r (rest_by gs)) h

pub second_fails : (fs gs : List Field) (bs mid xs : List ℕ) (e : Reason) → fields_of fs bs ≡ Ok (xs, mid) → fields_of gs mid ≡ Err e → fields_of (fs ++ gs) bs ≡ Err e
second_fails fs gs bs mid xs e h k =
    joined fs gs bs ∙ ap (λ (r : Result Taken Reason). then r (rest_by gs)) h ∙ ap (λ (r : Result Taken Reason). then r (prefixed xs)) k

-- n fields of one kind, i of them read
prefixed_twice : (xs ys : List ℕ) (r : Result Taken Reason) → then (then r (prefixed ys)) (prefixed xs) ≡ then r (prefixed (xs ++ ys))
prefixed_twice xs ys (Ok u) = ap (λ (zs : List ℕ). Ok (zs, u.1)) (sym (append_assoc xs ys u.0))
prefixed_twice xs ys (Err e) = refl

one_left : (f : Field) (n i : ℕ) → i < n → replicate (n - i) f ≡ f ∷ replicate (n - (i + 1)) f
one_left f n i h = let e : n - i ≡ suc (n - (i + 1)) = omega (arith, h) in ap (λ (k : ℕ). replicate k f) e

pub none_read : (f : Field) (n : ℕ) (bs : List ℕ) → fields_of (replicate n f) bs ≡ then (fields_of (replicate (n - 0) f) bs) (prefixed [])
none_read f n bs = let z : n ≡ n - 0 = omega arith in ap (λ (k : ℕ). fields_of (replicate k f) bs) z ∙ same (fields_of (replicate (n - 0) f) bs)

pub one_more_read : (f : Field) (n i : ℕ) (bs mid rest xs : List ℕ) (x : ℕ) → i < n
    → fields_of (replicate n f) bs ≡ then (fields_of (replicate (n - i) f) mid) (prefixed xs) → fields_of (f ∷ []) mid ≡ Ok (x ∷ [], rest)
    → fields_of (replicate n f) bs ≡ then (fields_of (replicate (n - (i + 1)) f) rest) (prefixed (xs ++ x ∷ []))
one_more_read f n i bs mid rest xs x l h k =
    let after = replicate (n - (i + 1)) f in
    h ∙ ap (λ (fs : List Field). then (fields_of fs mid) (prefixed xs)) (one_left f n i l)
    ∙ ap (λ (r : Result Taken Reason). then r (prefixed xs)) (joined (f ∷ []) after mid ∙ ap (λ (r : Result Taken Reason). then r (rest_by after)) k)
    ∙ prefixed_twice xs (x ∷ []) (fields_of after rest)

pub one_fails : (f : Field) (n i : ℕ) (bs mid xs : List ℕ) (e : Reason) → i < n
    → fields_of (replicate n f) bs ≡ then (fields_of (replicate (n - i) f) mid) (prefixed xs) → fields_of (f ∷ []) mid ≡ Err e
    → fields_of (replicate n f) bs ≡ Err e
one_fails f n i bs mid xs e l h k =
    h ∙ ap (λ (fs : List Field). then (fields_of fs mid) (prefixed xs)) (one_left f n i l)
    ∙ ap (λ (r : Result Taken Reason). then r (prefixed xs)) (first_fails (f ∷ []) (replicate (n - (i + 1)) f) mid e k)

pub all_read : (f : Field) (n i : ℕ) (bs mid xs : List ℕ) → n ≤ i → length xs ≡ n
    → fields_of (replicate n f) bs ≡ then (fields_of (replicate (n - i) f) mid) (prefixed (take i xs)) → fields_of (replicate n f) bs ≡ Ok (xs, mid)
unfolding fields_of
all_read f n i bs mid xs l m h =
    let z : n - i ≡ 0 = omega (arith, l) in
    h ∙ ap (λ (k : ℕ). then (fields_of (replicate k f) mid) (prefixed (take i xs))) z
    ∙ ap (λ (ys : List ℕ). Ok (ys, mid)) (append-nil (take i xs) ∙ take_all i xs (omega (arith, l, m)))

-- a command made of its fields
pub makes : (v w : Word) (bs xs rest : List ℕ) (c : Command) → v ≡ w → fields_of (fields_for w) bs ≡ Ok (xs, rest) → c ≡ made w xs → command_in v bs ≡ Ok (c, rest)
unfolding command_in
makes v w bs xs rest c q e m =
    ap (λ (u : Word). command_in u bs) q ∙ ap (λ (r : Result Taken Reason). then r (λ t. made_of w t)) e ∙ ap (λ (d : Command). Ok (d, rest)) (sym m)

pub makes_none : (v w : Word) (bs rest : List ℕ) (r : Result Command Reason) (e : Reason)
    → v ≡ w → IsErrAnd r (λ y. y ≡ e) → fields_of (fields_for w) bs ≡ Err e
    → MatchResult r (λ c. command_in v bs ≡ Ok (c, rest)) (λ y. command_in v bs ≡ Err y)
unfolding command_in
makes_none v w bs rest (Ok c) e q h k = absurd h
makes_none v w bs rest (Err y) e q h k =
    ap (λ (u : Word). command_in u bs) q ∙ ap (λ (r : Result Taken Reason). then r (λ t. made_of w t)) k ∙ ap Err (sym h)

-- five numbers are found where they stand
pub thresholds_are : (f : ℕ) (ts cs : List ℕ) → length ts ≡ 5 → length cs ≡ 5
    → of_market (Thresholds f (record { triggers = ts; calm = cs })) ≡ made ThresholdsWord (f ∷ (ts ++ cs))
thresholds_are f ts cs a b =
    let t : take 5 (ts ++ cs) ≡ ts = take_at ts cs 5 a in
    let u : take 5 (drop 5 (ts ++ cs)) ≡ cs = ap (take 5) (drop_at ts cs 5 a) ∙ take_all 5 cs (omega arith) in
    ap₂ (λ (x y : List ℕ). of_market (Thresholds f (record { triggers = x; calm = y }))) (sym t) (sym u)

pub check_is : (f s : ℕ) (rs : List ℕ) → length rs ≡ 5 → of_market (Volatility (record { family = f; slot = s; returns = rs })) ≡ made CheckWord (f ∷ s ∷ rs)
check_is f s rs a =
    let t : take 5 rs ≡ rs = take_all 5 rs (omega arith) in
    ap (λ (x : List ℕ). of_market (Volatility (record { family = f; slot = s; returns = x }))) (sym t)
