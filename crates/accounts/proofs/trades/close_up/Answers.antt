use Rattle.std.proofs.Common.{◌≡◌, ℕ, suc, ◌-◌, ◌<◌, List, [], ◌∷◌, ◌++◌, length, slice_index_or, take, drop, slice_set, ap, ◌∙◌, arith, drop-cons}
use borrow.Rule.Slice.PartMut.{put_mid}
use Rattle.std.specs.List.{remove}
use Rattle.std.proofs.lemmas.List.{take_rest, drop_all, set_at, append-nil, append_assoc, length-drop}
use Rattle.std.proofs.lemmas.List.Edits.{length-remove}
use Rattle.accounts.proofs.trades.close_up.Goals as goal

closing : {X : Type 0} (xs ys : List X) (a : ℕ) (z : X) → a < length xs → ys ≡ drop 1 (take (length xs - a) (drop a xs)) ++ take 1 (take (length xs - a) (drop a xs)) → slice_set (put_mid a (length xs - a) xs ys) (length xs - 1) z ≡ remove xs a ++ z ∷ []
closing {X} xs ys a z h e =
    let x = slice_index_or xs a z in
    let p = take a xs in
    let r = drop (suc a) xs in
    let y : ys ≡ r ++ x ∷ [] = e ∙ ap (λ (l : List X). drop 1 l ++ take 1 l) (take_rest xs a ∙ drop-cons xs a z h) in
    let t : drop (length xs - a) (drop a xs) ≡ [] = drop_all _ (drop a xs) (omega (arith, length-drop a xs)) in
    let g : p ++ ((r ++ x ∷ []) ++ []) ≡ (p ++ r) ++ x ∷ [] = simp (append-nil, append_assoc) in
    ap (λ (l : List X). slice_set (p ++ (l ++ drop (length xs - a) (drop a xs))) (length xs - 1) z) y
    ∙ ap (λ (l : List X). slice_set (p ++ ((r ++ x ∷ []) ++ l)) (length xs - 1) z) t
    ∙ ap (λ (l : List X). slice_set l (length xs - 1) z) g
    ∙ set_at (p ++ r) x [] z (length xs - 1) (omega (arith, length-remove xs a h))

pub returns : goal.returns
returns c = closing c.args.places.now c.rotate_left.new.self c.args.at _ c.requires c.rotate_left.ensures.after
