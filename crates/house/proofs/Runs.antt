-- One call more in a list of calls.
use Rattle.std.proofs.Common.{◌≡◌, ℕ, ◌+◌, ◌<◌, List, [], ◌∷◌, ◌++◌, length, get_or, take, drop, set, sym, refl, ap, ◌∙◌, ap₂, arith}
use Rattle.std.proofs.lemmas.List.Sums.{fold_more}
use Rattle.std.proofs.lemmas.List.{take_more, take_more_set, drop-set-lt, drop-drop}
use Rattle.models.specs.Meaning.{Meaning}
use Rattle.tables.specs.declared.row.AccountRow.{AccountRow}
use Rattle.tables.specs.declared.row.TradeRow.{TradeRow}
use Rattle.market.specs.declared.state.MarketState.{MarketState}
use Rattle.rules.specs.declared.call.Answer.{Answer}
use Rattle.rules.specs.declared.call.NamedCall.{NamedCall}
use Rattle.rules.specs.Outcomes.{account_outcome}
use Rattle.rules.specs.Runs.{Lent, lent_after, answer_to, lent_run, answers_run}

module _ (m : Meaning) (k : MarketState) (n : ℕ) where
  answers_push : (t : Lent) (cs : List NamedCall) (c : NamedCall) → answers_run m k n t (cs ++ c ∷ []) ≡ answers_run m k n t cs ++ answer_to m k n (lent_run m k n t cs) c ∷ []
  answers_push t [] c = refl
  answers_push t (d ∷ cs) c = ap (λ (l : List Answer). answer_to m k n t d ∷ l) (answers_push (lent_after m k n t d) cs c)

  module _ (t : Lent) (cs : List NamedCall) (i : ℕ) (d : NamedCall) (rs rs' : List AccountRow) (ts ts' : List TradeRow) (x : Answer) (lt : i < length cs)
      (er : rs ≡ (lent_run m k n t (take i cs)).0) (et : ts ≡ (lent_run m k n t (take i cs)).1)
      (ex : x ≡ (account_outcome m k n rs ts (get_or cs i d).account (get_or cs i d).call).answer)
      (eo : rs' ≡ (account_outcome m k n rs ts (get_or cs i d).account (get_or cs i d).call).rows)
      (ep : ts' ≡ (account_outcome m k n rs ts (get_or cs i d).account (get_or cs i d).call).trades) where
    pub rows_more : rs' ≡ (lent_run m k n t (take (i + 1) cs)).0
    unfolding lent_after
    rows_more =
        eo ∙ ap₂ (λ (us : List AccountRow) (vs : List TradeRow). (account_outcome m k n us vs (get_or cs i d).account (get_or cs i d).call).rows) er et
        ∙ ap (λ (u : Lent). u.0) (sym (fold_more (lent_after m k n) t cs i d lt))

    pub trades_more : ts' ≡ (lent_run m k n t (take (i + 1) cs)).1
    unfolding lent_after
    trades_more =
        ep ∙ ap₂ (λ (us : List AccountRow) (vs : List TradeRow). (account_outcome m k n us vs (get_or cs i d).account (get_or cs i d).call).trades) er et
        ∙ ap (λ (u : Lent). u.1) (sym (fold_more (lent_after m k n) t cs i d lt))

    said : x ≡ answer_to m k n (lent_run m k n t (take i cs)) (get_or cs i d)
    unfolding answer_to
    said = ex ∙ ap₂ (λ (us : List AccountRow) (vs : List TradeRow). (account_outcome m k n us vs (get_or cs i d).account (get_or cs i d).call).answer) er et

    pub answers_more : (os : List Answer) → i < length os → take i os ≡ answers_run m k n t (take i cs) → take (i + 1) (set os i x) ≡ answers_run m k n t (take (i + 1) cs)
    answers_more os la so_far =
        take_more_set os i x la
        ∙ ap₂ (λ (l : List Answer) (y : Answer). l ++ y ∷ []) so_far said
        ∙ sym (answers_push t (take i cs) (get_or cs i d))
        ∙ ap (answers_run m k n t) (sym (take_more cs i d lt))

-- places past i + 1 are as they were, whatever fills place i
pub rest_more : {X : Type 0} (os ps : List X) (i : ℕ) (x : X) → drop i os ≡ drop i ps → drop (i + 1) (set os i x) ≡ drop (i + 1) ps
rest_more os ps i x e = drop-set-lt (i + 1) os i x (omega arith) ∙ sym (drop-drop 1 i os) ∙ ap (drop 1) e ∙ drop-drop 1 i ps
