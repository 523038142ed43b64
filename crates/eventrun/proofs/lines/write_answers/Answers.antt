use Rattle.std.proofs.Common.{◌≡◌, ◌+◌, ◌++◌, drop, drop_of_length-le, length, string_bytes, ℕ, List, [], ◌∷◌, inl, inr, refl, sym, ap, ap₂, ◌∙◌, arith}
use Rattle.std.proofs.lemmas.List.{append-nil, append_assoc, nil_from_length}
use Rattle.events.specs.declared.event.Event.{Event}
use Rattle.rules.specs.declared.call.Answer.{Answer}
use Rattle.eventrun.specs.Lines.{answer_line, answer_lines}
use Rattle.eventrun.proofs.Skips.{skipped_item, skipped_end}
use Rattle.eventrun.proofs.lines.write_answers.Goals as goal

-- without answers there are no lines
none_said : (n : ℕ) (es : List Event) → answer_lines n es [] ≡ []
none_said n [] = refl
none_said n (e ∷ es) = refl

no_answers : (n : ℕ) (es : List Event) (os : List Answer) → length os ≡ 0 → answer_lines n es os ≡ []
no_answers n es os none = ap (answer_lines n es) (nil_from_length os none) ∙ none_said n es

-- and without records
no_records : (n : ℕ) (es : List Event) (os : List Answer) → length es ≡ 0 → answer_lines n es os ≡ []
no_records n es os none = ap (λ (xs : List Event). answer_lines n xs os) (nil_from_length es none)

-- a line more, and the list that is left begins after its event and its answer
line_more : (text longer whole : List ℕ) (place count after n m : ℕ) (left more : List Event) (said later : List Answer) (e : Event) (o : Answer)
    → text ++ answer_lines (count + 2) (drop n left) said ≡ whole → drop n left ≡ e ∷ more → said ≡ o ∷ later
    → place ≡ count → after ≡ count + 1 → m ≡ 0 → longer ≡ text ++ answer_line (place + 2) e o
    → longer ++ answer_lines (after + 2) (drop m more) later ≡ whole
line_more text longer whole place count after n m left more said later e o so first answer at next none line =
    let here : longer ≡ text ++ answer_line (count + 2) e o = line ∙ ap (λ (k : ℕ). text ++ answer_line (k + 2) e o) at in
    let number : after + 2 ≡ count + 2 + 1 = omega (arith, next) in
    let tail : answer_lines (after + 2) (drop m more) later ≡ answer_lines (count + 2 + 1) more later = ap₂ (λ (k i : ℕ). answer_lines k (drop i more) later) number none in
    let all : answer_lines (count + 2) (drop n left) said ≡ answer_lines (count + 2) (e ∷ more) (o ∷ later) = ap₂ (λ (es : List Event) (os : List Answer). answer_lines (count + 2) es os) first answer in
    ap₂ (λ (x xs : List ℕ). x ++ xs) here tail ∙ append_assoc text _ _ ∙ ap (λ (x : List ℕ). text ++ x) (sym all) ∙ so

pub loop-place-preserved : goal.loop-place-preserved
loop-place-preserved c =
    let it = c.loop-place.place-iterator in
    let kept = c.loop-place.invariant in
    let next = skipped_item it.iter.a.iter c.next.new.self.iter.a.iter it.iter.a.n c.in-Some.event c.in-Some.ensures.steps.0.0.1 in
    let first = next.0 in
    let so_long = next.1 in
    let passed = c.in-Some.ensures.steps.0.0.0 in
    let answered = c.in-Some.ensures.steps.0.1 in
    let counted = c.in-Some.ensures.steps.1 in
    record {
      place = omega (arith, kept.place, so_long, passed, c.in-Some.ensures.steps.2);
      lines = line_more (string_bytes c.loop-place.text) _ _ c.in-Some.place it.count c.next.new.self.count it.iter.a.n c.next.new.self.iter.a.n it.iter.a.iter.rest.now c.next.new.self.iter.a.iter.rest.now it.iter.b.rest.now c.next.new.self.iter.b.rest.now c.in-Some.event.now c.in-Some.answer.now
          kept.lines first answered counted c.in-Some.ensures.steps.2 passed c.in_ok-write_answer.ensures;
    }

pub returns : goal.returns
returns c =
    let it = c.loop-place.place-iterator in
    let kept = c.loop-place.invariant in
    let lines = answer_lines (it.count + 2) (drop it.iter.a.n it.iter.a.iter.rest.now) it.iter.b.rest.now in
    let none : lines ≡ [] = elim c.in-None.ensures.steps.0 [
      | inl ended ↦ no_records _ _ _ (ap length (drop_of_length-le it.iter.a.iter.rest.now (skipped_end it.iter.a.iter ended.0.iter it.iter.a.n ended.1.1)))
      | inr ended ↦ no_answers _ _ _ ended.1.0
    ] in
    sym (append-nil (string_bytes c.loop-place.text)) ∙ ap (λ (xs : List ℕ). string_bytes c.loop-place.text ++ xs) (sym none) ∙ kept.lines
