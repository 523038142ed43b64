use Rattle.std.proofs.Common.{◌≡◌, sym, ap, ◌∙◌, subst, rules}
use Rattle.modelfile.specs.Kinds.{kind_of}
use Rattle.modelfile.specs.declared.refusal.LoadRefusal.{LoadRefusal}
use Rattle.modelfile.specs.Parts.{part_of, stopped}
use Rattle.modelfile.specs.Texts.{UnlessMemory}
use Rattle.modelfile.proofs.Forms.{nameless, named_is, no_sets, no_scenarios, with_counts, fits_are, counts_good, counts_wrong}
use Rattle.modelfile.proofs.read.read_head.Goals as goal

pub returns-in_err-kind : goal.returns-in_err-kind
returns-in_err-kind c =
    let e = nameless c.args.scan.now.rest.now (sym (c.in_err-kind.ensures ∙ ap kind_of c.word.ensures.value)) in
    grind rules

pub returns-in_err-sets : goal.returns-in_err-sets
returns-in_err-sets c =
    let e = named_is c.args.scan.now.rest.now c.word.new.self.rest.now c.in_ok-kind.kind (sym (c.in_ok-kind.ensures ∙ ap kind_of c.word.ensures.value)) c.word.ensures.after in
    let f = e ∙ no_sets c.in_ok-kind.kind c.word.new.self.rest.now (sym c.next_count.ensures.value ∙ c.in_err-sets.ensures.ok_part) in
    grind rules

pub returns-in_err-scenarios : goal.returns-in_err-scenarios
returns-in_err-scenarios c =
    let e = named_is c.args.scan.now.rest.now c.word.new.self.rest.now c.in_ok-kind.kind (sym (c.in_ok-kind.ensures ∙ ap kind_of c.word.ensures.value)) c.word.ensures.after in
    let f = e ∙ no_scenarios c.in_ok-kind.kind c.word.new.self.rest.now c.next_count.new.scan.rest.now c.in_ok-sets.sets (sym c.next_count.ensures.value ∙ c.in_ok-sets.ensures.ok_part) c.next_count.ensures.after (sym c.next_count-2.ensures.value ∙ c.in_err-scenarios.ensures.ok_part) in
    grind rules

pub returns-then-not-counts_fit : goal.returns-then-not-counts_fit
returns-then-not-counts_fit c =
    let e = named_is c.args.scan.now.rest.now c.word.new.self.rest.now c.in_ok-kind.kind (sym (c.in_ok-kind.ensures ∙ ap kind_of c.word.ensures.value)) c.word.ensures.after in
    let f = with_counts c.in_ok-kind.kind c.word.new.self.rest.now c.next_count.new.scan.rest.now c.next_count-2.new.scan.rest.now c.in_ok-sets.sets c.in_ok-scenarios.scenarios (sym c.next_count.ensures.value ∙ c.in_ok-sets.ensures.ok_part) c.next_count.ensures.after (sym c.next_count-2.ensures.value ∙ c.in_ok-scenarios.ensures.ok_part) c.next_count-2.ensures.after in
    subst (λ (r : LoadRefusal). UnlessMemory r (λ a. part_of c.args.scan.now.rest.now ≡ stopped a)) (sym c.into.ensures)
    (e ∙ (f ∙ counts_wrong c.in_ok-kind.kind c.in_ok-sets.sets c.in_ok-scenarios.scenarios c.next_count-2.new.scan.rest.now (fits_are c.in_ok-sets.sets c.in_ok-scenarios.scenarios c.counts_fit.result c.counts_fit.ensures ∙ c.if-not-counts_fit.true)))

pub returns : goal.returns
returns c =
    let e = named_is c.args.scan.now.rest.now c.word.new.self.rest.now c.in_ok-kind.kind (sym (c.in_ok-kind.ensures ∙ ap kind_of c.word.ensures.value)) c.word.ensures.after in
    let f = with_counts c.in_ok-kind.kind c.word.new.self.rest.now c.next_count.new.scan.rest.now c.next_count-2.new.scan.rest.now c.in_ok-sets.sets c.in_ok-scenarios.scenarios (sym c.next_count.ensures.value ∙ c.in_ok-sets.ensures.ok_part) c.next_count.ensures.after (sym c.next_count-2.ensures.value ∙ c.in_ok-scenarios.ensures.ok_part) c.next_count-2.ensures.after in
    e ∙ (f ∙ counts_good c.in_ok-kind.kind c.in_ok-sets.sets c.in_ok-scenarios.scenarios c.next_count-2.new.scan.rest.now (fits_are c.in_ok-sets.sets c.in_ok-scenarios.scenarios c.counts_fit.result c.counts_fit.ensures ∙ c.if-not-counts_fit.false))
