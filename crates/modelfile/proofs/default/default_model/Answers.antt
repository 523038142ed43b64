use Rattle.std.proofs.Common.{vec_items, ◌∙◌}
use Rattle.modelfile.proofs.Zeros.{zeros_sound, zeros_are}
use Rattle.modelfile.proofs.default.default_model.Goals as goal

pub invariant_of-sound : goal.invariant_of-sound
invariant_of-sound c = record {
  ok = zeros_sound (vec_items c.in_ok-vec.field-0) (vec_items c.in_ok-vec-2.field-0) (vec_items c.in_ok-vec-3.field-0)
      (c.in_ok-vec.ensures.items_if_clones_equal (λ y e. e)) (c.in_ok-vec-2.ensures.items_if_clones_equal (λ y e. e)) (c.in_ok-vec-3.ensures.items_if_clones_equal (λ y e. e));
}

pub returns : goal.returns
returns c =
    c.new.ensures.keeps
    ∙ zeros_are (vec_items c.in_ok-vec.field-0) (vec_items c.in_ok-vec-2.field-0) (vec_items c.in_ok-vec-3.field-0)
    (c.in_ok-vec.ensures.items_if_clones_equal (λ y e. e)) (c.in_ok-vec-2.ensures.items_if_clones_equal (λ y e. e)) (c.in_ok-vec-3.ensures.items_if_clones_equal (λ y e. e))
