-- The room of a reading, event by event.
use Rattle.std.proofs.Common.{◌≡◌, ℕ, suc, ◌+◌, ◌<◌, ◌≤◌, Bool, if◌then◌else◌, List, [], ◌∷◌, ◌++◌, length, get_or, take, drop, set, Some, None, Option, sym, refl, ap, ◌∙◌, subst, arith, le-ltb, lt-ltb}
use Rattle.std.proofs.lemmas.List.{append-nil, append_assoc, length-append, length-take-le, take_all, take_at, take_more_set, drop-set-lt, drop-drop}
use Rattle.events.specs.Encoded.{encode_all}
use Rattle.events.specs.Files.{events_of, fault_of}
use Rattle.events.specs.Readings.{ending_of, ReadInto}
use Rattle.events.specs.declared.event.Event.{Event}
use Rattle.events.specs.declared.fault.Fault as faults
use Rattle.events.specs.declared.reading.Ending.TheVariants.{End, Fault, NoRoom}
use Rattle.events.proofs.Encodes.{file_read_back}
use Rattle.events.proofs.Placed.{no_fault_by, to_fault_by, over}
use Rattle.events.proofs.Stands.{few_events}

some_room : (f : Option faults.Fault) → ending_of f ≡ NoRoom → ⊥
some_room f e = grind arith

ended_well : (f : Option faults.Fault) → ending_of f ≡ End → f ≡ None
ended_well f e = grind arith

ended_at : (f : Option faults.Fault) (x : faults.Fault) → ending_of f ≡ Fault x → f ≡ Some x
ended_at f x e = grind arith

module _ (bytes : List ℕ) (before room : List Event) (k : ℕ) (left : List Event) (e : events_of bytes ≡ take k room ++ left)
    (rest : drop k room ≡ drop k before) (le : k ≤ length room) (same : length room ≡ length before) (byte : (j : ℕ) → get_or bytes j 0 < 256) where
  total : length (events_of bytes) ≡ k + length left
  total = ap length e ∙ length-append (take k room) left ∙ ap (λ z. z + length left) (length-take-le k room le)

  pub all_read : (f : Option faults.Fault) → left ≡ [] → fault_of bytes ≡ f → ReadInto bytes before room (record { count = k; ending = ending_of f })
  all_read f none g =
      let n : length (events_of bytes) ≡ k = total ∙ ap (λ z. k + length z) none ∙ omega arith in
      let w : take k room ≡ events_of bytes = sym (e ∙ ap (λ z. take k room ++ z) none ∙ append-nil (take k room)) in
      let same_end : ending_of f ≡ ending_of (fault_of bytes) = sym (ap ending_of g) in
      record {
        counted = omega arith;
        front = w ∙ sym (take_all k (events_of bytes) (omega arith));
        rest = rest;
        ended = same_end ∙ ap (λ (b : Bool). if b then NoRoom else ending_of (fault_of bytes)) (sym (le-ltb (length before) (length (events_of bytes)) (omega arith)));
        whole = λ _. w;
        most = few_events bytes;
        suffices = λ _. same_end;
        overlong = λ lt. (sym n ∙ ap length (over bytes lt).0, same_end ∙ ap ending_of (over bytes lt).1);
        decodes = λ es b o fit le _.
            let back = file_read_back es o fit (subst (λ z. length z ≤ 65536) b le) in
            (w ∙ ap events_of b ∙ back.0, same_end ∙ ap ending_of (ap fault_of b ∙ back.1));
        encodes = λ h. ap encode_all w ∙ (no_fault_by bytes byte (g ∙ ended_well f h)).0;
        reaches = λ x h le.
            let to = to_fault_by bytes byte x le (g ∙ ended_at f x h) in
            (ap encode_all w ∙ to.0, to.2 ∙ ap (λ z. z + 1) n);
      }

  pub room_full : (x : Event) (more : List Event) → left ≡ x ∷ more → k ≡ length room → ReadInto bytes before room (record { count = k; ending = NoRoom })
  room_full x more some end =
      let n : length (events_of bytes) ≡ k + suc (length more) = total ∙ ap (λ z. k + length z) some in
      record {
        counted = omega arith;
        front = sym (ap (take k) e ∙ take_at (take k room) left k (length-take-le k room le));
        rest = rest;
        ended = ap (λ (b : Bool). if b then NoRoom else ending_of (fault_of bytes)) (sym (lt-ltb (length before) (length (events_of bytes)) (omega arith)));
        whole = λ h. absurd (h refl);
        most = few_events bytes;
        suffices = λ le. absurd (omega (arith, few_events bytes));
        overlong = λ lt. absurd (omega (arith, ap length (over bytes lt).0));
        decodes = λ es b o fit le h. absurd (h refl);
        encodes = λ h. absurd (grind arith);
        reaches = λ x h le. absurd (grind arith);
      }

  pub more_read : (x : Event) (more : List Event) → left ≡ x ∷ more → k < length room
      → (events_of bytes ≡ take (k + 1) (set room k x) ++ more) × (drop (k + 1) (set room k x) ≡ drop (k + 1) before)
  more_read x more some lt =
      let a : take (k + 1) (set room k x) ++ more ≡ take k room ++ (x ∷ more) = ap (λ z. z ++ more) (take_more_set room k x lt) ∙ append_assoc (take k room) (x ∷ []) more in (
        e ∙ ap (λ z. take k room ++ z) some ∙ sym a,
        drop-set-lt (k + 1) room k x (omega arith) ∙ sym (drop-drop 1 k room) ∙ ap (drop 1) rest ∙ drop-drop 1 k before,
      )
