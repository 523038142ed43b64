-- Where the events of a file end, and where its fault stands.
use Rattle.std.proofs.Common.{◌≡◌, ℕ, zero, suc, ◌+◌, ◌<◌, ◌≤◌, Bool, true, false, cond, eqb, ltb, List, [], ◌∷◌, ◌++◌, length, get_or, take, drop, Some, None, Ok, Err, Option, Result, sym, refl, ap, ◌∙◌, subst, arith, ltb-false, lt-ltb, ne_eqb, eqb-true}
use Rattle.std.proofs.lemmas.List.{take_at, drop_all}
use Rattle.std.specs.List.{All, AllByRecursion}
use Rattle.std.proofs.lemmas.List.Elements.{All-from_recursion}
use Rattle.events.proofs.Encodes.{EachLater}
use Rattle.events.specs.Kinds.{length_of, opens, event_kind}
use Rattle.events.specs.Faults.{too_long}
use Rattle.events.specs.Steps.{Step, in_turn, head_at, step_by, step_at, size_of}
use Rattle.events.specs.Files.{events_with, fault_with, events_from, fault_from, events_of, fault_of}
use Rattle.events.specs.Encoded.{encoded, encode_all, Fits, Later, Opened, EventsEncodeFile, EventsReachFault}
use Rattle.events.specs.declared.event.Kind.{Kind}
use Rattle.events.specs.declared.event.Event.{Event}
use Rattle.events.specs.declared.fault.Fault.{Fault}
use Rattle.events.specs.declared.fault.FaultReason.{FaultReason}
use Rattle.events.proofs.Stands.{stands, any_long}
use Rattle.events.proofs.Rewrites.{each_byte, fits_at, record_again}

-- from i on, after n records: these events and then this fault, or the end
abbrev Placed : List ℕ → ℕ → ℕ → List Event → Option Fault → Type 0
Placed bs i n es None = drop i bs ≡ encode_all es
Placed bs i n es (Some f) =
    (drop i bs ≡ encode_all es ++ drop f.offset bs) × (f.offset ≤ length bs) × (i + length (encode_all es) ≡ f.offset) × (f.ordinal ≡ n + length es + 1)

end_by : (bs : List ℕ) (i n : ℕ) (t u : Bool) (h : Result Kind FaultReason) → cond t (Err too_long) (cond u (Ok None) (step_by bs i n h)) ≡ Ok None → u ≡ true
end_by bs i n t u h p = grind arith

fault_by : (bs : List ℕ) (i n : ℕ) (f : Fault) (t u : Bool) (h : Result Kind FaultReason) → t ≡ false → cond t (Err too_long) (cond u (Ok None) (step_by bs i n h)) ≡ Err f
    → (f.offset ≡ i) × (f.ordinal ≡ n + 1)
fault_by bs i n f t u h q p = grind arith

onto : (e : Event) (r s : List ℕ) → encoded e r ++ s ≡ encoded e (r ++ s)
onto e r s = grind arith

long_as : (e : Event) (r : List ℕ) → length (encoded e r) ≡ length_of (event_kind e) + length r
long_as e r = grind arith

module _ (bs : List ℕ) (byte : (k : ℕ) → get_or bs k 0 < 256) where
  -- a record that was read, encoded again
  once_more : (i n : ℕ) (e : Event) → step_at bs i n ≡ Ok (Some e) → drop i bs ≡ encoded e (drop (i + length_of (event_kind e)) bs)
  once_more i n e h =
      let d = stands bs i n e h in
      record_again bs i byte (event_kind e) d.long d.code d.there ∙ ap (λ z. encoded z (drop (i + length_of (event_kind e)) bs)) d.event

  placed_more : (i n : ℕ) (e : Event) (es : List Event) (o : Option Fault) → drop i bs ≡ encoded e (drop (i + length_of (event_kind e)) bs)
      → Placed bs (i + length_of (event_kind e)) (n + 1) es o → Placed bs i n (e ∷ es) o
  placed_more i n e es None w m = w ∙ ap (encoded e) m
  placed_more i n e es (Some f) w m =
      let l = long_as e (encode_all es) in
      (w ∙ ap (encoded e) m.0 ∙ sym (onto e (encode_all es) (drop f.offset bs)), m.1, omega (arith, m.2), omega (arith, m.3))

  placed_step : (i n : ℕ) (s : Step) (es : List Event) (o : Option Fault) → length bs ≤ 65536 → i ≤ length bs → step_at bs i n ≡ s
      → (i + size_of s ≤ length bs → 1 ≤ size_of s → Placed bs (i + size_of s) (n + 1) es o) → Placed bs i n (events_with s es) (fault_with s o)
  placed_step i n (Ok None) es o most le h next =
      let e = eqb-true i (length bs) (end_by bs i n (ltb 65536 (length bs)) (eqb i (length bs)) (head_at bs i (eqb n 0)) h) in
      drop_all i bs (omega arith)
  placed_step i n (Err f) es o most le h next =
      let t : ltb 65536 (length bs) ≡ false = grind arith in
      let p = fault_by bs i n f (ltb 65536 (length bs)) (eqb i (length bs)) (head_at bs i (eqb n 0)) t h in
      (sym (ap (λ z. drop z bs) p.0), omega (arith, p.0), omega (arith, p.0), omega (arith, p.1))
  placed_step i n (Ok (Some e)) es o most le h next =
      let d = stands bs i n e h in
      placed_more i n e es o (once_more i n e h) (next d.there (omega (arith, any_long (event_kind e))))

  placed_from : (steps i n : ℕ) → length bs ≤ 65536 → i ≤ length bs → length bs < i + steps → Placed bs i n (events_from steps bs i n) (fault_from steps bs i n)
  placed_from zero i n most le lt = absurd (omega arith)
  placed_from (suc steps) i n most le lt =
      placed_step i n (step_at bs i n) _ _ most le refl (λ far some. placed_from steps (i + size_of (step_at bs i n)) (n + 1) most far (omega arith))

  fits_step : (i n : ℕ) (s : Step) (es : List Event) → step_at bs i n ≡ s → AllByRecursion Fits es → AllByRecursion Fits (events_with s es)
  fits_step i n (Ok None) es h w = tt
  fits_step i n (Err f) es h w = tt
  fits_step i n (Ok (Some e)) es h w = (subst Fits (stands bs i n e h).event (fits_at bs i byte (event_kind e)), w)

  fits_from : (steps i n : ℕ) → AllByRecursion Fits (events_from steps bs i n)
  fits_from zero i n = tt
  fits_from (suc steps) i n = fits_step i n (step_at bs i n) _ refl (fits_from steps (i + size_of (step_at bs i n)) (n + 1))

  later_turn : (k : Kind) → in_turn false k ≡ true → opens k ≡ false
  later_turn k h = grind arith

  later_step : (i n : ℕ) (s : Step) (es : List Event) → step_at bs i n ≡ s → 1 ≤ n → EachLater es → EachLater (events_with s es)
  later_step i n (Ok None) es h some l = tt
  later_step i n (Err f) es h some l = tt
  later_step i n (Ok (Some e)) es h some l =
      let z = ne_eqb n 0 (omega arith) in
      (later_turn (event_kind e) (rw z at (stands bs i n e h).turn), l)

  later_from : (steps i n : ℕ) → 1 ≤ n → EachLater (events_from steps bs i n)
  later_from zero i n some = tt
  later_from (suc steps) i n some = later_step i n (step_at bs i n) _ refl some (later_from steps (i + size_of (step_at bs i n)) (n + 1) (omega arith))

  opened_step : (s : Step) (es : List Event) → step_at bs 0 0 ≡ s → Later es → Opened (events_with s es)
  opened_step (Ok None) es h l = tt
  opened_step (Err f) es h l = tt
  opened_step (Ok (Some e)) es h l = ((stands bs 0 0 e h).turn, l)

  opened_from : (steps : ℕ) → Opened (events_from steps bs 0 0)
  opened_from zero = tt
  opened_from (suc steps) = opened_step (step_at bs 0 0) _ refl (All-from_recursion _ _ (later_from steps (0 + size_of (step_at bs 0 0)) (0 + 1) (omega arith)))

  placed_of : length bs ≤ 65536 → Placed bs 0 0 (events_of bs) (fault_of bs)
  placed_of most = placed_from (length bs + 1) 0 0 most (omega arith) (omega arith)

-- a file that is too long
over_by : (bs : List ℕ) (steps : ℕ) → ltb 65536 (length bs) ≡ true → (events_from (suc steps) bs 0 0 ≡ []) × (fault_from (suc steps) bs 0 0 ≡ Some too_long)
over_by bs steps h = (simp h, simp h)

pub over : (bs : List ℕ) → 65536 < length bs → (events_of bs ≡ []) × (fault_of bs ≡ Some too_long)
over bs lt =
    let s : length bs + 1 ≡ suc (length bs) = omega arith in
    let o = over_by bs (length bs) (lt-ltb 65536 (length bs) lt) in
    (ap (λ z. events_from z bs 0 0) s ∙ o.0, ap (λ z. fault_from z bs 0 0) s ∙ o.1)

short_by : (bs : List ℕ) (t : Bool) (steps : ℕ) → ltb 65536 (length bs) ≡ t → fault_from (suc steps) bs 0 0 ≡ None → length bs ≤ 65536
short_by bs true steps h e = absurd (grind arith)
short_by bs false steps h e = ltb-false 65536 (length bs) h

short_from : (bs : List ℕ) → fault_of bs ≡ None → length bs ≤ 65536
short_from bs e =
    let s : length bs + 1 ≡ suc (length bs) = omega arith in
    short_by bs (ltb 65536 (length bs)) (length bs) refl (ap (λ z. fault_from z bs 0 0) (sym s) ∙ e)

module _ (bs : List ℕ) (byte : (k : ℕ) → get_or bs k 0 < 256) where
  pub no_fault_by : fault_of bs ≡ None → (encode_all (events_of bs) ≡ bs) × Opened (events_of bs) × All Fits (events_of bs)
  no_fault_by h =
      let p = subst (λ o. Placed bs 0 0 (events_of bs) o) h (placed_of bs byte (short_from bs h)) in
      (sym p, opened_from bs byte (length bs + 1), All-from_recursion Fits _ (fits_from bs byte (length bs + 1) 0 0))

  pub to_fault_by : (f : Fault) → length bs ≤ 65536 → fault_of bs ≡ Some f
      → (encode_all (events_of bs) ≡ take f.offset bs) × (f.offset ≤ length bs) × (f.ordinal ≡ length (events_of bs) + 1)
  to_fault_by f most h =
      let p = subst (λ o. Placed bs 0 0 (events_of bs) o) h (placed_of bs byte most) in
      let n : length (encode_all (events_of bs)) ≡ f.offset = omega (arith, p.2) in
      (sym (ap (take f.offset) p.0 ∙ take_at (encode_all (events_of bs)) (drop f.offset bs) f.offset n), p.1, omega (arith, p.3))

pub events_encode_file : EventsEncodeFile
events_encode_file bs all h = no_fault_by bs (each_byte bs all) h

pub events_reach_fault : EventsReachFault
events_reach_fault bs f all most h = to_fault_by bs (each_byte bs all) f most h
