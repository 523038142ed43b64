-- What a reader has left, step by step.
use Rattle.std.proofs.Common.{◌≡◌, ℕ, suc, ◌+◌, ◌-◌, ◌≤◌, List, [], ◌∷◌, length, Some, None, Ok, Err, Bool, false, Result, eqb, take, drop, length-drop, le-ltb, sym, ap, ◌∙◌, arith}
use Rattle.events.specs.Kinds.{length_of, event_kind}
use Rattle.events.specs.Steps.{Step, head_at, step_by, step_at, size_of}
use Rattle.events.proofs.Behind.{head_behind, event_behind}
use Rattle.events.specs.Record.{event_at}
use Rattle.std.proofs.lemmas.List.{take_all}
use Rattle.events.specs.declared.event.Kind.{Kind}
use Rattle.events.specs.declared.fault.FaultReason.{FaultReason}
use Rattle.events.specs.Files.{events_with, fault_with, events_from, fault_from}
use Rattle.events.specs.declared.event.Event.{Event}
use Rattle.events.specs.declared.fault.Fault.{Fault}

module _ (bs : List ℕ) (i n : ℕ) (s : Step) (le : n ≤ length bs) (h : s ≡ step_at bs i n) where
  pub events_step : events_from (length bs + 1 - n) bs i n ≡ events_with s (events_from (length bs - n) bs (i + size_of s) (n + 1))
  events_step =
      let e : length bs + 1 - n ≡ suc (length bs - n) = omega arith in
      rw e (ap (λ z. events_with z (events_from (length bs - n) bs (i + size_of z) (n + 1))) (sym h))

  pub fault_step : fault_from (length bs + 1 - n) bs i n ≡ fault_with s (fault_from (length bs - n) bs (i + size_of s) (n + 1))
  fault_step =
      let e : length bs + 1 - n ≡ suc (length bs - n) = omega arith in
      rw e (ap (λ z. fault_with z (fault_from (length bs - n) bs (i + size_of z) (n + 1))) (sym h))

pub left_end : (bs : List ℕ) (i n : ℕ) → n ≤ length bs → Ok None ≡ step_at bs i n
    → (events_from (length bs + 1 - n) bs i n ≡ []) × (fault_from (length bs + 1 - n) bs i n ≡ None)
left_end bs i n le h = (events_step bs i n (Ok None) le h, fault_step bs i n (Ok None) le h)

pub left_fault : (bs : List ℕ) (i n : ℕ) (f : Fault) → n ≤ length bs → Err f ≡ step_at bs i n
    → (events_from (length bs + 1 - n) bs i n ≡ []) × (fault_from (length bs + 1 - n) bs i n ≡ Some f)
left_fault bs i n f le h = (events_step bs i n (Err f) le h, fault_step bs i n (Err f) le h)

pub left_record : (bs : List ℕ) (i n j m : ℕ) (e : Event) → n ≤ length bs → Ok (Some e) ≡ step_at bs i n → j ≡ i + length_of (event_kind e) → m ≡ n + 1
    → (events_from (length bs + 1 - n) bs i n ≡ e ∷ events_from (length bs + 1 - m) bs j m)
    × (fault_from (length bs + 1 - n) bs i n ≡ fault_from (length bs + 1 - m) bs j m)
left_record bs i n j m e le h a b =
    let f : length bs + 1 - (n + 1) ≡ length bs - n = omega arith in
    (events_step bs i n (Ok (Some e)) le h ∙ sym (simp (a, b, f)), fault_step bs i n (Ok (Some e)) le h ∙ sym (simp (a, b, f)))

-- the bytes from a place on, as a reader takes them
abbrev rest_at : List ℕ → ℕ → List ℕ
rest_at bs i = take (length bs - i) (drop i bs)

pub rest_is : (bs : List ℕ) (i : ℕ) → drop i bs ≡ rest_at bs i
rest_is bs i = sym (take_all (length bs - i) (drop i bs) (omega (arith, length-drop i bs)))

-- the step of a head that was read off those bytes
pub step_headed : (bs : List ℕ) (i n : ℕ) (empty : Bool) (h : Result Kind FaultReason) → length bs ≤ 65536 → i ≤ length bs → empty ≡ false
    → empty ≡ eqb (length (rest_at bs i)) 0 → h ≡ head_at (rest_at bs i) 0 (eqb n 0) → step_by bs i n h ≡ step_at bs i n
step_headed bs i n empty h most le some from e =
    let s = le-ltb 65536 (length bs) most in
    let long : length (rest_at bs i) ≡ length bs - i = sym (ap length (rest_is bs i)) ∙ length-drop i bs in
    let q : eqb i (length bs) ≡ false = grind arith in
    let b : h ≡ head_at bs i (eqb n 0) = e ∙ head_behind bs (rest_at bs i) i (rest_is bs i) (eqb n 0) le in
    simp (s, q, b)

pub decoded : (bs : List ℕ) (i : ℕ) (k : Kind) (e : Event) → e ≡ event_at (rest_at bs i) 0 k → e ≡ event_at bs i k
decoded bs i k e h = h ∙ event_behind bs (rest_at bs i) i (rest_is bs i) k
