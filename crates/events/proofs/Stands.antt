-- What is known of a record that was read, and how many a file can have.
use Rattle.std.proofs.Common.{◌≡◌, ℕ, zero, suc, ◌+◌, ◌*◌, ◌≤◌, Bool, true, false, cond, eqb, ltb, List, length, Some, None, Ok, Err, Option, Result, sym, refl, ap, ◌∙◌, arith, ltb-false, ne_eqb, eqb-true}
use Rattle.events.specs.Numbers.{u16_at}
use Rattle.events.specs.Kinds.{kind_of, code_of, length_of, event_kind}
use Rattle.events.specs.Faults.{too_long}
use Rattle.events.specs.Record.{event_at}
use Rattle.events.specs.Steps.{Step, in_turn, head_by, head_at, step_by, step_at, size_of}
use Rattle.events.specs.Files.{events_with, events_from, events_of}
use Rattle.events.specs.declared.event.Kind.{Kind}
use Rattle.events.specs.declared.event.Event.{Event}
use Rattle.events.specs.declared.fault.FaultReason.{FaultReason}
use Rattle.events.specs.declared.fault.FaultReason.TheVariants.{Cut, WrongLength, OutOfPlace}

-- the record of e stands at i, after n records
pub record Stands (bs : List ℕ) (i n : ℕ) (e : Event) : Type 0 where
  pub short : length bs ≤ 65536
  pub there : i + length_of (event_kind e) ≤ length bs
  pub long : u16_at bs i ≡ length_of (event_kind e)
  pub code : u16_at bs (i + 2) ≡ code_of (event_kind e)
  pub turn : in_turn (eqb n 0) (event_kind e) ≡ true
  pub event : event_at bs i (event_kind e) ≡ e

pub code_from : (n : ℕ) (k : Kind) → kind_of n ≡ Some k → n ≡ code_of k
code_from n k h = grind arith

tests : (j k : Kind) (a b c : Bool) → cond a (cond b (Err Cut) (cond c (Ok j) (Err OutOfPlace))) (Err WrongLength) ≡ Ok k
    → (a ≡ true) × (b ≡ false) × (c ≡ true) × (j ≡ k)
tests j k a b c h = grind arith

-- a head that is no fault
pub record Headed (bs : List ℕ) (i : ℕ) (first : Bool) (k : Kind) : Type 0 where
  pub there : i + length_of k ≤ length bs
  pub long : u16_at bs i ≡ length_of k
  pub code : u16_at bs (i + 2) ≡ code_of k
  pub turn : in_turn first k ≡ true

headed_by : (bs : List ℕ) (i : ℕ) (first : Bool) (k : Kind) (o : Option Kind) → kind_of (u16_at bs (i + 2)) ≡ o → head_by bs i first o ≡ Ok k → Headed bs i first k
headed_by bs i first k None c h = grind arith
headed_by bs i first k (Some j) c h =
    let t = tests j k (eqb (u16_at bs i) (length_of j)) (ltb (length bs) (i + length_of j)) (in_turn first j) h in
    let e : j ≡ k = t.3 in
    record {
      there = rw (← e) (ltb-false (length bs) (i + length_of j) t.1);
      long = rw (← e) (eqb-true (u16_at bs i) (length_of j) t.0);
      code = rw (← e) (code_from (u16_at bs (i + 2)) j c);
      turn = rw (← e) t.2;
    }

headed_at : (bs : List ℕ) (i : ℕ) (first : Bool) (k : Kind) (t : Bool) → cond t (Err Cut) (head_by bs i first (kind_of (u16_at bs (i + 2)))) ≡ Ok k → Headed bs i first k
headed_at bs i first k true h = grind arith
headed_at bs i first k false h = headed_by bs i first k (kind_of (u16_at bs (i + 2))) refl h

kind_at : (bs : List ℕ) (i : ℕ) (k : Kind) → event_kind (event_at bs i k) ≡ k
kind_at bs i k = grind arith

stands_by : (bs : List ℕ) (i n : ℕ) (e : Event) (t u : Bool) (h : Result Kind FaultReason) → ltb 65536 (length bs) ≡ t → head_at bs i (eqb n 0) ≡ h
    → cond t (Err too_long) (cond u (Ok None) (step_by bs i n h)) ≡ Ok (Some e) → Stands bs i n e
stands_by bs i n e true u h a b p = grind arith
stands_by bs i n e false true h a b p = grind arith
stands_by bs i n e false false (Err w) a b p = grind arith
stands_by bs i n e false false (Ok k) a b p =
    let v : event_at bs i k ≡ e = cc in
    let q : k ≡ event_kind e = sym (kind_at bs i k) ∙ ap event_kind v in
    let d = headed_at bs i (eqb n 0) k (ltb (length bs) (i + 4)) b in
    record {
      short = ltb-false 65536 (length bs) a;
      there = rw (← q) d.there;
      long = rw (← q) d.long;
      code = rw (← q) d.code;
      turn = rw (← q) d.turn;
      event = rw (← q) v;
    }

pub stands : (bs : List ℕ) (i n : ℕ) (e : Event) → step_at bs i n ≡ Ok (Some e) → Stands bs i n e
stands bs i n e p = stands_by bs i n e (ltb 65536 (length bs)) (eqb i (length bs)) (head_at bs i (eqb n 0)) refl refl p

later_long : (k : Kind) → in_turn false k ≡ true → 13 ≤ length_of k
later_long k h = grind arith

pub any_long : (k : Kind) → 7 ≤ length_of k
any_long k = grind arith

few_step : (bs : List ℕ) (i n : ℕ) (s : Step) (more : List Event) → step_at bs i n ≡ s → 1 ≤ n → i ≤ 65536
    → (i + size_of s ≤ 65536 → 13 * length more + (i + size_of s) ≤ 65536) → 13 * length (events_with s more) + i ≤ 65536
few_step bs i n (Ok None) more h some le next = omega arith
few_step bs i n (Err f) more h some le next = omega arith
few_step bs i n (Ok (Some e)) more h some le next =
    let d = stands bs i n e h in
    let z = ne_eqb n 0 (omega arith) in
    let k = later_long (event_kind e) (rw z at d.turn) in
    omega (arith, next (omega arith))

few_later : (steps : ℕ) (bs : List ℕ) (i n : ℕ) → 1 ≤ n → i ≤ 65536 → 13 * length (events_from steps bs i n) + i ≤ 65536
few_later zero bs i n some le = omega arith
few_later (suc steps) bs i n some le =
    few_step bs i n (step_at bs i n) (events_from steps bs (i + size_of (step_at bs i n)) (n + 1)) refl some le
    (λ far. few_later steps bs (i + size_of (step_at bs i n)) (n + 1) (omega arith) far)

few_first : (bs : List ℕ) (s : Step) (more : List Event) → step_at bs 0 0 ≡ s → (0 + size_of s ≤ 65536 → 13 * length more + (0 + size_of s) ≤ 65536)
    → length (events_with s more) ≤ 5041
few_first bs (Ok None) more h next = omega arith
few_first bs (Err f) more h next = omega arith
few_first bs (Ok (Some e)) more h next =
    let d = stands bs 0 0 e h in
    let k = any_long (event_kind e) in
    omega (arith, next (omega arith))

pub few_events : (bs : List ℕ) → length (events_of bs) ≤ 5041
few_events bs =
    let e : length bs + 1 ≡ suc (length bs) = omega arith in
    rw e (few_first bs (step_at bs 0 0) (events_from (length bs) bs (0 + size_of (step_at bs 0 0)) (0 + 1)) refl
    (λ far. few_later (length bs) bs (0 + size_of (step_at bs 0 0)) (0 + 1) (omega arith) far))
