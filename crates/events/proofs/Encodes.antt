-- Reading back what is encoded.
use Rattle.std.proofs.Common.{◌≡◌, ℕ, zero, suc, ◌+◌, ◌*◌, ◌/◌, ◌%◌, ◌<◌, ◌≤◌, Bool, true, false, eqb, List, [], ◌∷◌, length, drop, Some, None, Ok, sym, refl, ap, ◌∙◌, arith, length-drop, le-ltb, eq-eqb, ne_eqb}
use Rattle.std.proofs.lemmas.List.{drop-drop}
use Rattle.std.specs.List.{AllByRecursion}
use Rattle.std.proofs.lemmas.List.Elements.{All-from_recursion, recursion_from_All}
use Rattle.events.specs.Numbers.{u16_at, u64_at}
use Rattle.events.specs.Kinds.{kind_of, length_of, opens, event_kind}
use Rattle.events.specs.Record.{event_at}
use Rattle.events.specs.Steps.{in_turn, head_at, step_at, size_of}
use Rattle.events.specs.Files.{events_with, fault_with, events_from, fault_from}
use Rattle.events.specs.Encoded.{bytes_8, encode_all, Fits, Opened, WrittenInBytes, RecordReadBack, FileReadBack}
use Rattle.events.specs.declared.event.Kind.{Kind}
use Rattle.events.specs.declared.event.Kind.TheVariants as kinds
use Rattle.events.specs.declared.event.Event.{Event}
use Rattle.events.specs.declared.event.Event.TheVariants.{Open, Trade, LodgeCash, DrawCash}
use Rattle.events.proofs.Behind.{at_1, at_2, at_4, at_8, at_start}

join_1 : (n : ℕ) → n < 256 → n % 256 ≡ n
join_1 n h = omega arith

join_2 : (n : ℕ) → n < 65536 → n % 256 + 256 * (n / 256 % 256) ≡ n
join_2 n h = omega arith

join_4 : (n : ℕ) → n < 4294967296 → n % 256 + 256 * (n / 256 % 256) + 65536 * (n / 65536 % 256 + 256 * (n / 16777216 % 256)) ≡ n
join_4 n h =
    let top : n / 16777216 % 256 ≡ n / 16777216 = omega arith in
    let all : n % 256 + 256 * (n / 256 % 256) + 65536 * (n / 65536 % 256 + 256 * (n / 16777216)) ≡ n = omega arith in
    ap (λ z. n % 256 + 256 * (n / 256 % 256) + 65536 * (n / 65536 % 256 + 256 * z)) top ∙ all

join_8 : (n : ℕ) → n < 18446744073709551616 → u64_at (bytes_8 n []) 0 ≡ n
join_8 n h = omega (arith, join_4 (n % 4294967296) (omega arith), join_4 (n / 4294967296) (omega arith))

-- what stands behind a place, where the bytes from there on are known
module _ (bs xs : List ℕ) (i : ℕ) (h : drop i bs ≡ xs) where
  reaches : (k : ℕ) → k ≤ length xs → 0 < k → i + k ≤ length bs
  reaches k le lt = omega (arith, length-drop i bs, ap length h)

  after : (k : ℕ) → drop (i + k) bs ≡ drop k xs
  after k = sym (drop-drop k i bs) ∙ ap (drop k) h

head_ok : (bs : List ℕ) (i code : ℕ) (first : Bool) (k : Kind) → u16_at bs (i + 2) ≡ code → kind_of code ≡ Some k → u16_at bs i ≡ length_of k
    → i + length_of k ≤ length bs → 4 ≤ length_of k → in_turn first k ≡ true → head_at bs i first ≡ Ok k
head_ok bs i code first k c o l le four t =
    let a = le-ltb (length bs) (i + 4) (omega arith) in
    let b = le-ltb (length bs) (i + length_of k) le in
    let d = eq-eqb (u16_at bs i) (length_of k) l in
    simp (a, c, o, d, b, t)

step_ok : (bs : List ℕ) (i n : ℕ) (k : Kind) (e : Event) → length bs ≤ 65536 → head_at bs i (eqb n 0) ≡ Ok k → i < length bs → event_at bs i k ≡ e → step_at bs i n ≡ Ok (Some e)
step_ok bs i n k e most h lt v =
    let s = le-ltb 65536 (length bs) most in
    let a : eqb i (length bs) ≡ false = grind arith in
    simp (s, a, h, v)

-- one kind at a time: the head, then the fields
module _ (bs : List ℕ) (i n : ℕ) (rest : List ℕ) (most : length bs ≤ 65536) where
  done : (k : Kind) (e : Event) (xs : List ℕ) → drop i bs ≡ xs → u16_at xs 0 ≡ length_of k → kind_of (u16_at xs 2) ≡ Some k → length_of k ≤ length xs
      → 4 ≤ length_of k → in_turn (eqb n 0) k ≡ true → event_at bs i k ≡ e → drop (length_of k) xs ≡ rest
      → (step_at bs i n ≡ Ok (Some e)) × (drop (i + length_of k) bs ≡ rest) × (i + length_of k ≤ length bs)
  done k e xs h l o le four t v r =
      let far = reaches bs xs i h (length_of k) le (omega arith) in
      let good = head_ok bs i (u16_at xs 2) (eqb n 0) k (at_2 bs xs i h 2) o (at_start bs xs i h ∙ l) far four t in
      (step_ok bs i n k e most good (omega arith) v, after bs xs i h (length_of k) ∙ r, far)

pub record_read_back : RecordReadBack
record_read_back bs i n (Open a m) rest most h w t =
    let v : event_at bs i kinds.Open ≡ Open a m = simp (at_1 bs _ i h 4, at_2 bs _ i h 5, join_1 a w.0, join_2 m w.1) in
    done bs i n rest most kinds.Open (Open a m) _ h refl refl (omega arith) (omega arith) t v refl
record_read_back bs i n (Trade a m b s y c p) rest most h w t =
    let v : event_at bs i kinds.Trade ≡ Trade a m b s y c p =
    simp (
      at_1 bs _ i h 4,
      at_4 bs _ i h 5,
      at_1 bs _ i h 9,
      at_1 bs _ i h 10,
      at_2 bs _ i h 11,
      at_4 bs _ i h 13,
      at_4 bs _ i h 17,
      join_1 a w.0,
      join_4 m w.1,
      join_1 b w.2,
      join_1 s w.3,
      join_2 y w.4,
      join_4 c w.5,
      join_4 p w.6,
    )
    in
    done bs i n rest most kinds.Trade (Trade a m b s y c p) _ h refl refl (omega arith) (omega arith) t v refl
record_read_back bs i n (LodgeCash a m) rest most h w t =
    let v : event_at bs i kinds.LodgeCash ≡ LodgeCash a m = simp (at_1 bs _ i h 4, at_8 bs _ i h 5, join_1 a w.0, join_8 m w.1) in
    done bs i n rest most kinds.LodgeCash (LodgeCash a m) _ h refl refl (omega arith) (omega arith) t v refl
record_read_back bs i n (DrawCash a m) rest most h w t =
    let v : event_at bs i kinds.DrawCash ≡ DrawCash a m = simp (at_1 bs _ i h 4, at_8 bs _ i h 5, join_1 a w.0, join_8 m w.1) in
    done bs i n rest most kinds.DrawCash (DrawCash a m) _ h refl refl (omega arith) (omega arith) t v refl

at_end : (bs : List ℕ) (i n f : ℕ) → length bs ≤ 65536 → drop i bs ≡ [] → i ≤ length bs → (events_from (suc f) bs i n ≡ []) × (fault_from (suc f) bs i n ≡ None)
at_end bs i n f most h le =
    let e : i ≡ length bs = omega (arith, length-drop i bs, ap length h) in
    let s = le-ltb 65536 (length bs) most in
    let q = eq-eqb i (length bs) e in
    (simp (s, q), simp (s, q))

-- one event, and then the rest
one_more : (bs : List ℕ) (i n f : ℕ) (e : Event) (es : List Event) → step_at bs i n ≡ Ok (Some e)
    → (events_from f bs (i + size_of (Ok (Some e))) (n + 1) ≡ es) × (fault_from f bs (i + size_of (Ok (Some e))) (n + 1) ≡ None)
    → (events_from (suc f) bs i n ≡ e ∷ es) × (fault_from (suc f) bs i n ≡ None)
one_more bs i n f e es s m = (
  ap (λ z. events_with z (events_from f bs (i + size_of z) (n + 1))) s ∙ ap (λ z. e ∷ z) m.0,
  ap (λ z. fault_with z (fault_from f bs (i + size_of z) (n + 1))) s ∙ m.1,
)

-- none is an opening, event by event
abbrev pub EachLater : List Event → Type 0
EachLater es = AllByRecursion (λ e. opens (event_kind e) ≡ false) es

later_events : (bs : List ℕ) (i n f : ℕ) (es : List Event) → length bs ≤ 65536 → drop i bs ≡ encode_all es → i ≤ length bs → EachLater es → AllByRecursion Fits es → 1 ≤ n → length es < f
    → (events_from f bs i n ≡ es) × (fault_from f bs i n ≡ None)
later_events bs i n zero es most h le l w some lt = absurd (omega arith)
later_events bs i n (suc f) [] most h le l w some lt = at_end bs i n f most h le
later_events bs i n (suc f) (e ∷ es) most h le l w some lt =
    let z = ne_eqb n 0 (omega arith) in
    let r = record_read_back bs i n e (encode_all es) most h w.0 (simp (z, l.0)) in
    one_more bs i n f e es r.0 (later_events bs (i + size_of (Ok (Some e))) (n + 1) f es most r.1 r.2 l.1 w.1 (omega arith) (omega arith))

many : (es : List Event) → length es ≤ length (encode_all es)
many [] = omega arith
many (Open a m ∷ es) = omega (arith, many es)
many (Trade a m b s y c p ∷ es) = omega (arith, many es)
many (LodgeCash a m ∷ es) = omega (arith, many es)
many (DrawCash a m ∷ es) = omega (arith, many es)

all_events : (bs : List ℕ) (f : ℕ) (es : List Event) → length bs ≤ 65536 → bs ≡ encode_all es → Opened es → AllByRecursion Fits es → length es < f
    → (events_from f bs 0 0 ≡ es) × (fault_from f bs 0 0 ≡ None)
all_events bs zero es most h o w lt = absurd (omega arith)
all_events bs (suc f) [] most h o w lt = at_end bs 0 0 f most h (omega arith)
all_events bs (suc f) (e ∷ es) most h o w lt =
    let r = record_read_back bs 0 0 e (encode_all es) most h w.0 o.0 in
    one_more bs 0 0 f e es r.0 (later_events bs (0 + size_of (Ok (Some e))) (0 + 1) f es most r.1 r.2 (recursion_from_All _ es o.1) w.1 (omega arith) (omega arith))

pub file_read_back : FileReadBack
file_read_back es o w most = all_events (encode_all es) (length (encode_all es) + 1) es most refl o (recursion_from_All Fits es w) (omega (arith, many es))

byte : (n : ℕ) → n % 256 < 256
byte n = omega arith

written : (es : List Event) → AllByRecursion (λ b. b < 256) (encode_all es)
written [] = tt
written (Open a m ∷ es) = (omega arith, (omega arith, (omega arith, (omega arith, (byte a, (byte m, (byte (m / 256), written es)))))))
written (Trade a m b s y c p ∷ es) =
    (omega arith, (omega arith, (omega arith, (omega arith, (byte a, (byte m, (byte (m / 256), (byte (m / 65536), (byte (m / 16777216), (byte b, (byte s, (byte y, (byte (y / 256), (byte c, (byte (c / 256), (byte (c / 65536), (byte (c / 16777216), (byte p, (byte (p / 256), (byte (p / 65536), (byte (p / 16777216), written es)))))))))))))))))))))
written (LodgeCash a m ∷ es) = (omega arith, (omega arith, (omega arith, (omega arith, (byte a, (byte (m % 4294967296), (byte ((m % 4294967296) / 256), (byte ((m % 4294967296) / 65536), (byte ((m % 4294967296) / 16777216), (byte (m / 4294967296), (byte ((m / 4294967296) / 256), (byte ((m / 4294967296) / 65536), (byte ((m / 4294967296) / 16777216), written es)))))))))))))
written (DrawCash a m ∷ es) = (omega arith, (omega arith, (omega arith, (omega arith, (byte a, (byte (m % 4294967296), (byte ((m % 4294967296) / 256), (byte ((m % 4294967296) / 65536), (byte ((m % 4294967296) / 16777216), (byte (m / 4294967296), (byte ((m / 4294967296) / 256), (byte ((m / 4294967296) / 65536), (byte ((m / 4294967296) / 16777216), written es)))))))))))))

pub written_in_bytes : WrittenInBytes
written_in_bytes es = All-from_recursion (λ b. b < 256) (encode_all es) (written es)
