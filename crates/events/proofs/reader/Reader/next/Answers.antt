use Rattle.std.proofs.Common.{◌≡◌, ◌+◌, Ok, Err, Some, sym, ap, ◌∙◌, arith, rules}
use Rattle.events.specs.Kinds.{length_of, event_kind}
use Rattle.events.specs.Steps.{step_at}
use Rattle.events.proofs.Lefts.{step_headed, decoded, left_fault, left_record}
use Rattle.events.proofs.reader.Reader.next.Goals as goal

pub returns-in_err-kind : goal.returns-in_err-kind
returns-in_err-kind c =
    let r = c.args.self.now in
    let f = c.in_err-kind.field-0.0 in
    let h = step_headed r.bytes.now r.place r.count c.is_empty.result c.head.result (omega arith) (omega arith) c.if-is_empty.false c.is_empty.ensures c.head.ensures in
    let s : Err f ≡ step_at r.bytes.now r.place r.count = search rules in
    let l = left_fault r.bytes.now r.place r.count f (omega arith) s in
    record { value = search rules; bytes = search rules; place = search rules; count = search rules; left = search rules }

pub returns : goal.returns
returns c =
    let r = c.args.self.now in
    let e = c.decode-event.result in
    let read = decoded r.bytes.now r.place c.in_ok-kind.kind e c.decode-event.ensures.value in
    let h = step_headed r.bytes.now r.place r.count c.is_empty.result c.head.result (omega arith) (omega arith) c.if-is_empty.false c.is_empty.ensures c.head.ensures in
    let s : Ok (Some e) ≡ step_at r.bytes.now r.place r.count = search rules in
    let size : c.length.result ≡ length_of (event_kind e) = c.length.ensures ∙ ap length_of (sym c.decode-event.ensures.kind) in
    record {
      value = s;
      bytes = search rules;
      place = search rules;
      count = search rules;
      left = left_record r.bytes.now r.place r.count _ _ e (omega arith) s (ap (λ z. r.place + z) size) (search rules);
    }
