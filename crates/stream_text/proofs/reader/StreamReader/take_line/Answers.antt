use Rattle.std.proofs.Common.{◌≡◌, ◌∙◌, ℕ, ◌-◌, ◌<◌, length, get_or, refl, sym, ap, subst, arith}
use Rattle.watch_core.specs.declared.TheConstants.{MAX_OPEN}
use Rattle.std.proofs.lemmas.List.{length-set}
use Rattle.streams.specs.Stream.{Called, Returned, Lost}
use Rattle.stream_text.specs.Stream.{ObjectEvent, EventDue, with_event, names_with, open_after, open_of}
use Rattle.stream_text.proofs.Tables.{event_tables, one_returned, one_lost}
use Rattle.stream_text.proofs.reader.StreamReader.take_line.Goals as goal

pub returns-in_ok-object-in-Call-clause-taken : goal.returns-in_ok-object-in-Call-clause-taken
returns-in_ok-object-in-Call-clause-taken c said has same =
    let goes = c.in_ok-object-in-Call.ensures.taken said has.1 in (
      EventDue (with_event said (names_with said.names c.in-Call.name.now)
          c.in_ok-object-in-Call.object (Called c.in-Call.process c.in-Call.op)),
      rw c.in-Call.is (
        goes.2,
        subst (λ (k : ℕ). open_of k said.events < MAX_OPEN) goes.0 goes.3,
        ap (λ (k : ℕ). EventDue (with_event said (names_with said.names c.in-Call.name.now) k
            (Called c.in-Call.process c.in-Call.op))) goes.0,
      ),
      (names_with said.names c.in-Call.name.now, goes.1, refl),
      (c.take_call.ensures.phase ∙ has.0, goes.4),
    )

pub returns-in-Some-clause-taken : goal.returns-in-Some-clause-taken
returns-in-Some-clause-taken c said has same =
    let process = c.in-Return.process in
    let object = c.in_ok-object-in-Return.object in
    let got = c.in_ok-object-in-Return.ensures.object in
    let stays = c.let_go.ensures.same in
    let at = sym (has.1.pending process) ∙ got.0 in
    let low = has.1.named process object at in
    let counts = c.let_go.new.self.counts.items in
    let v = c.saturating_sub.result in
    let one : ObjectEvent =
    record { object = object; event = Returned process c.in-Return.reply } in
    let same_counts : counts ≡ c.args.self.now.counts.items = ap (λ w. w.items) stays.1 in (
      EventDue (with_event said said.names object (Returned process c.in-Return.reply)),
      rw c.in-Return.is (object, at, refl),
      (said.names, low, refl),
      (
        stays.0 ∙ has.0,
        event_tables c.args.self.now _ said object (Returned process c.in-Return.reply)
            stays.2 (length-set counts object v ∙ ap length same_counts)
            (λ other. one_returned counts object v process c.in-Return.reply
            (omega (arith, low, has.1.size, ap length same_counts))
            (c.saturating_sub.ensures ∙ ap (λ (n : ℕ). n - 1) (c.in-Some.ensures.item.3.1 0)) other
            ∙ ap (λ l. open_after other (get_or l other 0) one) same_counts)
            got.1 low has.1,
      ),
    )

pub returns-in_ok-object-in-Lost-clause-taken : goal.returns-in_ok-object-in-Lost-clause-taken
returns-in_ok-object-in-Lost-clause-taken c said has same =
    let process = c.in-Lost.process in
    let object = c.in_ok-object-in-Lost.object in
    let got = c.in_ok-object-in-Lost.ensures.object in
    let stays = c.let_go-in-Lost.ensures.same in
    let at = sym (has.1.pending process) ∙ got.0 in
    let low = has.1.named process object at in (
      EventDue (with_event said said.names object (Lost process)),
      rw c.in-Lost.is (object, at, refl),
      (said.names, low, refl),
      (
        stays.0 ∙ has.0,
        event_tables c.args.self.now _ said object (Lost process)
            stays.2 (ap (λ v. length v.items) stays.1)
            (λ other. ap (λ v. get_or v.items other 0) stays.1 ∙ one_lost object process other _)
            got.1 low has.1,
      ),
    )
