use Rattle.std.proofs.Common.{◌≡◌, ◌∙◌, ◌-◌, ◌≤◌, List, [], ◌∷◌, ◌++◌, length, take, drop, sym, ap, subst, arith}
use Rattle.std.proofs.lemmas.List.{take_rest, drop-map, length_push}
use Rattle.seq_objects.specs.declared.kind.Kind.{Kind}
use Rattle.seq_objects.specs.Objects.{kind_spec}
use Rattle.streams.specs.Stream.{StreamEvent}
use Rattle.streams.specs.StreamOrder.{HasLegalStreamOrder}
use Rattle.watch_core.specs.declared.event.Event.{Event}
use Rattle.watch_core.specs.Event.{event_of}
use Rattle.watch_core.specs.Watch.{HasTaken}
use Rattle.watch_core.proofs.Partly.{pushed}
use Rattle.windowed_watch.specs.Ahead.{events_of}
use Rattle.windowed_watch.proofs.Refusing.{front_more}
use Rattle.windowed_watch.proofs.Logs.{whole_more, legal_more, at_more, watch_more}
use Rattle.windowed_watch.proofs.lookahead.Lookahead.receive.Goals as goal

pub returns-in-Err-clause-refused : goal.returns-in-Err-clause-refused
returns-in-Err-clause-refused c stream has = c.in-Err.ensures.refused stream [] has

pub returns-clause-front : goal.returns-clause-front
returns-clause-front c stream has takable few = front_more c.args.front.now c.take.new.self stream
    (event_of c.args.event) has takable few c.in_default.ensures.taken
    c.in_default.ensures.count.1 c.take.ensures.few

pub returns-clause-running : goal.returns-clause-running
returns-clause-running c stream runs =
    let a = c.args.self.now in
    let within = c.requires.within in
    let event = c.args.event in
    let items = a.log.items in
    let more = c.push.new.self.items in
    let kind = c.foretell.ensures.kind in
    let is : more ≡ items ++ event ∷ [] = pushed c.push.result more (items ++ event ∷ []) items
    (sym c.is_err.ensures.value ∙ c.if-is_err.false) c.push.ensures.items in
    let legal : a.legal ≤ length items = omega (arith, within.legal, within.taken) in
    let front = runs.before ++ take a.taken (events_of more) in
    let slice = take (length c.deref.result.now - a.taken) (drop a.taken c.deref.result.now) in
    let rest : drop a.taken (events_of more) ≡ events_of slice = drop-map event_of a.taken more
    ∙ ap (λ (l : List Event). events_of l) (sym (take_rest c.deref.result.now a.taken
    ∙ ap (λ (l : List Event). drop a.taken l) c.deref.ensures.value)) in record {
      before = runs.before;
      whole = whole_more runs.before items more event is stream runs.whole;
      legal = subst (λ (k : Kind). HasLegalStreamOrder (kind_spec k)
          (runs.before ++ take a.legal (events_of more))) (sym kind.0)
          (legal_more runs.before items more event is (kind_spec a.watch.kind) a.legal legal
          runs.legal);
      base_kind = runs.base_kind ∙ sym kind.0;
      base_limit = runs.base_limit ∙ sym kind.1;
      base = at_more runs.before items more event is 0 a.legal a.base (omega arith) legal runs.base;
      next_kind = runs.next_kind ∙ sym kind.0;
      next_limit = runs.next_limit ∙ sym kind.1;
      next_seen = (let long = ap (λ (l : List Event). length l) is in
          omega (arith, runs.next_seen, long, length_push items event));
      next = at_more runs.before items more event is a.next.taken a.next.seen a.next.watch
          within.next runs.next_seen runs.next;
      watch = subst (λ (l : List StreamEvent). HasTaken c.foretell.new.watch front l) (sym rest)
          (c.foretell.ensures.taken front
          (subst (λ (l : List StreamEvent). HasTaken a.watch front l) rest
          (watch_more runs.before items more event is a.taken a.watch within.taken runs.watch)));
    }
