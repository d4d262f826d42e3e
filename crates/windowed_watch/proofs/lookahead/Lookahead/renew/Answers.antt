use Rattle.std.proofs.Common.{◌≡◌, ◌∙◌, ℕ, ◌+◌, ◌-◌, ◌≤◌, List, ◌++◌, length, take, drop, sym, ap, subst, arith}
use Rattle.std.proofs.lemmas.List.{take_rest}
use Rattle.seq_objects.specs.Objects.{kind_spec}
use Rattle.streams.specs.StreamOrder.{HasLegalStreamOrder}
use Rattle.watch_core.specs.declared.event.Event.{Event}
use Rattle.windowed_watch.specs.declared.checkpoint.Checkpoint.{Checkpoint}
use Rattle.windowed_watch.specs.Ahead.{events_of, IsAt}
use Rattle.windowed_watch.proofs.Logs.{whole_later, legal_later, watch_later, next_later, base_later}
use Rattle.windowed_watch.proofs.lookahead.Lookahead.renew.Goals as goal

pub returns-clause-running : goal.returns-clause-running
returns-clause-running c stream runs =
    let a = c.args.self.now in
    let items = a.log.items in
    let more = c.extend_from_slice.new.self.items in
    let from = a.next.taken in
    let k = a.taken - from in
    let later = runs.before ++ take from (events_of items) in
    let spec = kind_spec a.watch.kind in
    let order = c.requires.within.next in
    let seen : a.next.seen ≤ a.taken = c.if-self.false in
    let is : more ≡ drop from items = c.in_ok-extend_from_slice.ensures.items
    ∙ (ap (λ (l : List Event). l ++ take (length c.deref.result.now - from)
    (drop from c.deref.result.now)) c.in_ok-log.ensures.items
    ∙ (take_rest c.deref.result.now from
    ∙ ap (λ (l : List Event). drop from l) c.deref.ensures.value)) in
    let count : a.taken ≡ from + k = omega (arith, order, seen) in
    let sum : a.next.seen ≡ from + (a.next.seen - from) = omega (arith, order) in
    let less : a.next.seen - from ≤ k = omega (arith, order, seen) in
    let legal : HasLegalStreamOrder spec (runs.before ++ take a.taken (events_of items)) =
    subst (λ (n : ℕ). HasLegalStreamOrder spec (runs.before ++ take n (events_of items)))
    c.requires.legal runs.legal in
    let copy = c.in_ok-copy.field-0 in
    let long : c.len-2.result ≡ length more =
    omega (arith, c.len-2.ensures, c.extend_from_slice.new.self.ok.0) in record {
      before = later;
      whole = whole_later runs.before items more from k a.taken is count stream runs.whole;
      legal = legal_later runs.before items more from k a.taken is count spec legal;
      base_kind = ap (λ (n : Checkpoint). n.watch.kind) c.replace.ensures.value ∙ runs.next_kind;
      base_limit = ap (λ (n : Checkpoint). n.watch.limit) c.replace.ensures.value
          ∙ runs.next_limit;
      base = subst (λ (n : Checkpoint). IsAt later (events_of more) 0 k n.watch)
          (sym c.replace.ensures.value) (base_later runs.before items more from k a.taken is count
          a.next.watch a.next.seen (a.next.seen - from) sum less runs.next);
      next_kind = ap (λ (n : Checkpoint). n.watch.kind) c.replace.ensures.after
          ∙ c.in_ok-copy.ensures.kind.0;
      next_limit = ap (λ (n : Checkpoint). n.watch.limit) c.replace.ensures.after
          ∙ c.in_ok-copy.ensures.kind.1;
      next_seen = subst (λ (n : Checkpoint). n.seen ≤ length more) (sym c.replace.ensures.after)
          (omega (arith, long));
      next = subst (λ (n : Checkpoint). IsAt later (events_of more) n.taken n.seen n.watch)
          (sym c.replace.ensures.after) (subst (λ (s : ℕ). IsAt later (events_of more) k s copy)
          (sym long) (next_later runs.before items more from k a.taken is count copy
          (c.in_ok-copy.ensures.taken _ _ runs.watch)));
      watch = watch_later runs.before items more from k a.taken is count a.watch runs.watch;
    }
