use Rattle.std.proofs.Common.{◌≡◌, ◌∙◌, List, [], sym, ap, arith}
use Rattle.seq_objects.specs.Objects.{kind_spec}
use Rattle.watch_core.specs.declared.event.Event.{Event}
use Rattle.watch_core.proofs.Late.{legal_none}
use Rattle.windowed_watch.specs.Ahead.{events_of}
use Rattle.windowed_watch.proofs.lookahead.Lookahead.new.Goals as goal

pub returns-clause-running : goal.returns-clause-running
returns-clause-running c =
    let events = events_of c.new-3.result.items in
    let none : events ≡ [] = ap (λ (l : List Event). events_of l) c.new-3.ensures.items in record {
      before = [];
      whole = sym none;
      legal = legal_none (kind_spec c.in_ok-new-3.field-0.kind);
      base_kind = c.in_ok-new.ensures.kind.0 ∙ sym c.in_ok-new-3.ensures.kind.0;
      base_limit = c.in_ok-new.ensures.kind.1 ∙ sym c.in_ok-new-3.ensures.kind.1;
      base = c.in_ok-new.ensures.fresh [];
      next_kind = c.in_ok-new-2.ensures.kind.0 ∙ sym c.in_ok-new-3.ensures.kind.0;
      next_limit = c.in_ok-new-2.ensures.kind.1 ∙ sym c.in_ok-new-3.ensures.kind.1;
      next_seen = omega arith;
      next = c.in_ok-new-2.ensures.fresh [];
      watch = c.in_ok-new-3.ensures.fresh events;
    }
