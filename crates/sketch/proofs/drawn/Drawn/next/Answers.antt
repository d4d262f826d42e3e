use Rattle.std.proofs.Common.{ℕ, List, get_or, ap, ◌∙◌, sym, subst}
use Rattle.book_base.proofs.GrowthLemmas.{announced_at}
use Rattle.sketch.proofs.Drawing.{IsSeenNext, invoke_next, view_seen_next, all_seen_next}
use Rattle.sketch.proofs.drawn.Drawn.next.Goals as goal
use Rattle.sketch.proofs.drawn.Drawn.next.Goals.{in-Some, in-None}

pub returns-in-Some-first_new-clause-next : goal.returns-in-Some-first_new-clause-next
returns-in-Some-first_new-clause-next c =
    let book = c.args.book.now in
    let drawn = c.args.self.now in
    let seen_next : IsSeenNext book drawn c.match-waiting.seen = elim c.match-waiting.branch [
      | in-Some w ↦
          subst (IsSeenNext book drawn) (sym w.seen-is) (view_seen_next book drawn c.requires.valid
          w.in-Some.call w.record.result w.record.ensures.record w.in-Some.ensures.first)
      | in-None w ↦ subst (IsSeenNext book drawn) (sym w.seen-is)
          (all_seen_next book drawn w.announced-seen.result (λ i. ap (λ (counts : List ℕ).
          get_or counts i 0) w.announced-seen.ensures ∙ announced_at book i) w.in-None.ensures.none)
    ] in
    invoke_next book drawn c.match-waiting.seen c.in-Some-first_new.call c.requires.part seen_next
    c.in-Some-first_new.ensures.next c.in-Some-first_new.ensures.seen
    c.in-Some-first_new.ensures.first
