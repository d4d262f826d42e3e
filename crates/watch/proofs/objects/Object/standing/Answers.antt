use Rattle.std.proofs.Common.{◌≡◌, ℕ, List, subst}
use Rattle.seq_objects.specs.declared.kind.Kind.{Kind}
use Rattle.streams.specs.Stream.{StreamEvent}
use Rattle.watch_core.specs.declared.verdict.Verdict.TheVariants.{Illegal, Unsure}
use Rattle.windowed_watch.specs.Ahead.{IsFinal}
use Rattle.watch.proofs.objects.Object.standing.Goals as goal

pub returns-in_ok-line-in-Illegal-2 : goal.returns-in_ok-line-in-Illegal-2
returns-in_ok-line-in-Illegal-2 c kind asked stream lines w =
    let first = c.in-Illegal.first in
    let last = c.in-Illegal.last in
    let final : IsFinal kind asked.most stream (Illegal first last) =
    subst (λ (n : ℕ). IsFinal kind n stream (Illegal first last)) w.limit_is
    (subst (λ (k : Kind). IsFinal k c.args.self.now.watch.ahead.watch.limit stream
    (Illegal first last)) w.kind_is (c.in-Illegal.ensures stream w.received)) in (
      first,
      last,
      final.0,
      final.1,
      c.in_ok-line-in-Illegal.ensures kind asked stream lines w,
      c.in_ok-line-in-Illegal-2.ensures kind asked stream lines w,
    )

pub returns-in_ok-line-in-Unsure : goal.returns-in_ok-line-in-Unsure
returns-in_ok-line-in-Unsure c kind asked stream lines w =
    let number = c.in-Unsure.number in
    let final : IsFinal kind asked.most stream (Unsure number) =
    subst (λ (n : ℕ). IsFinal kind n stream (Unsure number)) w.limit_is
    (subst (λ (k : Kind). IsFinal k c.args.self.now.watch.ahead.watch.limit stream
    (Unsure number)) w.kind_is (c.in-Unsure.ensures stream w.received)) in
    (number, final, c.in_ok-line-in-Unsure.ensures kind asked stream lines w)
