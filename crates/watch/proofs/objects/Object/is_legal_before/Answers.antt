use Rattle.std.proofs.Common.{◌≡◌, ◌-◌, ◌≤◌, max, length, take, subst, arith}
use Rattle.std.proofs.lemmas.Bool.{leb-true}
use Rattle.seq_objects.specs.Objects.{kind_spec}
use Rattle.streams.specs.StreamOrder.{HasLegalStreamOrder}
use Rattle.watch.proofs.Punctual.{legal_fewer}
use Rattle.watch.proofs.objects.Object.is_legal_before.Goals as goal

pub returns-in-Legal : goal.returns-in-Legal
returns-in-Legal c less kind asked stream lines w =
    let number = c.in-Legal.number in
    let verdict = c.in-Legal.ensures stream w.received in
    let few : c.saturating_sub.result ≤ c.max.result =
    leb-true c.saturating_sub.result c.max.result less in
    legal_fewer kind (length stream - max 1 asked.window) number stream
    (omega (arith, few, c.saturating_sub.ensures, c.max.ensures, w.counted, w.window_is))
    (subst (λ k. HasLegalStreamOrder (kind_spec k) (take number stream)) w.kind_is verdict.1)
