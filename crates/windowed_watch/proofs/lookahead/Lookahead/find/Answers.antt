use Rattle.std.proofs.Common.{◌≡◌, ◌+◌, ◌-◌, ◌/◌, ◌<◌, ◌≤◌, ℕ, List, length, take, inl, inr, ap, subst, arith}
use Rattle.std.proofs.lemmas.Result.{err_from_is_err_and}
use Rattle.watch_core.specs.declared.event.Event.{Event}
use Rattle.watch_core.specs.declared.verdict.Verdict.{Verdict}
use Rattle.windowed_watch.proofs.Finding.{FindsIn, Replays, finds_first, finds_legal, finds_illegal, finds_unsure, found_final, base_slice, takable_slice, replayed}
use Rattle.windowed_watch.proofs.lookahead.Lookahead.find.Goals as goal

pub loop-illegal-init : goal.loop-illegal-init
loop-illegal-init c =
    let a = c.args.self.now in
    let long : length a.log.items ≡ c.len-illegal.result =
    omega (arith, c.len-illegal.ensures, a.log.ok.0) in
    subst (λ (n : ℕ). FindsIn a a.legal n) long (finds_first a c.requires.within)

pub returns-in_err-replay-clause-refused : goal.returns-in_err-replay-clause-refused
returns-in_err-replay-clause-refused c =
    let a = c.args.self.now in
    let l = c.loop-illegal.legal in
    let m = l + (c.loop-illegal.illegal - l) / 2 in
    let least : a.legal ≤ m = omega (arith, c.loop-illegal.invariant.least) in
    let is = ap (λ (xs : List Event). take m xs) c.deref.ensures.value in
    let slice = take m c.deref.result.now in
    let p = err_from_is_err_and c.from_residual.result c.from_residual.ensures.1 in
    rw (p.1, p.2) (λ stream runs takable. c.in_err-replay.ensures.refused runs.before
    (base_slice a slice m least is stream runs)
    (takable_slice a slice m least is stream runs takable))

pub loop-illegal-preserved-in-Legal : goal.loop-illegal-preserved-in-Legal
loop-illegal-preserved-in-Legal c =
    let a = c.args.self.now in
    let l = c.loop-illegal.legal in
    let i = c.loop-illegal.illegal in
    let m = l + (i - l) / 2 in
    let least : a.legal ≤ m = omega (arith, c.loop-illegal.invariant.least) in
    let less : m < i = omega (arith, c.loop-illegal-test.true) in
    finds_legal a l i m c.in-Legal.field-0 c.loop-illegal.invariant (omega arith) less
    (subst (λ (v : Verdict). Replays a m v) c.in-Legal.is (replayed a (take m c.deref.result.now) m
    least (ap (λ (xs : List Event). take m xs) c.deref.ensures.value) c.in_ok-replay.field-0
    c.in_ok-replay.ensures.verdict))

pub loop-illegal-preserved : goal.loop-illegal-preserved
loop-illegal-preserved c =
    let a = c.args.self.now in
    let l = c.loop-illegal.legal in
    let i = c.loop-illegal.illegal in
    let m = l + (i - l) / 2 in
    let least : a.legal ≤ m = omega (arith, c.loop-illegal.invariant.least) in
    let more : l < m = omega (arith, c.loop-illegal-test.true) in
    let less : m ≤ i = omega (arith, c.loop-illegal-test.true) in
    finds_illegal a l i m c.in-Illegal.field-0 c.in-Illegal.field-1 c.loop-illegal.invariant more
    less (subst (λ (v : Verdict). Replays a m v) c.in-Illegal.is
    (replayed a (take m c.deref.result.now) m least
    (ap (λ (xs : List Event). take m xs) c.deref.ensures.value) c.in_ok-replay.field-0
    c.in_ok-replay.ensures.verdict))

pub returns-in-Unsure-clause-found : goal.returns-in-Unsure-clause-found
returns-in-Unsure-clause-found c stream runs none count =
    let a = c.args.self.now in
    let l = c.loop-illegal.legal in
    let i = c.loop-illegal.illegal in
    let m = l + (i - l) / 2 in
    let least : a.legal ≤ m = omega (arith, c.loop-illegal.invariant.least) in
    found_final a l i c.args.received c.between.result c.loop-illegal.invariant c.between.ensures
    stream runs none count (inr (finds_unsure a m c.in-Unsure.field-0
    (subst (λ (v : Verdict). Replays a m v) c.in-Unsure.is
    (replayed a (take m c.deref.result.now) m least
    (ap (λ (xs : List Event). take m xs) c.deref.ensures.value) c.in_ok-replay.field-0
    c.in_ok-replay.ensures.verdict)) stream runs))

pub returns-clause-found : goal.returns-clause-found
returns-clause-found c stream runs none count =
    let l = c.loop-illegal.legal in
    let i = c.loop-illegal.illegal in
    let near : i ≤ l + 1 = omega (arith, c.loop-illegal-test.false) in
    found_final c.args.self.now l i c.args.received c.between-2.result c.loop-illegal.invariant
    c.between-2.ensures stream runs none count (inl near)
