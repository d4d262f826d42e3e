use Rattle.std.proofs.Common.{◌≡◌, ◌∙◌, ◌≤◌, ◌++◌, ℕ, List, length, [], Some, None, slice_get, refl, sym, ap, subst, arith}
use Rattle.std.proofs.lemmas.Option.{slice_get_within}
use Rattle.watch.specs.Watching.{Tells}
use Rattle.watch.proofs.Outputs.{tables_of, says_named, tells_none}
use Rattle.watch.proofs.Settling.{AreSettledBelow, step_settled, closes_found, all_settled}
use Rattle.watch.proofs.watching.Watching.settle.Goals as goal

pub loop-object-init : goal.loop-object-init
loop-object-init c asked lines due said output h =
    tells_none asked c.args.self.now lines due said output (AreSettledBelow asked said None 0) h
    (tt, λ k less low. absurd (omega (arith, less)))

pub loop-object-preserved : goal.loop-object-preserved
loop-object-preserved c asked lines due said output h =
    step_settled asked c.args.self.now c.loop-object.self c.judge.new.self lines due said output
    c.loop-object.found c.in_ok-one.one c.earlier-found.result c.loop-object.object
    (c.earlier-found.ensures.finding asked said) c.earlier-found.ensures.first.0 c.earlier-found.ensures.first.1
    (c.loop-object.invariant asked lines due said output h)
    (λ after holds. c.in_ok-one.ensures.judged asked lines due said after holds)

pub returns-in_ok-tell_illegal-in-Some-clause-over :
    goal.returns-in_ok-tell_illegal-in-Some-clause-over
returns-in_ok-tell_illegal-in-Some-clause-over c same asked lines due said output h =
    let all : length said.names ≤ c.loop-object.object =
    omega (arith, c.loop-object-test.false, c.len-object-end.ensures, h.size) in
    let so_far : Tells asked c.args.self.now c.loop-object.self lines due said output
    (AreSettledBelow asked said (Some c.in-Some.one) c.loop-object.object) =
    subst (λ f. Tells asked c.args.self.now c.loop-object.self lines due said output
    (AreSettledBelow asked said f c.loop-object.object)) c.in-Some.is
    (c.loop-object.invariant asked lines due said output h) in
    closes_found asked c.args.self.now c.loop-object.self c.tell_illegal.new.self lines due said
    output c.in-Some.one c.loop-object.object all so_far
    (λ name named. c.in_ok-tell_illegal-in-Some.ensures.told said name
    (let low = slice_get_within said.names c.in-Some.one.object name named in
    tables_of due said c.loop-object.self.reader
    (says_named due said c.in-Some.one.object h.says low) so_far.2.reader) named)

pub returns-in-None-clause-goes_on : goal.returns-in-None-clause-goes_on
returns-in-None-clause-goes_on c same asked lines due said output h =
    let all : length said.names ≤ c.loop-object.object =
    omega (arith, c.loop-object-test.false, c.len-object-end.ensures, h.size) in
    all_settled asked c.args.self.now c.loop-object.self lines due said output c.loop-object.object
    all
    (subst (λ f. Tells asked c.args.self.now c.loop-object.self lines due said output
    (AreSettledBelow asked said f c.loop-object.object)) c.in-None.is
    (c.loop-object.invariant asked lines due said output h))
