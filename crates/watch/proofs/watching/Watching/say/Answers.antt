use Rattle.std.proofs.Common.{◌≡◌, ◌∙◌, ◌<◌, ◌++◌, ℕ, List, length, None, Some, slice_get, ap, sym, rules, inl}
use Rattle.std.proofs.lemmas.Option.{slice_get-get_or}
use Rattle.stream_text.specs.Stream.{events_of}
use Rattle.watch.specs.declared.objects.Object.{Object}
use Rattle.watch.specs.Lines.{lines_of}
use Rattle.watch.specs.Watching.{AreSettled}
use Rattle.watch.specs.Timely.{IsTimely}
use Rattle.watch.proofs.Outputs.{tells_none, tells_then, tells_closes}
use Rattle.watch.proofs.Settling.{IsJudged}
use Rattle.watch.proofs.Punctual.{settled_timely, tells_map}
use Rattle.watch.proofs.watching.Watching.say.Goals as goal

pub returns-in_ok-settle-in-Some-2-clause-goes_on :
    goal.returns-in_ok-settle-in-Some-2-clause-goes_on
returns-in_ok-settle-in-Some-2-clause-goes_on c e asked lines due said output h says =
    tells_then asked c.args.self.now c.judge.new.self c.settle.new.self lines due said output
    (IsJudged asked said c.in_ok-judge.field-0 c.args.object) (AreSettled said)
    (λ after. c.args.object < length said.names → IsTimely asked said after c.args.object)
    (c.in_ok-judge.ensures.judged asked lines due said output h)
    (λ after holds. c.in_ok-settle-in-Some-2.ensures.goes_on e asked lines due said after holds)
    (λ after more judged settled low. settled_timely asked said (after ++ more) c.args.object
    (settled c.args.object low))

pub returns-in_ok-settle-in-Some-2-clause-over : goal.returns-in_ok-settle-in-Some-2-clause-over
returns-in_ok-settle-in-Some-2-clause-over c e asked lines due said output h says =
    tells_closes asked c.args.self.now c.judge.new.self c.settle.new.self lines due said output
    (IsJudged asked said c.in_ok-judge.field-0 c.args.object)
    (c.in_ok-judge.ensures.judged asked lines due said output h)
    (λ after judged holds. c.in_ok-settle-in-Some-2.ensures.over e asked lines due said after holds)

pub returns-in-None-clause-goes_on : goal.returns-in-None-clause-goes_on
returns-in-None-clause-goes_on c e asked lines due said output h says =
    let judged = rw c.in-None.is at c.in_ok-judge.ensures.judged asked lines due said output h in
    tells_map asked c.args.self.now c.judge.new.self lines due said output
    (IsJudged asked said None c.args.object)
    (λ after. c.args.object < length said.names → IsTimely asked said after c.args.object) judged
    (λ more holds is low. settled_timely asked said (output ++ more) c.args.object (is.1 low))

pub returns-then-is_legal_before-clause-goes_on : goal.returns-then-is_legal_before-clause-goes_on
returns-then-is_legal_before-clause-goes_on c e asked lines due said output h says =
    let events = events_of c.args.object said.events in
    let one : Object = c.in-Some.one.now in
    let objects : List Object = c.deref.result.now in
    let all : objects ≡ c.args.self.now.objects.items = search rules in
    let at : slice_get c.args.self.now.objects.items c.args.object ≡ Some one =
    ap (λ (xs : List Object). slice_get xs c.args.object) (sym all)
    ∙ (slice_get-get_or objects c.args.object one c.in-Some.ensures.lookup.3.0
    ∙ ap Some (sym c.in-Some.ensures.lookup.1)) in
    tells_none asked c.args.self.now lines due said output
    (λ after. c.args.object < length said.names → IsTimely asked said after c.args.object) h
    (λ low. inl (c.is_legal_before.ensures c.if-is_legal_before.true said.kind asked events
    (lines_of c.args.object said.events) (h.objects c.args.object one at)))
