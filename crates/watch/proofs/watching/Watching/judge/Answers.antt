use Rattle.std.proofs.Common.{◌≡◌, ◌<◌, ℕ, List, [], ◌∷◌, ◌++◌, length, Option, Some, None, IfSome, refl, sym, arith, inl, inr}
use Rattle.stream_text.specs.Stream.{Said}
use Rattle.watch.specs.Output.{OutputLine}
use Rattle.watch.specs.Account.{IsUnsureTold}
use Rattle.watch.specs.Watching.{IsFinding, IsSettled}
use Rattle.watch.proofs.Outputs.{tells_then}
use Rattle.watch.proofs.Findings.{found_of}
use Rattle.watch.proofs.Changing.{tells_objects}
use Rattle.watch.proofs.Settling.{IsJudged}
use Rattle.watch.proofs.watching.Watching.judge.Goals as goal

pub returns-in-Some-Illegal : goal.returns-in-Some-Illegal
returns-in-Some-Illegal c = record {
  judged = λ asked lines due said output h.
      let is = c.in-Some-Illegal.is in
      let here = c.in-Some-Illegal.field-0-is in
      let some = rw is at c.in_ok-first.ensures.some in
      let stands = rw here at some in
      let within = rw is at c.in_ok-first.ensures.within in
      let low : c.args.object < length said.names = omega (arith, within, h.size) in
      let found = found_of asked said c.args.object c.in-Some-Illegal.first c.in-Some-Illegal.last
      low (stands asked said h.objects) in
      tells_objects asked c.args.self.now c.standing.new.self lines due said output
      (IsJudged asked said (Some (record {
        object = c.args.object;
        first = c.in-Some-Illegal.first;
        last = c.in-Some-Illegal.last;
      })) c.args.object) c.standing.ensures.same c.standing.ensures.size
      (c.standing.ensures.objects asked said h.objects) h
      (found.0, λ l. inl found.1);
}

pub returns-in_ok-tell_unsure-in-Some-Unsure : goal.returns-in_ok-tell_unsure-in-Some-Unsure
returns-in_ok-tell_unsure-in-Some-Unsure c = record {
  judged = λ asked lines due said output h.
      let is = c.in-Some-Unsure.is in
      let here = c.in-Some-Unsure.field-0-is in
      let some = rw is at c.in_ok-first.ensures.some in
      let stands = rw here at some in
      let within = rw is at c.in_ok-first.ensures.within in
      let low : c.args.object < length said.names = omega (arith, within, h.size) in
      tells_then asked c.args.self.now c.standing.new.self c.tell_unsure.new.self lines due said
      output (λ after. Unit {0}) (λ after. IsUnsureTold said after c.args.object)
      (IsJudged asked said None c.args.object)
      (tells_objects asked c.args.self.now c.standing.new.self lines due said output
      (λ after. Unit {0}) c.standing.ensures.same c.standing.ensures.size
      (c.standing.ensures.objects asked said h.objects) h tt)
      (λ after holds. c.in_ok-tell_unsure-in-Some-Unsure.ensures.told asked lines due said after
      holds low (stands asked said h.objects))
      (λ after more _ told. (tt, λ l. inr told));
}

pub returns-in-Some-Legal : goal.returns-in-Some-Legal
returns-in-Some-Legal c = record {
  judged = λ asked lines due said output h.
      let is = c.in-Some-Legal.is in
      let here = c.in-Some-Legal.field-0-is in
      let some = rw is at c.in_ok-first.ensures.some in
      let stands = rw here at some in
      tells_objects asked c.args.self.now c.standing.new.self lines due said output
      (IsJudged asked said None c.args.object) c.standing.ensures.same c.standing.ensures.size
      (c.standing.ensures.objects asked said h.objects) h
      (tt, λ l. inl (stands asked said h.objects));
}

pub returns-in-None : goal.returns-in-None
returns-in-None c = record {
  judged = λ asked lines due said output h.
      let past = rw c.in-None.is at c.in_ok-first.ensures.none in
      tells_objects asked c.args.self.now c.standing.new.self lines due said output
      (IsJudged asked said None c.args.object) c.standing.ensures.same c.standing.ensures.size
      (c.standing.ensures.objects asked said h.objects) h
      (tt, λ l. absurd (omega (arith, past, l, h.size)));
}
