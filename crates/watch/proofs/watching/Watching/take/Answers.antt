use Rattle.std.proofs.Common.{◌∙◌, ◌++◌, ◌∷◌, [], List, ℕ, sym, ap, subst, append-nil}
use Rattle.stream_text.specs.Stream.{Due, EventDue}
use Rattle.watch.specs.Output.{OutputLine, output_text}
use Rattle.watch.specs.Timely.{IsPunctual}
use Rattle.watch.specs.Watching.{Holds}
use Rattle.watch.proofs.watching.Watching.take.Goals as goal

pub returns-in_ok-tell-in-Some-clause-goes_on : goal.returns-in_ok-tell-in-Some-clause-goes_on
returns-in_ok-tell-in-Some-clause-goes_on c over asked lines due said output h whole =
    let all = lines ++ c.args.line.now ∷ [] in
    let r = c.in_ok-object.ensures.taken asked lines due said output h whole in
    let some = rw c.in-Some.is at r.3 in
    let t = c.in_ok-tell-in-Some.ensures.goes_on over asked all r.1 output
    (subst (λ (d : Due). Holds asked c.read.new.self all d r.1 output) some.0 r.2) in (
      EventDue r.1,
      r.1,
      t.0,
      t.1 ∙ ap (λ v. v.items ++ output_text t.0) c.read.ensures.out,
      t.2,
      λ punctual. t.3 (some.1 punctual),
    )

pub returns-in_ok-tell-in-Some-clause-over : goal.returns-in_ok-tell-in-Some-clause-over
returns-in_ok-tell-in-Some-clause-over c over asked lines due said output h whole =
    let all = lines ++ c.args.line.now ∷ [] in
    let r = c.in_ok-object.ensures.taken asked lines due said output h whole in
    let some = rw c.in-Some.is at r.3 in
    let t = c.in_ok-tell-in-Some.ensures.over over asked all r.1 output
    (subst (λ (d : Due). Holds asked c.read.new.self all d r.1 output) some.0 r.2) in
    (t.0, t.1 ∙ ap (λ v. v.items ++ output_text t.0) c.read.ensures.out, t.2, t.3)

pub returns-in-None-clause-goes_on : goal.returns-in-None-clause-goes_on
returns-in-None-clause-goes_on c over asked lines due said output h whole =
    let r = c.in_ok-object.ensures.taken asked lines due said output h whole in
    let none = rw c.in-None.is at r.4 in (
      r.0,
      r.1,
      [],
      ap (λ v. v.items) c.read.ensures.out ∙ sym (append-nil c.args.self.now.out.items),
      subst (λ (o : List OutputLine). Holds asked c.read.new.self (lines ++ c.args.line.now ∷ []) r.0
          r.1 o) (sym (append-nil output)) r.2,
      λ punctual. subst (IsPunctual asked r.1) (sym (append-nil output)) (none punctual),
    )
