use Rattle.std.proofs.Common.{◌≡◌, subst}
use Rattle.byte_streams.specs.Fault.{Rose}
use Rattle.hunts.specs.Caught.{IsHuntOutput}
use Rattle.hunts.proofs.Written.{written_ends}
use Rattle.hunts.proofs.hunting.hunt_and_write.Goals as goal

pub returns-in-Ok-clause-ends : goal.returns-in-Ok-clause-ends
returns-in-Ok-clause-ends g c =
    let (runs, is, hears) = c.in-Ok.ensures in
    let IsOne = IsHuntOutput g.B.Pass.ObjectPass.made g.B.Pass.ObjectPass.told c.args.settings.now
    c.args.shown runs in
    let same : c.in-Ok.output.text.items ≡ c.deref.result.now = cc in
    let wrote = written_ends IsOne c.deref.result.now (g.K.Sink.taken c.args.sink.now)
    (g.K.Sink.taken c.write_text.new.sink) (λ e. e) (λ e. e) (λ e. e)
    (Rose (g.K.Sink.faults c.args.sink.now) (g.K.Sink.faults c.write_text.new.sink))
    c.in-Ok.output.status c.write_text.result
    (subst (IsOne c.in-Ok.output.status) same is) c.write_text.ensures.written in
    record { runs = runs; wrote = wrote; heard_of = λ _. hears }
