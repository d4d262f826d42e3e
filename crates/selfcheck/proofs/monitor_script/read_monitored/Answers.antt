use Rattle.std.proofs.Common.{◌∙◌, sym, refl, inl, inr}
use Rattle.std.proofs.lemmas.Bool.{false≢true}
use Rattle.selfcheck.specs.MonitorInput.{IsFirstMonitorFault}
use Rattle.selfcheck.proofs.MonitorLemmas.{monitored_few, monitored_refused}
use Rattle.selfcheck.proofs.monitor_script.read_monitored.Goals as goal

pub returns-then-is_crowded-clause-refused : goal.returns-then-is_crowded-clause-refused
unfolding IsFirstMonitorFault
returns-then-is_crowded-clause-refused c = inr
    (c.in_ok-check_length.ensures.short, inl (c.is_crowded.ensures.0 c.if-is_crowded.true, refl))

pub returns-clause-few : goal.returns-clause-few
returns-clause-few c =
    monitored_few c.args.bytes.now c.read_script.result
    (λ crowded. false≢true (sym c.if-is_crowded.false ∙ c.is_crowded.ensures.1 crowded))
    c.read_script.ensures.found

pub returns-clause-refused : goal.returns-clause-refused
returns-clause-refused c =
    monitored_refused c.args.bytes.now c.read_script.result c.in_ok-check_length.ensures.short
    (λ crowded. false≢true (sym c.if-is_crowded.false ∙ c.is_crowded.ensures.1 crowded))
    c.read_script.ensures.refused
