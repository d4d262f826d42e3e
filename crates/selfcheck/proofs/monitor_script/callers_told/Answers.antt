use Rattle.std.proofs.Common.{◌≡◌, ◌∙◌, sym, ap, subst, ℕ, List}
use Rattle.std.specs.Prelude.{IfSome}
use Rattle.text_fields.specs.declared.version.Version.TheVariants.{Second}
use Rattle.text_fields.specs.Head.{AreCallers, callers_words}
use Rattle.text_fields.specs.Lines.{line_at}
use Rattle.selfcheck.proofs.MonitorLemmas.{opening_read}
use Rattle.selfcheck.proofs.monitor_script.callers_told.Goals as goal

pub returns-clause-found : goal.returns-clause-found
returns-clause-found c =
    opening_read c.args.bytes.now c.in-Ok.title.now c.in-Ok-line.object.now
    c.in-Ok-line-2.callers.now c.line.new.self c.line-2.new.self c.line-3.new.self
    c.callers_of.result
    (ap line_at (sym c.new-lines.ensures) ∙ c.in-Ok.ensures.line) c.in-Ok-line.ensures.line
    c.in-Ok-line-2.ensures.line
    (sym c.new.ensures ∙ c.are_words.ensures.0 c.if-not-are_words.false)
    (c.names_a_kind.ensures.yes c.if-not-names_a_kind.false)
    (subst (λ (words : List (List ℕ)).
    IfSome c.callers_of.result (λ n. AreCallers Second n × (words ≡ callers_words n)))
    c.new-2.ensures c.callers_of.ensures.found)
