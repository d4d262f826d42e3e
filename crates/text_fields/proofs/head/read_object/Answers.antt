use Rattle.std.proofs.Common.{sym, ◌∙◌, refl}
use Rattle.text_fields.specs.Head.{head_rules, ObjectDue, CallersDue}
use Rattle.text_fields.proofs.Sharp.{goes_line}
use Rattle.text_fields.proofs.head.read_object.Goals as goal

pub returns-in-Some-clause-found : goal.returns-in-Some-clause-found
returns-in-Some-clause-found c =
    goes_line (head_rules c.args.version c.args.title.now) ObjectDue (CallersDue c.in-Some.kind)
    c.args.lines.now c.line.new.self c.in_ok-line.field-0.now c.in_ok-line.ensures.line (
      c.in-Some.kind,
      c.in-Some.ensures.found.0,
      sym c.new-words.ensures ∙ c.in-Some.ensures.found.1,
      refl,
    )
