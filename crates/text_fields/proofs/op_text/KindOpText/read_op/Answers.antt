use Rattle.list_laws.proofs.Options.{IfNone_then}
use Rattle.text_fields.specs.declared.version.Version.TheVariants.{Second}
use Rattle.text_fields.specs.OperationLaws.{small_word}
use Rattle.text_fields.proofs.Spelled.{spells_operation}
use Rattle.text_fields.proofs.op_text.KindOpText.read_op.Goals as goal

pub returns-clause-none : goal.returns-clause-none
returns-clause-none c =
    IfNone_then c.op_from_words.result c.op_from_words.ensures.none (λ h op used s.
    h op used (small_word Second op s.has) (spells_operation Second c.args.self.now _ op used s))
