use Rattle.legal_prefixes.specs.Texts.{TellsFirst}
use Rattle.legal_prefixes.proofs.text.prefixes_text.Given as goal

abbrev pub invariant-loop-index : goal.invariant-loop-index
invariant-loop-index l = TellsFirst l.kind l.book l.prefixes l.index l.out.items
