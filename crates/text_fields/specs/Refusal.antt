-- What is written of a text that is refused.
use Rattle.std.specs.Prelude.{ℕ, List, ◌++◌, codes, decimal}
use Rattle.book_base.specs.declared.fault.TextFault.{TextFault}
use Rattle.text_fields.specs.FaultName.{fault_name}

-- what is written of a text that is refused: the line and the name of its fault
unfoldable pub refusal_text : TextFault → List ℕ
refusal_text fault =
    codes "refused " ++ decimal fault.line ++ codes " " ++ fault_name fault.what ++ codes "\n"
