-- What `order` writes of the first fault of a certificate's list.
use Rattle.std.specs.Prelude.{ℕ, List, [], ◌∷◌, codes, decimal}
use Rattle.seq_objects.specs.Replies.{reply_word}
use Rattle.text_fields.specs.Lines.{line_text}
use Rattle.order_check.specs.declared.fault.OrderFault.{OrderFault}
use Rattle.order_check.specs.declared.fault.OrderFault.TheVariants.{Unknown, Twice, Skipped, Late, Record, Run, Missing}

-- The words that tell the fault of an order: its name, then its places or its call, and then, where
-- it has them, the reply wanted and the reply found.
abbrev pub fault_words : OrderFault → List (List ℕ)
fault_words (Unknown p) = codes "Unknown" ∷ decimal p ∷ []
fault_words (Twice p) = codes "Twice" ∷ decimal p ∷ []
fault_words (Skipped p) = codes "Skipped" ∷ decimal p ∷ []
fault_words (Late q p) = codes "Late" ∷ decimal q ∷ decimal p ∷ []
fault_words (Record p wanted found) =
    codes "Record" ∷ decimal p ∷ reply_word wanted ∷ reply_word found ∷ []
fault_words (Run p wanted found) =
    codes "Run" ∷ decimal p ∷ reply_word wanted ∷ reply_word found ∷ []
fault_words (Missing caller number) = codes "Missing" ∷ decimal caller ∷ decimal number ∷ []

-- what is written of the first fault of an order
unfoldable pub order_fault_text : OrderFault → List ℕ
order_fault_text fault = line_text (codes "fault" ∷ fault_words fault)
