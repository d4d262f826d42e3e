-- The answers of a function that finds something in bytes, or refuses them for their first fault.
use Rattle.std.proofs.Common.{◌≡◌, ◌⊎◌, Result, Ok, Err, refl, ap, inl, inr}
use Rattle.std.specs.Prelude.{IfOk, IfErr, MatchResult}
use Rattle.book_base.specs.declared.fault.TextFault.{TextFault}
use Rattle.book_base.specs.declared.fault.ReadFault.{ReadFault}
use Rattle.book_base.specs.declared.fault.ReadFault.TheVariants.{Text, NoMemory}
use Rattle.text_fields.specs.Faults.{IsFaultOf}

-- Of bytes that have no fault something is answered, want of memory aside, and so what holds of all
-- that they may be found to say.
pub only_answer : {V : Type 0} (IsFound IsAnswer : V → Type 0) (IsFirst : TextFault → Type 0)
    (result : Result V ReadFault) → IfOk result IsFound → IfErr result (IsFaultOf IsFirst)
    → ((v : V) → IsFound v → IsAnswer v) → ((fault : TextFault) → IsFirst fault → ⊥)
    → MatchResult result IsAnswer (λ e. e ≡ NoMemory)
only_answer IsFound IsAnswer IsFirst (Ok v) found refused all none = all v found
only_answer IsFound IsAnswer IsFirst (Err NoMemory) found refused all none = refl
only_answer IsFound IsAnswer IsFirst (Err (Text fault)) found refused all none =
    absurd (none fault refused)

-- bytes with one first fault are refused for it, want of memory aside
pub first_answer : {V : Type 0} (IsFound : V → Type 0) (IsFirst : TextFault → Type 0)
    (result : Result V ReadFault) → IfOk result IsFound → IfErr result (IsFaultOf IsFirst)
    → ((a b : TextFault) → IsFirst a → IsFirst b → a ≡ b)
    → ((v : V) (fault : TextFault) → IsFound v → IsFirst fault → ⊥)
    → (fault : TextFault) → IsFirst fault
    → MatchResult result (λ _. ⊥) (λ e. (e ≡ Text fault) ⊎ (e ≡ NoMemory))
first_answer IsFound IsFirst (Ok v) found refused one none fault first = none v fault found first
first_answer IsFound IsFirst (Err NoMemory) found refused one none fault first = inr refl
first_answer IsFound IsFirst (Err (Text other)) found refused one none fault first =
    inl (ap Text (one other fault refused first))
