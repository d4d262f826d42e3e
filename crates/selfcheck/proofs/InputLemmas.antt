-- An input is refused for one fault.
use Rattle.std.proofs.Common.{◌≡◌, ℕ, List, sym, ◌∙◌, arith, inl, inr}
use Rattle.book_base.specs.declared.fault.TextFault.{TextFault}
use Rattle.selfcheck.specs.Input.{IsRefusedFor}

-- the first fault of the bytes is one fault, and so is the fault for which an input is refused
pub one_refusal : (IsFirst : List ℕ → TextFault → Type 0) (bytes : List ℕ) (a b : TextFault)
    → ((p q : TextFault) → IsFirst bytes p → IsFirst bytes q → p ≡ q) → IsRefusedFor IsFirst bytes a
    → IsRefusedFor IsFirst bytes b → a ≡ b
one_refusal IsFirst bytes a b one (inl long) (inl also) = long.1 ∙ sym also.1
one_refusal IsFirst bytes a b one (inl long) (inr short) = absurd (omega (arith, long.0, short.0))
one_refusal IsFirst bytes a b one (inr short) (inl long) = absurd (omega (arith, long.0, short.0))
one_refusal IsFirst bytes a b one (inr short) (inr also) = one a b short.1 also.1
