-- How a call that writes the text of an output ends.
use Rattle.std.proofs.Common.{◌≡◌, ◌⊎◌, ℕ, List, Option, inl, inr, sym, subst}
use Rattle.std.specs.Io.KnownBytes.{Appends}
use Rattle.byte_streams.specs.declared.status.Status.{Status}
use Rattle.byte_streams.specs.declared.status.Status.TheVariants.{Fine, Found, Usage, Refused, ReadFault, WriteFault, NoMemory}
use Rattle.byte_streams.specs.Told.{AppendsPart}
use Rattle.byte_streams.specs.Writing.{EndsWriting}

module _ (IsOne : Status → List ℕ → Type 0) (text : List ℕ) (taken taken' : Option (List ℕ))
    (no_read : IsOne ReadFault text → ⊥) (no_write : IsOne WriteFault text → ⊥)
    (no_memory : IsOne NoMemory text → ⊥) where
  -- the whole text was written, with its status
  whole : (status : Status) → IsOne status text → Appends taken taken' text
      → EndsWriting IsOne status taken taken'
  whole Fine is appends = (text, is, appends)
  whole Found is appends = (text, is, appends)
  whole Usage is appends = (text, is, appends)
  whole Refused is appends = (text, is, appends)
  whole ReadFault is appends = absurd (no_read is)
  whole WriteFault is appends = absurd (no_write is)
  whole NoMemory is appends = absurd (no_memory is)

  -- the text was written whole, or a part of it, and then the sink counted a fault
  pub written_ends : (Risen : Type 0) (status result : Status) → IsOne status text
      → ((result ≡ status) × Appends taken taken' text)
      ⊎ ((result ≡ WriteFault) × AppendsPart taken taken' text × Risen)
      → EndsWriting IsOne result taken taken'
  written_ends Risen status result is written =
      elim written [
        | inl done ↦
            subst (λ s. EndsWriting IsOne s taken taken') (sym done.0) (whole status is done.1)
        | inr failed ↦ subst (λ s. EndsWriting IsOne s taken taken') (sym failed.0)
            (status, text, is, failed.1)
      ]
