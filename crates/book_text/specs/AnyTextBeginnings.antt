-- The place of the first fault of bytes, for any form of text: the first line such that no text
-- begins with the lines up to it, or that no line feed ends, or that follows a whole text.
use Rattle.std.specs.Prelude.{◌≡◌, ◌≢◌, ◌⊎◌, ◌+◌, ℕ, List, [], ◌∷◌, ◌++◌, Some}
use Rattle.book_base.specs.declared.fault.TextFault.{TextFault}
use Rattle.book_base.specs.declared.fault.What.{What}
use Rattle.book_base.specs.declared.fault.What.TheVariants.{Cut, Rest}
use Rattle.text_fields.specs.Lines.{cut_at}
use Rattle.book_text.specs.Beginnings.{AreWholeLines, EndsEarly}

-- some text begins with these bytes
abbrev pub BeginsSome : {Said : Type 0} → (List ℕ → Said → Type 0) → List ℕ → Type 0
BeginsSome {Said} IsText prefix = (said : Said) × (more : List ℕ) × IsText (prefix ++ more) said

-- no text begins with these bytes
abbrev pub BeginsNone : {Said : Type 0} → (List ℕ → Said → Type 0) → List ℕ → Type 0
BeginsNone {Said} IsText prefix = (said : Said) (more : List ℕ) → ¬ (IsText (prefix ++ more) said)

-- After `prefix` comes one more whole line, and no text begins with `prefix` and this line; the
-- fault is neither `Cut` nor `Rest`.
pub record BreaksOff {Said : Type 0} (IsText : List ℕ → Said → Type 0) (prefix rest : List ℕ)
    (what : What) : Type 0 where
  pub named : (what ≢ Cut) × (what ≢ Rest)
  pub line : List ℕ
  pub suffix : List ℕ
  pub whole : cut_at 10 rest ≡ Some (line, suffix)
  pub none : BeginsNone IsText (prefix ++ (line ++ 10 ∷ []))

-- `prefix` is a whole text already, and bytes follow it; the fault is `Rest`.
pub record GoesPast {Said : Type 0} (IsText : List ℕ → Said → Type 0) (prefix rest : List ℕ)
    (what : What) : Type 0 where
  pub named : what ≡ Rest
  pub said : Said
  pub text : IsText prefix said
  pub more : rest ≢ []

-- A fault is at the line where bytes, which are no text themselves, stop being the beginning of a
-- text. Some text begins with the lines before the fault's line; and either no text begins with
-- these lines and the fault's line, or no line feed ends the fault's line, or the lines before it
-- are a whole text already, and bytes follow them.
pub record LeavesAt {Said : Type 0} (IsText : List ℕ → Said → Type 0) (bytes : List ℕ)
    (fault : TextFault) : Type 0 where
  pub count : ℕ
  pub prefix : List ℕ
  pub rest : List ℕ
  pub line : fault.line ≡ count + 1
  pub bytes_are : bytes ≡ prefix ++ rest
  pub lines : AreWholeLines count prefix
  pub begins : BeginsSome IsText prefix
  pub leaves : BreaksOff IsText prefix rest fault.what
      ⊎ (EndsEarly rest fault.what ⊎ GoesPast IsText prefix rest fault.what)
  pub no_text : (said : Said) → ¬ (IsText bytes said)
