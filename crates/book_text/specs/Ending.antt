-- The end of a text, read by itself.
use Rattle.std.specs.Prelude.{◌≡◌, ◌≢◌, ◌⊎◌, ℕ, List, [], Ok, Err}
use Rattle.book_base.specs.declared.fault.TextFault.{TextFault}
use Rattle.book_base.specs.declared.fault.What.TheVariants.{End, Rest}
use Rattle.text_fields.specs.Lines.{Unread, line_at, words_of}
use Rattle.book_text.specs.Grammar.{end_words}

-- the next line is 'end', and nothing is left after it
pub record IsEnded (text left : Unread) : Type 0 where
  pub line : List ℕ
  pub next : line_at text ≡ Ok (line, left)
  pub words : words_of line ≡ end_words
  pub whole : left.bytes ≡ []

-- the fault is `End` at the next line, which is whole and isn't 'end'
pub record IsNoEndLine (text : Unread) (fault : TextFault) : Type 0 where
  pub line : List ℕ
  pub left : Unread
  pub next : line_at text ≡ Ok (line, left)
  pub words : words_of line ≢ end_words
  pub fault_is : fault ≡ record { line = text.number; what = End }

-- the fault is `Rest` at the line after the next one: the next line is 'end', and bytes follow it
pub record HasRest (text : Unread) (fault : TextFault) : Type 0 where
  pub line : List ℕ
  pub left : Unread
  pub next : line_at text ≡ Ok (line, left)
  pub words : words_of line ≡ end_words
  pub more : left.bytes ≢ []
  pub fault_is : fault ≡ record { line = left.number; what = Rest }

-- the fault for which the next line isn't the end of a text: the line isn't whole, it isn't 'end',
-- or bytes follow it
abbrev pub IsNoEnd : Unread → TextFault → Type 0
IsNoEnd text fault = (line_at text ≡ Err fault) ⊎ (IsNoEndLine text fault ⊎ HasRest text fault)
