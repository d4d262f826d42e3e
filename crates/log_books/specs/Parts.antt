-- What is written of a log, a part for each key.
use Rattle.std.specs.Prelude.{◌≡◌, ℕ, Bool, true, false, List, ◌++◌, map, IsPermutation}
use Rattle.std.specs.List.{AllByRecursion, flat_map, list_all}
use Rattle.book_base.specs.declared.call.Call.{Call}
use Rattle.book_base.specs.Book.{Page}
use Rattle.text_fields.specs.declared.version.Version.TheVariants.{Second}
use Rattle.book_text.specs.BookRules.{IsBookText}
use Rattle.history_books.specs.Calls.{IsInOrder}
use Rattle.history_books.specs.BookOf.{IsBookOf}
use Rattle.history_text.specs.declared.fault.LogFault.{LogFault}
use Rattle.history_text.specs.declared.call.LogCall.{LogCall}
use Rattle.history_text.specs.declared.entry.LinedEntry.{LinedEntry}
use Rattle.history_text.specs.declared.layout.Layout.{Layout}
use Rattle.history_text.specs.Log.{IsLog}
use Rattle.history_text.specs.Pairing.{calls_of}
use Rattle.log_books.specs.declared.options.Options.{Options}
use Rattle.log_books.specs.declared.key_calls.LinedCall.{LinedCall}
use Rattle.log_books.specs.Calls.{AreMadeAt}
use Rattle.log_books.specs.Keys.{KeyAt, AreAllKeysOf}
use Rattle.log_books.specs.Lines.{key_line, names_text, calls_text}
use Rattle.log_books.specs.Refusal.{log_refusal_text}

-- A part has the lines of a key, of the names of its values and of its calls, and the text of a book
-- in version 2, which is the book of the key's calls without those that are left out: it has their
-- operations, replies and precedence, and no other calls.
pub record HasBook (options : Options) (log : List LogCall) (at : KeyAt) (text : List ℕ) : Type 0 where
  pub value_names : List (List ℕ)
  pub made : List LinedCall
  pub calls : List LinedCall
  pub book : List Page
  pub names : List Call
  pub book_text : List ℕ
  pub whole : text ≡ key_line at.key ++ names_text 0 value_names ++ calls_text calls names ++ book_text
  pub logged : AreMadeAt options value_names log at.places made
  pub sorted : IsPermutation made calls
  pub ordered : IsInOrder (map LinedCall.call calls)
  pub booked : IsBookOf (map LinedCall.call calls) book names
  pub written : IsBookText Second book_text options.kind book

-- a part has the line of a key, and that of a fault in place of a book
pub record HasFault (at : KeyAt) (text : List ℕ) : Type 0 where
  pub fault : LogFault
  pub whole : text ≡ key_line at.key ++ log_refusal_text fault

-- A part ends with a book where it is said to have one, and else with a fault.
abbrev pub IsPart : Options → List LogCall → KeyAt → Bool → List ℕ → Type 0
IsPart options log at true text = HasBook options log at text
IsPart options log at false text = HasFault at text

-- a part of what is written of a log: its key with the places of the calls, whether it has a book,
-- and its text
pub record Part : Type 0 where
  pub at : KeyAt
  pub has_book : Bool
  pub text : List ℕ

-- What is written of some keys of a log consists of a part for each, one after another; it has books
-- exactly where each of them has one.
pub record AreParts (options : Options) (log : List LogCall) (keys : List KeyAt) (has_books : Bool)
    (text : List ℕ) : Type 0 where
  pub parts : List Part
  pub of_keys : map Part.at parts ≡ keys
  pub whole : flat_map Part.text parts ≡ text
  pub each : AllByRecursion (λ part. IsPart options log part.at part.has_book part.text) parts
  pub books : list_all Part.has_book parts ≡ has_books

-- A layout has the names of fields that some options have, and pairs of a key and a value where they
-- say so.
pub record IsLayoutOf (options : Options) (layout : Layout) : Type 0 where
  pub named : layout.named.now ≡ options.roles.items
  pub keyed : layout.keyed ≡ options.keyed

-- What is written of the bytes of a log, read as some options say, consists of a part for each key of
-- the log's calls.
pub record IsWritten (options : Options) (bytes : List ℕ) (has_books : Bool) (text : List ℕ)
    : Type 0 where
  pub layout : Layout
  pub entries : List LinedEntry
  pub keys : List KeyAt
  pub laid_out : IsLayoutOf options layout
  pub log : IsLog options.format layout options.clock bytes entries
  pub keyed : AreAllKeysOf (calls_of options.clock entries) keys
  pub parts : AreParts options (calls_of options.clock entries) keys has_books text

-- What is written of the bytes of a log, read as options say, consists of parts for its calls.
abbrev pub IsImported : List ℕ → List ℕ → Type 0
IsImported bytes text = (options : Options) × (has_books : Bool) × IsWritten options bytes has_books text
