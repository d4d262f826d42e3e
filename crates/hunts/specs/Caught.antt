-- What is written of a hunt, and of what it caught.
use Rattle.std.specs.Prelude.{◌≡◌, ℕ, ◌≤◌, ◌++◌, List, Option, None, codes}
use Rattle.book_base.specs.Book.{Page}
use Rattle.book_base.specs.Order.{HasLegalOrder}
use Rattle.seq_objects.specs.declared.kind.Kind.{Kind}
use Rattle.seq_objects.specs.Objects.{kind_spec}
use Rattle.text_fields.specs.declared.version.Version.TheVariants.{Second}
use Rattle.book_text.specs.Grammar as books
use Rattle.reports.specs.Grammar as reports
use Rattle.smaller_book.specs.Evidence.{IsEvidence}
use Rattle.smaller_book.specs.Minimal.{IsMinimal}
use Rattle.book_picture.specs.Elements.{IsPicture}
use Rattle.book_picture.specs.declared.marked_calls.MarkedCalls.TheVariants.{Unasked}
use Rattle.byte_streams.specs.declared.status.Status.{Status}
use Rattle.byte_streams.specs.declared.status.Status.TheVariants.{Fine, Found, Usage, NoMemory}
use Rattle.byte_streams.specs.Writing.{EndsWriting}
use Rattle.hunts.specs.declared.trial.Catch.{Catch}
use Rattle.hunts.specs.declared.runs.Settings.{Settings}
use Rattle.hunts.specs.Hunting.{first_news, AreQuietBefore, IsCaughtLast}
use Rattle.hunts.specs.Watching.{RunNews, Hears}
use Rattle.hunts.specs.declared.shown.Shown.{Shown}
use Rattle.hunts.specs.declared.shown.Shown.TheVariants.{Smaller, Report, Picture, Finding}
use Rattle.hunts.specs.declared.asked.Asked.{Asked}
use Rattle.hunts.specs.declared.asked.Asked.TheVariants.{Hunt, OutOfBounds, Unknown}
use Rattle.hunts.specs.Asking.{bounds_text, usage_text}

-- A smaller witness of a book: a part that is evidence of it, that has no legal order, and that no
-- rule makes smaller.
pub record IsSmallerWitness (kind : Kind) (book part : List Page) : Type 0 where
  pub names : List (List ℕ)
  pub evidence : IsEvidence kind book names part
  pub illegal : ¬ HasLegalOrder (kind_spec kind) part
  pub minimal : IsMinimal kind part

-- The text is that of a smaller witness of a book.
abbrev pub IsSmallerText : Kind → List Page → List ℕ → Type 0
IsSmallerText kind book text = (part : List Page) × IsSmallerWitness kind book part
    × books.IsWrittenText Second text kind part

-- The text is the picture of a smaller witness of a book, without numbers and marks.
abbrev pub IsSmallerPicture : Kind → List Page → List ℕ → Type 0
IsSmallerPicture kind book text =
    (part : List Page) × IsSmallerWitness kind book part
    × IsPicture kind part None Unasked None text

-- The text is that of a catch's report, and after it that of its witness.
abbrev pub IsReportShown : {T : Type 0} → Kind → Catch T → List ℕ → Type 0
IsReportShown kind catch text =
    (report : List ℕ) × (witness : List ℕ) × reports.IsWrittenText report catch.report
    × books.IsWrittenText Second witness kind catch.witness × (text ≡ report ++ witness)

-- The text is that of a catch's report, then that of its witness, then that of a smaller witness of
-- it, and then the picture of this one.
abbrev pub IsFindingShown : {T : Type 0} → Kind → Catch T → List ℕ → Type 0
IsFindingShown kind catch text =
    (report : List ℕ) × (part : List Page) × (small : List ℕ) × (picture : List ℕ)
    × IsReportShown kind catch report × IsSmallerWitness kind catch.witness part
    × books.IsWrittenText Second small kind part
    × IsPicture kind part None Unasked None picture × (text ≡ report ++ small ++ picture)

-- What is shown of a catch over an object of this kind, as it was asked for: a smaller witness, the
-- report with its witness, a picture of a smaller witness, or all of these.
abbrev pub IsShown : {T : Type 0} → Kind → Catch T → Shown → List ℕ → Type 0
IsShown kind catch Smaller text = IsSmallerText kind catch.witness text
IsShown kind catch Report text = IsReportShown kind catch text
IsShown kind catch Picture text = IsSmallerPicture kind catch.witness text
IsShown kind catch Finding text = IsFindingShown kind catch text

-- A text with a status is the output of a hunt that made `runs` runs. With `Found` these are at
-- most as many as the hunt may make, the last one is the first with an error, and the text is what
-- is shown of its catch. With `Fine` the hunt made all the runs that it may make, all were quiet,
-- and the text says that no run had an error. With any other status no text is an output.
abbrev pub IsHuntOutput : {T : Type 0} → (T → ℕ) → (T → Option (List (ℕ × ℕ))) → Settings → Shown
    → ℕ → Status → List ℕ → Type 0
IsHuntOutput {T} made told settings shown runs Found text =
    (catch : Catch T) × (runs ≤ settings.runs) × IsCaughtLast made told settings runs catch
    × IsShown settings.workload.kind catch shown text
IsHuntOutput made told settings shown runs Fine text =
    (runs ≡ settings.runs) × AreQuietBefore made told settings settings.runs
    × (text ≡ codes "no run had an error\n")
IsHuntOutput made told settings shown runs status text = ⊥

-- A hunt has ended with a status after some number of runs. Its output for these runs was appended
-- to the bytes that the sink had taken; with `WriteFault` some first bytes of it and not all, with
-- `NoMemory` nothing. Unless the status is `NoMemory`, the onlooker was told of each run, in order:
-- that it begins, and that it was made.
pub record EndsHunt {T : Type 0} (made : T → ℕ) (told : T → Option (List (ℕ × ℕ)))
    (settings : Settings) (shown : Shown) (status : Status) (taken taken' : Option (List ℕ))
    (heard heard' : Option (List RunNews)) : Type 0 where
  pub runs : ℕ
  pub wrote : EndsWriting (IsHuntOutput made told settings shown runs) status taken taken'
  pub heard_of : ¬ (status ≡ NoMemory) → Hears heard (first_news settings runs) heard'

-- The only output is this text, with the status for command words that ask for nothing.
abbrev pub IsUsage : List ℕ → Status → List ℕ → Type 0
IsUsage wanted status text = (status ≡ Usage) × (text ≡ wanted)

-- What was asked for has ended with a status: the hunt as it was asked for. Where none was asked
-- for, the bounds of the setting that goes out of them or the usage was written, and the onlooker
-- was told of no run.
abbrev pub EndsAsked : {T : Type 0} → (T → ℕ) → (T → Option (List (ℕ × ℕ))) → Asked → Status
    → Option (List ℕ) → Option (List ℕ) → Option (List RunNews) → Option (List RunNews) → Type 0
EndsAsked made told (Hunt settings shown) status taken taken' heard heard' =
    EndsHunt made told settings shown status taken taken' heard heard'
EndsAsked made told (OutOfBounds setting) status taken taken' heard heard' =
    EndsWriting (IsUsage (bounds_text setting)) status taken taken' × (heard' ≡ heard)
EndsAsked made told Unknown status taken taken' heard heard' =
    EndsWriting (IsUsage usage_text) status taken taken' × (heard' ≡ heard)
