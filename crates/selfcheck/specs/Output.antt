-- The output of a command, and what the program has done when it ends.
use Rattle.std.specs.Prelude.{◌≡◌, ◌⊎◌, ◌↔◌, ℕ, ◌≤◌, List, [], length, Option, MatchOption, MatchBool, String, codes, if◌then◌else◌}
use Rattle.std.specs.declared.alloc.Global.{Global}
use Rattle.std.specs.Io.KnownBytes.{Appends, Keeps}
use Rattle.book_base.specs.declared.fault.TextFault.{TextFault}
use Rattle.book_base.specs.Book.{Page}
use Rattle.book_text.specs.BookRules.{IsFirstBookFault}
use Rattle.book_text.specs.Sketches.{sketch_lines}
use Rattle.client_scripts.specs.ScriptRules.{IsFirstScriptFault}
use Rattle.certificate_text.specs.CertificateRules.{IsFirstCertificateFault}
use Rattle.order_check.specs.declared.fault.OrderFault.{OrderFault}
use Rattle.seq_objects.specs.declared.kind.Kind.{Kind}
use Rattle.set_order.specs.SetBookRules.{IsFirstSetBookFault}
use Rattle.sketch.specs.declared.event.Event.{Event}
use Rattle.sketch.specs.Sketch.{IsSketch}
use Rattle.text_fields.specs.Lines.{text_of}
use Rattle.text_fields.specs.Refusal.{refusal_text}
use Rattle.text_fields.specs.declared.version.Version.TheVariants.{Second}
use Rattle.selfcheck.specs.declared.command.Command.{Command}
use Rattle.selfcheck.specs.declared.command.Command.TheVariants.{Verify, Sketch, Order, Upgrade, Sets, Run, Replay, Certify, Monitor, Soak}
use Rattle.byte_streams.specs.declared.status.Status.{Status}
use Rattle.byte_streams.specs.declared.status.Status.TheVariants.{Fine, Found, Usage, Refused, ReadFault, WriteFault, NoMemory}
use Rattle.byte_streams.specs.declared.TheConstants.{INPUT_LIMIT}
use Rattle.selfcheck.specs.Command.{command_of, reads_source}
use Rattle.certificate_text.specs.Books.{Tells, IsTextOfBook, IsLegalBook, IsIllegalBook}
use Rattle.certificate_text.specs.Certificates.{IsTextOfCertificate, IsLegalCertificate, IsFaultyCertificate}
use Rattle.selfcheck.specs.Input.{IsRefusedFor}
use Rattle.selfcheck.specs.Orders.{order_fault_text}
use Rattle.selfcheck.specs.ScriptInput.{IsScriptInput, IsRunInside, IsRunOf, IsReplayOf, IsCertifiedOf, IsSoakOf}
use Rattle.selfcheck.specs.MonitorInput.{IsMonitorInput, IsFirstMonitorFault, IsMonitoredOf}
use Rattle.selfcheck.specs.SetInput.{IsSetInput, IsLegalSetInput, IsIllegalSetInput}
use Rattle.byte_streams.specs.Told.{HasRead, AppendsPart, read_of}
use Rattle.selfcheck.specs.Upgrade.{IsOldInput, IsFirstOldFault, IsUpgraded}

-- The form of text that a command takes as its input: the text of a book, of a certificate, of a
-- script or a book in version 1 (`OldForm`), of a set book, of a script, or of a script that leaves
-- two callers for the monitors; `NoForm` is for a command that reads no source.
pub data InputForm : Type 0 where
  BookForm : InputForm
  CertificateForm : InputForm
  OldForm : InputForm
  SetForm : InputForm
  ScriptForm : InputForm
  MonitorForm : InputForm
  NoForm : InputForm

-- The form of text that a command takes as its input.
abbrev pub form_of : Command → InputForm
form_of Verify = BookForm
form_of Sketch = BookForm
form_of Order = CertificateForm
form_of Upgrade = OldForm
form_of Sets = SetForm
form_of (Run behaviour) = ScriptForm
form_of (Replay behaviour) = ScriptForm
form_of (Certify behaviour) = ScriptForm
form_of (Monitor behaviour) = MonitorForm
form_of (Soak number) = NoForm

-- The bytes are a text of this form; for `NoForm` there are no bytes.
abbrev pub IsTextOf : InputForm → List ℕ → Type 0
IsTextOf BookForm bytes = IsTextOfBook bytes
IsTextOf CertificateForm bytes = IsTextOfCertificate bytes
IsTextOf OldForm bytes = IsOldInput bytes
IsTextOf SetForm bytes = IsSetInput bytes
IsTextOf ScriptForm bytes = IsScriptInput bytes
IsTextOf MonitorForm bytes = IsMonitorInput bytes
IsTextOf NoForm bytes = bytes ≡ []

-- The first fault of bytes that are no text of this form; for `NoForm` bytes have no fault.
abbrev pub IsFirstFaultOf : InputForm → List ℕ → TextFault → Type 0
IsFirstFaultOf BookForm bytes fault = IsFirstBookFault Second bytes fault
IsFirstFaultOf CertificateForm bytes fault = IsFirstCertificateFault bytes fault
IsFirstFaultOf OldForm bytes fault = IsFirstOldFault bytes fault
IsFirstFaultOf SetForm bytes fault = IsFirstSetBookFault bytes fault
IsFirstFaultOf ScriptForm bytes fault = IsFirstScriptFault Second bytes fault
IsFirstFaultOf MonitorForm bytes fault = IsFirstMonitorFault bytes fault
IsFirstFaultOf NoForm bytes fault = ⊥

-- The command takes the bytes: there are at most `INPUT_LIMIT` of them, and they are a text of the
-- form that the command takes.
abbrev pub IsTaken : Command → List ℕ → Type 0
IsTaken command bytes = (length bytes ≤ INPUT_LIMIT) × IsTextOf (form_of command) bytes

-- What `verify` answers to the text of a book, a status and a text: `Fine` and `legal` where the
-- book has a legal order, and `Found` and `illegal` where it has none.
abbrev pub IsVerdict : List ℕ → Status → List ℕ → Type 0
IsVerdict bytes Fine text = IsLegalBook bytes × (text ≡ codes "legal\n")
IsVerdict bytes Found text = IsIllegalBook bytes × (text ≡ codes "illegal\n")
IsVerdict bytes _ text = ⊥

-- The bytes are the text of a book, and the text is that of the sketch of this book.
pub record IsSketchText (bytes text : List ℕ) : Type 0 where
  pub kind : Kind
  pub book : List Page
  pub events : List Event
  pub told : Tells bytes kind book
  pub sketched : IsSketch book events
  pub text_is : text ≡ text_of (sketch_lines kind book events)

-- What `sketch` answers to the text of a book: the status `Fine`, and the text of the book's
-- sketch.
abbrev pub IsSketchOutput : List ℕ → Status → List ℕ → Type 0
IsSketchOutput bytes Fine text = IsSketchText bytes text
IsSketchOutput bytes _ text = ⊥

-- What `order` answers to the text of a certificate, a status and a text: `Fine` and `legal` where
-- the certificate's list is a legal order of its book, and otherwise `Found` and the line that
-- tells the first fault of the list.
abbrev pub IsJudgement : List ℕ → Status → List ℕ → Type 0
IsJudgement bytes Fine text = IsLegalCertificate bytes × (text ≡ codes "legal\n")
IsJudgement bytes Found text = (fault : OrderFault) × IsFaultyCertificate bytes fault
    × (text ≡ order_fault_text fault)
IsJudgement bytes _ text = ⊥

-- What `upgrade` answers to a text of version 1: the status `Fine`, and the text of version 2 of
-- the same script or book.
abbrev pub IsRewritten : List ℕ → Status → List ℕ → Type 0
IsRewritten bytes Fine text = IsUpgraded bytes text
IsRewritten bytes _ text = ⊥

-- What `sets` answers to the text of a set book, a status and a text: `Fine` and `legal` where the
-- book has a legal set order, and `Found` and `illegal` where it has none.
abbrev pub IsSetVerdict : List ℕ → Status → List ℕ → Type 0
IsSetVerdict bytes Fine text = IsLegalSetInput bytes × (text ≡ codes "legal\n")
IsSetVerdict bytes Found text = IsIllegalSetInput bytes × (text ≡ codes "illegal\n")
IsSetVerdict bytes _ text = ⊥

-- What a command may answer to an input that it takes: a status and a text. There may be several
-- such answers.
abbrev pub IsAnswerOf : Command → List ℕ → Status → List ℕ → Type 0
IsAnswerOf Verify bytes status text = IsVerdict bytes status text
IsAnswerOf Sketch bytes status text = IsSketchOutput bytes status text
IsAnswerOf Order bytes status text = IsJudgement bytes status text
IsAnswerOf Upgrade bytes status text = IsRewritten bytes status text
IsAnswerOf Sets bytes status text = IsSetVerdict bytes status text
IsAnswerOf (Run behaviour) bytes status text = IsRunOf behaviour bytes status text
IsAnswerOf (Replay behaviour) bytes status text = IsReplayOf behaviour bytes status text
IsAnswerOf (Certify behaviour) bytes status text = IsCertifiedOf behaviour bytes status text
IsAnswerOf (Monitor behaviour) bytes status text = IsMonitoredOf behaviour bytes status text
IsAnswerOf (Soak number) bytes status text = (bytes ≡ []) × IsSoakOf number status text

-- The text has the line and the name of the fault for which a command refuses the bytes.
abbrev pub IsRefusal : Command → List ℕ → List ℕ → Type 0
IsRefusal command bytes text = (fault : TextFault)
    × IsRefusedFor (IsFirstFaultOf (form_of command)) bytes fault × (text ≡ refusal_text fault)

-- An output of a command for the bytes that it works on: a status and a text. With the status
-- `Refused` the text tells the fault of the bytes; with any other status there are at most
-- `INPUT_LIMIT` bytes, and the status and the text are an answer of the command to them.
abbrev pub IsOutputOf : Command → List ℕ → Status → List ℕ → Type 0
IsOutputOf command bytes Refused text = IsRefusal command bytes text
IsOutputOf command bytes status text = (length bytes ≤ INPUT_LIMIT)
    × IsAnswerOf command bytes status text

-- The command makes a run over an object inside the world: it is a soak; or it is a `run` or a
-- `certify`, and where the bytes are the text of a script, its object is inside the world in a run
-- of that script.
abbrev pub RunsInside : Command → List ℕ → Type 0
RunsInside (Run behaviour) bytes = IsRunInside behaviour bytes
RunsInside (Certify behaviour) bytes = IsRunInside behaviour bytes
RunsInside (Soak number) bytes = Unit {0}
RunsInside command bytes = ⊥

-- All outputs of the command for these bytes have this one status.
abbrev pub HasOneStatus : Command → List ℕ → Status → Type 0
HasOneStatus command bytes status = (other : Status) (text : List ℕ)
    → IsOutputOf command bytes other text → other ≡ status

-- The command is determined: it has at most one output for the bytes of an input.
abbrev pub IsDetermined : Command → Type 0
IsDetermined command = (bytes : List ℕ) (status other : Status) (text text' : List ℕ)
    → IsOutputOf command bytes status text → IsOutputOf command bytes other text' → (status ≡ other)
    × (text ≡ text')

-- Whatever number a soak has, its output says that all 128 calls of its script are delivered and
-- none is an error, and its status is `Fine`.
abbrev pub SoaksDeliverAll : Type 0
SoaksDeliverAll = (number : ℕ) (status : Status) (text : List ℕ)
    → IsOutputOf (Soak number) [] status text
    → (status ≡ Fine) × (text ≡ codes "calls 128 delivered 128 errors 0\n")

-- An output is a refusal exactly where the command doesn't take the input.
abbrev pub RefuseWhatIsNotTaken : Type 0
RefuseWhatIsNotTaken = (command : Command) (bytes : List ℕ) (status : Status) (text : List ℕ)
    → IsOutputOf command bytes status text → (status ≡ Refused) ↔ ¬ (IsTaken command bytes)

-- The output for words that name no command.
abbrev pub IsUsage : Status → List ℕ → Type 0
IsUsage status text = (status ≡ Usage) × (text ≡ codes "usage: selfcheck COMMAND\n")

-- The output of the program, for its words and the bytes read: a status and a text.
abbrev pub IsOutput : List (String Global) → List ℕ → Status → List ℕ → Type 0
IsOutput words bytes status text = MatchOption (command_of words) (IsUsage status text)
    (λ command. IsOutputOf command bytes status text)

-- The bytes that a command works on, where the source holds `held`: those that are read of them,
-- and none where the command reads no source.
abbrev pub input_of : Command → List ℕ → List ℕ
input_of command held = if reads_source command then read_of held else []

-- A command works on `bytes`: those read from the source, where the command reads one; otherwise
-- none, and the source is left as it was. `old` and `new` are the bytes that the source had left
-- before and afterwards; where the source doesn't tell them (`None`), nothing is said of what was
-- read from it.
abbrev pub ReadsFor : Command → Option (List ℕ) → Option (List ℕ) → List ℕ → Type 0
ReadsFor command old new bytes =
    MatchBool (reads_source command) (HasRead old new bytes) (Keeps old new × (bytes ≡ []))

-- Where the words name a command, this command works on `bytes`, as `ReadsFor` says. Where they
-- name none, the source is left as it was, whatever `bytes` are. `old` and `new` are the bytes that
-- the source had left before and afterwards.
abbrev pub Reads : List (String Global) → Option (List ℕ) → Option (List ℕ) → List ℕ → Type 0
Reads words old new bytes =
    MatchOption (command_of words) (Keeps old new) (λ command. ReadsFor command old new bytes)

-- What the program has read and written when it ends with a status, where `IsOne` says which status
-- and text are an output for the bytes read. `left` and `left'` are the bytes that the source had
-- left before and afterwards, and `taken` and `taken'` those that the sink had taken.
abbrev pub EndsBy : (List ℕ → Status → List ℕ → Type 0) → List (String Global) → Status
    → Option (List ℕ) → Option (List ℕ) → Option (List ℕ) → Option (List ℕ) → Type 0
-- where a read failed or memory was lacking, nothing is written
EndsBy IsOne words ReadFault left left' taken taken' = Keeps taken taken'
EndsBy IsOne words NoMemory left left' taken taken' = Keeps taken taken'
-- where a write failed, a prefix of the output is written, and not all of it
EndsBy IsOne words WriteFault left left' taken taken' =
    (bytes : List ℕ) × (status : Status) × (text : List ℕ) × Reads words left left' bytes
    × IsOne bytes status text × AppendsPart taken taken' text
-- with any other status the output with this status is written whole
EndsBy IsOne words status left left' taken taken' =
    (bytes : List ℕ) × (text : List ℕ) × Reads words left left' bytes
    × IsOne bytes status text × Appends taken taken' text

-- What the program has read and written when it ends with a status.
abbrev pub Ends : List (String Global) → Status → Option (List ℕ) → Option (List ℕ)
    → Option (List ℕ) → Option (List ℕ) → Type 0
Ends words status left left' taken taken' =
    EndsBy (IsOutput words) words status left left' taken taken'

-- A status that says that the output was not written whole.
abbrev pub IsUnfinished : Status → Type 0
IsUnfinished status = (status ≡ ReadFault) ⊎ (status ≡ WriteFault) ⊎ (status ≡ NoMemory)
