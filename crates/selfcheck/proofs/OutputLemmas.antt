-- Lemmas on the outputs of commands and on how the program ends.
use Rattle.std.proofs.Common.{◌≡◌, ◌⊎◌, ℕ, ◌≤◌, List, [], length, Option, Some, None, Result, Ok, Err, String, Global, refl, sym, ap, ◌∙◌, subst, arith, inl, inr, codes}
use Rattle.std.specs.Prelude.{IfOk, MatchOption}
use Rattle.std.specs.Io.KnownBytes.{Appends}
use Rattle.std.proofs.KnownBytes.{Keeps-refl}
use Rattle.book_base.specs.declared.fault.TextFault.{TextFault}
use Rattle.book_base.specs.Book.{Page}
use Rattle.seq_objects.specs.Objects.{kind_spec}
use Rattle.book_text.proofs.Readings.{one_book, one_first_fault}
use Rattle.book_text.specs.Sketches.{sketch_lines}
use Rattle.seq_objects.specs.declared.kind.Kind.{Kind}
use Rattle.seq_objects.specs.declared.kind.Kind.TheVariants.{Queue}
use Rattle.sketch.specs.declared.event.Event.{Event}
use Rattle.sketch.specs.Sketch.{IsSketch}
use Rattle.sketch.proofs.Orderly.{books_have_one_sketch}
use Rattle.text_fields.specs.Lines.{text_of}
use Rattle.text_fields.specs.declared.version.Version.TheVariants.{Second}
use Rattle.selfcheck.specs.declared.command.Command.{Command}
use Rattle.selfcheck.specs.declared.command.Command.TheVariants.{Verify, Sketch, Order, Upgrade, Sets, Run, Replay, Certify, Monitor, Soak}
use Rattle.byte_streams.specs.declared.status.Status.{Status}
use Rattle.byte_streams.specs.declared.status.Status.TheVariants.{Fine, Found, Usage, Refused, ReadFault, WriteFault, NoMemory}
use Rattle.byte_streams.specs.declared.TheConstants.{INPUT_LIMIT}
use Rattle.selfcheck.specs.Command.{command_of}
use Rattle.test_objects.specs.declared.behaviour.Behaviour.TheVariants.{Lawful}
use Rattle.named_runs.specs.declared.form.Form.TheVariants.{Report, Counts, Certificate}
use Rattle.named_runs.specs.Runs.{counts_text}
use Rattle.named_runs.specs.BehaviourRuns.{IsNamedRunReport, IsNamedReplayReport}
use Rattle.selfcheck.specs.ScriptInput.{soak_plan}
use Rattle.text_fields.specs.Refusal.{refusal_text}
use Rattle.selfcheck.specs.Output.{InputForm, BookForm, CertificateForm, OldForm, SetForm, ScriptForm, MonitorForm, NoForm, form_of, IsTextOf, IsFirstFaultOf, IsTaken, IsVerdict, IsSketchText, IsSketchOutput, IsJudgement, IsRewritten, IsSetVerdict, IsAnswerOf, IsRefusal, IsOutputOf, HasOneStatus, RunsInside, SoaksDeliverAll, IsDetermined, RefuseWhatIsNotTaken, IsUsage, ReadsFor, Reads, EndsBy, Ends, IsUnfinished, input_of}
use Rattle.named_runs.specs.Shown.{Ended}
use Rattle.selfcheck.specs.declared.output.Output.{Output}
use Rattle.selfcheck.specs.Watched.{IsSeenAnswer, IsSeenOutputOf, IsSeenOutput}
use Rattle.selfcheck.specs.Orders.{order_fault_text}
use Rattle.byte_streams.specs.Told.{AppendsPart}
use Rattle.byte_streams.specs.Writing.{EndsWriting}
use Rattle.byte_streams.proofs.WritingLemmas.{EndsWriting-weaker}
use Rattle.selfcheck.specs.UpgradeLaws.{UpgradesSayTheSame, UpgradesKeepOrders}
use Rattle.certificate_text.proofs.BookLemmas.{IsTextOfBook-from_told, IsTextOfBook-from_legal, IsTextOfBook-from_illegal, legal_or_illegal, book_or_fault}
use Rattle.certificate_text.proofs.CertificateLemmas.{IsTextOfCertificate-from_legal, IsTextOfCertificate-from_faulty, certificate_or_fault, legal_or_faulty, one_order_fault}
use Rattle.selfcheck.proofs.InputLemmas.{one_refusal}
use Rattle.certificate_text.proofs.Readings.{one_fault}
use Rattle.client_scripts.proofs.Readings as scripts
use Rattle.set_order.proofs.SharpSetBooks as set_books
use Rattle.selfcheck.proofs.SetLemmas.{IsSetInput-from_legal, IsSetInput-from_illegal, set_input_or_fault, legal_or_illegal_sets}
use Rattle.selfcheck.proofs.ScriptLemmas.{IsScriptInput-from_shown, script_input_or_fault, run_statuses, fine_without_error}
use Rattle.selfcheck.proofs.SoakLemmas.{soak_counts, soak_line}
use Rattle.selfcheck.proofs.MonitorLemmas.{IsMonitorInput-from_plan, monitor_input_or_fault, one_monitor_fault, monitor_statuses}
use Rattle.selfcheck.proofs.UpgradeLemmas.{old_or_fault, one_old_fault, old-from_upgraded, one_upgraded, says_the_same, one_order}

-- ---- forms of texts: one case a form

-- a text of the form has no first fault
text_or_fault : (form : InputForm) (bytes : List ℕ) (fault : TextFault) → IsTextOf form bytes
    → IsFirstFaultOf form bytes fault → ⊥
text_or_fault BookForm bytes fault book first = book_or_fault bytes fault book first
text_or_fault CertificateForm bytes fault certificate first =
    certificate_or_fault bytes fault certificate first
text_or_fault OldForm bytes fault old first = old_or_fault bytes fault old first
text_or_fault SetForm bytes fault told first = set_input_or_fault bytes fault told first
text_or_fault ScriptForm bytes fault told first = script_input_or_fault bytes fault told first
text_or_fault MonitorForm bytes fault told first = monitor_input_or_fault bytes fault told first
text_or_fault NoForm bytes fault none first = first

-- bytes have one first fault
one_fault_of : (form : InputForm) (bytes : List ℕ) (a b : TextFault) → IsFirstFaultOf form bytes a
    → IsFirstFaultOf form bytes b → a ≡ b
one_fault_of BookForm bytes a b p q = one_first_fault Second bytes a b p q
one_fault_of CertificateForm bytes a b p q = one_fault bytes a b p q
one_fault_of OldForm bytes a b p q = one_old_fault bytes a b p q
one_fault_of SetForm bytes a b p q = set_books.one_first_fault bytes a b p q
one_fault_of ScriptForm bytes a b p q = scripts.one_first_fault Second bytes a b p q
one_fault_of MonitorForm bytes a b p q = one_monitor_fault bytes a b p q
one_fault_of NoForm bytes a b p q = absurd p

-- ---- what commands answer: one case a command

-- an answer has one of the statuses `Fine` and `Found`
answer_statuses : (command : Command) (bytes : List ℕ) (status : Status) (text : List ℕ)
    → IsAnswerOf command bytes status text → (status ≡ Fine) ⊎ (status ≡ Found)
answer_statuses Verify bytes Fine text answer = inl refl
answer_statuses Verify bytes Found text answer = inr refl
answer_statuses Verify bytes _ text answer = absurd answer
answer_statuses Sketch bytes Fine text answer = inl refl
answer_statuses Sketch bytes _ text answer = absurd answer
answer_statuses Order bytes Fine text answer = inl refl
answer_statuses Order bytes Found text answer = inr refl
answer_statuses Order bytes _ text answer = absurd answer
answer_statuses Upgrade bytes Fine text answer = inl refl
answer_statuses Upgrade bytes _ text answer = absurd answer
answer_statuses Sets bytes Fine text answer = inl refl
answer_statuses Sets bytes Found text answer = inr refl
answer_statuses Sets bytes _ text answer = absurd answer
answer_statuses (Run behaviour) bytes status text answer = run_statuses
    (kind_spec answer.0.kind) (IsNamedRunReport behaviour answer.0) Report status text answer.2
answer_statuses (Replay behaviour) bytes status text answer =
    run_statuses (kind_spec answer.0.kind)
    (IsNamedReplayReport behaviour answer.0) Report status text answer.2
answer_statuses (Certify behaviour) bytes status text answer =
    run_statuses (kind_spec answer.0.kind)
    (IsNamedRunReport behaviour answer.0) Certificate status text answer.2
answer_statuses (Monitor behaviour) bytes status text answer =
    monitor_statuses answer.0.kind answer.3.0 status text answer.3.2
answer_statuses (Soak number) bytes status text answer = run_statuses (kind_spec Queue)
    (IsNamedRunReport Lawful (soak_plan number)) Counts status text answer.1

-- an input that is answered is a text of the wanted form
answered_is_wanted : (command : Command) (bytes : List ℕ) (status : Status) (text : List ℕ)
    → IsAnswerOf command bytes status text → IsTextOf (form_of command) bytes
answered_is_wanted Verify bytes Fine text answer = IsTextOfBook-from_legal bytes answer.0
answered_is_wanted Verify bytes Found text answer = IsTextOfBook-from_illegal bytes answer.0
answered_is_wanted Verify bytes _ text answer = absurd answer
answered_is_wanted Sketch bytes Fine text answer =
    IsTextOfBook-from_told bytes answer.kind answer.book answer.told
answered_is_wanted Sketch bytes _ text answer = absurd answer
answered_is_wanted Order bytes Fine text answer = IsTextOfCertificate-from_legal bytes answer.0
answered_is_wanted Order bytes Found text answer =
    IsTextOfCertificate-from_faulty bytes answer.0 answer.1
answered_is_wanted Order bytes _ text answer = absurd answer
answered_is_wanted Upgrade bytes Fine text answer = old-from_upgraded bytes text answer
answered_is_wanted Upgrade bytes _ text answer = absurd answer
answered_is_wanted Sets bytes Fine text answer = IsSetInput-from_legal bytes answer.0
answered_is_wanted Sets bytes Found text answer = IsSetInput-from_illegal bytes answer.0
answered_is_wanted Sets bytes _ text answer = absurd answer
answered_is_wanted (Run behaviour) bytes status text answer =
    IsScriptInput-from_shown (IsNamedRunReport behaviour) Report bytes status text answer
answered_is_wanted (Replay behaviour) bytes status text answer =
    IsScriptInput-from_shown (IsNamedReplayReport behaviour) Report bytes status text answer
answered_is_wanted (Certify behaviour) bytes status text answer =
    IsScriptInput-from_shown (IsNamedRunReport behaviour) Certificate bytes status text answer
answered_is_wanted (Monitor behaviour) bytes status text answer =
    IsMonitorInput-from_plan bytes answer.0 answer.1 answer.2
answered_is_wanted (Soak number) bytes status text answer = answer.0

-- ---- outputs

-- an output answers an input that the command takes, or refuses one
output_cases : (command : Command) (bytes : List ℕ) (status : Status) (text : List ℕ)
    → IsOutputOf command bytes status text
    → ((length bytes ≤ INPUT_LIMIT) × IsAnswerOf command bytes status text)
    ⊎ ((status ≡ Refused) × IsRefusal command bytes text)
output_cases command bytes Refused text output = inr (refl, output)
output_cases command bytes _ text output = inl output

-- an input that is taken isn't refused
taken_or_refused : (command : Command) (bytes text : List ℕ) → IsTaken command bytes
    → IsRefusal command bytes text → ⊥
taken_or_refused command bytes text taken refusal =
    elim refusal.1 [
      | inl long ↦ omega (arith, taken.0, long.0)
      | inr short ↦ text_or_fault (form_of command) bytes refusal.0 taken.1 short.1
    ]

-- an output refuses the input exactly where the command doesn't take it
pub refuse_what_is_not_taken : RefuseWhatIsNotTaken
refuse_what_is_not_taken command bytes status text output =
    elim (output_cases command bytes status text output) [
      | inl a ↦ (
        λ e. absurd (elim (answer_statuses command bytes status text a.1) [
          | inl fine ↦ cc (e, fine)
          | inr found ↦ cc (e, found)
        ]),
        λ untaken. absurd (untaken (a.0, answered_is_wanted command bytes status text a.1)),
      )
      | inr a ↦ (λ _ taken. taken_or_refused command bytes text taken a.1, λ _. a.0)
    ]

-- an output has no status of an unfinished program
finished : (command : Command) (bytes : List ℕ) (status : Status) (text : List ℕ)
    → IsOutputOf command bytes status text → IsUnfinished status → ⊥
finished command bytes ReadFault text output unfinished =
    elim (answer_statuses command bytes ReadFault text output.1) [
      | inl e ↦ cc e
      | inr e ↦ cc e
    ]
finished command bytes WriteFault text output unfinished =
    elim (answer_statuses command bytes WriteFault text output.1) [
      | inl e ↦ cc e
      | inr e ↦ cc e
    ]
finished command bytes NoMemory text output unfinished =
    elim (answer_statuses command bytes NoMemory text output.1) [
      | inl e ↦ cc e
      | inr e ↦ cc e
    ]
finished command bytes _ text output (inl e) = cc e
finished command bytes _ text output (inr (inl e)) = cc e
finished command bytes _ text output (inr (inr e)) = cc e

-- an input is refused in one way
one_refusal_text : (command : Command) (bytes text text' : List ℕ) → IsRefusal command bytes text
    → IsRefusal command bytes text' → text ≡ text'
one_refusal_text command bytes text text' a b =
    let same : a.0 ≡ b.0 = one_refusal (IsFirstFaultOf (form_of command)) bytes a.0 b.0
    (one_fault_of (form_of command) bytes) a.1 b.1 in
    a.2 ∙ ap refusal_text same ∙ sym b.2

-- a command whose answers the bytes determine has one output for them
IsDetermined-from_answers : (command : Command)
    → ((bytes : List ℕ) (status other : Status) (text text' : List ℕ) → IsAnswerOf command bytes
    status text → IsAnswerOf command bytes other text' → (status ≡ other) × (text ≡ text'))
    → IsDetermined command
IsDetermined-from_answers command one bytes status other text text' output output' =
    elim (output_cases command bytes status text output) [
      | inl a ↦ elim (output_cases command bytes other text' output') [
        | inl b ↦ one bytes status other text text' a.1 b.1
        | inr b ↦ absurd (taken_or_refused command bytes text'
            (a.0, answered_is_wanted command bytes status text a.1) b.1)
      ]
      | inr a ↦ elim (output_cases command bytes other text' output') [
        | inl b ↦ absurd (taken_or_refused command bytes text
            (b.0, answered_is_wanted command bytes other text' b.1) a.1)
        | inr b ↦ (a.0 ∙ sym b.0, one_refusal_text command bytes text text' a.1 b.1)
      ]
    ]

one_verdict : (bytes : List ℕ) (status other : Status) (text text' : List ℕ)
    → IsVerdict bytes status text → IsVerdict bytes other text' → (status ≡ other) × (text ≡ text')
one_verdict bytes Fine Fine text text' a b = (refl, a.1 ∙ sym b.1)
one_verdict bytes Fine Found text text' a b = absurd (legal_or_illegal bytes a.0 b.0)
one_verdict bytes Fine _ text text' a b = absurd b
one_verdict bytes Found Fine text text' a b = absurd (legal_or_illegal bytes b.0 a.0)
one_verdict bytes Found Found text text' a b = (refl, a.1 ∙ sym b.1)
one_verdict bytes Found _ text text' a b = absurd b
one_verdict bytes _ other text text' a b = absurd a

-- the bytes determine the output of `verify`
pub verify_is_determined : IsDetermined Verify
verify_is_determined = IsDetermined-from_answers Verify one_verdict

one_sketch_text : (bytes text text' : List ℕ) → IsSketchText bytes text → IsSketchText bytes text'
    → text ≡ text'
one_sketch_text bytes text text' a b =
    let same = one_book Second bytes a.kind b.kind a.book b.book a.told b.told in
    let here : IsSketch b.book a.events =
    subst (λ (book : List Page). IsSketch book a.events) same.1 a.sketched in
    let events : a.events ≡ b.events =
    books_have_one_sketch b.book a.events b.events here b.sketched in
    let written : Kind → List Page → List Event → List ℕ =
    λ kind book list. text_of (sketch_lines kind book list) in
    a.text_is ∙ ap (λ (kind : Kind). written kind a.book a.events) same.0
    ∙ ap (λ (book : List Page). written b.kind book a.events) same.1
    ∙ ap (written b.kind b.book) events ∙ sym b.text_is

one_drawing : (bytes : List ℕ) (status other : Status) (text text' : List ℕ)
    → IsSketchOutput bytes status text → IsSketchOutput bytes other text' → (status ≡ other)
    × (text ≡ text')
one_drawing bytes Fine Fine text text' a b = (refl, one_sketch_text bytes text text' a b)
one_drawing bytes Fine _ text text' a b = absurd b
one_drawing bytes _ other text text' a b = absurd a

-- the bytes determine the output of `sketch`
pub sketch_is_determined : IsDetermined Sketch
sketch_is_determined = IsDetermined-from_answers Sketch one_drawing

one_judgement : (bytes : List ℕ) (status other : Status) (text text' : List ℕ)
    → IsJudgement bytes status text → IsJudgement bytes other text' → (status ≡ other)
    × (text ≡ text')
one_judgement bytes Fine Fine text text' a b = (refl, a.1 ∙ sym b.1)
one_judgement bytes Fine Found text text' a b = absurd (legal_or_faulty bytes b.0 a.0 b.1)
one_judgement bytes Fine _ text text' a b = absurd b
one_judgement bytes Found Fine text text' a b = absurd (legal_or_faulty bytes a.0 b.0 a.1)
one_judgement bytes Found Found text text' a b =
    (refl, a.2 ∙ ap order_fault_text (one_order_fault bytes a.0 b.0 a.1 b.1) ∙ sym b.2)
one_judgement bytes Found _ text text' a b = absurd b
one_judgement bytes _ other text text' a b = absurd a

-- the bytes determine the output of `order`
pub order_is_determined : IsDetermined Order
order_is_determined = IsDetermined-from_answers Order one_judgement

one_rewriting : (bytes : List ℕ) (status other : Status) (text text' : List ℕ)
    → IsRewritten bytes status text → IsRewritten bytes other text' → (status ≡ other)
    × (text ≡ text')
one_rewriting bytes Fine Fine text text' a b = (refl, one_upgraded bytes text text' a b)
one_rewriting bytes Fine _ text text' a b = absurd b
one_rewriting bytes _ other text text' a b = absurd a

-- the bytes determine the output of `upgrade`
pub upgrade_is_determined : IsDetermined Upgrade
upgrade_is_determined = IsDetermined-from_answers Upgrade one_rewriting

-- what `upgrade` writes says the same as its input
pub upgrades_say_the_same : UpgradesSayTheSame
upgrades_say_the_same bytes text output = says_the_same bytes text output.1

-- the book in the output has the legal orders of the book in the input
pub upgrades_keep_orders : UpgradesKeepOrders
upgrades_keep_orders bytes text kind other book another output old new order =
    one_order bytes text kind other book another output.1 old new order

one_set_verdict : (bytes : List ℕ) (status other : Status) (text text' : List ℕ)
    → IsSetVerdict bytes status text → IsSetVerdict bytes other text' → (status ≡ other)
    × (text ≡ text')
one_set_verdict bytes Fine Fine text text' h k = (refl, h.1 ∙ sym k.1)
one_set_verdict bytes Found Found text text' h k = (refl, h.1 ∙ sym k.1)
one_set_verdict bytes Fine Found text text' h k = absurd (legal_or_illegal_sets bytes h.0 k.0)
one_set_verdict bytes Found Fine text text' h k = absurd (legal_or_illegal_sets bytes k.0 h.0)
one_set_verdict bytes Fine _ text text' h k = absurd k
one_set_verdict bytes Found _ text text' h k = absurd k
one_set_verdict bytes _ other text text' h k = absurd h

-- the bytes determine the output of `sets`
pub sets_is_determined : IsDetermined Sets
sets_is_determined = IsDetermined-from_answers Sets one_set_verdict

-- ---- runs over objects inside the world

-- the answer of a command that makes a run over an object inside the world has the status `Fine`:
-- one case a command
fine_answer : (command : Command) (bytes : List ℕ) (status : Status) (text : List ℕ)
    → RunsInside command bytes → IsAnswerOf command bytes status text → status ≡ Fine
fine_answer (Run behaviour) bytes status text inside answer =
    fine_without_error (kind_spec answer.0.kind) (IsNamedRunReport behaviour answer.0) Report
    status text (λ report is. is.no_error (inside answer.0 answer.1)) answer.2
fine_answer (Certify behaviour) bytes status text inside answer =
    fine_without_error (kind_spec answer.0.kind) (IsNamedRunReport behaviour answer.0)
    Certificate status text (λ report is. is.no_error (inside answer.0 answer.1)) answer.2
fine_answer (Soak number) bytes status text inside answer =
    fine_without_error (kind_spec Queue) (IsNamedRunReport Lawful (soak_plan number)) Counts
    status text (λ report is. is.no_error refl) answer.1
fine_answer command bytes status text inside answer = absurd inside

-- all outputs for a script that is taken, over an object inside the world, have the status `Fine`
pub inside_is_fine : (command : Command) (bytes : List ℕ) → IsTaken command bytes
    → RunsInside command bytes → HasOneStatus command bytes Fine
inside_is_fine command bytes taken inside other text output =
    elim (output_cases command bytes other text output) [
      | inl a ↦ fine_answer command bytes other text inside a.1
      | inr a ↦ absurd (taken_or_refused command bytes text taken a.1)
    ]

soak_is_taken : (number : ℕ) → IsTaken (Soak number) []
soak_is_taken number = (omega arith, refl)

-- the answer of a soak is that all calls of its script are delivered
soak_says : (number : ℕ) (bytes : List ℕ) (status : Status) (text : List ℕ)
    → IsAnswerOf (Soak number) bytes status text → (status ≡ Fine)
    × (text ≡ codes "calls 128 delivered 128 errors 0\n")
soak_says number bytes status text answer = (
  fine_answer (Soak number) bytes status text tt answer,
  answer.1.2 ∙ ap counts_text (soak_counts number answer.1.0 answer.1.1) ∙ soak_line,
)

one_soak : (number : ℕ) (bytes : List ℕ) (status other : Status) (text text' : List ℕ)
    → IsAnswerOf (Soak number) bytes status text → IsAnswerOf (Soak number) bytes other text'
    → (status ≡ other) × (text ≡ text')
one_soak number bytes status other text text' a b =
    let one = soak_says number bytes status text a in
    let also = soak_says number bytes other text' b in
    (one.0 ∙ sym also.0, one.1 ∙ sym also.1)

pub soak_is_determined : (number : ℕ) → IsDetermined (Soak number)
soak_is_determined number = IsDetermined-from_answers (Soak number) (one_soak number)

pub soaks_deliver_all : SoaksDeliverAll
soaks_deliver_all number status text output =
    elim (output_cases (Soak number) [] status text output) [
      | inl a ↦ soak_says number [] status text a.1
      | inr a ↦ absurd (taken_or_refused (Soak number) [] text (soak_is_taken number) a.1)
    ]

-- ---- how a call that writes an output ends

EndsWriting-whole : (IsOne : Status → List ℕ → Type 0) (status : Status)
    (taken taken' : Option (List ℕ)) (text : List ℕ)
    → (IsUnfinished status → ⊥) → IsOne status text → Appends taken taken' text
    → EndsWriting IsOne status taken taken'
EndsWriting-whole IsOne ReadFault taken taken' text is_done one whole = is_done (inl refl)
EndsWriting-whole IsOne WriteFault taken taken' text is_done one whole =
    absurd (is_done (inr (inl refl)))
EndsWriting-whole IsOne NoMemory taken taken' text is_done one whole =
    absurd (is_done (inr (inr refl)))
EndsWriting-whole IsOne Fine taken taken' text is_done one whole = (text, one, whole)
EndsWriting-whole IsOne Found taken taken' text is_done one whole = (text, one, whole)
EndsWriting-whole IsOne Usage taken taken' text is_done one whole = (text, one, whole)
EndsWriting-whole IsOne Refused taken taken' text is_done one whole = (text, one, whole)

-- an output was written whole, or a part of it
EndsWriting-written : {P : Type 0} (IsOne : Status → List ℕ → Type 0) (status result : Status)
    (taken taken' : Option (List ℕ)) (text : List ℕ)
    → (IsUnfinished status → ⊥) → IsOne status text
    → ((result ≡ status) × Appends taken taken' text)
    ⊎ ((result ≡ WriteFault) × AppendsPart taken taken' text × P)
    → EndsWriting IsOne result taken taken'
EndsWriting-written IsOne status result taken taken' text is_done one (inl whole) =
    rw whole.0 (EndsWriting-whole IsOne status taken taken' text is_done one whole.1)
EndsWriting-written IsOne status result taken taken' text is_done one (inr part) =
    rw part.0 (status, text, one, part.1)

-- ---- what an onlooker was shown beside

-- an answer of which an onlooker was shown the table is an answer: one case a command
plain_answer : (command : Command) (shown shown' : Option (List Ended)) (bytes : List ℕ)
    (status : Status) (text : List ℕ) → IsSeenAnswer command shown shown' bytes status text
    → IsAnswerOf command bytes status text
plain_answer Verify shown shown' bytes status text answer = answer.1
plain_answer Sketch shown shown' bytes status text answer = answer.1
plain_answer Order shown shown' bytes status text answer = answer.1
plain_answer Upgrade shown shown' bytes status text answer = answer.1
plain_answer Sets shown shown' bytes status text answer = answer.1
plain_answer (Run behaviour) shown shown' bytes status text answer =
    (answer.0, answer.1, (answer.2.0, answer.2.1.named, answer.2.2, answer.2.3))
plain_answer (Replay behaviour) shown shown' bytes status text answer =
    (answer.0, answer.1, (answer.2.0, answer.2.1.named, answer.2.2, answer.2.3))
plain_answer (Certify behaviour) shown shown' bytes status text answer =
    (answer.0, answer.1, (answer.2.0, answer.2.1.named, answer.2.2, answer.2.3))
plain_answer (Monitor behaviour) shown shown' bytes status text answer =
    (answer.0, answer.1, answer.2, (answer.3.0, answer.3.1.named, answer.3.2))
plain_answer (Soak number) shown shown' bytes status text answer =
    (answer.0, (answer.1.0, answer.1.1.named, answer.1.2, answer.1.3))

plain_output : (command : Command) (shown shown' : Option (List Ended)) (bytes : List ℕ)
    (status : Status) (text : List ℕ) → IsSeenOutputOf command shown shown' bytes status text
    → IsOutputOf command bytes status text
plain_output command shown shown' bytes Refused text output = output.1
plain_output command shown shown' bytes _ text output =
    (output.0, plain_answer command shown shown' bytes _ text output.1)

-- what is written of a command's output is written of it whatever an onlooker was shown
pub EndsWriting-plain : (command : Command) (shown shown' : Option (List Ended)) (bytes : List ℕ)
    (result : Status) (taken taken' : Option (List ℕ))
    → EndsWriting (IsSeenOutputOf command shown shown' bytes) result taken taken'
    → EndsWriting (IsOutputOf command bytes) result taken taken'
EndsWriting-plain command shown shown' bytes result taken taken' ends =
    EndsWriting-weaker (IsSeenOutputOf command shown shown' bytes) (IsOutputOf command bytes) result
    taken taken' (plain_output command shown shown' bytes) ends

-- The command makes no run.
abbrev pub MakesNoRun : Command → Type 0
MakesNoRun (Run behaviour) = ⊥
MakesNoRun (Replay behaviour) = ⊥
MakesNoRun (Certify behaviour) = ⊥
MakesNoRun (Monitor behaviour) = ⊥
MakesNoRun (Soak number) = ⊥
MakesNoRun command = Unit {0}

-- a command that makes no run has an answer though an onlooker was shown nothing
seen_answer : (command : Command) (shown : Option (List Ended)) (bytes : List ℕ) (status : Status)
    (text : List ℕ) → MakesNoRun command → IsAnswerOf command bytes status text
    → IsSeenAnswer command shown shown bytes status text
seen_answer Verify shown bytes status text none answer = (refl, answer)
seen_answer Sketch shown bytes status text none answer = (refl, answer)
seen_answer Order shown bytes status text none answer = (refl, answer)
seen_answer Upgrade shown bytes status text none answer = (refl, answer)
seen_answer Sets shown bytes status text none answer = (refl, answer)
seen_answer (Run behaviour) shown bytes status text none answer = absurd none
seen_answer (Replay behaviour) shown bytes status text none answer = absurd none
seen_answer (Certify behaviour) shown bytes status text none answer = absurd none
seen_answer (Monitor behaviour) shown bytes status text none answer = absurd none
seen_answer (Soak number) shown bytes status text none answer = absurd none

seen_output : (command : Command) (shown : Option (List Ended)) (bytes : List ℕ) (status : Status)
    (text : List ℕ) → MakesNoRun command → IsOutputOf command bytes status text
    → IsSeenOutputOf command shown shown bytes status text
seen_output command shown bytes Refused text none output = (refl, output)
seen_output command shown bytes _ text none output =
    (output.0, seen_answer command shown bytes _ text none output.1)

-- an output that is made of a command without a run is one where an onlooker was shown nothing
pub if_seen : {E : Type 0} (command : Command) (shown : Option (List Ended)) (bytes : List ℕ)
    (made : Result Output E) → MakesNoRun command
    → IfOk made (λ output. IsOutputOf command bytes output.status output.text.items)
    → IfOk made (λ output. IsSeenOutputOf command shown shown bytes output.status output.text.items)
if_seen command shown bytes (Ok output) none is =
    seen_output command shown bytes output.status output.text.items none is
if_seen command shown bytes (Err fault) none is = tt

-- what is written of a command is written of it under another name
pub EndsWriting-named : (command known : Command) (shown shown' : Option (List Ended))
    (bytes : List ℕ) (result : Status) (taken taken' : Option (List ℕ)) → command ≡ known
    → EndsWriting (IsSeenOutputOf known shown shown' bytes) result taken taken'
    → EndsWriting (IsSeenOutputOf command shown shown' bytes) result taken taken'
EndsWriting-named command known shown shown' bytes result taken taken' is ends =
    subst (λ (c : Command). EndsWriting (IsSeenOutputOf c shown shown' bytes) result taken taken')
    (sym is) ends

-- the output of a command was written whole, or a part of it
pub EndsWriting-output : {P : Type 0} (command : Command) (shown shown' : Option (List Ended))
    (bytes : List ℕ) (status result : Status)
    (taken taken' : Option (List ℕ)) (text : List ℕ)
    → IsSeenOutputOf command shown shown' bytes status text
    → ((result ≡ status) × Appends taken taken' text)
    ⊎ ((result ≡ WriteFault) × AppendsPart taken taken' text × P)
    → EndsWriting (IsSeenOutputOf command shown shown' bytes) result taken taken'
EndsWriting-output command shown shown' bytes status result taken taken' text output written =
    EndsWriting-written (IsSeenOutputOf command shown shown' bytes) status result taken taken' text
    (finished command bytes status text (plain_output command shown shown' bytes status text output))
    output written

-- an answer to an input that isn't too long is an output
IsSeenOutputOf-from_answer : (command : Command) (shown shown' : Option (List Ended))
    (bytes : List ℕ) (status : Status) (text : List ℕ)
    → length bytes ≤ INPUT_LIMIT → IsSeenAnswer command shown shown' bytes status text
    → IsSeenOutputOf command shown shown' bytes status text
IsSeenOutputOf-from_answer command shown shown' bytes Refused text short answer =
    absurd (elim (answer_statuses command bytes Refused text
    (plain_answer command shown shown' bytes Refused text answer)) [
      | inl e ↦ cc e
      | inr e ↦ cc e
    ])
IsSeenOutputOf-from_answer command shown shown' bytes _ text short answer = (short, answer)

-- a call that wrote one of a command's answers, or a part of it, has written an output of the
-- command
pub EndsWriting-answer : (command : Command) (shown shown' : Option (List Ended)) (bytes : List ℕ)
    (IsOne : Status → List ℕ → Type 0) (result : Status) (taken taken' : Option (List ℕ))
    → length bytes ≤ INPUT_LIMIT
    → ((status : Status) (text : List ℕ) → IsOne status text
    → IsSeenAnswer command shown shown' bytes status text)
    → EndsWriting IsOne result taken taken'
    → EndsWriting (IsSeenOutputOf command shown shown' bytes) result taken taken'
EndsWriting-answer command shown shown' bytes IsOne result taken taken' short answers ends =
    EndsWriting-weaker IsOne (IsSeenOutputOf command shown shown' bytes) result taken taken'
    (λ status text one. IsSeenOutputOf-from_answer command shown shown' bytes status text short
    (answers status text one)) ends

-- ---- how the program ends

Reads-named : (words : List (String Global)) (command : Command) (old new : Option (List ℕ))
    (bytes : List ℕ)
    → command_of words ≡ Some command → ReadsFor command old new bytes → Reads words old new bytes
Reads-named words command old new bytes named reads = rw named reads

IsOutput-named : (words : List (String Global)) (command : Command)
    (shown shown' : Option (List Ended)) (bytes : List ℕ) (status : Status) (text : List ℕ)
    → command_of words ≡ Some command → IsSeenOutputOf command shown shown' bytes status text
    → IsSeenOutput words shown shown' bytes status text
IsOutput-named words command shown shown' bytes status text named output = rw named output

-- words name one command
pub one_named : (words : List (String Global)) (a b : Command) → command_of words ≡ Some a
    → command_of words ≡ Some b → a ≡ b
one_named words a b named also = same (sym named ∙ also)
  where
    same : ◌≡◌ {A = Option Command} (Some a) (Some b) → a ≡ b
    same e = cc

-- the program has ended as the command that its words name has
pub Ends-answered : (words : List (String Global)) (command : Command)
    (shown shown' : Option (List Ended)) (result : Status)
    (left left' taken taken' : Option (List ℕ)) (bytes : List ℕ)
    → command_of words ≡ Some command → ReadsFor command left left' bytes
    → EndsWriting (IsSeenOutputOf command shown shown' bytes) result taken taken'
    → EndsBy (IsSeenOutput words shown shown') words result left left' taken taken'
Ends-answered words command shown shown' ReadFault left left' taken taken' bytes named reads ends =
    absurd ends
Ends-answered words command shown shown' NoMemory left left' taken taken' bytes named reads ends =
    ends
Ends-answered words command shown shown' WriteFault left left' taken taken' bytes named reads
    ends = (
      bytes,
      ends.0,
      ends.1,
      Reads-named words command left left' bytes named reads,
      IsOutput-named words command shown shown' bytes ends.0 ends.1 named ends.2,
      ends.3,
    )
Ends-answered words command shown shown' Fine left left' taken taken' bytes named reads ends = (
  bytes,
  ends.0,
  Reads-named words command left left' bytes named reads,
  IsOutput-named words command shown shown' bytes Fine ends.0 named ends.1,
  ends.2,
)
Ends-answered words command shown shown' Found left left' taken taken' bytes named reads ends = (
  bytes,
  ends.0,
  Reads-named words command left left' bytes named reads,
  IsOutput-named words command shown shown' bytes Found ends.0 named ends.1,
  ends.2,
)
Ends-answered words command shown shown' Usage left left' taken taken' bytes named reads ends = (
  bytes,
  ends.0,
  Reads-named words command left left' bytes named reads,
  IsOutput-named words command shown shown' bytes Usage ends.0 named ends.1,
  ends.2,
)
Ends-answered words command shown shown' Refused left left' taken taken' bytes named reads ends = (
  bytes,
  ends.0,
  Reads-named words command left left' bytes named reads,
  IsOutput-named words command shown shown' bytes Refused ends.0 named ends.1,
  ends.2,
)

-- the program has ended with the usage line, which was written whole, or a part of it
pub Ends-usage : {P : Type 0} (words : List (String Global)) (shown : Option (List Ended))
    (result : Status) (left taken taken' : Option (List ℕ))
    → command_of words ≡ None
    → ((result ≡ Usage) × Appends taken taken' (codes "usage: selfcheck COMMAND\n"))
    ⊎ ((result ≡ WriteFault) × AppendsPart taken taken' (codes "usage: selfcheck COMMAND\n") × P)
    → EndsBy (IsSeenOutput words shown shown) words result left left taken taken'
Ends-usage words shown result left taken taken' unnamed (inl whole) =
    rw whole.0 (
      [],
      codes "usage: selfcheck COMMAND\n",
      rw unnamed (Keeps-refl left),
      rw unnamed (refl, (refl, refl)),
      whole.1,
    )
Ends-usage words shown result left taken taken' unnamed (inr part) =
    rw part.0 (
      [],
      Usage,
      codes "usage: selfcheck COMMAND\n",
      rw unnamed (Keeps-refl left),
      rw unnamed (refl, (refl, refl)),
      part.1,
    )

-- an output of the program is one whatever an onlooker was shown
plain_named : (named : Option Command) (shown shown' : Option (List Ended)) (bytes : List ℕ)
    (status : Status) (text : List ℕ)
    → MatchOption named ((shown' ≡ shown) × IsUsage status text)
    (λ command. IsSeenOutputOf command shown shown' bytes status text)
    → MatchOption named (IsUsage status text) (λ command. IsOutputOf command bytes status text)
plain_named None shown shown' bytes status text output = output.1
plain_named (Some command) shown shown' bytes status text output =
    plain_output command shown shown' bytes status text output

-- the program has ended with an output whatever an onlooker was shown
pub Ends-plain : (words : List (String Global)) (shown shown' : Option (List Ended))
    (result : Status) (left left' taken taken' : Option (List ℕ))
    → EndsBy (IsSeenOutput words shown shown') words result left left' taken taken'
    → Ends words result left left' taken taken'
Ends-plain words shown shown' ReadFault left left' taken taken' ends = ends
Ends-plain words shown shown' NoMemory left left' taken taken' ends = ends
Ends-plain words shown shown' WriteFault left left' taken taken' ends = (
  ends.0,
  ends.1,
  ends.2,
  ends.3,
  plain_named (command_of words) shown shown' ends.0 ends.1 ends.2 ends.4,
  ends.5,
)
Ends-plain words shown shown' Fine left left' taken taken' ends = (
  ends.0,
  ends.1,
  ends.2,
  plain_named (command_of words) shown shown' ends.0 Fine ends.1 ends.3,
  ends.4,
)
Ends-plain words shown shown' Found left left' taken taken' ends = (
  ends.0,
  ends.1,
  ends.2,
  plain_named (command_of words) shown shown' ends.0 Found ends.1 ends.3,
  ends.4,
)
Ends-plain words shown shown' Usage left left' taken taken' ends = (
  ends.0,
  ends.1,
  ends.2,
  plain_named (command_of words) shown shown' ends.0 Usage ends.1 ends.3,
  ends.4,
)
Ends-plain words shown shown' Refused left left' taken taken' ends = (
  ends.0,
  ends.1,
  ends.2,
  plain_named (command_of words) shown shown' ends.0 Refused ends.1 ends.3,
  ends.4,
)

-- ---- what the bytes of a source that tells them decide

-- the bytes that a command works on are those of its source, up to one past the limit
input_is : (command : Command) (held : List ℕ) (new : Option (List ℕ)) (bytes : List ℕ)
    → ReadsFor command (Some held) new bytes → bytes ≡ input_of command held
input_is Verify held new bytes reads = reads.0
input_is Sketch held new bytes reads = reads.0
input_is Order held new bytes reads = reads.0
input_is Upgrade held new bytes reads = reads.0
input_is Sets held new bytes reads = reads.0
input_is (Run behaviour) held new bytes reads = reads.0
input_is (Replay behaviour) held new bytes reads = reads.0
input_is (Certify behaviour) held new bytes reads = reads.0
input_is (Monitor behaviour) held new bytes reads = reads.0
input_is (Soak number) held new bytes reads = reads.1

-- where all outputs have one status, a call that wrote one has this status
one_status : (IsOne : Status → List ℕ → Type 0) (status result : Status)
    (taken taken' : Option (List ℕ)) → EndsWriting IsOne result taken taken'
    → ((other : Status) (text : List ℕ) → IsOne other text → other ≡ status) → (result ≡ status)
    ⊎ IsUnfinished result
one_status IsOne status ReadFault taken taken' ends one = absurd ends
one_status IsOne status WriteFault taken taken' ends one = inr (inr (inl refl))
one_status IsOne status NoMemory taken taken' ends one = inr (inr (inr refl))
one_status IsOne status Fine taken taken' ends one = inl (one Fine ends.0 ends.1)
one_status IsOne status Found taken taken' ends one = inl (one Found ends.0 ends.1)
one_status IsOne status Usage taken taken' ends one = inl (one Usage ends.0 ends.1)
one_status IsOne status Refused taken taken' ends one = inl (one Refused ends.0 ends.1)

-- the answer is the one status of all outputs for the bytes that the source held
pub exact-from_ends : (command : Command) (left left' taken taken' : Option (List ℕ))
    (bytes held : List ℕ) (status result : Status)
    → ReadsFor command left left' bytes → EndsWriting (IsOutputOf command bytes) result taken taken'
    → left ≡ Some held
    → HasOneStatus command (input_of command held) status → (result ≡ status) ⊎ IsUnfinished result
exact-from_ends command left left' taken taken' bytes held status result reads ends told one =
    let same : bytes ≡ input_of command held =
    input_is command held left' bytes (subst (λ l. ReadsFor command l left' bytes) told reads) in
    one_status (IsOutputOf command bytes) status result taken taken' ends
    (subst (λ b. HasOneStatus command b status) (sym same) one)

-- a call that wrote an output for an input that the command takes has an answer's status, or wanted
-- memory, where no write failed
done : (command : Command) (bytes : List ℕ) (result : Status) (taken taken' : Option (List ℕ))
    → EndsWriting (IsOutputOf command bytes) result taken taken'
    → IsTaken command bytes → (result ≡ WriteFault → ⊥) → (result ≡ Fine)
    ⊎ ((result ≡ Found) ⊎ (result ≡ NoMemory))
done command bytes ReadFault taken taken' ends wanted calm = absurd ends
done command bytes WriteFault taken taken' ends wanted calm = absurd (calm refl)
done command bytes NoMemory taken taken' ends wanted calm = inr (inr refl)
done command bytes Fine taken taken' ends wanted calm = inl refl
done command bytes Found taken taken' ends wanted calm = inr (inl refl)
done command bytes Usage taken taken' ends wanted calm =
    absurd (elim (answer_statuses command bytes Usage ends.0 ends.1.1) [
      | inl e ↦ cc e
      | inr e ↦ cc e
    ])
done command bytes Refused taken taken' ends wanted calm =
    absurd (taken_or_refused command bytes ends.0 wanted ends.1)

-- an input that the command takes is answered, where no count of faults rose
pub complete-from_ends : (command : Command) (left left' taken taken' : Option (List ℕ))
    (bytes held : List ℕ) (result : Status)
    → ReadsFor command left left' bytes → EndsWriting (IsOutputOf command bytes) result taken taken'
    → left ≡ Some held
    → IsTaken command (input_of command held) → (result ≡ WriteFault → ⊥) → (result ≡ Fine)
    ⊎ ((result ≡ Found) ⊎ (result ≡ NoMemory))
complete-from_ends command left left' taken taken' bytes held result reads ends told wanted calm =
    let same : bytes ≡ input_of command held =
    input_is command held left' bytes (subst (λ l. ReadsFor command l left' bytes) told reads) in
    done command bytes result taken taken' ends
    (subst (λ b. IsTaken command b) (sym same) wanted) calm

-- a soak is answered `Fine`, where its output was written whole
pub soak-from_ends : (number : ℕ) (command : Command) (left left' taken taken' : Option (List ℕ))
    (bytes : List ℕ) (result : Status) → command ≡ Soak number
    → ReadsFor command left left' bytes → EndsWriting (IsOutputOf command bytes) result taken taken'
    → (result ≡ Fine) ⊎ IsUnfinished result
soak-from_ends number command left left' taken taken' bytes result is reads ends =
    let none : bytes ≡ [] = (subst (λ (c : Command). ReadsFor c left left' bytes) is reads).1 in
    let own : EndsWriting (IsOutputOf (Soak number) bytes) result taken taken' =
    subst (λ (c : Command). EndsWriting (IsOutputOf c bytes) result taken taken') is ends in
    one_status (IsOutputOf (Soak number) []) Fine result taken taken'
    (subst (λ (b : List ℕ). EndsWriting (IsOutputOf (Soak number) b) result taken taken') none own)
    (inside_is_fine (Soak number) [] (soak_is_taken number) tt)
