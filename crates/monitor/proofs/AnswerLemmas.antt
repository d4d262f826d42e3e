-- What is written of an answer is right for the callers' calls.
use Rattle.std.proofs.Common.{◌≡◌, refl, sym, subst, ℕ, List, Option, Some, None}
use Rattle.std.specs.Prelude.{◌⊎◌}
use Rattle.std.proofs.lemmas.Option.{none-some}
use Rattle.seq_objects.specs.declared.kind.Kind.{Kind}
use Rattle.seq_objects.specs.Objects.{kind_spec}
use Rattle.world_core.specs.Local.{Local}
use Rattle.monitor.specs.declared.witness.Witness.{Witness}
use Rattle.byte_streams.specs.declared.status.Status.{Status}
use Rattle.byte_streams.specs.declared.status.Status.TheVariants.{Fine, Found, WriteFault, NoMemory}
use Rattle.byte_streams.specs.Writing.{EndsWriting}
use Rattle.byte_streams.proofs.WritingLemmas.{EndsWriting-weaker}
use Rattle.monitor.specs.Published.{IsExactAnswer}
use Rattle.monitor.specs.MonitorTexts.{IsAnswerOutput, HasLegalRecords, IsMonitorText, status_of}

-- An answer that is exact for the object of this kind.
abbrev IsExactFor : Kind → List Local → Option Witness → Type 0
IsExactFor kind locals answer = IsExactAnswer (kind_spec kind) locals answer

-- what is written of an exact answer is a text of a monitor, for the script's kind
text_of_run : (kind : Kind) (locals : List Local) (answer : Option Witness)
    → IsExactFor kind locals answer
    → (status : Status) (text : List ℕ) → IsAnswerOutput kind answer status text
    → IsMonitorText kind locals status text
text_of_run kind locals None exact status text out =
    subst (λ (s : Status). IsMonitorText kind locals s text) (sym out.1) (exact.is, out.0)
text_of_run kind locals (Some w) exact status text out =
    subst (λ (s : Status). IsMonitorText kind locals s text) (sym out.1)
    ((λ legal. none-some w (sym (exact.exact.1 legal))), w, exact.is, out.0.0, out.0.1, out.0.2)

pub ends_of_run : (kind named : Kind) (locals : List Local) (answer : Option Witness)
    (result : Status) (taken taken' : Option (List ℕ)) → named ≡ kind
    → IsExactFor named locals answer → EndsWriting (IsAnswerOutput named answer) result taken taken'
    → EndsWriting (IsMonitorText kind locals) result taken taken'
ends_of_run kind named locals answer result taken taken' same exact ends =
    subst (λ (k : Kind). EndsWriting (IsMonitorText k locals) result taken taken') same
    (EndsWriting-weaker (IsAnswerOutput named answer)
    (IsMonitorText named locals) result taken taken' (text_of_run named locals answer exact) ends)

found_status : (kind : Kind) (locals : List Local) (answer : Option Witness)
    → IsExactFor kind locals answer → ¬ HasLegalRecords kind locals → status_of answer ≡ Found
found_status kind locals None exact illegal = absurd (illegal exact.is)
found_status kind locals (Some w) exact illegal = refl

fine_status : (kind : Kind) (locals : List Local) (answer : Option Witness)
    → IsExactFor kind locals answer → HasLegalRecords kind locals → status_of answer ≡ Fine
fine_status kind locals None exact legal = refl
fine_status kind locals (Some w) exact legal = absurd (none-some w (sym (exact.exact.1 legal)))

-- The run's status is the answer's, or says that a write failed or that memory was wanted.
abbrev Ended : Status → Status → Type 0
Ended result status = (result ≡ status) ⊎ ((result ≡ WriteFault) ⊎ (result ≡ NoMemory))

ended_as : (result a b : Status) → a ≡ b → Ended result a → Ended result b
ended_as result a b same h = subst (λ (s : Status). Ended result s) same h

pub found_of_run : (kind named : Kind) (locals : List Local) (answer : Option Witness)
    (result : Status) → named ≡ kind → IsExactFor named locals answer
    → Ended result (status_of answer) → ¬ HasLegalRecords kind locals → Ended result Found
found_of_run kind named locals answer result same exact ended illegal =
    ended_as result (status_of answer) Found (found_status kind locals answer
    (subst (λ (k : Kind). IsExactFor k locals answer) same exact) illegal) ended

pub fine_of_run : (kind named : Kind) (locals : List Local) (answer : Option Witness)
    (result : Status) → named ≡ kind → IsExactFor named locals answer
    → Ended result (status_of answer) → HasLegalRecords kind locals → Ended result Fine
fine_of_run kind named locals answer result same exact ended legal =
    ended_as result (status_of answer) Fine (fine_status kind locals answer
    (subst (λ (k : Kind). IsExactFor k locals answer) same exact) legal) ended
