-- Bytes are read as at most one script, and have at most one first fault.
use Rattle.std.proofs.Common.{◌≡◌, ℕ, ◌⊎◌, List, [], ◌++◌, Result, refl}
use Rattle.std.specs.Prelude.{codes, IfOk, IfErr, MatchResult}
use Rattle.book_base.specs.declared.fault.TextFault.{TextFault}
use Rattle.book_base.specs.declared.fault.What.TheVariants.{End}
use Rattle.book_base.specs.declared.fault.ReadFault.{ReadFault}
use Rattle.book_base.specs.declared.fault.ReadFault.TheVariants.{Text, NoMemory}
use Rattle.text_fields.specs.declared.version.Version.{Version}
use Rattle.text_fields.specs.Lines.{Unread}
use Rattle.text_fields.specs.Faults.{StopsFor, IsFirstFault, GoesTo}
use Rattle.text_fields.specs.Head.{TitleDue, head_rules}
use Rattle.text_fields.proofs.Sharp.{only_test}
use Rattle.text_fields.proofs.Within.{AreWithin, head_is_within}
use Rattle.text_fields.proofs.Readings as readings
use Rattle.book_text.specs.BookRules.{whole_text}
use Rattle.book_text.specs.Ending.{IsEnded, IsNoEnd}
use Rattle.book_text.proofs.Endings.{goes_end, stops_end}
use Rattle.client_scripts.specs.Plans.{Plan}
use Rattle.client_scripts.specs.ScriptRules.{InHead, Turned, AtEnd, after_head, ScriptFails, script_rules, IsScriptText, IsNoScriptText, IsFirstScriptFault}
use Rattle.client_scripts.proofs.SharpScripts.{script_sharp}

-- ---- the head within the text of a script

module _ (version : Version) where
  pub head_within :
      AreWithin (head_rules version (codes "script")) (script_rules version) after_head
  head_within = head_is_within version (codes "script") (script_rules version) InHead after_head
      refl refl (λ kind. refl) (λ kind n. refl) (λ due. refl)
      (λ due after words h. (after, h, refl)) (λ due words what. (λ h. h, λ h. h))

-- ---- the end

pub script_ends : (version : Version) (plan : Plan) (text left : Unread) → IsEnded text left
    → GoesTo (script_rules version) (Turned plan) text (AtEnd plan) left
script_ends version plan text left h =
    goes_end (script_rules version) (Turned plan) (AtEnd plan) (refl, refl) text left h

pub script_no_end : (version : Version) (plan : Plan) (text : Unread) (fault : TextFault)
    → IsNoEnd text fault → IsFirstFault (script_rules version) (Turned plan) text fault
script_no_end version plan text fault h =
    stops_end (script_rules version) (Turned plan) (AtEnd plan) (refl, refl) text fault refl refl
    (λ words unlike.
    only_test (ScriptFails version (Turned plan) words) End (refl, unlike) (λ other k. k.0)) h

-- ---- one reading, or one fault

pub same_end : (a b : Plan) → AtEnd a ≡ AtEnd b → a ≡ b
same_end a b e = cc

-- bytes are read as at most one script
pub one_script : (version : Version) (bytes : List ℕ) (a b : Plan) → IsScriptText version bytes a
    → IsScriptText version bytes b → a ≡ b
one_script version = readings.one_said (script_rules version) (script_sharp version)
    (InHead TitleDue) AtEnd same_end (λ plan. refl)

-- bytes have at most one first fault
pub one_first_fault : (version : Version) (bytes : List ℕ) (a b : TextFault)
    → IsFirstScriptFault version bytes a → IsFirstScriptFault version bytes b → a ≡ b
one_first_fault version = readings.one_first (script_rules version) (script_sharp version)
    (InHead TitleDue) AtEnd same_end (λ plan. refl)

-- bytes that are read as a script have no fault
pub no_first_fault : (version : Version) (bytes : List ℕ) (plan : Plan) (fault : TextFault)
    → IsScriptText version bytes plan → IsFirstScriptFault version bytes fault → ⊥
no_first_fault version = readings.no_first (script_rules version) (script_sharp version)
    (InHead TitleDue) AtEnd same_end (λ plan. refl)

-- no text is a proper prefix of another
pub no_prefix : (version : Version) (bytes more : List ℕ) (a b : Plan)
    → IsScriptText version bytes a → IsScriptText version (bytes ++ more) b → more ≡ []
no_prefix version = readings.no_prefix (script_rules version) (script_sharp version)
    (InHead TitleDue) AtEnd same_end (λ plan. refl)

pub only_read : (version : Version) (bytes : List ℕ) (result : Result Plan ReadFault)
    → IfOk result (λ script. IsScriptText version bytes script)
    → IfErr result (λ e. StopsFor (script_rules version) (InHead TitleDue) (whole_text bytes) e)
    → (plan : Plan) → IsScriptText version bytes plan
    → MatchResult result (λ script. script ≡ plan) (λ e. e ≡ NoMemory)
only_read version = readings.only_read (script_rules version) (script_sharp version)
    (InHead TitleDue) AtEnd same_end (λ plan. refl)

pub refused_read : (version : Version) (bytes : List ℕ) (result : Result Plan ReadFault)
    → IfErr result (λ e. StopsFor (script_rules version) (InHead TitleDue) (whole_text bytes) e)
    → IfErr result (λ e. (e ≡ NoMemory) ⊎ ((fault : TextFault) × (e ≡ Text fault)
    × IsFirstScriptFault version bytes fault × IsNoScriptText version bytes))
refused_read version = readings.refused_read (script_rules version) (script_sharp version)
    (InHead TitleDue) AtEnd same_end (λ plan. refl)

pub first_read : (version : Version) (bytes : List ℕ) (result : Result Plan ReadFault)
    → IfOk result (λ script. IsScriptText version bytes script)
    → IfErr result (λ e. StopsFor (script_rules version) (InHead TitleDue) (whole_text bytes) e)
    → (fault : TextFault) → IsFirstScriptFault version bytes fault
    → MatchResult result (λ x. ⊥) (λ e. (e ≡ Text fault) ⊎ (e ≡ NoMemory))
first_read version = readings.first_read (script_rules version) (script_sharp version)
    (InHead TitleDue) AtEnd same_end (λ plan. refl)
