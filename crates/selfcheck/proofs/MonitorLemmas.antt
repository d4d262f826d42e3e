-- Lemmas on the scripts that leave two callers for monitors, and on what is written of their runs.
use Rattle.std.proofs.Common.{◌≡◌, ◌∙◌, ◌⊎◌, refl, sym, ap, subst, true, ℕ, ◌+◌, ◌≤◌, List, [], ◌∷◌, ◌++◌, length, decimal, codes, Option, None, Some, Result, Ok, Err, inl, inr, arith}
use Rattle.std.proofs.lemmas.Bool.{cases_lt}
use Rattle.std.proofs.lemmas.List.{length-map}
use Rattle.std.specs.Prelude.{IfOk, IfErr, IfSome}
use Rattle.std.specs.List.{join_with_byte}
use Rattle.book_base.specs.declared.TheConstants.{MAX_CALLERS}
use Rattle.book_base.specs.declared.fault.TextFault.{TextFault}
use Rattle.book_base.specs.declared.fault.ReadFault.{ReadFault}
use Rattle.book_base.specs.declared.fault.ReadFault.TheVariants.{Text, NoMemory}
use Rattle.seq_objects.specs.declared.kind.Kind.{Kind}
use Rattle.seq_objects.specs.declared.kind.Kind.TheVariants.{Queue}
use Rattle.text_fields.specs.declared.version.Version.TheVariants.{Second}
use Rattle.text_fields.specs.Version.{has_kind}
use Rattle.text_fields.specs.Faults.{AreSharp}
use Rattle.text_fields.specs.Head.{TitleDue, ObjectDue, CallersDue, CountsDue, AreCallers, title_words, object_words, callers_words, calls_words, head_rules}
use Rattle.text_fields.specs.Lines.{Unread, AreSolid, line_at, line_from, line_text, words_of, text_of, by_number}
use Rattle.text_fields.proofs.HeadTexts.{head_sharp, plain}
use Rattle.text_fields.proofs.LineTexts.{cut_line, words_of-join}
use Rattle.text_fields.proofs.NumberTexts.{same_first, same_number}
use Rattle.book_text.specs.Grammar.{end_words}
use Rattle.book_text.specs.BookRules.{whole_text}
use Rattle.client_scripts.specs.Plans.{Plan, sizes}
use Rattle.client_scripts.specs.Grammar.{caller_lines, stop_line, turns_words}
use Rattle.client_scripts.specs.ScriptRules.{IsScriptText, IsNoScriptText, IsFirstScriptFault}
use Rattle.client_scripts.proofs.Readings.{no_first_fault, one_first_fault}
use Rattle.client_scripts.proofs.ReadTexts.{read_is_written}
use Rattle.world_core.specs.Local.{Local}
use Rattle.byte_streams.specs.declared.status.Status.{Status}
use Rattle.byte_streams.specs.declared.status.Status.TheVariants.{Fine, Found}
use Rattle.byte_streams.specs.declared.TheConstants.{INPUT_LIMIT}
use Rattle.monitor.specs.MonitorTexts.{IsMonitorText}
use Rattle.selfcheck.specs.Refusal.{IsReadFault}
use Rattle.selfcheck.specs.MonitorInput.{LeavesTwo, IsMonitorInput, IsOpening, IsCrowded, IsFirstMonitorFault}

-- what is written of a run has one of the statuses `Fine` and `Found`
pub monitor_statuses : (kind : Kind) (locals : List Local) (status : Status) (text : List ℕ)
    → IsMonitorText kind locals status text → (status ≡ Fine) ⊎ (status ≡ Found)
monitor_statuses kind locals Fine text told = inl refl
monitor_statuses kind locals Found text told = inr refl
monitor_statuses kind locals _ text told = absurd told

pub IsMonitorInput-from_plan : (bytes : List ℕ) (plan : Plan) → IsScriptText Second bytes plan
    → LeavesTwo plan → IsMonitorInput bytes
unfolding IsMonitorInput
IsMonitorInput-from_plan bytes plan told few = (plan, told, few)

-- ---- the first three lines

-- a line is read once
same_line_at : (text : Unread) (a b : List ℕ) (left right : Unread) → line_at text ≡ Ok (a, left)
    → line_at text ≡ Ok (b, right) → (a ≡ b) × (left ≡ right)
same_line_at text a b left right one other = here (sym one ∙ other)
  where
    here : ◌≡◌ {A = Result (List ℕ × Unread) TextFault} (Ok (a, left)) (Ok (b, right)) → (a ≡ b)
        × (left ≡ right)
    here e =
        let pair : ◌≡◌ {A = List ℕ × Unread} (a, left) (b, right) = cc in
        (ap (λ (p : List ℕ × Unread). p.0) pair, ap (λ (p : List ℕ × Unread). p.1) pair)

-- the first three lines of bytes have one number of callers
pub one_opening : (bytes : List ℕ) (n m : ℕ) → IsOpening bytes n → IsOpening bytes m → n ≡ m
one_opening bytes n m a b =
    let first = same_line_at
    (whole_text bytes) a.title_line b.title_line a.after_title b.after_title a.first b.first in
    let second =
    same_line_at b.after_title a.object_line b.object_line a.after_object b.after_object
    (subst (λ (t : Unread). line_at t ≡ Ok (a.object_line, a.after_object)) first.1 a.second)
    b.second in
    let third =
    same_line_at b.after_object a.callers_line b.callers_line a.after_callers b.after_callers
    (subst (λ (t : Unread). line_at t ≡ Ok (a.callers_line, a.after_callers)) second.1 a.third)
    b.third in
    let words : callers_words n ≡ callers_words m = sym a.told ∙ ap words_of third.0 ∙ b.told in
    let numbers =
    same_first (codes "callers") (codes "callers") (decimal n ∷ []) (decimal m ∷ []) words in
    same_number n m (omega (arith, a.may.few)) (omega (arith, b.may.few))
    (same_first (decimal n) (decimal m) [] [] numbers.1).0

-- three lines that are read, the third of which has a number of callers, are an opening
pub opening_read : (bytes title object callers : List ℕ) (a b d : Unread) (result : Option ℕ)
    → line_at (whole_text bytes) ≡ Ok (title, a) → line_at a ≡ Ok (object, b)
    → line_at b ≡ Ok (callers, d)
    → words_of title ≡ title_words Second (codes "script")
    → ((kind : Kind) × (words_of object ≡ object_words kind))
    → IfSome result (λ n. AreCallers Second n × (words_of callers ≡ callers_words n))
    → IfSome result (IsOpening bytes)
opening_read bytes title object callers a b d None first second third titled named told = tt
opening_read bytes title object callers a b d (Some n) first second third titled named told =
    record {
      title_line = title;
      object_line = object;
      callers_line = callers;
      after_title = a;
      after_object = b;
      after_callers = d;
      first = first;
      second = second;
      third = third;
      titled = titled;
      kind = named.0;
      named = named.1;
      may = told.0;
      told = told.1;
    }

-- a line that is written is read
line_of : (words : List (List ℕ)) (rest : List ℕ) (number : ℕ) → AreSolid words
    → line_at (record { bytes = line_text words ++ rest; number = number })
    ≡ Ok (join_with_byte 32 words, record { bytes = rest; number = number + 1 })
line_of words rest number solid = ap (line_from number) (cut_line words rest solid)

-- the text of three lines and others is each of the three lines' texts, and then that of the others
three_lines : (a b c : List (List ℕ)) (rest : List (List (List ℕ)))
    → text_of (a ∷ b ∷ c ∷ rest) ≡ line_text a ++ (line_text b ++ (line_text c ++ text_of rest))
three_lines a b c rest = refl

-- the words of the three lines can be those of lines
sharp : AreSharp (head_rules Second (codes "script"))
sharp = head_sharp Second (codes "script") (plain (codes "script")
    (omega arith, (omega arith, (omega arith, (omega arith, (omega arith, (omega arith, tt))))))
    (omega arith))

title_solid : AreSolid (title_words Second (codes "script"))
title_solid = sharp.solid TitleDue ObjectDue (title_words Second (codes "script")) (refl, refl)

object_solid : (kind : Kind) → has_kind Second kind ≡ true → AreSolid (object_words kind)
object_solid kind known =
    sharp.solid ObjectDue (CallersDue kind) (object_words kind) (kind, known, refl, refl)

callers_solid : (n : ℕ) → AreCallers Second n → AreSolid (callers_words n)
callers_solid n may =
    sharp.solid (CallersDue Queue) (CountsDue Queue n) (callers_words n) (n, may, refl, refl)

-- bytes that begin with three such lines open with them
opening_from : (bytes : List ℕ) (kind : Kind) (n : ℕ) (rest : List ℕ) → AreCallers Second n
    → has_kind Second kind ≡ true
    → bytes ≡ line_text (title_words Second (codes "script"))
    ++ (line_text (object_words kind) ++ (line_text (callers_words n) ++ rest)) → IsOpening bytes n
opening_from bytes kind n rest may known is =
    let title = title_words Second (codes "script") in
    let past_object : List ℕ = line_text (callers_words n) ++ rest in
    let past_title : List ℕ = line_text (object_words kind) ++ past_object in
    record {
      title_line = join_with_byte 32 title;
      object_line = join_with_byte 32 (object_words kind);
      callers_line = join_with_byte 32 (callers_words n);
      after_title = record { bytes = past_title; number = 2 };
      after_object = record { bytes = past_object; number = 3 };
      after_callers = record { bytes = rest; number = 4 };
      first =
          ap (λ (b : List ℕ). line_at (whole_text b)) is ∙ line_of title past_title 1 title_solid;
      second = line_of (object_words kind) past_object 2 (object_solid kind known);
      third = line_of (callers_words n) rest 3 (callers_solid n may);
      titled = words_of-join title title_solid;
      kind = kind;
      named = words_of-join (object_words kind) (object_solid kind known);
      may = may;
      told = words_of-join (callers_words n) (callers_solid n may);
    }

-- a script's text opens with the number of its callers
opening_of_script : (bytes : List ℕ) (plan : Plan) → IsScriptText Second bytes plan
    → IsOpening bytes (length plan.operations)
opening_of_script bytes plan told =
    let written = read_is_written Second bytes plan told in
    let counts : List ℕ = sizes plan.operations in
    let long : length counts ≡ length plan.operations =
    length-map plan.operations (λ (ops : List ℕ). length ops) in
    let rest : List (List (List ℕ)) =
    calls_words counts ∷ (by_number (caller_lines plan.kind) 0 plan.operations
    ++ (by_number stop_line 0 plan.stops ++ turns_words plan.turns ∷ end_words ∷ [])) in
    subst (λ (n : ℕ). IsOpening bytes n) long
    (opening_from bytes plan.kind (length counts) (text_of rest) (record {
      some = omega (arith, long, written.writable.some);
      few = omega (arith, long, written.writable.callers);
    })
    written.writable.kind_known (written.text ∙ three_lines (title_words Second (codes "script"))
    (object_words plan.kind) (callers_words (length counts)) rest))

-- a script that leaves two callers for the monitors isn't crowded
pub capacious_script : (bytes : List ℕ) (plan : Plan) → IsScriptText Second bytes plan
    → LeavesTwo plan
    → IsCrowded bytes → ⊥
capacious_script bytes plan told few crowded =
    omega (
      arith,
      few,
      crowded.2,
      one_opening bytes crowded.0 (length plan.operations) crowded.1
          (opening_of_script bytes plan told),
    )

-- a script that isn't crowded leaves two callers for the monitors
pub leaves_two : (bytes : List ℕ) (plan : Plan) → IsScriptText Second bytes plan → ¬ IsCrowded bytes
    → LeavesTwo plan
leaves_two bytes plan told roomy =
    elim (cases_lt MAX_CALLERS (length plan.operations + 2)) [
      | inl many ↦ absurd (roomy (length plan.operations, opening_of_script bytes plan told, many))
      | inr few ↦ few
    ]

-- ---- a text, or one first fault

pub monitor_input_or_fault : (bytes : List ℕ) (fault : TextFault) → IsMonitorInput bytes
    → IsFirstMonitorFault bytes fault → ⊥
unfolding IsMonitorInput IsFirstMonitorFault
monitor_input_or_fault bytes fault told (inl crowded) =
    capacious_script bytes told.0 told.1 told.2 crowded.0
monitor_input_or_fault bytes fault told (inr other) =
    no_first_fault Second bytes told.0 fault told.1 other.1

pub one_monitor_fault : (bytes : List ℕ) (a b : TextFault) → IsFirstMonitorFault bytes a
    → IsFirstMonitorFault bytes b → a ≡ b
unfolding IsFirstMonitorFault
one_monitor_fault bytes a b (inl one) (inl other) = one.1 ∙ sym other.1
one_monitor_fault bytes a b (inl one) (inr other) = absurd (other.0 one.0)
one_monitor_fault bytes a b (inr one) (inl other) = absurd (one.0 other.0)
one_monitor_fault bytes a b (inr one) (inr other) = one_first_fault Second bytes a b one.1 other.1

-- ---- the script that is read

-- a reader that reads a script which isn't crowded reads one that leaves two callers
pub monitored_few : (bytes : List ℕ) (result : Result Plan ReadFault) → ¬ IsCrowded bytes
    → IfOk result (λ script. IsScriptText Second bytes script) → IfOk result LeavesTwo
monitored_few bytes (Ok script) roomy told = leaves_two bytes script told roomy
monitored_few bytes (Err fault) roomy told = tt

-- the fault that this reader finds is the first one
pub monitored_refused : (bytes : List ℕ) (result : Result Plan ReadFault)
    → length bytes ≤ INPUT_LIMIT → ¬ IsCrowded bytes
    → IfErr result (λ e. (e ≡ NoMemory) ⊎ ((fault : TextFault) × (e ≡ Text fault)
    × IsFirstScriptFault Second bytes fault × IsNoScriptText Second bytes))
    → IfErr result (IsReadFault IsFirstMonitorFault bytes)
unfolding IsFirstMonitorFault
monitored_refused bytes (Ok script) short roomy why = tt
monitored_refused bytes (Err e) short roomy (inl none) =
    subst (IsReadFault IsFirstMonitorFault bytes) (sym none) tt
monitored_refused bytes (Err e) short roomy (inr why) =
    subst (IsReadFault IsFirstMonitorFault bytes) (sym why.1) (inr (short, inr (roomy, why.2)))
