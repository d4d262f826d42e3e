-- Calls of objects of one word: what they leave, and which reply their program allows.
use Rattle.std.proofs.Common.{◌≡◌, ℕ, zero, suc, ◌<◌, Bool, true, false, ◌&&◌, ◌==◌, if◌then◌else◌, List, [], ◌∷◌, ◌++◌, length, Option, Some, None, slice_index_or, slice_set, refl, sym, ap, ◌∙◌, subst, arith, IsTrue, eq-eqb, append-nil}
use Rattle.std.specs.Prelude.{is_some}
use Rattle.std.proofs.lemmas.List.{get_or-set_same}
use Rattle.std.proofs.lemmas.Bool.{and_from, cond-true, cond-false}
use Rattle.book_base.specs.declared.TheConstants.{BAD}
use Rattle.seq_objects.specs.declared.kind.Kind.TheVariants as kinds
use Rattle.seq_objects.specs.Words.{OperationEntry, is_operation_of, is_known_word, entry_of, entries}
use Rattle.seq_objects.specs.Words as words
use Rattle.world_core.specs.Shape.{Shape}
use Rattle.world_core.specs.Local.{Local, Object_step, with_step}
use Rattle.world_core.specs.CallSteps.{operation_now, steps_now, all_steps_of}
use Rattle.world_core.specs.Calls.{IsLocalOf}
use Rattle.report_lines.specs.Phases.{progress_of}
use Rattle.drv_wrapper.specs.Calling.{IsAsked}
use Rattle.drv_wrapper.proofs.Locals.{local_has_phase}
use Rattle.world_objects.specs.OneWord.{OneWord, reply_of, reply_by_step, is_without_steps, is_reply}
use Rattle.core_objects.specs.CoreObjects.{with_steps, after_steps}

set_none : (xs : List (List Object_step)) (k : ℕ)
    → slice_index_or xs k [] ≡ [] → slice_set xs k [] ≡ xs
set_none [] k none = refl
set_none (x ∷ xs) zero none = ap (λ (y : List Object_step). y ∷ xs) (sym none)
set_none (x ∷ xs) (suc k) none = ap (λ (ys : List (List Object_step)). x ∷ ys) (set_none xs k none)

-- a call without steps leaves the local unchanged
pub no_steps : (l : Local) → steps_now l ≡ [] → l ≡ with_steps l []
no_steps l none = ap (λ (xs : List (List Object_step)). record l { object_steps = xs })
    (sym (set_none l.object_steps l.published none))

pub no_progress_made : (l : Local) → progress_of l ≡ after_steps [] (progress_of l)
no_progress_made l = ap (λ (xs : List Object_step). record (progress_of l) { steps = xs })
    (sym (append-nil (all_steps_of l)))

-- the first step of a call is its only one
pub one_step : (l : Local) (step : Object_step)
    → steps_now l ≡ [] → record l { object_steps = with_step l.object_steps l.published step }
    ≡ with_steps l (step ∷ [])
one_step l step none = ap (λ (xs : List Object_step).
    record l { object_steps = slice_set l.object_steps l.published (xs ++ step ∷ []) }) none

pub is_this_reply : (x : Option ℕ) (reply : ℕ) → x ≡ Some reply → IsTrue (is_reply x reply)
is_this_reply x reply e =
    subst (λ (o : Option ℕ). IsTrue (is_reply o reply)) (sym e) (eq-eqb reply reply refl)

-- an operation without a step may get the reply bad
pub allows_bad : (o : OneWord) (l : Local) (op : ℕ) → operation_now l ≡ op → o.makes_step op ≡ false
    → IsTrue (is_reply (reply_of o (operation_now l) (steps_now l)) BAD)
allows_bad o l op is none =
    is_this_reply (reply_of o (operation_now l) (steps_now l)) BAD
    (ap (λ (x : ℕ). reply_of o x (steps_now l)) is
    ∙ cond-false (o.makes_step op) (reply_by_step o op (steps_now l)) (Some BAD) none)

-- an operation with a step may get the reply of the step
pub allows_reply : (o : OneWord) (l m : Local) (op reply : ℕ) (step : Object_step)
    → operation_now l ≡ op → m ≡ with_steps l (step ∷ [])
    → l.published < length l.object_steps → o.makes_step op ≡ true → reply ≡ o.replies op step.old
    → IsTrue (is_reply (reply_of o (operation_now m) (steps_now m)) reply)
allows_reply o l m op reply step is same low some told =
    is_this_reply (reply_of o (operation_now m) (steps_now m)) reply
    (ap (λ (x : Local). reply_of o (operation_now x) (steps_now x)) same
    ∙ ap (λ (x : ℕ). reply_of o x
    (slice_index_or (slice_set l.object_steps l.published (step ∷ [])) l.published [])) is
    ∙ ap (reply_of o op) (get_or-set_same l.object_steps l.published (step ∷ []) [] low)
    ∙ cond-true (o.makes_step op) (reply_by_step o op (step ∷ [])) (Some BAD) some
    ∙ ap Some (sym told))

-- an operation with a step may make it, as the call's first
pub allows_step : (o : OneWord) (l : Local) (op x word : ℕ) → operation_now l ≡ op
    → steps_now l ≡ [] → o.makes_step op ≡ true → word ≡ o.leaves op x
    → IsTrue (o.makes_step (operation_now l)
    && (is_without_steps (steps_now l) && word == o.leaves (operation_now l) x))
allows_step o l op x word is none some leaves =
    and_from (o.makes_step (operation_now l))
    (is_without_steps (steps_now l) && word == o.leaves (operation_now l) x)
    (ap o.makes_step is ∙ some)
    (and_from (is_without_steps (steps_now l)) (word == o.leaves (operation_now l) x)
    (ap is_without_steps none)
    (eq-eqb word (o.leaves (operation_now l) x) (leaves ∙ ap (λ (y : ℕ). o.leaves y x) (sym is))))

-- the call under way has its list of steps
pub has_steps : (s : Shape) (who : ℕ) (l : Local) (op : ℕ) → IsLocalOf s who l → IsAsked op l
    → l.published < length l.object_steps
has_steps s who l op here asked = let phase = local_has_phase s who l here in
    omega (arith, phase.object_steps, asked.counted)

is_there : (e : OperationEntry) (b : Bool) → is_some (if b then Some e else None) ≡ b
is_there e true = refl
is_there e false = refl

-- the counter knows the increment alone
pub known_is_inc : (op : ℕ) → is_known_word kinds.Counter op ≡ is_operation_of op words.inc
unfolding is_known_word entry_of entries
known_is_inc op = is_there words.inc (is_operation_of op words.inc)
