-- The first fault is where bytes stop being the beginning of a script's text.
use Rattle.std.proofs.Common.{◌≡◌, ◌≢◌, ℕ, zero, suc, ◌+◌, ◌<◌, ◌^◌, ◌⊎◌, List, [], ◌∷◌, length, replicate, refl, sym, ap, subst, ◌∙◌, arith, inl, inr}
use Rattle.std.specs.Prelude.{codes}
use Rattle.std.specs.List.{AllByRecursion}
use Rattle.std.proofs.lemmas.Bool.{ltb-true}
use Rattle.list_laws.proofs.Elements.{AllByRecursion-append}
use Rattle.book_base.specs.declared.call.Call.{Call}
use Rattle.book_base.specs.declared.fault.TextFault.{TextFault}
use Rattle.book_base.specs.declared.fault.What.{What}
use Rattle.book_base.specs.declared.fault.What.TheVariants as what
use Rattle.seq_objects.specs.declared.kind.Kind.{Kind}
use Rattle.text_fields.specs.declared.version.Version.{Version}
use Rattle.text_fields.specs.Version.{most_calls, word_limit}
use Rattle.text_fields.specs.Counts.{AreAtMost}
use Rattle.text_fields.specs.Head.{TitleDue, ObjectDue, CallersDue, CountsDue, HeadRead}
use Rattle.text_fields.specs.Faults.{ALine}
use Rattle.book_text.specs.CallLines.{calls_from, all_calls}
use Rattle.book_text.specs.Grammar.{end_words}
use Rattle.book_text.specs.AnyTextBeginnings.{LeavesAt}
use Rattle.book_text.proofs.CallTexts.{no_calls}
use Rattle.book_text.proofs.Leavings.{Completes, one_more, leaves_texts}
use Rattle.book_text.proofs.HeadLines.{HeadCanCome, head_named, head_comes}
use Rattle.book_text.proofs.ReadTexts.{has_zero}
use Rattle.client_scripts.specs.Plans.{Plan}
use Rattle.client_scripts.specs.Grammar.{call_words, turns_words}
use Rattle.client_scripts.specs.ScriptRules.{Begun, begin, with_operation, plan_with, ScriptDue, InHead, InBody, Turned, AtEnd, after_head, IsNamedCall, CallFails, TailFails, ScriptPasses, ScriptFails, script_wanted, script_rules, IsScriptText, IsFirstScriptFault}
use Rattle.client_scripts.proofs.SharpScripts.{script_sharp}
use Rattle.client_scripts.proofs.Readings.{same_end}
use Rattle.client_scripts.proofs.WrittenTexts.{few_callers, few_calls}

-- ---- calls that can be written

-- the state can be completed to a text: each call that is due has a caller and a number that can be
-- written
abbrev CanCome : ScriptDue → Type 0
CanCome (InHead due) = HeadCanCome (λ n. n < 2 ^ 32) due
CanCome (InBody kind begun calls) = AllByRecursion IsNamedCall calls
CanCome (Turned plan) = Unit {0}
CanCome (AtEnd plan) = Unit {0}

named_from : (i k more : ℕ) → i < 2 ^ 64 → k + more < 2 ^ 64
    → AllByRecursion IsNamedCall (calls_from i k more)
named_from i k zero few small = tt
named_from i k (suc more) few small =
    ((few, (omega arith, tt)), named_from i (k + 1) more few (omega arith))

all_named : (most i : ℕ) (counts : List ℕ) → most < 2 ^ 32 → i + length counts < 2 ^ 64
    → AreAtMost most counts → AllByRecursion IsNamedCall (all_calls i counts)
all_named most i [] few small h = tt
all_named most i (count ∷ counts) few small h =
    AllByRecursion-append IsNamedCall (calls_from i 0 count) (all_calls (i + 1) counts)
    (named_from i 0 count (omega arith) (omega (arith, h.0)))
    (all_named most (i + 1) counts few (omega arith) h.1)

module _ (version : Version) where
  comes_next : (due after : ScriptDue) (words : List (List ℕ)) → CanCome due
      → ScriptPasses version due words after → CanCome after
  comes_next (InHead TitleDue) after words can h =
      subst CanCome (sym (h.2 ∙ ap after_head h.1.1)) tt
  comes_next (InHead ObjectDue) after words can h =
      subst CanCome (sym (h.2 ∙ ap after_head h.1.3)) tt
  comes_next (InHead (CallersDue kind)) after words can h = subst CanCome
      (sym (h.2 ∙ ap after_head h.1.3)) (omega (arith, h.1.1.few, few_callers version))
  comes_next (InHead (CountsDue kind n)) after words can h =
      let counts : List ℕ = h.1.0 in
      subst CanCome (sym (h.2 ∙ ap after_head h.1.3)) (all_named (most_calls version) 0 counts
      (few_calls version) (omega (arith, h.1.1.count)) h.1.1.few)
  comes_next (InHead (HeadRead kind calls)) after words can h = absurd can
  comes_next (InBody kind begun []) after words can (inl h) = subst CanCome (sym h.3) tt
  comes_next (InBody kind begun []) after words can (inr h) = subst CanCome (sym h.2) tt
  comes_next (InBody kind begun (call ∷ calls)) after words can h = subst CanCome (sym h.2) can.1
  comes_next (Turned plan) after words can h = subst CanCome (sym h.1) tt
  comes_next (AtEnd plan) after words can h = absurd h

  -- ---- lines that complete a text

  abbrev Done : ScriptDue → Type 0
  Done due = Completes (script_rules version) AtEnd due

  more : (due next : ScriptDue) (words : List (List ℕ)) → ScriptPasses version due words next
      → Done next → Done due
  more = one_more (script_rules version) AtEnd

  end_comes : (plan : Plan) → Done (Turned plan)
  end_comes plan =
      record { said = plan; lines = end_words ∷ []; right = (AtEnd plan, (refl, refl), refl) }

  -- the calls that are due can be written with the operation 0, without turns after them
  body_comes : (kind : Kind) (begun : Begun) (calls : List Call) → AllByRecursion IsNamedCall calls
      → Done (InBody kind begun calls)
  body_comes kind begun [] h =
      let plan : Plan = plan_with kind begun [] in
      more (InBody kind begun []) (Turned plan) (turns_words [])
      (inr ([], record { may = record { callers = tt; numbers = tt }; text = refl }, refl))
      (end_comes plan)
  body_comes kind begun (call ∷ calls) h =
      let next : ScriptDue = InBody kind (with_operation begun 0) calls in
      more (InBody kind begun (call ∷ calls)) next (call_words kind call 0) (
        0,
        record {
          named = h.0;
          has = ltb-true 0 (word_limit version) (has_zero version);
          text = refl;
        },
        refl,
      ) (body_comes kind (with_operation begun 0) calls h.1)

  -- no turns and the end complete a text whose head says that there are no calls
  no_call_comes : (kind : Kind) (n : ℕ) → Done (after_head (HeadRead kind (replicate n 0)))
  no_call_comes kind n =
      let begun : Begun = begin (replicate n 0) in
      subst (λ (calls : List Call). Done (InBody kind begun calls)) (sym (no_calls 0 n))
      (body_comes kind begun [] tt)

  completes : (due : ScriptDue) → CanCome due → Done due
  completes (InHead due) can = head_comes version (codes "script") (λ n. n < 2 ^ 32) (omega arith)
      (script_rules version) AtEnd InHead after_head (λ head next words h. (next, h, refl))
      (refl, λ kind. refl, λ kind n. refl) (λ kind n few. no_call_comes kind n) due can
  completes (InBody kind begun calls) can = body_comes kind begun calls can
  completes (Turned plan) can = end_comes plan
  completes (AtEnd plan) can = record { said = plan; lines = []; right = refl }

  -- ---- the names of faults

  call_named : (kind : Kind) (call : Call) (words : List (List ℕ)) (name : What)
      → CallFails version kind call words name → (name ≢ what.Cut) × (name ≢ what.Rest)
  call_named kind call words what.Place h = (λ e. absurd cc, λ e. absurd cc)
  call_named kind call words what.Op h = (λ e. absurd cc, λ e. absurd cc)
  call_named kind call words _ h = absurd h

  tail_named : (begun : Begun) (words : List (List ℕ)) (name : What) → TailFails begun words name
      → (name ≢ what.Cut) × (name ≢ what.Rest)
  tail_named begun words what.Stop h = (λ e. absurd cc, λ e. absurd cc)
  tail_named begun words what.Turns h = (λ e. absurd cc, λ e. absurd cc)
  tail_named begun words _ h = absurd h

  line_named : (due : ScriptDue) (words : List (List ℕ)) (name : What)
      → ScriptFails version due words name → (name ≢ what.Cut) × (name ≢ what.Rest)
  line_named (InHead due) words name h = head_named version (codes "script") due words name h
  line_named (InBody kind begun []) words name h = tail_named begun words name h
  line_named (InBody kind begun (call ∷ calls)) words name h = call_named kind call words name h
  line_named (Turned plan) words name h = (λ e. absurd (cc (h.0, e)), λ e. absurd (cc (h.0, e)))
  line_named (AtEnd plan) words name h = absurd h

  line_or_end : (due : ScriptDue) → CanCome due → (script_wanted due ≡ ALine)
      ⊎ ((plan : Plan) × (due ≡ AtEnd plan))
  line_or_end (InHead due) can = inl refl
  line_or_end (InBody kind begun calls) can = inl refl
  line_or_end (Turned plan) can = inl refl
  line_or_end (AtEnd plan) can = inr (plan, refl)

-- the first fault is where the bytes stop being the beginning of a script's text
pub script_leaves_texts : (version : Version) (bytes : List ℕ) (fault : TextFault)
    → IsFirstScriptFault version bytes fault → LeavesAt (IsScriptText version) bytes fault
script_leaves_texts version = leaves_texts (script_rules version) (script_sharp version)
    (InHead TitleDue) AtEnd same_end (λ plan. refl) CanCome tt (comes_next version)
    (completes version) (line_named version) (line_or_end version)
