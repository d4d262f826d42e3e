-- From the calls that passes tell to the calls that their object answered.
use Rattle.std.proofs.Common.{◌≡◌, ◌∙◌, sym, ap, subst, ℕ, ◌<◌, List, [], length, Some, arith}
use Rattle.std.specs.List.{All}
use Rattle.std.proofs.lemmas.List.Elements.{All-take}
use Rattle.std.proofs.lemmas.Option.{get_or_from_slice_get}
use Rattle.shared_words.specs.declared.entry.Entry.{Entry}
use Rattle.shared_words.specs.declared.shared_words.SharedWords.{SharedWords}
use Rattle.shared_words.specs.declared.words_pass.WordsPass.{WordsPass}
use Rattle.shared_words.specs.Deeds.{Deed, AreCalls}
use Rattle.shared_words.specs.Passes.{caller_of_pass, deeds_of, pairs_in, IsPassOf}
use Rattle.world_core.specs.Calls.{Made}
use Rattle.report_lines.specs.Phases.{IsTold, answered}
use Rattle.run_report.proofs.Places.{item_at}
use Rattle.test_objects.specs.Pairs.{pairs_of}
use Rattle.test_objects.proofs.Pairing.{pairs_have_the_calls}
use Rattle.core_runs.specs.Logged.{IsLoggedBy, AreFormed}
use Rattle.named_runs.specs.NamedObjects.{AreOwnPasses, TellOwnCalls}
use Rattle.named_runs.proofs.OpenedPasses.{passes_count, pass_at}

module _ {T : Type 0} (is_own : T → Type 0) (caller : T → ℕ) (pairs : T → List (ℕ × ℕ))
    (passes : List T) (n : ℕ) (own : AreOwnPasses is_own caller n passes)
    (phases : ℕ → ℕ) (calls : ℕ → List Made)
    (tells : TellOwnCalls (λ pass. Some (pairs pass)) phases calls passes) where
  -- a fact of all passes holds of that of a caller, which is told in the caller's calls
  pass_for : (Is : T → Type 0) → All Is passes → (i : ℕ) → i < n → (pass : T) × (caller pass ≡ i)
      × IsTold (phases i) (calls i) (pairs pass) × Is pass
  pass_for Is all i low =
      let within : i < length passes =
      omega (arith, low, passes_count caller passes n own.callers) in
      let pass = item_at passes i within in (
        pass.0,
        pass_at caller passes n own.callers i pass.0 pass.1,
        tells i pass.0 pass.1,
        subst Is (get_or_from_slice_get passes i pass.0 pass.0 pass.1) (all i pass.0 within),
      )

  -- the calls were answered from one log, where the log's closing says so of the passes
  pub logged_from_told : (answer : List Entry → ℕ) (log : List Entry) → All (λ e. e.caller < n) log
      → All (λ pass. pairs pass ≡ pairs_of answer log (caller pass)) passes
      → IsLoggedBy answer n phases calls
  logged_from_told answer log callers closed =
      let told : (i : ℕ) → i < n → IsTold (phases i) (calls i) (pairs_of answer log i) = λ i low.
      let pass =
      pass_for (λ (pass : T). pairs pass ≡ pairs_of answer log (caller pass)) closed i low in
      subst (λ (list : List (ℕ × ℕ)). IsTold (phases i) (calls i) list)
      (pass.3 ∙ ap (pairs_of answer log) pass.1) pass.2 in
      record {
        log = log;
        callers = callers;
        entries = λ i low. sym (pairs_have_the_calls answer log i) ∙ (told i low).operations;
        replies = λ i low. (told i low).replies;
      }

  -- the replies have a form, where each pass of the object has replies of this form
  pub formed_from_told : (form : ℕ → ℕ → Type 0)
      → ((pass : T) → is_own pass → All (λ pair. form pair.0 pair.1) (pairs pass))
      → AreFormed form n calls
  formed_from_told form formed i low =
      let pass = pass_for is_own own.own i low in
      subst (λ (list : List (ℕ × ℕ)). All (λ pair. form pair.0 pair.1) list) pass.2.replies
      (All-take (λ pair. form pair.0 pair.1) (answered (phases i)) (pairs pass.0)
      (formed pass.0 pass.3))

-- the replies of an object on shared words have a form, where the replies of calls made of its
-- deeds have it
pub words_are_formed : {U : Type 0} (may : ℕ → Deed → Type 0)
    (call : ℕ → ℕ → List Deed → List Deed → Type 0) (form : ℕ → ℕ → Type 0)
    → ((pairs : List (ℕ × ℕ)) (before after : List Deed) → AreCalls call pairs before after
    → All (λ pair. form pair.0 pair.1) pairs)
    → (words : SharedWords U) (passes : List WordsPass) (n : ℕ)
    → AreOwnPasses (IsPassOf may (λ _. call) words) caller_of_pass n passes
    → (phases : ℕ → ℕ) (calls : ℕ → List Made)
    → TellOwnCalls (λ pass. Some (pairs_in pass)) phases calls passes → AreFormed form n calls
words_are_formed may call form formed words passes n own phases calls tells =
    formed_from_told (IsPassOf may (λ _. call) words) caller_of_pass pairs_in passes n own phases
    calls tells form (λ pass is. formed (pairs_in pass) [] (deeds_of pass.seat) is.calls)
