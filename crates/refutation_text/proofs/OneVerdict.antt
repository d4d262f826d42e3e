-- A refutation is right, or has one first fault.
use Rattle.std.proofs.Common.{◌≡◌, ℕ, zero, suc, ◌<◌, ◌∙◌, List, [], ◌∷◌, length, slice_get, refl, sym, ap, subst, inl, inr, arith}
use Rattle.std.proofs.lemmas.Bool.{cases_lt, false≢true}
use Rattle.std.proofs.lemmas.Option.{slice_get_within, same_Some}
use Rattle.book_base.specs.Book.{Page}
use Rattle.book_base.specs.Order.{HasLegalOrder}
use Rattle.seq_objects.specs.declared.kind.Kind.{Kind}
use Rattle.seq_objects.specs.Objects.{kind_next, kind_spec}
use Rattle.smaller_book.specs.Part.{IsPart}
use Rattle.smaller_book.specs.ReadOnly.{IsReadOnly}
use Rattle.broken_rules.specs.Deeds.{reading_of}
use Rattle.refutations.specs.Impossible.{IsImpossible}
use Rattle.refutations.specs.Counts.{FindMissesPuts}
use Rattle.pair_refutations.proofs.Refuting.{refuted-none}
use Rattle.pair_refutations.proofs.Faults as pair_laws
use Rattle.level_refutations.specs.Closed as tables
use Rattle.level_refutations.specs.Fault as level_tests
use Rattle.level_refutations.proofs.Alike.{faults_are_of_what_is_said}
use Rattle.level_refutations.proofs.Refuting.{closed_tables_have_no_order}
use Rattle.level_refutations.proofs.Faults as level_laws
use Rattle.refutations.proofs.Containers.{excess_takes, missed_puts}
use Rattle.refutations.proofs.Refuting.{closed_lists_have_no_order, impossible_replies_have_no_order}
use Rattle.refutations.proofs.Faults.{closed_lists_fail_no_test, first_faults_are_one}
use Rattle.refutation_text.specs.declared.fault.RefutationFault.{RefutationFault}
use Rattle.refutation_text.specs.declared.fault.RefutationFault.TheVariants as faults
use Rattle.refutation_text.specs.declared.part_steps.StepFault.{StepFault}
use Rattle.refutation_text.specs.declared.part_steps.StepFault.TheVariants as reasons
use Rattle.refutation_text.specs.declared.verdict.RefutationVerdict.{RefutationVerdict}
use Rattle.refutation_text.specs.declared.verdict.RefutationVerdict.TheVariants.{Illegal, Faulty}
use Rattle.refutation_text.specs.Said.{StepSaid, At, Keys, Leave, EndingSaid, Impossible, Takes, Find, Closed, Pairs, Levels, Keep}
use Rattle.refutation_text.specs.Steps.{IsStep, StepFails, LeaveAfter, IsFirstStepFault}
use Rattle.refutation_text.specs.Verdicts.{IsShown, EndingFails, IsRefutation, step_fault, pairs_fault, IsFaultOf, IsVerdictOf}
use Rattle.refutation_text.specs.Laws.{RefutedBooksHaveNoOrder}
use Rattle.refutation_text.proofs.StepLaws.{steps_leave}
use Rattle.refutation_text.proofs.OnePart.{one_called, after_part, one_after}

-- ---- right refutations

shown_is_illegal : (kind : Kind) (names : List (List ℕ)) (part : List Page) (ending : EndingSaid)
    → IsShown kind names part ending → HasLegalOrder (kind_spec kind) part → ⊥
shown_is_illegal kind names part (Impossible named) h legal =
    impossible_replies_have_no_order (kind_spec kind) part h.0 h.2 legal
shown_is_illegal kind names part (Takes value moment) h legal =
    excess_takes kind part (value ∷ []) moment h.0 h.1 legal
shown_is_illegal kind names part (Find named values) h legal =
    missed_puts kind part values h.1 h.0 h.3 legal
shown_is_illegal kind names part (Closed entries) h legal =
    closed_lists_have_no_order (kind_spec kind) part _ h.closed legal
shown_is_illegal kind names part (Pairs entries) h legal = refuted-none part entries h.1 h.2
    (subst (λ (k : Kind). HasLegalOrder (kind_spec k) part) h.0 legal)
shown_is_illegal kind names part (Levels said) h legal = closed_tables_have_no_order part h.1 h.3
    (subst (λ (k : Kind). HasLegalOrder (kind_spec k) part) h.0 legal)

-- a book with a right refutation has no legal order
pub refuted : RefutedBooksHaveNoOrder
refuted kind book steps ending h legal = shown_is_illegal kind h.names h.part ending h.shown
    (steps_leave kind book h.part steps (length steps) h.names h.left legal)

-- ---- one step

fails_or_leaves : (kind : Kind) (book : List Page) (names : List (List ℕ)) (part : List Page)
    (step : StepSaid) (why : StepFault) (places : List (List ℕ)) (left : List Page)
    → IsPart book names part → StepFails kind names part step why
    → IsStep kind names part step places left → ⊥
fails_or_leaves kind book names part (At counts) reasons.Lacks places left is h k = k.0 h
fails_or_leaves kind book names part (Keys these keys) reasons.Open places left is h k = h k.0
fails_or_leaves kind book names part (Leave named) reasons.Lacks places left is h k = h k.0 k.1
fails_or_leaves kind book names part (Leave named) reasons.Changes places left is h k =
    h.2 (subst (IsReadOnly (kind_next kind) part)
    (one_called book names part named k.0 h.0 is k.1 h.1) k.2)
fails_or_leaves kind book names part (Keep calls) reasons.Lacks places left is h k = h k.0
fails_or_leaves kind book names part (Keep calls) reasons.Changes places left is h k = h.1 k.1
fails_or_leaves kind book names part step why places left is h k = h

one_reason : (kind : Kind) (names : List (List ℕ)) (part : List Page) (step : StepSaid)
    (a b : StepFault) → StepFails kind names part step a → StepFails kind names part step b → a ≡ b
one_reason kind names part step reasons.Lacks reasons.Lacks h k = refl
one_reason kind names part step reasons.Open reasons.Open h k = refl
one_reason kind names part step reasons.Changes reasons.Changes h k = refl
one_reason kind names part (Leave named) reasons.Lacks reasons.Changes h k = absurd (h k.0 k.1)
one_reason kind names part (Leave named) reasons.Changes reasons.Lacks h k = absurd (k h.0 h.1)
one_reason kind names part (Keep calls) reasons.Lacks reasons.Changes h k = absurd (h k.0)
one_reason kind names part (Keep calls) reasons.Changes reasons.Lacks h k = absurd (k h.0)
one_reason kind names part (At counts) a reasons.Open h k = absurd k
one_reason kind names part (At counts) a reasons.Changes h k = absurd k
one_reason kind names part (At counts) reasons.Open b h k = absurd h
one_reason kind names part (At counts) reasons.Changes b h k = absurd h
one_reason kind names part (Keys these keys) a reasons.Lacks h k = absurd k
one_reason kind names part (Keys these keys) a reasons.Changes h k = absurd k
one_reason kind names part (Keys these keys) reasons.Lacks b h k = absurd h
one_reason kind names part (Keys these keys) reasons.Changes b h k = absurd h
one_reason kind names part (Leave named) a reasons.Open h k = absurd k
one_reason kind names part (Leave named) reasons.Open b h k = absurd h
one_reason kind names part (Keep calls) a reasons.Open h k = absurd k
one_reason kind names part (Keep calls) reasons.Open b h k = absurd h

-- ---- the steps before

-- where steps can be made, each of them can be
step_before : (kind : Kind) (book : List Page) (steps : List StepSaid) (s n : ℕ)
    (names : List (List ℕ)) (part : List Page) (why : StepFault) → s < n
    → LeaveAfter kind book steps n names part → IsFirstStepFault kind book steps s why → ⊥
step_before kind book steps s zero names part why less h f = absurd (omega arith)
step_before kind book steps s (suc n) names part why less
    (step, before, whole, there, earlier, l) f =
    elim (cases_lt s n) [
      | inl sooner ↦ step_before kind book steps s n before whole why sooner earlier f
      | inr here ↦
          let at : n ≡ s = omega arith in
          let one : step ≡ f.step = same_Some step f.step
          (sym there ∙ ap (λ (k : ℕ). slice_get steps k) at ∙ f.there) in
          let reached : LeaveAfter kind book steps s before whole =
          subst (λ (k : ℕ). LeaveAfter kind book steps k before whole) at earlier in
          let same = one_after kind book steps s f.names before f.part whole f.before reached in
          let fails : StepFails kind before whole step why =
          subst (λ (x : StepSaid). StepFails kind before whole x why) (sym one)
          (subst (λ (w : List Page). StepFails kind before w f.step why) same.parts
          (subst (λ (ns : List (List ℕ)). StepFails kind ns f.part f.step why) same.names
          f.fails)) in
          fails_or_leaves kind book before whole step why l.0 part
          (after_part kind book steps n before whole earlier) fails l.1
    ]

inside : (kind : Kind) (book : List Page) (steps : List StepSaid) (s : ℕ) (why : StepFault)
    → IsFirstStepFault kind book steps s why → s < length steps
inside kind book steps s why f = slice_get_within steps s f.step f.there

one_step_fault : (kind : Kind) (book : List Page) (steps : List StepSaid) (s r : ℕ)
    (a b : StepFault) → IsFirstStepFault kind book steps s a → IsFirstStepFault kind book steps r b
    → step_fault s a ≡ step_fault r b
one_step_fault kind book steps s r a b f g = elim (cases_lt s r) [
  | inl less ↦ absurd (step_before kind book steps s r g.names g.part a less g.before f)
  | inr le ↦ elim (cases_lt r s) [
    | inl more ↦ absurd (step_before kind book steps r s f.names f.part b more f.before g)
    | inr ge ↦
        let at : s ≡ r = omega arith in
        let one : f.step ≡ g.step = same_Some f.step g.step
        (sym f.there ∙ ap (λ (k : ℕ). slice_get steps k) at ∙ g.there) in
        let reached : LeaveAfter kind book steps r f.names f.part =
        subst (λ (k : ℕ). LeaveAfter kind book steps k f.names f.part) at f.before in
        let same = one_after kind book steps r f.names g.names f.part g.part reached g.before in
        let fails : StepFails kind g.names g.part g.step a =
        subst (λ (x : StepSaid). StepFails kind g.names g.part x a) one
        (subst (λ (w : List Page). StepFails kind g.names w f.step a) same.parts
        (subst (λ (ns : List (List ℕ)). StepFails kind ns f.part f.step a) same.names f.fails)) in
        ap (λ (k : ℕ). step_fault k a) at
        ∙ ap (step_fault r) (one_reason kind g.names g.part g.step a b fails g.fails)
  ]
]

-- ---- one ending

shown_or_fails : (kind : Kind) (book : List Page) (names : List (List ℕ)) (part : List Page) (s : ℕ)
    (ending : EndingSaid) (fault : RefutationFault) → IsPart book names part
    → IsShown kind names part ending → EndingFails kind names part s ending fault → ⊥
shown_or_fails kind book names part s (Impossible named) (faults.Lacks at) is h k = k.1 h.0 h.1
shown_or_fails kind book names part s (Impossible named) faults.Possible is h k =
    k.2 (subst (IsImpossible (kind_spec kind) part)
    (one_called book names part named h.0 k.0 is h.1 k.1) h.2)
shown_or_fails kind book names part s (Takes value moment) faults.Kind is h k =
    false≢true (sym k ∙ h.0)
shown_or_fails kind book names part s (Takes value moment) faults.Possible is h k = k.1 h.1
shown_or_fails kind book names part s (Find named values) faults.Kind is h k =
    false≢true (sym k ∙ h.0)
shown_or_fails kind book names part s (Find named values) (faults.Lacks at) is h k = k.2 h.1 h.2
shown_or_fails kind book names part s (Find named values) faults.Possible is h k =
    k.3 (subst (FindMissesPuts (reading_of kind) part values)
    (one_called book names part named h.1 k.1 is h.2 k.2) h.3)
shown_or_fails kind book names part s (Closed entries) (faults.Closed fault) is h k =
    closed_lists_fail_no_test (kind_spec kind) part entries h fault k.fails
shown_or_fails kind book names part s (Pairs entries) fault is h (inl k) = k.0 h.0
shown_or_fails kind book names part s (Pairs entries) fault is h (inr k) =
    pair_laws.refutations_fail_no_test part entries h.2 k.1 k.2.fails
shown_or_fails kind book names part s (Levels said) fault is h (inl k) = k.0 h.0
shown_or_fails kind book names part s (Levels said) fault is h (inr k) =
    level_laws.closed_tables_fail_no_test part h.1 k.3 h.3
    (faults_are_of_what_is_said part k.1 h.1 k.3 (k.2 ∙ sym h.2) k.4)
shown_or_fails kind book names part s ending fault is h k = k

one_ending_fault : (kind : Kind) (names : List (List ℕ)) (part : List Page) (s : ℕ)
    (ending : EndingSaid) (a b : RefutationFault) → EndingFails kind names part s ending a
    → EndingFails kind names part s ending b → a ≡ b
one_ending_fault kind names part s (Impossible named) (faults.Lacks x) (faults.Lacks y) h k =
    ap faults.Lacks (h.0 ∙ sym k.0)
one_ending_fault kind names part s (Impossible named) (faults.Lacks x) faults.Possible h k =
    absurd (h.1 k.0 k.1)
one_ending_fault kind names part s (Impossible named) faults.Possible (faults.Lacks y) h k =
    absurd (k.1 h.0 h.1)
one_ending_fault kind names part s (Impossible named) faults.Possible faults.Possible h k = refl
one_ending_fault kind names part s (Closed entries) (faults.Closed x) (faults.Closed y) h k =
    ap faults.Closed (first_faults_are_one (kind_spec kind) part entries x y h k)
one_ending_fault kind names part s (Pairs entries) a b (inl h) (inl k) = h.1 ∙ sym k.1
one_ending_fault kind names part s (Pairs entries) a b (inl h) (inr k) = absurd (h.0 k.0)
one_ending_fault kind names part s (Pairs entries) a b (inr h) (inl k) = absurd (k.0 h.0)
one_ending_fault kind names part s (Pairs entries) a b (inr h) (inr k) =
    h.3 ∙ ap (pairs_fault names s) (pair_laws.first_faults_are_one part entries h.1 k.1 h.2 k.2)
    ∙ sym k.3
one_ending_fault kind names part s (Levels said) a b (inl h) (inl k) = h.1 ∙ sym k.1
one_ending_fault kind names part s (Levels said) a b (inl h) (inr k) = absurd (h.0 k.0)
one_ending_fault kind names part s (Levels said) a b (inr h) (inl k) = absurd (k.0 h.0)
one_ending_fault kind names part s (Levels said) a b (inr h) (inr k) =
    h.5 ∙ ap faults.Levels (level_laws.first_faults_are_one part k.1 h.3 k.3
    (faults_are_of_what_is_said part h.1 k.1 h.3 (h.2 ∙ sym k.2) h.4) k.4) ∙ sym k.5
one_ending_fault kind names part s (Takes value moment) faults.Kind faults.Kind h k = refl
one_ending_fault kind names part s (Takes value moment) faults.Kind faults.Possible h k =
    absurd (false≢true (sym h ∙ k.0))
one_ending_fault kind names part s (Takes value moment) faults.Possible faults.Kind h k =
    absurd (false≢true (sym k ∙ h.0))
one_ending_fault kind names part s (Takes value moment) faults.Possible faults.Possible h k = refl
one_ending_fault kind names part s (Find named values) faults.Kind faults.Kind h k = refl
one_ending_fault kind names part s (Find named values) faults.Kind (faults.Lacks y) h k =
    absurd (false≢true (sym h ∙ k.0))
one_ending_fault kind names part s (Find named values) faults.Kind faults.Possible h k =
    absurd (false≢true (sym h ∙ k.0))
one_ending_fault kind names part s (Find named values) (faults.Lacks x) faults.Kind h k =
    absurd (false≢true (sym k ∙ h.0))
one_ending_fault kind names part s (Find named values) (faults.Lacks x) (faults.Lacks y) h k =
    ap faults.Lacks (h.1 ∙ sym k.1)
one_ending_fault kind names part s (Find named values) (faults.Lacks x) faults.Possible h k =
    absurd (h.2 k.1 k.2)
one_ending_fault kind names part s (Find named values) faults.Possible faults.Kind h k =
    absurd (false≢true (sym k ∙ h.0))
one_ending_fault kind names part s (Find named values) faults.Possible (faults.Lacks y) h k =
    absurd (k.2 h.1 h.2)
one_ending_fault kind names part s (Find named values) faults.Possible faults.Possible h k = refl
one_ending_fault kind names part s (Takes value moment) (faults.Lacks x) b h k = absurd h
one_ending_fault kind names part s (Takes value moment) (faults.Open x) b h k = absurd h
one_ending_fault kind names part s (Takes value moment) (faults.Changes x) b h k = absurd h
one_ending_fault kind names part s (Takes value moment) (faults.Closed x) b h k = absurd h
one_ending_fault kind names part s (Takes value moment) a (faults.Lacks y) h k = absurd k
one_ending_fault kind names part s (Takes value moment) a (faults.Open y) h k = absurd k
one_ending_fault kind names part s (Takes value moment) a (faults.Changes y) h k = absurd k
one_ending_fault kind names part s (Takes value moment) a (faults.Closed y) h k = absurd k
one_ending_fault kind names part s (Find named values) (faults.Open x) b h k = absurd h
one_ending_fault kind names part s (Find named values) (faults.Changes x) b h k = absurd h
one_ending_fault kind names part s (Find named values) (faults.Closed x) b h k = absurd h
one_ending_fault kind names part s (Find named values) a (faults.Open y) h k = absurd k
one_ending_fault kind names part s (Find named values) a (faults.Changes y) h k = absurd k
one_ending_fault kind names part s (Find named values) a (faults.Closed y) h k = absurd k
one_ending_fault kind names part s (Impossible named) faults.Kind b h k = absurd h
one_ending_fault kind names part s (Impossible named) a faults.Kind h k = absurd k
one_ending_fault kind names part s (Closed entries) faults.Kind b h k = absurd h
one_ending_fault kind names part s (Closed entries) a faults.Kind h k = absurd k
one_ending_fault kind names part s (Impossible named) (faults.Open x) b h k = absurd h
one_ending_fault kind names part s (Impossible named) (faults.Changes x) b h k = absurd h
one_ending_fault kind names part s (Impossible named) (faults.Closed x) b h k = absurd h
one_ending_fault kind names part s (Impossible named) a (faults.Open y) h k = absurd k
one_ending_fault kind names part s (Impossible named) a (faults.Changes y) h k = absurd k
one_ending_fault kind names part s (Impossible named) a (faults.Closed y) h k = absurd k
one_ending_fault kind names part s (Closed entries) (faults.Lacks x) b h k = absurd h
one_ending_fault kind names part s (Closed entries) (faults.Open x) b h k = absurd h
one_ending_fault kind names part s (Closed entries) (faults.Changes x) b h k = absurd h
one_ending_fault kind names part s (Closed entries) faults.Possible b h k = absurd h
one_ending_fault kind names part s (Closed entries) a (faults.Lacks y) h k = absurd k
one_ending_fault kind names part s (Closed entries) a (faults.Open y) h k = absurd k
one_ending_fault kind names part s (Closed entries) a (faults.Changes y) h k = absurd k
one_ending_fault kind names part s (Closed entries) a faults.Possible h k = absurd k
one_ending_fault kind names part s (Impossible named) (faults.Pairs x) b h k = absurd h
one_ending_fault kind names part s (Impossible named) a (faults.Pairs y) h k = absurd k
one_ending_fault kind names part s (Takes value moment) (faults.Pairs x) b h k = absurd h
one_ending_fault kind names part s (Takes value moment) a (faults.Pairs y) h k = absurd k
one_ending_fault kind names part s (Find named values) (faults.Pairs x) b h k = absurd h
one_ending_fault kind names part s (Find named values) a (faults.Pairs y) h k = absurd k
one_ending_fault kind names part s (Closed entries) (faults.Pairs x) b h k = absurd h
one_ending_fault kind names part s (Closed entries) a (faults.Pairs y) h k = absurd k
one_ending_fault kind names part s (Impossible named) (faults.Levels x) b h k = absurd h
one_ending_fault kind names part s (Impossible named) a (faults.Levels y) h k = absurd k
one_ending_fault kind names part s (Takes value moment) (faults.Levels x) b h k = absurd h
one_ending_fault kind names part s (Takes value moment) a (faults.Levels y) h k = absurd k
one_ending_fault kind names part s (Find named values) (faults.Levels x) b h k = absurd h
one_ending_fault kind names part s (Find named values) a (faults.Levels y) h k = absurd k
one_ending_fault kind names part s (Closed entries) (faults.Levels x) b h k = absurd h
one_ending_fault kind names part s (Closed entries) a (faults.Levels y) h k = absurd k

-- ---- one verdict

module _ (kind : Kind) (book : List Page) (steps : List StepSaid) (ending : EndingSaid) where
  right_or_faulty : (fault : RefutationFault) → IsRefutation kind book steps ending
      → IsFaultOf kind book steps ending fault → ⊥
  right_or_faulty fault h (inl k) =
      step_before kind book steps k.0 (length steps) h.names h.part k.1
      (inside kind book steps k.0 k.1 k.2) h.left k.2
  right_or_faulty fault h (inr k) =
      let same = one_after kind book steps (length steps) h.names k.0 h.part k.1 h.left k.2 in
      let shown : IsShown kind k.0 k.1 ending =
      subst (λ (w : List Page). IsShown kind k.0 w ending) same.parts
      (subst (λ (ns : List (List ℕ)). IsShown kind ns h.part ending) same.names h.shown) in
      shown_or_fails kind book k.0 k.1 (length steps) ending fault
      (after_part kind book steps (length steps) k.0 k.1 k.2) shown k.3

  one_fault : (a b : RefutationFault) → IsFaultOf kind book steps ending a
      → IsFaultOf kind book steps ending b → a ≡ b
  one_fault a b (inl h) (inl k) =
      h.3 ∙ one_step_fault kind book steps h.0 k.0 h.1 k.1 h.2 k.2 ∙ sym k.3
  one_fault a b (inl h) (inr k) = absurd (step_before kind book steps h.0 (length steps) k.0 k.1 h.1
      (inside kind book steps h.0 h.1 h.2) k.2 h.2)
  one_fault a b (inr h) (inl k) = absurd (step_before kind book steps k.0 (length steps) h.0 h.1 k.1
      (inside kind book steps k.0 k.1 k.2) h.2 k.2)
  one_fault a b (inr h) (inr k) =
      let same = one_after kind book steps (length steps) h.0 k.0 h.1 k.1 h.2 k.2 in
      let fails : EndingFails kind k.0 k.1 (length steps) ending a =
      subst (λ (w : List Page). EndingFails kind k.0 w (length steps) ending a) same.parts
      (subst (λ (ns : List (List ℕ)). EndingFails kind ns h.1 (length steps) ending a)
      same.names h.3) in
      one_ending_fault kind k.0 k.1 (length steps) ending a b fails k.3

  -- a refutation has one verdict
  pub one_verdict : (a b : RefutationVerdict) → IsVerdictOf kind book steps ending a
      → IsVerdictOf kind book steps ending b → a ≡ b
  one_verdict Illegal Illegal h k = refl
  one_verdict Illegal (Faulty f) h k = absurd (right_or_faulty f h k)
  one_verdict (Faulty e) Illegal h k = absurd (right_or_faulty e k h)
  one_verdict (Faulty e) (Faulty f) h k = ap Faulty (one_fault e f h k)
