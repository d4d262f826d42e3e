-- The lock that is told step by step.
use Rattle.std.proofs.Common.{◌≡◌, ℕ, zero, suc, Bool, false, cond, nat_eq, [], ◌∷◌, Contains, None, Some, refl, sym, ap, subst, ◌∙◌, inl, inr, arith}
use Rattle.std.proofs.lemmas.Bool.{cases_Bool, and_parts, and_from, eqb-true, eq-eqb, true≢false}
use Rattle.std.proofs.lemmas.Option.{same_Some, none-some}
use Rattle.book_base.specs.SeqSpec.{SeqSpec}
use Rattle.book_base.specs.Book.{operation_of}
use Rattle.book_base.specs.Order.{IsLegalOrder}
use Rattle.told_models.specs.declared.answer.Answer.TheVariants.{Ask}
use Rattle.told_models.specs.Table.{is_same_pair, Extends, TellsStep}
use Rattle.told_models.specs.Agreement.{Agrees}
use Rattle.told_models.specs.Completion.{completion}
use Rattle.told_models.specs.Closed.{IsClosedTo, IsWordOf}
use Rattle.told_models.specs.Answers.{IsRightAnswer}
use Rattle.told_models.specs.Search.{LeadsInto, AreExpanded}
use Rattle.told_models.proofs.Telling.{tells_step, extends-tells}
use Rattle.told_models.proofs.Inserting.{element_at}
use Rattle.told_models.proofs.Agreeing.{agrees_with_fewer, legal_for_all}
use Rattle.model_examples.proofs.Lookups.{found_step}
use Rattle.model_examples.proofs.TwoCalls.{two_calls_are_legal}
use Rattle.told_models.proofs.Searching.{expanded-closed}
use Rattle.model_examples.specs.Locks.{nothing_told, acquired, refused, twice, twice_list, other_lock, two_calls, two_places, to}

first_word : IsWordOf (two_calls 1 1 1 0) 1
first_word = (record { caller = 0; number = 0 }, refl)

-- pairs are told apart either way round
apart_back : (a b : ℕ × ℕ) → is_same_pair a b ≡ false → is_same_pair b a ≡ false
apart_back a b apart = elim (cases_Bool (is_same_pair b a)) [
  | inr differs ↦ differs
  | inl same ↦ let parts = and_parts (nat_eq b.0 a.0) (nat_eq b.1 a.1) same in
      absurd (true≢false (sym (and_from (nat_eq a.0 b.0) (nat_eq a.1 b.1)
      (eq-eqb a.0 b.0 (sym (eqb-true b.0 a.0 parts.0)))
      (eq-eqb a.1 b.1 (sym (eqb-true b.1 a.1 parts.1)))) ∙ apart))
]

second_tells : TellsStep acquired refused 1 1 (to 1 0)
second_tells = tells_step acquired refused 1 1 (to 1 0) refl refl refl
    (λ q apart. ap (λ (b : Bool). cond (is_same_pair q (0, 1)) (Some (to 1 1))
    (cond b (Some (to 1 0)) None)) (apart_back (1, 1) q apart))

pub lock_extends : Extends acquired refused
lock_extends = extends-tells acquired refused 1 1 (to 1 0) refl second_tells

pub second_ask : IsRightAnswer acquired (two_calls 1 1 1 0) (Ask 1 1)
second_ask = record {
  untold = refl;
  word = first_word;
  near = record {
    steps = (1, 1) ∷ [];
    few = omega arith;
    words = (first_word, tt);
    reached = (to 1 1, refl, refl, refl);
  };
}

pub first_ask : IsRightAnswer nothing_told (two_calls 1 1 1 0) (Ask 0 1)
first_ask = record {
  untold = refl;
  word = first_word;
  near = record { steps = []; few = omega arith; words = tt; reached = refl };
}

-- the step of the one word leads from each state into both
lock_leads : (state op : ℕ) → Contains (0 ∷ 1 ∷ []) state → Contains (1 ∷ []) op
    → LeadsInto refused (0 ∷ 1 ∷ []) state op
lock_leads state op (zero, less, is) (zero, inside, same) =
    subst (λ (s : ℕ). LeadsInto refused (0 ∷ 1 ∷ []) s op) is
    (subst (LeadsInto refused (0 ∷ 1 ∷ []) 0) same (to 1 1, refl, (1, omega arith, refl)))
lock_leads state op (suc zero, less, is) (zero, inside, same) =
    subst (λ (s : ℕ). LeadsInto refused (0 ∷ 1 ∷ []) s op) is
    (subst (LeadsInto refused (0 ∷ 1 ∷ []) 1) same (to 1 0, refl, (1, omega arith, refl)))
lock_leads state op (suc (suc k), less, is) (zero, inside, same) = absurd (omega (arith, less))
lock_leads state op (k, less, is) (suc j, inside, same) = absurd (omega (arith, inside))

lock_expanded : AreExpanded refused (1 ∷ []) (0 ∷ 1 ∷ []) 0 2
lock_expanded k state op from to at among =
    lock_leads state op (element_at (0 ∷ 1 ∷ []) k state at) among

pub lock_closed : (most : ℕ) → IsClosedTo refused (Contains (1 ∷ [])) most
lock_closed most = expanded-closed refused (1 ∷ []) (0 ∷ 1 ∷ []) most (0, omega arith, refl)
    lock_expanded

pub lock_agrees : Agrees refused other_lock
lock_agrees = (
  λ state. state ∷ [],
  record {
    init = refl;
    steps = found_step (λ state op t. other_lock.next (state ∷ []) op ≡ (t.next ∷ [], t.reply))
        refused.steps (refl, (refl, tt));
    promises = λ op reply made. absurd (true≢false (sym made));
  },
)

pub first_agrees : Agrees acquired other_lock
first_agrees = agrees_with_fewer acquired refused other_lock lock_extends lock_agrees

pub twice_agrees : Agrees twice other_lock
twice_agrees = (
  twice_list,
  record {
    init = refl;
    steps = found_step (λ state op t. other_lock.next (twice_list state) op
        ≡ (twice_list t.next, t.reply)) twice.steps (refl, (refl, (refl, tt)));
    promises = λ op reply made. absurd (true≢false (sym made));
  },
)

-- the table with the first step isn't closed to two steps, since the step of the held state is
-- untold
pub first_is_open : IsClosedTo acquired (Contains (1 ∷ [])) 2 → ⊥
first_is_open closed =
    let told = closed 1 1 (record {
      steps = (1, 1) ∷ [];
      few = omega arith;
      words = ((0, omega arith, refl), tt);
      reached = (to 1 1, refl, refl, refl);
    }) (0, omega arith, refl) in
    absurd (none-some told.0 told.1)

pub lock_words : (op : ℕ) → IsWordOf (two_calls 1 1 1 0) op → Contains (1 ∷ []) op
lock_words op word = word_at word.0.caller word.0.number word.1
  where
    word_at : (i k : ℕ) → operation_of (two_calls 1 1 1 0) (record { caller = i; number = k })
        ≡ Some op → Contains (1 ∷ []) op
    word_at zero zero at = (0, omega arith, same_Some 1 op at)
    word_at zero (suc zero) at = (0, omega arith, same_Some 1 op at)
    word_at zero (suc (suc k)) at = absurd (none-some op at)
    word_at (suc i) k at = absurd (none-some op at)

-- the order of the two calls is legal for each lock that agrees with both steps
pub lock_legal : (spec : SeqSpec) → Agrees refused spec
    → IsLegalOrder spec (two_calls 1 1 1 0) (two_places 1 0)
lock_legal = legal_for_all refused (two_calls 1 1 1 0) (1 ∷ [])
    (λ state op t told made. absurd (true≢false (sym made))) lock_words (lock_closed 2)
    (two_places 1 0) (two_calls_are_legal (completion refused) 1 1 1 0 refl refl)
