-- Calls at one more place of a log.
use Rattle.std.proofs.Common.{◌≡◌, ◌+◌, ◌<◌, ◌++◌, ◌∷◌, [], ℕ, Bool, true, false, List, Option, Some, None, length, map, slice_get, if◌then◌else◌, take, get_or, inl, inr, refl, sym, subst, ap}
use Rattle.std.proofs.lemmas.List.{take_more, map-append}
use Rattle.list_laws.proofs.Places.{slice_get-push_old}
use Rattle.std.specs.List.{AllZip}
use Rattle.history_text.specs.declared.call.LogCall.{LogCall}
use Rattle.history_text.specs.declared.call.LogAnswer.{LogAnswer}
use Rattle.history_books.specs.declared.timed_call.Answer.{Answer}
use Rattle.log_books.specs.declared.key_calls.LinedCall.{LinedCall}
use Rattle.log_books.specs.declared.operation.Operation.{Operation}
use Rattle.log_books.specs.declared.operation.Says.{Says}
use Rattle.log_books.specs.declared.operation.Says.TheVariants.{Done, Value, Maybe, Whether, Success}
use Rattle.log_books.specs.declared.options.Options.{Options}
use Rattle.log_books.specs.Words.{KeepsNames, StandsFor, IsReplyOf, IsWordOf, has_numbers}
use Rattle.log_books.specs.Calls.{IsAnswerOf, IsMadeOf, IsLeftOutAt, IsMadeAt, AreMadeAt}

-- values that keep their numbers twice keep them
pub keeps_both : (old mid new : List (List ℕ)) → KeepsNames old mid → KeepsNames mid new
    → KeepsNames old new
keeps_both old mid new first second n name at = second n name (first n name at)

-- names to which one more is added, unless it is there
pub keeps_mapped : {X : Type 0} (f : X → List ℕ) (there : Bool) (old new : List X) (x : X)
    → new ≡ (if there then old else old ++ x ∷ []) → KeepsNames (map f old) (map f new)
keeps_mapped f true old new x is n name at =
    subst (λ l. slice_get (map f l) n ≡ Some name) (sym is) at
keeps_mapped f false old new x is n name at =
    subst (λ l. slice_get (map f l) n ≡ Some name) (sym is)
    (subst (λ l. slice_get l n ≡ Some name) (sym (map-append f old (x ∷ [])))
    (slice_get-push_old (map f old) (f x) n name at))

-- two lists with one more item each
pub zipped_more : {A B : Type 0} (R : A → B → Type 0) (xs : List A) (ys : List B) (x : A) (y : B)
    → AllZip R xs ys → R x y → AllZip R (xs ++ x ∷ []) (ys ++ y ∷ [])
zipped_more R [] [] x y all one = (one, tt)
zipped_more R [] (b ∷ ys) x y all one = absurd all
zipped_more R (a ∷ xs) [] x y all one = absurd all
zipped_more R (a ∷ xs) (b ∷ ys) x y all one = (all.0, zipped_more R xs ys x y all.1 one)

module _ (old new : List (List ℕ)) (keeps : KeepsNames old new) where
  -- what numbers stood for they still stand for when more values have names
  pub stands_on : (numbered : Bool) (value : List ℕ) (n : ℕ) → StandsFor numbered old value n
      → StandsFor numbered new value n
  stands_on true value n h = h
  stands_on false value n h = (h.0, keeps n value h.1)

  pub all_stand_on : (numbered : Bool) (values : List (List ℕ)) (numbers : List ℕ)
      → AllZip (StandsFor numbered old) values numbers → AllZip (StandsFor numbered new) values numbers
  all_stand_on numbered [] [] h = h
  all_stand_on numbered [] (n ∷ numbers) h = absurd h
  all_stand_on numbered (v ∷ values) [] h = absurd h
  all_stand_on numbered (v ∷ values) (n ∷ numbers) h =
      (stands_on numbered v n h.0, all_stand_on numbered values numbers h.1)

  pub word_on : (options : Options) (operation : Operation) (call : LogCall) (op : ℕ)
      → IsWordOf options old operation call op → IsWordOf options new operation call op
  word_on options operation call op h = record {
    values = h.values;
    numbers = h.numbers;
    used = h.used;
    given = h.given;
    many = h.many;
    stand = all_stand_on (has_numbers options.kind) h.values h.numbers h.stand;
    spelled = h.spelled;
  }

  reply_on : (numbered : Bool) (says : Says) (value : List ℕ) (reply : ℕ)
      → IsReplyOf numbered old says value reply → IsReplyOf numbered new says value reply
  reply_on numbered Done value reply h = h
  reply_on numbered Success value reply h = h
  reply_on numbered Whether value reply h = h
  reply_on numbered Maybe value reply (inl h) = inl h
  reply_on numbered Maybe value reply (inr h) = inr (h.0, stands_on numbered value h.0 h.1, h.2)
  reply_on numbered Value value reply h = (h.0, stands_on numbered value h.0 h.1, h.2)

  answer_on : (options : Options) (operation : Operation) (answer : Option LogAnswer)
      (made : Option Answer) (end : Option ℕ) → IsAnswerOf options old operation answer made end
      → IsAnswerOf options new operation answer made end
  answer_on options operation None made end h = h
  answer_on options operation (Some answer) made end h =
      (h.0, h.1, h.2, h.3, reply_on (has_numbers options.kind) operation.says _ h.0.reply h.4)

  made_on : (options : Options) (call : LogCall) (made : LinedCall)
      → IsMadeOf options old call made → IsMadeOf options new call made
  made_on options call made h = record {
    operation = h.operation;
    named = h.named;
    word = word_on options h.operation call made.call.op h.word;
    line = h.line;
    invoked = h.invoked;
    answered = answer_on options h.operation call.answer made.call.answer made.end h.answered;
  }

  pub all_made_on : (options : Options) (log : List LogCall) (places : List ℕ) (made : List LinedCall)
      → AreMadeAt options old log places made → AreMadeAt options new log places made
  all_made_on options log [] made are = are
  all_made_on options log (p ∷ places) made (inl h) =
      inl (h.0, all_made_on options log places made h.1)
  all_made_on options log (p ∷ places) made (inr h) =
      inr (
        h.0,
        h.1,
        h.2,
        (h.3.0, h.3.1, made_on options h.3.0 h.0 h.3.2),
        all_made_on options log places h.1 h.4,
      )

module _ (options : Options) (names : List (List ℕ)) (log : List LogCall) where
  -- a call at one more place may be left out
  left_more : (places : List ℕ) (place : ℕ) (made : List LinedCall)
      → AreMadeAt options names log places made → IsLeftOutAt options log place
      → AreMadeAt options names log (places ++ place ∷ []) made
  left_more [] place made are out = inl (out, are)
  left_more (p ∷ places) place made (inl h) out = inl (h.0, left_more places place made h.1 out)
  left_more (p ∷ places) place made (inr h) out =
      inr (h.0, h.1, h.2, h.3, left_more places place h.1 h.4 out)

  -- the call at one more place comes last
  made_more : (places : List ℕ) (place : ℕ) (made : List LinedCall) (last : LinedCall)
      → AreMadeAt options names log places made → IsMadeAt options names log place last
      → AreMadeAt options names log (places ++ place ∷ []) (made ++ last ∷ [])
  made_more [] place made last are is =
      inr (last, [], ap (λ (l : List LinedCall). l ++ last ∷ []) are, is, refl)
  made_more (p ∷ places) place made last (inl h) is =
      inl (h.0, made_more places place made last h.1 is)
  made_more (p ∷ places) place made last (inr h) is =
      inr (
        h.0,
        h.1 ++ last ∷ [],
        ap (λ (l : List LinedCall). l ++ last ∷ []) h.2,
        h.3,
        made_more places place h.1 last h.4 is,
      )

  -- the calls at the places up to the next one, where that is left out
  pub left_next : (places : List ℕ) (i : ℕ) (made : List LinedCall) → i < length places
      → AreMadeAt options names log (take i places) made
      → IsLeftOutAt options log (get_or places i 0)
      → AreMadeAt options names log (take (i + 1) places) made
  left_next places i made low are out =
      subst (λ (ps : List ℕ). AreMadeAt options names log ps made) (sym (take_more places i 0 low))
      (left_more (take i places) (get_or places i 0) made are out)

  -- and where the call there comes last
  pub made_next : (places : List ℕ) (i : ℕ) (made joined : List LinedCall) (last : LinedCall)
      → i < length places → AreMadeAt options names log (take i places) made
      → IsMadeAt options names log (get_or places i 0) last → joined ≡ made ++ last ∷ []
      → AreMadeAt options names log (take (i + 1) places) joined
  made_next places i made joined last low are is more =
      subst (λ (ps : List ℕ). AreMadeAt options names log ps joined) (sym (take_more places i 0 low))
      (subst (λ (cs : List LinedCall). AreMadeAt options names log
      (take i places ++ get_or places i 0 ∷ []) cs) (sym more)
      (made_more (take i places) (get_or places i 0) made last are is))
