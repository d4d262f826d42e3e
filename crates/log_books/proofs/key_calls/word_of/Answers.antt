use Rattle.std.proofs.Common.{◌<◌, ◌∙◌, ◌++◌, ◌∷◌, [], ℕ, List, length, ap, sym, subst, map, take, decimal, arith}
use Rattle.std.proofs.lemmas.List.{map-append}
use Rattle.std.specs.List.{AllZip}
use Rattle.list_laws.proofs.Maps.{map-take_more}
use Rattle.log_books.specs.Words.{names_of, StandsFor}
use Rattle.log_books.proofs.Making.{all_stand_on, zipped_more}
use Rattle.log_books.proofs.key_calls.word_of.Goals as goal

pub returns-in_err-value-clause-keeps : goal.returns-in_err-value-clause-keeps
returns-in_err-value-clause-keeps c = λ n name at.
    c.number_of.ensures.keeps n name (c.loop-argument.invariant.keeps n name at)

pub returns-in_default-clause-keeps : goal.returns-in_default-clause-keeps
returns-in_default-clause-keeps c = λ n name at.
    c.number_of.ensures.keeps n name (c.loop-argument.invariant.keeps n name at)

pub returns-in_err-put_number-clause-keeps : goal.returns-in_err-put_number-clause-keeps
returns-in_err-put_number-clause-keeps c = λ n name at.
    c.number_of.ensures.keeps n name (c.loop-argument.invariant.keeps n name at)

pub returns-in_err-push-clause-keeps : goal.returns-in_err-push-clause-keeps
returns-in_err-push-clause-keeps c = λ n name at.
    c.number_of.ensures.keeps n name (c.loop-argument.invariant.keeps n name at)

pub loop-argument-preserved : goal.loop-argument-preserved
loop-argument-preserved c =
    let items = c.deref-argument-items.result.now in
    let i = c.loop-argument.argument-index in
    let low : i < length items = omega (arith, c.loop-argument-test.true) in
    let known = c.loop-argument.invariant in
    let numbers = known.read.0 in
    let value = c.in-Some.value in
    let new = c.number_of.new.self in
    let old = c.loop-argument.names in
    let so_far = map (λ argument. argument.now) (take i items) in
    let before : AllZip (StandsFor new.numbered (names_of new)) so_far numbers =
    subst (λ numbered. AllZip (StandsFor numbered (names_of new)) so_far numbers)
    (sym c.number_of.ensures.numbered)
    (all_stand_on (names_of old) (names_of new) c.number_of.ensures.keeps old.numbered so_far
    numbers known.read.1) in
    record {
      numbered = c.number_of.ensures.numbered ∙ known.numbered;
      keeps = λ n name at. c.number_of.ensures.keeps n name (known.keeps n name at);
      read = (
        numbers ++ value ∷ [],
        subst (λ (l : List (List ℕ)). AllZip (StandsFor new.numbered (names_of new)) l
            (numbers ++ value ∷ []))
            (map-take_more (λ argument. argument.now) items i (record { ref_ptr = (0, 0); now = [] }) low)
            (zipped_more (StandsFor new.numbered (names_of new)) so_far numbers _ value before
            (rw c.in-Some.is at c.in_ok-value.ensures.stands)),
        ap (λ l. map (λ word. word.items) l) c.in_ok-push.ensures.items
            ∙ map-append (λ word. word.items) c.loop-argument.words.items (c.put_number.new.out ∷ [])
            ∙ ap (λ (l : List (List ℕ)). l ++ c.put_number.new.out.items ∷ []) known.read.2
            ∙ ap (λ (w : List ℕ). map decimal numbers ++ w ∷ [])
            (c.in_ok-put_number.ensures.ok
            ∙ ap (λ (l : List ℕ). l ++ decimal value) c.new-word.ensures.items)
            ∙ sym (map-append decimal numbers (value ∷ [])),
      );
    }
