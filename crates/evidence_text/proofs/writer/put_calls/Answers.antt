use Rattle.std.proofs.Common.{◌≡◌, ℕ, ◌+◌, ◌<◌, ◌∙◌, List, [], ◌∷◌, ◌++◌, length, take, get_or, sym, ap, subst}
use Rattle.std.specs.List.{AllByRecursion, flat_map}
use Rattle.std.proofs.lemmas.Grind.{flat_map-append}
use Rattle.std.proofs.lemmas.List.{take_more}
use Rattle.list_laws.proofs.Elements.{AllByRecursion-append}
use Rattle.book_base.specs.declared.call.Call.{Call}
use Rattle.book_text.specs.CallLines.{place_words}
use Rattle.book_text.specs.Fields.{spaced}
use Rattle.book_text.proofs.WrittenLines.{both_pieces, spaced-append}
use Rattle.certificate_text.specs.Grammar.{IsNamed}
use Rattle.evidence_text.proofs.writer.put_calls.Goals as goal

module _ (calls : List Call) (i : ℕ) (d : Call) (lt : i < length calls) where
  named_more : AllByRecursion IsNamed (take i calls) → IsNamed (get_or calls i d)
      → AllByRecursion IsNamed (take (i + 1) calls)
  named_more before named = subst (AllByRecursion IsNamed) (sym (take_more calls i d lt))
      (AllByRecursion-append IsNamed (take i calls) (get_or calls i d ∷ []) before (named, tt))

  words_more : (old middle new : List ℕ)
      → middle ≡ old ++ spaced (flat_map place_words (take i calls))
      → new ≡ middle ++ spaced (place_words (get_or calls i d))
      → new ≡ old ++ spaced (flat_map place_words (take (i + 1) calls))
  words_more old middle new h k =
      let call : Call = get_or calls i d in
      let before : List (List ℕ) = flat_map place_words (take i calls) in
      both_pieces old middle new (spaced before) (spaced (place_words call)) h k
      ∙ ap (λ (x : List ℕ). old ++ x) (sym (spaced-append before (place_words call))
      ∙ ap spaced (sym (flat_map-append place_words (take i calls) (call ∷ []))
      ∙ ap (flat_map place_words) (sym (take_more calls i d lt))))

pub loop-call-preserved : goal.loop-call-preserved
loop-call-preserved c =
    let calls : List Call = c.args.calls.now in
    let i = c.loop-call.call-index in
    record {
      text = words_more calls i _ c.loop-call-test.true c.args.out.now.items c.loop-call.out.items
          c.put_call.new.out.items c.loop-call.invariant.text c.in_ok-put_call.ensures.text;
      may = named_more calls i _ c.loop-call-test.true c.loop-call.invariant.may
          c.in_ok-put_call.ensures.may;
    }
