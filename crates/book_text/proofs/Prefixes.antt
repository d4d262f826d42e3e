-- No text is a proper prefix of another one.
use Rattle.std.proofs.Common.{◌≡◌, ◌≢◌, ℕ, suc, List, [], ◌∷◌, ◌++◌, map, get_or, Some, refl, sym, ap, subst, ◌∙◌, arith, inl, inr}
use Rattle.std.specs.Prelude.{codes, unwrap_or, option_map}
use Rattle.std.specs.List.{AllByRecursion}
use Rattle.std.proofs.lemmas.List.{append-nil}
use Rattle.std.proofs.lemmas.Option.{slice_get_cases}
use Rattle.list_laws.proofs.Elements.{AllByRecursion-append}
use Rattle.book_base.specs.declared.call.Call.{Call}
use Rattle.book_base.specs.declared.call.Record.{Record}
use Rattle.book_base.specs.Book.{Page, page_of, operation_of, record_of, IsCall}
use Rattle.book_base.proofs.PageLemmas.{caller_from_call}
use Rattle.seq_objects.specs.declared.kind.Kind.{Kind}
use Rattle.seq_objects.specs.Words.{operation_words}
use Rattle.seq_objects.specs.Replies.{reply_word}
use Rattle.seq_objects.proofs.Texts.{reply_word-IsWord}
use Rattle.text_fields.specs.declared.version.Version.{Version}
use Rattle.text_fields.specs.declared.version.Version.TheVariants.{Second}
use Rattle.text_fields.specs.Lines.{text_of, IsSolid, AreSolid}
use Rattle.text_fields.specs.Head.{TitleDue, title_words}
use Rattle.text_fields.specs.OperationLaws.{solid_kind_words}
use Rattle.text_fields.proofs.LineTexts.{text_of-cons}
use Rattle.text_fields.proofs.NumberTexts.{same_first, solid_word, solid_decimal}
use Rattle.text_fields.proofs.HeadTexts.{plain}
use Rattle.text_fields.proofs.Sharp.{same_line, same_rest}
use Rattle.book_text.specs.CallLines.{place_words}
use Rattle.book_text.specs.Grammar.{end_words, IsWritable, IsWrittenText}
use Rattle.book_text.specs.BookRules.{InHead, AtEnd, book_rules, IsBookText}
use Rattle.book_text.proofs.SharpBooks.{book_sharp}
use Rattle.book_text.proofs.Readings.{one_book}
use Rattle.book_text.proofs.WrittenTexts.{written_is_read}
use Rattle.sketch.specs.declared.event.Event.{Event}
use Rattle.sketch.specs.declared.event.Event.TheVariants.{Invoke, Return}
use Rattle.sketch.specs.Sketch.{IsEventOf}
use Rattle.book_text.specs.Sketches.{call_operation, call_reply, event_words, sketch_lines, AreEventsOf}
use Rattle.book_text.proofs.Texts.{value_is}

pub written_is_one : (version : Version) (bytes : List ℕ) (k l : Kind) (a b : List Page)
    → IsWrittenText version bytes k a → IsWrittenText version bytes l b → (k ≡ l) × (a ≡ b)
written_is_one version bytes k l a b h j = one_book version bytes k l a b
    (written_is_read version bytes k a h) (written_is_read version bytes l b j)

pub no_prefix : (version : Version) (bytes more : List ℕ) (k l : Kind) (a b : List Page)
    → IsBookText version bytes k a → IsBookText version (bytes ++ more) l b → more ≡ []
no_prefix version bytes more k l a b h j =
    let ls : List (List (List ℕ)) = h.1.goes.lines in
    let ms : List (List (List ℕ)) = j.1.goes.lines in
    let one : bytes ≡ text_of ls =
    h.1.goes.bytes ∙ ap (λ (x : List ℕ). text_of ls ++ x) h.1.through ∙ append-nil (text_of ls) in
    let both : text_of ls ++ more ≡ text_of ms ++ [] = ap (λ (x : List ℕ). x ++ more) (sym one)
    ∙ j.1.goes.bytes ∙ ap (λ (x : List ℕ). text_of ms ++ x) j.1.through in
    same_rest (book_rules version) (book_sharp version) (InHead TitleDue) (AtEnd k a)
    (AtEnd l b) ls ms more [] h.1.goes.right j.1.goes.right refl refl both

-- ---- sketches

-- none of these lines is 'end'
abbrev NoEnd : List (List (List ℕ)) → Type 0
NoEnd lines = AllByRecursion (λ (words : List (List ℕ)). AreSolid words × (words ≢ end_words)) lines

solid_end : AreSolid end_words
solid_end = record {
  some = omega arith;
  each = (plain (codes "end") (omega arith, (omega arith, (omega arith, tt))) (omega arith), tt);
}

-- of two lists of lines up to the first 'end' none is a proper prefix of the other
ends_once : (a b : List (List (List ℕ))) (more : List ℕ) → NoEnd a → NoEnd b
    → text_of (a ++ end_words ∷ []) ++ more ≡ text_of (b ++ end_words ∷ []) ++ [] → more ≡ []
ends_once [] [] more h k e =
    (same_line end_words end_words (text_of [] ++ more) (text_of [] ++ []) solid_end solid_end
    (sym (text_of-cons end_words [] more) ∙ e ∙ text_of-cons end_words [] [])).1
ends_once [] (w ∷ b) more h k e =
    absurd (k.0.1
    (sym (same_line end_words w (text_of [] ++ more) (text_of (b ++ end_words ∷ []) ++ []) solid_end
    k.0.0 (sym (text_of-cons end_words [] more) ∙ e ∙ text_of-cons w (b ++ end_words ∷ []) [])).0))
ends_once (v ∷ a) [] more h k e =
    absurd (h.0.1 (same_line v end_words (text_of (a ++ end_words ∷ []) ++ more)
    (text_of [] ++ []) h.0.0 solid_end
    (sym (text_of-cons v (a ++ end_words ∷ []) more) ∙ e ∙ text_of-cons end_words [] [])).0)
ends_once (v ∷ a) (w ∷ b) more h k e =
    ends_once a b more h.1 k.1
    (same_line v w (text_of (a ++ end_words ∷ []) ++ more) (text_of (b ++ end_words ∷ []) ++ [])
    h.0.0 k.0.0 (sym (text_of-cons v (a ++ end_words ∷ []) more) ∙ e
    ∙ text_of-cons w (b ++ end_words ∷ []) [])).1

not_end : (word : List ℕ) (words : List (List ℕ)) → get_or word 0 0 ≢ 101 → word ∷ words ≢ end_words
not_end word words first e =
    first (ap (λ (x : List ℕ). get_or x 0 0) (same_first word (codes "end") words [] e).0)

module _ (kind : Kind) (book : List Page) (w : IsWritable Second kind book) where
  solid_place : (call : Call) → IsCall book call → AllByRecursion IsSolid (place_words call)
  solid_place call is =
      let caller = caller_from_call book call.caller call.number is in (
        solid_decimal call.caller (omega (arith, caller, w.callers)),
        (solid_decimal call.number (omega (arith, is, w.calls call.caller)), tt),
      )

  event_solid : (event : Event) → IsEventOf book event → AreSolid (event_words kind book event)
      × (event_words kind book event ≢ end_words)
  event_solid (Invoke call) is =
      let ops : List (List ℕ) = operation_words kind (call_operation book call) in
      let there : (op : ℕ) × (operation_of book call ≡ Some op) =
      elim (slice_get_cases (page_of book call.caller).operations call.number).1 [
        | inl some ↦ (some.0, some.2)
        | inr past ↦ absurd (omega (arith, past.0, is))
      ] in
      let solid : AreSolid ops = subst (λ (op : ℕ). AreSolid (operation_words kind op))
      (sym (value_is (operation_of book call) there.0 0 there.1))
      (solid_kind_words Second kind there.0 (w.operations call there.0 there.1)) in (
        record {
          some = omega arith;
          each = (
            plain (codes "call") (omega arith, (omega arith, (omega arith, (omega arith, tt))))
                (omega arith),
            AllByRecursion-append IsSolid (place_words call) ops (solid_place call is) solid.each,
          );
        },
        not_end (codes "call") (place_words call ++ ops) (λ e. omega arith),
      )
  event_solid (Return call) is =
      let there : (r : Record) × (record_of book call ≡ Some r) =
      elim (slice_get_cases (page_of book call.caller).records call.number).1 [
        | inl some ↦ (some.0, some.2)
        | inr past ↦ absurd (omega (arith, past.0, is))
      ] in
      let made : IsCall book call = omega (arith, is, w.valid.answers call.caller) in
      let reply : call_reply book call ≡ there.0.reply =
      ap (λ o. unwrap_or (option_map (λ (answer : Record). answer.reply) o) 0) there.1 in
      let word : IsSolid (reply_word (call_reply book call)) =
      subst (λ (n : ℕ). IsSolid (reply_word n)) (sym reply) (solid_word (reply_word there.0.reply)
      (reply_word-IsWord there.0.reply (w.replies call there.0 there.1))) in (
        record {
          some = omega arith;
          each = (
            plain (codes "return") (
              omega arith,
              (omega arith, (omega arith, (omega arith, (omega arith, (omega arith, tt))))),
            ) (omega arith),
            AllByRecursion-append IsSolid (place_words call)
                (reply_word (call_reply book call) ∷ []) (solid_place call made) (word, tt),
          );
        },
        not_end (codes "return") (place_words call ++ reply_word (call_reply book call) ∷ [])
            (λ e. omega arith),
      )

  events_solid : (events : List Event) → AreEventsOf book events
      → NoEnd (map (event_words kind book) events)
  events_solid [] of = tt
  events_solid (event ∷ events) of = (
    event_solid event (of event (0, refl)),
    events_solid events (λ other stands. of other (suc stands.0, stands.1)),
  )

  sketch_solid : (events : List Event) → AreEventsOf book events
      → NoEnd (title_words Second (codes "sketch") ∷ map (event_words kind book) events)
  sketch_solid events of = (
    (
      record {
        some = omega arith;
        each = (
          plain (codes "sketch") (
            omega arith,
            (omega arith, (omega arith, (omega arith, (omega arith, (omega arith, tt))))),
          ) (omega arith),
          (plain (codes "2") (omega arith, tt) (omega arith), tt),
        );
      },
      not_end (codes "sketch") (codes "2" ∷ []) (λ e. omega arith),
    ),
    events_solid events of,
  )

pub no_sketch_prefix : (more : List ℕ) (k l : Kind) (a b : List Page) (events others : List Event)
    → IsWritable Second k a → AreEventsOf a events → IsWritable Second l b → AreEventsOf b others
    → text_of (sketch_lines k a events) ++ more ≡ text_of (sketch_lines l b others) → more ≡ []
no_sketch_prefix more k l a b events others v of w from e =
    ends_once (title_words Second (codes "sketch") ∷ map (event_words k a) events)
    (title_words Second (codes "sketch") ∷ map (event_words l b) others) more
    (sketch_solid k a v events of) (sketch_solid l b w others from)
    (e ∙ sym (append-nil (text_of (sketch_lines l b others))))
