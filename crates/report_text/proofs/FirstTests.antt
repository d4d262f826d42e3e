-- The first test that a line fails, as a reader comes upon it.
use Rattle.std.proofs.Common.{◌≡◌, ◌≢◌, ℕ, ◌<◌, ◌≤◌, ◌^◌, List, ◌∷◌, ◌++◌, length, Some, None, refl, sym, ap, subst, ◌∙◌, arith, inl, inr}
use Rattle.std.specs.Prelude.{codes}
use Rattle.book_base.specs.declared.TheConstants.{MAX_CALLERS}
use Rattle.book_base.specs.declared.call.Call.{Call}
use Rattle.book_base.specs.declared.fault.ReadFault.{ReadFault}
use Rattle.book_base.specs.declared.fault.ReadFault.TheVariants.{Text}
use Rattle.book_base.specs.Book.{Page}
use Rattle.book_base.specs.declared.call.Record.{Record}
use Rattle.book_base.specs.declared.fault.BookFault.{BookFault}
use Rattle.book_base.specs.declared.fault.BookFault.TheVariants as tests
use Rattle.book_base.specs.declared.fault.What.{What}
use Rattle.book_base.specs.declared.fault.What.TheVariants as what
use Rattle.book_base.specs.OperationWord.{IsOperationWord}
use Rattle.book_base.specs.Refusal.{MayAnswer, FailsTest, IsFirstFault}
use Rattle.book_base.specs.Refusal as refusal
use Rattle.seq_objects.specs.declared.kind.Kind.{Kind}
use Rattle.seq_objects.specs.Words.{operation_words}
use Rattle.seq_objects.specs.Replies.{reply_word}
use Rattle.text_fields.specs.declared.version.Version.TheVariants.{Second}
use Rattle.text_fields.specs.Faults.{turn_of, IsFirstTest}
use Rattle.book_text.specs.CallLines.{place_words, IsAfterOperation, IsAfterReply, view_test}
use Rattle.book_text.specs.Entries.{BeginWithNone}
use Rattle.book_text.proofs.CallTexts.{test_turn, test_late}
use Rattle.client_scripts.proofs.SharpScripts.{small_has}
use Rattle.client_scripts.specs.ScriptRules.{grouped, IsNamedCall}
use Rattle.report_lines.specs.declared.line.Line.{Line}
use Rattle.report_lines.specs.declared.line.LineEnd.{LineEnd}
use Rattle.report_lines.specs.declared.line.LineEnd.TheVariants.{Pending, Unchecked, Delivered, Error}
use Rattle.text_fields.specs.Counts.{pair_words}
use Rattle.report_text.specs.ReportRules.{book_so_far, IsAnswer, SaysLine, IsAfterView, LineFails}
use Rattle.report_text.specs.Parts.{IsNoAnswer, IsPrefix, IsPrefixRefused, SayVerdict, IsNoVerdict, answer_in, MayTell, IsAnswerRefused, AreWordsRefused, IsMisfit}
use Rattle.report_text.proofs.WordTexts.{operations_of, FailsViewTest, after_op, one_view, passes_place, passes_op, passes_reply, passes_view, passes_tests, passes_mark, no_earlier}
use Rattle.report_text.proofs.Pushing.{length-book_so_far}
use Rattle.report_text.proofs.RightLines.{after_view, said_place, said_op, said_reply, said_view, said_tests, said_mark, said_seen}

-- the tests of views come before the verdict
test_early : (fault : BookFault) (name : What) → view_test fault ≡ Some name → turn_of name ≤ 14
test_early tests.TooManyCalls name e = absurd cc
test_early tests.NoSuchCall name e = absurd cc
test_early (tests.ViewOutside j) name e = omega (arith, test_turn (tests.ViewOutside j) name e)
test_early (tests.ViewLacksOwn count) name e =
    omega (arith, test_turn (tests.ViewLacksOwn count) name e)
test_early (tests.ViewHasLater count) name e =
    omega (arith, test_turn (tests.ViewHasLater count) name e)
test_early (tests.ViewsCross other) name e =
    omega (arith, test_turn (tests.ViewsCross other) name e)
test_early tests.NoMemory name e = absurd cc

-- a test of views is tried after those of the line by itself
test_from : (fault : BookFault) (name : What) → view_test fault ≡ Some name → 11 ≤ turn_of name
test_from fault name e = let late = test_late fault name e in omega arith

module _ (kind : Kind) (counts : List ℕ) (told : List Line) (call : Call)
    (words : List (List ℕ)) where
  abbrev F : What → Type 0
  F name = LineFails kind counts told call words name

  -- no test of views comes before turn 11
  no_test_before : (k : ℕ) → k ≤ 11 → (name : What) → turn_of name < k
      → FailsViewTest kind counts told call words name → ⊥
  no_test_before k few name lt t = let late = test_from t.fault name t.test in absurd (omega arith)

  pub first_place : ((suffix : List (List ℕ)) → words ≢ place_words call ++ suffix)
      → IsFirstTest F what.Place
  first_place none = record {
    fails = none;
    first = no_earlier kind counts told call words 6 (λ lt. absurd (omega arith))
        (λ lt. absurd (omega arith)) (λ lt. absurd (omega arith)) (λ lt. absurd (omega arith))
        (no_test_before 6 (omega arith)) (λ lt. absurd (omega arith)) (λ lt. absurd (omega arith))
        (omega arith);
  }

  pub first_op : (suffix : List (List ℕ)) → words ≡ place_words call ++ suffix
      → BeginWithNone (operations_of kind) suffix → IsFirstTest F what.Op
  first_op suffix e none = record {
    fails = (suffix, e, λ op others has. none op others (small_has Second op has));
    first = no_earlier kind counts told call words 7
        (λ lt. passes_place kind counts told call words suffix e) (λ lt. absurd (omega arith))
        (λ lt. absurd (omega arith)) (λ lt. absurd (omega arith))
        (no_test_before 7 (omega arith)) (λ lt. absurd (omega arith)) (λ lt. absurd (omega arith))
        (omega arith);
  }

  pub first_answer : (op : ℕ) (suffix : List (List ℕ)) (name : What) → IsOperationWord op
      → words ≡ place_words call ++ (operation_words kind op ++ suffix)
      → IsNoAnswer (length counts) suffix name → IsFirstTest F name
  first_answer op suffix what.Reply has e h =
      let at = after_op kind counts told call words op suffix has e in
      record {
        fails = (suffix, at, h.0, h.1);
        first = no_earlier kind counts told call words 9
            (λ lt. passes_place kind counts told call words _ e)
            (λ lt. passes_op kind counts told call words suffix at) (λ lt. absurd (omega arith))
            (λ lt. absurd (omega arith))
            (no_test_before 9 (omega arith)) (λ lt. absurd (omega arith))
            (λ lt. absurd (omega arith)) (omega arith);
      }
  first_answer op suffix what.View has e h =
      let at = after_op kind counts told call words op suffix has e in
      let replied : IsAfterReply (operations_of kind) call words h.1 = record {
        reply = h.0;
        small = h.2;
        text = subst
            (λ (ws : List (List ℕ)). IsAfterOperation (operations_of kind) call words ws) h.3 at;
      } in
      record {
        fails = (h.1, replied, h.4);
        first = no_earlier kind counts told call words 10
            (λ lt. passes_place kind counts told call words _ e)
            (λ lt. passes_op kind counts told call words suffix at)
            (λ lt. passes_reply kind counts told call words h.1 replied)
            (λ lt. absurd (omega arith))
            (no_test_before 10 (omega arith)) (λ lt. absurd (omega arith))
            (λ lt. absurd (omega arith)) (omega arith);
      }
  first_answer op suffix _ has e h = absurd h

  module _ (small : length counts < 2 ^ 64) (view : List ℕ) (suffix : List (List ℕ))
      (at : IsAfterView kind (length counts) call words view suffix) where
    view_place : F what.Place → ⊥
    view_place = passes_place kind counts told call words _ at.text.text.text

    view_op : F what.Op → ⊥
    view_op = passes_op kind counts told call words _ at.text.text

    view_reply : F what.Reply → ⊥
    view_reply = passes_reply kind counts told call words _ at.text

    view_view : F what.View → ⊥
    view_view = passes_view kind counts told call words view suffix small at

    fails_test : (fault : BookFault) (name : What) → view_test fault ≡ Some name
        → FailsTest (book_so_far counts told) call.caller view fault → F name
    fails_test tests.TooManyCalls name e h = absurd cc
    fails_test tests.NoSuchCall name e h = absurd cc
    fails_test (tests.ViewOutside j) name e h = let same : what.ViewOutside ≡ name = cc in
        subst F same (view, suffix, tests.ViewOutside j, at, refl, h)
    fails_test (tests.ViewLacksOwn count) name e h = let same : what.ViewLacksOwn ≡ name = cc in
        subst F same (view, suffix, tests.ViewLacksOwn count, at, refl, h)
    fails_test (tests.ViewHasLater count) name e h = let same : what.ViewHasLater ≡ name = cc in
        subst F same (view, suffix, tests.ViewHasLater count, at, refl, h)
    fails_test (tests.ViewsCross other) name e h = let same : what.ViewsCross ≡ name = cc in
        subst F same (view, suffix, tests.ViewsCross other, at, refl, h)
    fails_test tests.NoMemory name e h = absurd cc

    pub first_test : (fault : BookFault) (name : What) → view_test fault ≡ Some name
        → IsFirstFault (book_so_far counts told) call.caller view fault → IsFirstTest F name
    first_test fault name e h =
        let few = test_early fault name e in
        record {
          fails = fails_test fault name e h.fails;
          first = no_earlier kind counts told call words (turn_of name) (λ lt. view_place)
              (λ lt. view_op) (λ lt. view_reply) (λ lt. view_view)
              (λ other lt t.
              let same : t.view ≡ view = (one_view kind counts told call words t.view view t.suffix
              suffix small t.at at).cuts in
              let before : refusal.turn_of t.fault < refusal.turn_of fault =
              omega (arith, test_turn t.fault other t.test, test_turn fault name e) in
              h.first t.fault (inl before)
              (subst (λ (v : List ℕ). FailsTest (book_so_far counts told) call.caller v t.fault)
              same t.fails))
              (λ lt. absurd (omega arith)) (λ lt. absurd (omega arith)) (omega arith);
        }

    pub first_verdict : MayAnswer (book_so_far counts told) call.caller view → (name : What)
        → IsNoVerdict (length counts) suffix name → IsFirstTest F name
    first_verdict may what.Mark h = record {
      fails = (view, suffix, at, h.0, h.1);
      first = no_earlier kind counts told call words 15 (λ lt. view_place) (λ lt. view_op)
          (λ lt. view_reply) (λ lt. view_view)
          (λ name lt t. passes_tests kind counts told call words view suffix name small at may t)
          (λ lt. absurd (omega arith)) (λ lt. absurd (omega arith)) (omega arith);
    }
    first_verdict may what.Seen h = record {
      fails = inl (view, suffix, h.0, at, h.1, h.2);
      first = no_earlier kind counts told call words 16 (λ lt. view_place) (λ lt. view_op)
          (λ lt. view_reply) (λ lt. view_view)
          (λ name lt t. passes_tests kind counts told call words view suffix name small at may t)
          (λ lt. passes_mark kind counts told call words view suffix small at (inr (h.0, h.1)))
          (λ lt. absurd (omega arith)) (omega arith);
    }
    first_verdict may _ h = absurd h

  module _ (line : Line) (says : SaysLine kind (length counts) call words line)
      (may : MayTell (book_so_far counts told) call (answer_in line.end)) where
    pub first_misfit : (name : What) → IsMisfit counts (grouped counts told) call line name
        → IsFirstTest F name
    first_misfit what.Seen (inl h) = record {
      fails = inr (inl (line, h.0, says, h.1, h.2));
      first = no_earlier kind counts told call words 16
          (λ lt. said_place kind counts told call words line says)
          (λ lt. said_op kind counts told call words line says)
          (λ lt. said_reply kind counts told call words line says)
          (λ lt. said_view kind counts told call words line says)
          (λ name lt t. said_tests kind counts told call words line says name may t)
          (λ lt. said_mark kind counts told call words line says) (λ lt. absurd (omega arith))
          (omega arith);
    }
    first_misfit what.Seen (inr h) = record {
      fails = inr (inr (line, says, h.0, h.1));
      first = no_earlier kind counts told call words 16
          (λ lt. said_place kind counts told call words line says)
          (λ lt. said_op kind counts told call words line says)
          (λ lt. said_reply kind counts told call words line says)
          (λ lt. said_view kind counts told call words line says)
          (λ name lt t. said_tests kind counts told call words line says name may t)
          (λ lt. said_mark kind counts told call words line says) (λ lt. absurd (omega arith))
          (omega arith);
    }
    first_misfit what.Last h = record {
      fails = (line, says, h.1);
      first = no_earlier kind counts told call words 17
          (λ lt. said_place kind counts told call words line says)
          (λ lt. said_op kind counts told call words line says)
          (λ lt. said_reply kind counts told call words line says)
          (λ lt. said_view kind counts told call words line says)
          (λ name lt t. said_tests kind counts told call words line says name may t)
          (λ lt. said_mark kind counts told call words line says)
          (λ lt. said_seen kind counts told call words line says h.0) (omega arith);
    }
    first_misfit _ h = absurd h

-- ---- what a reader of words tells

-- what the words of a line say without an answer
pub says_pending : (kind : Kind) (n : ℕ) (call : Call) (words : List (List ℕ)) (op : ℕ)
    (suffix : List (List ℕ)) → n ≤ MAX_CALLERS → IsNamedCall call
    → IsPrefix kind n call words op None suffix
    → SaysLine kind n call words (record { op = op; end = Pending })
says_pending kind n call words op suffix few named h = record {
  named = named;
  few = few;
  has = h.has;
  formed = tt;
  text = h.text
      ∙ ap (λ (ws : List (List ℕ)). place_words call ++ (operation_words kind op ++ ws)) h.answered;
}

answer_text : (kind : Kind) (n : ℕ) (call : Call) (words : List (List ℕ)) (op : ℕ) (r : Record)
    (suffix : List (List ℕ)) (v : List (List ℕ)) → IsPrefix kind n call words op (Some r) suffix
    → suffix ≡ v
    → words ≡ place_words call
    ++ (operation_words kind op ++ (reply_word r.reply ∷ codes "view" ∷ (pair_words 0 r.view ++ v)))
answer_text kind n call words op r suffix v h e =
    h.text ∙ ap (λ (ws : List (List ℕ)). place_words call ++ (operation_words kind op ++ ws))
    (h.answered.2 ∙ ap
    (λ (ws : List (List ℕ)). reply_word r.reply ∷ codes "view" ∷ (pair_words 0 r.view ++ ws)) e)

-- words with a call's operation and answer, and then a verdict, say the line that ends so
pub says_answer : (kind : Kind) (n : ℕ) (call : Call) (words : List (List ℕ)) (op : ℕ) (r : Record)
    (suffix : List (List ℕ)) (end : LineEnd) → n ≤ MAX_CALLERS → IsNamedCall call
    → IsPrefix kind n call words op (Some r) suffix
    → SayVerdict n r suffix end → SaysLine kind n call words (record { op = op; end = end })
says_answer kind n call words op r suffix Pending few named h v = absurd v.0
says_answer kind n call words op r suffix (Unchecked s) few named h v =
    subst (λ (x : Record). SaysLine kind n call words (record { op = op; end = Unchecked x }))
    (sym v.0)
    (record {
      named = named;
      few = few;
      has = h.has;
      formed = h.answered.0;
      text = answer_text kind n call words op r suffix _ h v.1;
    })
says_answer kind n call words op r suffix (Delivered s cut) few named h v =
    subst (λ (x : Record). SaysLine kind n call words (record { op = op; end = Delivered x cut }))
    (sym v.0.0)
    (record {
      named = named;
      few = few;
      has = h.has;
      formed = (h.answered.0, v.0.1);
      text = answer_text kind n call words op r suffix _ h v.1;
    })
says_answer kind n call words op r suffix (Error s cut) few named h v =
    subst (λ (x : Record). SaysLine kind n call words (record { op = op; end = Error x cut }))
    (sym v.0.0)
    (record {
      named = named;
      few = few;
      has = h.has;
      formed = (h.answered.0, v.0.1);
      text = answer_text kind n call words op r suffix _ h v.1;
    })

-- the record of the end that the words say is the answer
pub answer_is : (n : ℕ) (r : Record) (suffix : List (List ℕ)) (end : LineEnd)
    → SayVerdict n r suffix end → answer_in end ≡ Some r
answer_is n r suffix Pending v = absurd v.0
answer_is n r suffix (Unchecked s) v = ap Some v.0
answer_is n r suffix (Delivered s cut) v = ap Some v.0.0
answer_is n r suffix (Error s cut) v = ap Some v.0.0

pub prefix_refused : (kind : Kind) (book : List Page) (call : Call) (words : List (List ℕ))
    (number : ℕ) (name : What) → IsPrefixRefused kind (length book) call words name
    → AreWordsRefused kind book call words number (Text (record { line = number; what = name }))
prefix_refused kind book call words number name h = inr (
  name,
  refl,
  λ counts told same.
      h counts told (sym (ap (length {A = Page}) same ∙ length-book_so_far counts told)),
)

pub answer_refused : (kind : Kind) (book : List Page) (call : Call) (words : List (List ℕ))
    (number op : ℕ) (r : Record) (suffix : List (List ℕ)) (e : ReadFault)
    → length book ≤ MAX_CALLERS → IsPrefix kind (length book) call words op (Some r) suffix
    → IsAnswerRefused book call r.view suffix number e
    → AreWordsRefused kind book call words number e
answer_refused kind book call words number op r suffix e few h (inl none) = inl none
answer_refused kind book call words number op r suffix e few h (inr refused) = inr (
  refused.0,
  refused.1,
  λ counts told same.
      let size : length book ≡ length counts =
      ap (length {A = Page}) same ∙ length-book_so_far counts told in
      let small : length counts < 2 ^ 64 = omega arith in
      let answer = subst (λ (m : ℕ). IsAnswer m r) size h.answered.0 in
      let at = after_view kind counts told call words op r suffix h.has answer h.answered.1
      (answer_text kind (length book) call words op r suffix suffix h refl) in
      elim refused.2 [
        | inl test ↦ first_test kind counts told call words small r.view suffix at test.0 refused.0
            test.1 (subst (λ (b : List Page). IsFirstFault b call.caller r.view test.0) same test.2)
        | inr none ↦ first_verdict kind counts told call words small r.view suffix at
            (subst (λ (b : List Page). MayAnswer b call.caller r.view) same none.0) refused.0
            (subst (λ (m : ℕ). IsNoVerdict m suffix refused.0) size none.1)
      ],
)
