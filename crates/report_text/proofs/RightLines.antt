-- A line says one thing, and passes certain tests by what it says.
use Rattle.std.proofs.Common.{◌≡◌, ℕ, ◌<◌, ◌^◌, ◌⊎◌, List, [], ◌∷◌, ◌++◌, length, Some, None, refl, sym, ap, subst, ◌∙◌, arith, inl, inr}
use Rattle.std.specs.Prelude.{codes}
use Rattle.book_base.specs.declared.call.Call.{Call}
use Rattle.book_base.specs.declared.call.Record.{Record}
use Rattle.book_base.specs.declared.fault.What.{What}
use Rattle.book_base.specs.declared.fault.What.TheVariants as what
use Rattle.book_base.specs.OperationWord.{IsOperationWord}
use Rattle.seq_objects.specs.declared.kind.Kind.{Kind}
use Rattle.seq_objects.specs.Words.{operation_words}
use Rattle.seq_objects.specs.Replies.{reply_word}
use Rattle.seq_objects.proofs.ReplyTexts.{reply_word-once}
use Rattle.text_fields.specs.declared.version.Version.TheVariants.{Second}
use Rattle.text_fields.specs.Counts.{pair_words, HasBadPair, HasWordAfterPairs, NoPairFirst}
use Rattle.text_fields.specs.OperationLaws.{one_kind_operation}
use Rattle.text_fields.proofs.NumberTexts.{same_first}
use Rattle.book_text.specs.CallLines.{place_words, IsAfterOperation}
use Rattle.book_text.proofs.EntryTexts.{same_after, after_place, pairs_not_bad, pairs_not_words}
use Rattle.book_text.proofs.CallTexts.{pairs_once}
use Rattle.client_scripts.proofs.SharpScripts.{small_has}
use Rattle.client_scripts.specs.ScriptRules.{grouped}
use Rattle.report_lines.specs.declared.line.LineEnd.{LineEnd}
use Rattle.report_lines.specs.declared.line.LineEnd.TheVariants.{Pending, Unchecked, Delivered, Error}
use Rattle.report_lines.specs.declared.line.Line.{Line}
use Rattle.report_lines.specs.Lines.{seen_in}
use Rattle.reports.specs.Grammar.{ending_words, line_words, seen_words}
use Rattle.report_text.specs.ReportRules.{book_so_far, IsCut, IsAnswer, IsFormed, SaysLine, IsAfterView, BeginAsVerdict, EndsTooEarly}
use Rattle.report_text.specs.Parts.{answer_in, MayTell, FitsCuts}
use Rattle.report_text.proofs.PairTexts.{pairs_apart}
use Rattle.report_text.proofs.WordTexts.{pending_no_reply, plain_unchecked, plain_ok, plain_error, ok_no_error, unchecked_no_verdict, one_verdict, operations_of, Fails, FailsViewTest, after_op, one_view, pending_has_no_reply, passes_place, passes_op, passes_reply_pending, passes_reply, passes_view, passes_tests, passes_mark}

-- ---- a line says one thing

one_answer : (n : ℕ) (r s : Record) (x y : List (List ℕ)) → n < 2 ^ 64 → IsAnswer n r → IsAnswer n s
    → NoPairFirst x → NoPairFirst y
    → reply_word r.reply ∷ codes "view" ∷ (pair_words 0 r.view ++ x)
    ≡ reply_word s.reply ∷ codes "view" ∷ (pair_words 0 s.view ++ y) → (r ≡ s) × (x ≡ y)
one_answer n r s x y small a b p q e =
    let first = same_first _ _ _ _ e in
    let reply : r.reply ≡ s.reply = reply_word-once r.reply s.reply a.0 b.0 first.0 in
    let rest = pairs_apart 0 r.view s.view x y (a.1.0 ∙ sym b.1.0)
    (omega (arith, a.1.0)) a.1.1 b.1.1 p q (same_first _ _ _ _ first.1).1 in
    let made : ℕ → List ℕ → Record = λ p v. record { reply = p; view = v } in
    (ap (λ (p : ℕ). made p r.view) reply ∙ ap (made s.reply) rest.cuts, rest.rests)

one_cut : (n : ℕ) (c d : List ℕ) → n < 2 ^ 64 → IsCut n c → IsCut n d
    → seen_words c ≡ seen_words d → c ≡ d
one_cut n c d small h k e =
    pairs_once 0 c d (h.0 ∙ sym k.0) (omega (arith, h.0)) h.1 k.1 (same_first _ _ _ _ e).1

one_ending : (n : ℕ) (a b : LineEnd) → n < 2 ^ 64 → IsFormed n a → IsFormed n b
    → ending_words a ≡ ending_words b → a ≡ b
one_ending n Pending Pending small h k e = refl
one_ending n Pending (Unchecked s) small h k e =
    absurd (pending_no_reply s.reply (sym (same_first _ _ _ _ e).0))
one_ending n Pending (Delivered s d) small h k e =
    absurd (pending_no_reply s.reply (sym (same_first _ _ _ _ e).0))
one_ending n Pending (Error s d) small h k e =
    absurd (pending_no_reply s.reply (sym (same_first _ _ _ _ e).0))
one_ending n (Unchecked r) Pending small h k e =
    absurd (pending_no_reply r.reply (same_first _ _ _ _ e).0)
one_ending n (Unchecked r) (Unchecked s) small h k e =
    ap Unchecked (one_answer n r s _ _ small h k (plain_unchecked []) (plain_unchecked []) e).0
one_ending n (Unchecked r) (Delivered s d) small h k e =
    absurd (unchecked_no_verdict (codes "unchecked" ∷ []) (pair_words 0 d) refl
    (inl (one_answer n r s _ _ small h k.0 (plain_unchecked []) (plain_ok (seen_words d)) e).1))
one_ending n (Unchecked r) (Error s d) small h k e =
    absurd (unchecked_no_verdict (codes "unchecked" ∷ []) (pair_words 0 d) refl
    (inr (one_answer n r s _ _ small h k.0 (plain_unchecked []) (plain_error (seen_words d)) e).1))
one_ending n (Delivered r c) Pending small h k e =
    absurd (pending_no_reply r.reply (same_first _ _ _ _ e).0)
one_ending n (Delivered r c) (Unchecked s) small h k e =
    absurd (unchecked_no_verdict (codes "unchecked" ∷ []) (pair_words 0 c) refl (inl
    (sym (one_answer n r s _ _ small h.0 k (plain_ok (seen_words c)) (plain_unchecked []) e).1)))
one_ending n (Delivered r c) (Delivered s d) small h k e =
    let both =
    one_answer n r s _ _ small h.0 k.0 (plain_ok (seen_words c)) (plain_ok (seen_words d)) e in
    ap (λ (x : Record). Delivered x c) both.0
    ∙ ap (Delivered s) (one_cut n c d small h.1 k.1 (same_first _ _ _ _ both.1).1)
one_ending n (Delivered r c) (Error s d) small h k e = absurd (ok_no_error _ _
    (one_answer n r s _ _ small h.0 k.0 (plain_ok (seen_words c)) (plain_error (seen_words d)) e).1)
one_ending n (Error r c) Pending small h k e =
    absurd (pending_no_reply r.reply (same_first _ _ _ _ e).0)
one_ending n (Error r c) (Unchecked s) small h k e =
    absurd (unchecked_no_verdict (codes "unchecked" ∷ []) (pair_words 0 c) refl (inr
    (sym (one_answer n r s _ _ small h.0 k (plain_error (seen_words c)) (plain_unchecked []) e).1)))
one_ending n (Error r c) (Delivered s d) small h k e = absurd (ok_no_error _ _ (sym (one_answer n r
    s _ _ small h.0 k.0 (plain_error (seen_words c)) (plain_ok (seen_words d)) e).1))
one_ending n (Error r c) (Error s d) small h k e =
    let both = one_answer n r s _ _ small h.0 k.0 (plain_error (seen_words c))
    (plain_error (seen_words d)) e in
    ap (λ (x : Record). Error x c) both.0
    ∙ ap (Error s) (one_cut n c d small h.1 k.1 (same_first _ _ _ _ both.1).1)

pub one_line : (kind : Kind) (n : ℕ) (call : Call) (words : List (List ℕ)) (a b : Line)
    → SaysLine kind n call words a → SaysLine kind n call words b → a ≡ b
one_line kind n call words a b h k =
    let e = after_place call (operation_words kind a.op ++ ending_words a.end)
    (operation_words kind b.op ++ ending_words b.end) (sym h.text ∙ k.text) in
    let op : a.op ≡ b.op = one_kind_operation Second kind a.op b.op _ _
    (small_has Second a.op h.has) (small_has Second b.op k.has) e in
    let rest = same_after (operation_words kind b.op) (ending_words a.end) (ending_words b.end)
    (ap (λ (o : ℕ). operation_words kind o ++ ending_words a.end) (sym op) ∙ e) in
    let end : a.end ≡ b.end =
    one_ending n a.end b.end (omega (arith, h.few)) h.formed k.formed rest in
    let made : ℕ → LineEnd → Line = λ o x. record { op = o; end = x } in
    ap (λ (o : ℕ). made o a.end) op ∙ ap (made b.op) end

-- ---- the tests that a line passes by what it says

module _ (kind : Kind) (counts : List ℕ) (told : List Line) (call : Call)
    (words : List (List ℕ)) where
  abbrev n : ℕ
  n = length counts

  -- the line has this record, and after its view it says a verdict
  pub record HasAnswer (r : Record) : Type 0 where
    pub suffix : List (List ℕ)
    pub at : IsAfterView kind n call words r.view suffix
    pub said : (suffix ≡ codes "unchecked" ∷ [])
        ⊎ ((cut : List ℕ) × IsCut n cut × BeginAsVerdict suffix (pair_words 0 cut))

  pub after_view : (op : ℕ) (r : Record) (suffix : List (List ℕ)) → IsOperationWord op
      → IsAnswer n r → NoPairFirst suffix
      → words ≡ place_words call ++ (operation_words kind op
      ++ (reply_word r.reply ∷ codes "view" ∷ (pair_words 0 r.view ++ suffix)))
      → IsAfterView kind n call words r.view suffix
  after_view op r suffix has answer free e = record {
    formed = answer.1;
    plain = free;
    text = record {
      reply = r.reply;
      small = answer.0;
      text = after_op kind counts told call words op _ has e;
    };
  }

  -- the line is that of a pending call, or has an answer
  abbrev IsPendingOr : LineEnd → Type 0
  IsPendingOr end = ((answer_in end ≡ None)
      × IsAfterOperation (operations_of kind) call words (codes "pending" ∷ []))
      ⊎ ((r : Record) × (answer_in end ≡ Some r) × HasAnswer r)

  pending_or : (op : ℕ) (end : LineEnd) → IsOperationWord op → IsFormed n end
      → words ≡ line_words kind call (record { op = op; end = end }) → IsPendingOr end
  pending_or op Pending has h e = inl (refl, after_op kind counts told call words op _ has e)
  pending_or op (Unchecked r) has h e = inr (
    r,
    refl,
    record {
      suffix = codes "unchecked" ∷ [];
      at = after_view op r _ has h (plain_unchecked []) e;
      said = inl refl;
    },
  )
  pending_or op (Delivered r cut) has h e = inr (
    r,
    refl,
    record {
      suffix = codes "ok" ∷ seen_words cut;
      at = after_view op r _ has h.0 (plain_ok (seen_words cut)) e;
      said = inr (cut, h.1, inl refl);
    },
  )
  pending_or op (Error r cut) has h e = inr (
    r,
    refl,
    record {
      suffix = codes "error" ∷ seen_words cut;
      at = after_view op r _ has h.0 (plain_error (seen_words cut)) e;
      said = inr (cut, h.1, inr refl);
    },
  )

  module _ (line : Line) (h : SaysLine kind n call words line) where
    small : n < 2 ^ 64
    small = omega (arith, h.few)

    right : IsPendingOr line.end
    right = pending_or line.op line.end h.has h.formed h.text

    pub said_place : Fails kind counts told call words what.Place → ⊥
    said_place k = passes_place kind counts told call words _ h.text k

    pub said_op : Fails kind counts told call words what.Op → ⊥
    said_op k = passes_op kind counts told call words (ending_words line.end)
        (after_op kind counts told call words line.op _ h.has h.text) k

    reply_cases : IsPendingOr line.end → Fails kind counts told call words what.Reply → ⊥
    reply_cases (inl pending) k = passes_reply_pending kind counts told call words pending.1 k
    reply_cases (inr a) k = passes_reply kind counts told call words _ a.2.at.text k

    pub said_reply : Fails kind counts told call words what.Reply → ⊥
    said_reply k = reply_cases right k

    view_cases : IsPendingOr line.end → Fails kind counts told call words what.View → ⊥
    view_cases (inl pending) k = pending_has_no_reply kind counts told call words _ pending.1 k.1
    view_cases (inr a) k =
        passes_view kind counts told call words a.0.view a.2.suffix small a.2.at k

    pub said_view : Fails kind counts told call words what.View → ⊥
    said_view k = view_cases right k

    tests_cases : (name : What) → MayTell (book_so_far counts told) call (answer_in line.end)
        → IsPendingOr line.end → FailsViewTest kind counts told call words name → ⊥
    tests_cases name may (inl pending) k =
        pending_has_no_reply kind counts told call words _ pending.1 k.at.text
    tests_cases name may (inr a) k = passes_tests kind counts told call words a.0.view a.2.suffix
        name small a.2.at (subst (MayTell (book_so_far counts told) call) a.1 may) k

    pub said_tests : (name : What) → MayTell (book_so_far counts told) call (answer_in line.end)
        → FailsViewTest kind counts told call words name → ⊥
    said_tests name may k = tests_cases name may right k

    mark_said : (suffix : List (List ℕ)) → (suffix ≡ codes "unchecked" ∷ [])
        ⊎ ((cut : List ℕ) × IsCut n cut × BeginAsVerdict suffix (pair_words 0 cut))
        → (suffix ≡ codes "unchecked" ∷ [])
        ⊎ ((others : List (List ℕ)) × BeginAsVerdict suffix others)
    mark_said suffix (inl unchecked) = inl unchecked
    mark_said suffix (inr verdict) = inr (pair_words 0 verdict.0, verdict.2)

    mark_cases : IsPendingOr line.end → Fails kind counts told call words what.Mark → ⊥
    mark_cases (inl pending) k =
        pending_has_no_reply kind counts told call words _ pending.1 k.2.text
    mark_cases (inr a) k = passes_mark kind counts told call words a.0.view a.2.suffix small a.2.at
        (mark_said a.2.suffix a.2.said) k

    pub said_mark : Fails kind counts told call words what.Mark → ⊥
    said_mark k = mark_cases right k

    -- the words after 'seen' are a cut
    cut_cases : (view : List ℕ) (suffix pairs : List (List ℕ))
        → IsAfterView kind n call words view suffix → BeginAsVerdict suffix pairs
        → HasBadPair n 0 pairs ⊎ HasWordAfterPairs pairs → IsPendingOr line.end → ⊥
    cut_cases view suffix pairs at begins bad (inl pending) =
        pending_has_no_reply kind counts told call words _ pending.1 at.text
    cut_cases view suffix pairs at begins bad (inr a) =
        let same : suffix ≡ a.2.suffix = (one_view kind counts told call words view a.0.view suffix
        a.2.suffix small at a.2.at).rests in
        let here : BeginAsVerdict a.2.suffix pairs =
        subst (λ (ws : List (List ℕ)). BeginAsVerdict ws pairs) same begins in
        elim a.2.said [
          | inl unchecked ↦ unchecked_no_verdict a.2.suffix pairs unchecked here
          | inr verdict ↦
              let is : pairs ≡ pair_words 0 verdict.0 =
              one_verdict a.2.suffix pairs (pair_words 0 verdict.0) here verdict.2 in
              elim bad [
                | inl pair ↦
                    pairs_not_bad n verdict.0 0 0 (omega arith) (omega (arith, verdict.1.0))
                    (omega (arith, small)) verdict.1.1 (subst (HasBadPair n 0) is pair)
                | inr word ↦ pairs_not_words 0 verdict.0 (omega (arith, small, verdict.1.0))
                    (subst HasWordAfterPairs is word)
              ]
        ]

    pub said_seen : FitsCuts counts (grouped counts told) call line
        → Fails kind counts told call words what.Seen → ⊥
    said_seen fits (inl k) = cut_cases k.0 k.1 k.2 k.3 k.4 k.5 right
    said_seen fits (inr (inl k)) =
        let same : k.0 ≡ line = one_line kind n call words k.0 line k.2 h in
        fits.seen k.1 (ap (λ (l : Line). seen_in l.end) (sym same) ∙ k.3) k.4
    said_seen fits (inr (inr k)) =
        let same : k.0 ≡ line = one_line kind n call words k.0 line k.1 h in
        fits.pending (ap (λ (l : Line). l.end) (sym same) ∙ k.2) k.3

    pub said_last : ¬ (EndsTooEarly counts call line)
        → Fails kind counts told call words what.Last → ⊥
    said_last fits k =
        fits (subst (EndsTooEarly counts call) (one_line kind n call words k.0 line k.1 h) k.2)
