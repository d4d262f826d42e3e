-- What the words of a line say, and which tests they pass by that.
use Rattle.std.proofs.Common.{◌≡◌, ℕ, ◌<◌, ◌≤◌, ◌^◌, ◌⊎◌, Bool, true, false, cond, eqb, List, [], ◌∷◌, ◌++◌, length, get_or, bytes_eq, Option, Some, None, refl, sym, ap, subst, ◌∙◌, arith, inl, inr}
use Rattle.std.specs.Prelude.{codes, not}
use Rattle.std.specs.List.{list_all}
use Rattle.std.proofs.lemmas.Bool.{not-true}
use Rattle.std.proofs.lemmas.Slice.Eq.{bytes_eq-Decides}
use Rattle.list_laws.proofs.Finds.{IsIn, find_inside, list_all-inside}
use Rattle.book_base.specs.declared.call.Call.{Call}
use Rattle.book_base.specs.declared.fault.BookFault.{BookFault}
use Rattle.book_base.specs.declared.fault.What.{What}
use Rattle.book_base.specs.declared.fault.What.TheVariants as what
use Rattle.book_base.specs.OperationWord.{IsOperationWord}
use Rattle.book_base.specs.Refusal.{MayAnswer, FailsTest}
use Rattle.book_base.proofs.RefusalLemmas.{no_test_fails}
use Rattle.seq_objects.specs.declared.kind.Kind.{Kind}
use Rattle.seq_objects.specs.Words.{operation_words}
use Rattle.seq_objects.specs.Replies.{NamedReply, named_replies, named_reply, is_value, reply_word, reply_word_by_entry}
use Rattle.text_fields.specs.declared.version.Version.TheVariants.{Second}
use Rattle.text_fields.specs.Counts.{pair_words, HasBadPair, NoPairFirst}
use Rattle.text_fields.specs.Faults.{turn_of}
use Rattle.text_fields.specs.Operations.{Operations, kind_operations}
use Rattle.text_fields.specs.OperationLaws.{small_word, one_kind_operation}
use Rattle.text_fields.proofs.NumberTexts.{same_first}
use Rattle.book_text.specs.CallLines.{place_words, IsAfterOperation, IsAfterReply, view_test}
use Rattle.book_text.proofs.EntryTexts.{after_place, pairs_not_words}
use Rattle.book_text.proofs.EntryTexts as entry
use Rattle.client_scripts.proofs.SharpScripts.{small_has}
use Rattle.report_lines.specs.declared.line.Line.{Line}
use Rattle.report_text.specs.ReportRules.{book_so_far, IsAfterView, BeginAsVerdict, LineFails}
use Rattle.report_text.proofs.PairTexts.{AreSame, pairs_apart, pairs_good}

-- ---- no reply is 'pending'

first_byte : (a b : ℕ) (x y : List ℕ) → a ∷ x ≡ b ∷ y → a ≡ b
first_byte a b x y e = ap (λ (xs : List ℕ). get_or xs 0 0) e

other_names : list_all (λ r. not (bytes_eq r.name (codes "pending"))) named_replies ≡ true
unfolding named_replies
other_names = refl

by_tag : (b : Bool) (x y : List ℕ) → cond b (codes "=" ++ x) (codes "#" ++ y) ≡ codes "pending" → ⊥
by_tag true x y e = let same = first_byte _ _ _ _ e in omega arith
by_tag false x y e = let same = first_byte _ _ _ _ e in omega arith

by_entry : (o : Option NamedReply) (reply : ℕ)
    → ((r : NamedReply) → o ≡ Some r → IsIn r named_replies)
    → reply_word_by_entry o reply ≡ codes "pending" → ⊥
by_entry (Some r) reply inside e =
    let other = list_all-inside
    (λ r. not (bytes_eq r.name (codes "pending"))) named_replies r other_names (inside r refl) in
    let same = (bytes_eq-Decides r.name (codes "pending")).1 e in
    absurd (cc (not-true (bytes_eq r.name (codes "pending")) other, same))
by_entry None reply inside e = by_tag (is_value reply) _ _ e

pub pending_no_reply : (reply : ℕ) → reply_word reply ≡ codes "pending" → ⊥
unfolding reply_word named_reply
pending_no_reply reply e = by_entry (named_reply reply) reply
    (λ r found. (find_inside (λ q. eqb reply q.word) named_replies r found).0) e

-- ---- verdicts

pub plain_unchecked : (words : List (List ℕ)) → NoPairFirst (codes "unchecked" ∷ words)
plain_unchecked words = refl

pub plain_ok : (words : List (List ℕ)) → NoPairFirst (codes "ok" ∷ words)
plain_ok words = refl

pub plain_error : (words : List (List ℕ)) → NoPairFirst (codes "error" ∷ words)
plain_error words = refl

pub ok_no_error : (x y : List (List ℕ)) → codes "ok" ∷ x ≡ codes "error" ∷ y → ⊥
ok_no_error x y e = let same =
    first_byte _ _ _ _ (same_first (codes "ok") (codes "error") x y e).0 in omega arith

pub unchecked_no_verdict : (words others : List (List ℕ))
    → words ≡ codes "unchecked" ∷ [] → BeginAsVerdict words others → ⊥
unchecked_no_verdict words others e (inl h) = let none = (same_first _ _ _ _ (sym e ∙ h)).1 in
    absurd cc
unchecked_no_verdict words others e (inr h) = let none = (same_first _ _ _ _ (sym e ∙ h)).1 in
    absurd cc

pub one_verdict : (words x y : List (List ℕ)) → BeginAsVerdict words x
    → BeginAsVerdict words y → x ≡ y
one_verdict words x y (inl h) (inl k) = (same_first _ _ _ _ (same_first _ _ _ _ (sym h ∙ k)).1).1
one_verdict words x y (inl h) (inr k) = absurd (ok_no_error _ _ (sym h ∙ k))
one_verdict words x y (inr h) (inl k) = absurd (ok_no_error _ _ (sym k ∙ h))
one_verdict words x y (inr h) (inr k) = (same_first _ _ _ _ (same_first _ _ _ _ (sym h ∙ k)).1).1

-- ---- the tests that a line passes

abbrev pub operations_of : Kind → Operations
operations_of kind = kind_operations Second kind

module _ (kind : Kind) (counts : List ℕ) (told : List Line) (call : Call)
    (words : List (List ℕ)) where
  abbrev pub Fails : What → Type 0
  Fails name = LineFails kind counts told call words name

  pub after_op : (op : ℕ) (suffix : List (List ℕ)) → IsOperationWord op
      → words ≡ place_words call ++ (operation_words kind op ++ suffix)
      → IsAfterOperation (operations_of kind) call words suffix
  after_op op suffix has e = record { op = op; has = small_has Second op has; text = e }

  pub one_after : (x y : List (List ℕ)) → IsAfterOperation (operations_of kind) call words x
      → IsAfterOperation (operations_of kind) call words y → x ≡ y
  one_after x y a b = entry.one_after Second (operations_of kind) (length counts) false call words
      (one_kind_operation Second kind) x y a b

  pub one_reply : (x y : List (List ℕ)) → IsAfterReply (operations_of kind) call words x
      → IsAfterReply (operations_of kind) call words y → x ≡ y
  one_reply x y a b = (same_first _ _ _ _ (one_after _ _ a.text b.text)).1

  pub one_view : (v w : List ℕ) (x y : List (List ℕ)) → length counts < 2 ^ 64
      → IsAfterView kind (length counts) call words v x
      → IsAfterView kind (length counts) call words w y → AreSame v w x y
  one_view v w x y small a b =
      pairs_apart 0 v w x y (a.formed.0 ∙ sym b.formed.0) (omega (arith, a.formed.0)) a.formed.1
      b.formed.1 a.plain b.plain (same_first _ _ _ _ (one_reply _ _ a.text b.text)).1

  -- the line of a pending call has no reply
  pub pending_has_no_reply : (suffix : List (List ℕ))
      → IsAfterOperation (operations_of kind) call words (codes "pending" ∷ [])
      → IsAfterReply (operations_of kind) call words suffix → ⊥
  pending_has_no_reply suffix at h =
      pending_no_reply h.reply (sym (same_first _ _ _ _ (one_after _ _ at h.text)).0)

  pub passes_place : (suffix : List (List ℕ)) → words ≡ place_words call ++ suffix
      → Fails what.Place → ⊥
  passes_place suffix e h = h suffix e

  pub passes_op : (suffix : List (List ℕ)) → IsAfterOperation (operations_of kind) call words suffix
      → Fails what.Op → ⊥
  passes_op suffix at h = h.2 at.op suffix (small_word Second at.op at.has)
      (after_place call h.0 (operation_words kind at.op ++ suffix) (sym h.1 ∙ at.text))

  pub passes_reply_pending : IsAfterOperation (operations_of kind) call words (codes "pending" ∷ [])
      → Fails what.Reply → ⊥
  passes_reply_pending at h = h.2 (one_after _ _ h.1 at)

  pub passes_reply : (suffix : List (List ℕ)) → IsAfterReply (operations_of kind) call words suffix
      → Fails what.Reply → ⊥
  passes_reply suffix at h = h.3 at.reply suffix at.small (one_after _ _ h.1 at.text)

  pub passes_view : (view : List ℕ) (suffix : List (List ℕ)) → length counts < 2 ^ 64
      → IsAfterView kind (length counts) call words view suffix → Fails what.View → ⊥
  passes_view view suffix small at h =
      let is : h.0 ≡ codes "view" ∷ (pair_words 0 view ++ suffix) = one_reply _ _ h.1 at.text in
      elim h.2 [
        | inl lacks ↦ lacks (pair_words 0 view ++ suffix) is
        | inr bad ↦
            let same : bad.0 ≡ pair_words 0 view ++ suffix =
            (same_first _ _ _ _ (sym bad.1 ∙ is)).1 in
            pairs_good (length counts) view suffix 0 0 (omega arith) (omega (arith, at.formed.0))
            (omega arith) at.formed.1 at.plain (subst (HasBadPair (length counts) 0) same bad.2)
      ]

  -- a test of views that the line fails, by its view
  pub record FailsViewTest (name : What) : Type 0 where
    pub view : List ℕ
    pub suffix : List (List ℕ)
    pub fault : BookFault
    pub at : IsAfterView kind (length counts) call words view suffix
    pub test : view_test fault ≡ Some name
    pub fails : FailsTest (book_so_far counts told) call.caller view fault

  pub passes_tests : (view : List ℕ) (suffix : List (List ℕ)) (name : What) → length counts < 2 ^ 64
      → IsAfterView kind (length counts) call words view suffix
      → MayAnswer (book_so_far counts told) call.caller view → FailsViewTest name → ⊥
  passes_tests view suffix name small at may h =
      let same = (one_view h.view view h.suffix suffix small h.at at).cuts in
      no_test_fails (book_so_far counts told) call.caller view may h.fault (subst
      (λ (v : List ℕ). FailsTest (book_so_far counts told) call.caller v h.fault) same h.fails)

  pub passes_mark : (view : List ℕ) (suffix : List (List ℕ)) → length counts < 2 ^ 64
      → IsAfterView kind (length counts) call words view suffix
      → (suffix ≡ codes "unchecked" ∷ [])
      ⊎ ((others : List (List ℕ)) × BeginAsVerdict suffix others) → Fails what.Mark → ⊥
  passes_mark view suffix small at said h =
      let same : suffix ≡ h.1 = (one_view view h.0 suffix h.1 small at h.2).rests in
      elim said [
        | inl unchecked ↦ h.3 (sym same ∙ unchecked)
        | inr verdict ↦ h.4 verdict.0
            (subst (λ (ws : List (List ℕ)). BeginAsVerdict ws verdict.0) same verdict.1)
      ]

  -- the tests that are tried before a turn, where none of them fails
  pub no_earlier : (k : ℕ) → (6 < k → Fails what.Place → ⊥) → (7 < k → Fails what.Op → ⊥)
      → (9 < k → Fails what.Reply → ⊥) → (10 < k → Fails what.View → ⊥)
      → ((name : What) → turn_of name < k → FailsViewTest name → ⊥) → (15 < k → Fails what.Mark → ⊥)
      → (16 < k → Fails what.Seen → ⊥) → k ≤ 17
      → (other : What) → turn_of other < k → Fails other → ⊥
  no_earlier k p o r v t m s few what.Place lt h = p lt h
  no_earlier k p o r v t m s few what.Op lt h = o lt h
  no_earlier k p o r v t m s few what.Reply lt h = r lt h
  no_earlier k p o r v t m s few what.View lt h = v lt h
  no_earlier k p o r v t m s few what.Mark lt h = m lt h
  no_earlier k p o r v t m s few what.Seen lt h = s lt h
  no_earlier k p o r v t m s few what.Last lt h = absurd (omega arith)
  no_earlier k p o r v t m s few name lt h = t name lt
      (record { view = h.0; suffix = h.1; fault = h.2; at = h.3; test = h.4; fails = h.5 })
