-- Lines of calls are read as at most one book, and have at most one first fault; so does the end of
-- a text.
use Rattle.std.proofs.Common.{◌≡◌, ℕ, ◌⊎◌, List, [], Result, Ok, Err, refl, sym, ap, ◌∙◌, subst, inl, inr}
use Rattle.std.specs.Prelude.{IsTrue, IfOk, IfErr, MatchResult}
use Rattle.book_base.specs.declared.fault.TextFault.{TextFault}
use Rattle.book_base.specs.declared.fault.What.TheVariants.{Rest}
use Rattle.book_base.specs.declared.fault.ReadFault.{ReadFault}
use Rattle.book_base.specs.declared.fault.ReadFault.TheVariants.{Text, NoMemory}
use Rattle.book_base.specs.Book.{Page}
use Rattle.text_fields.specs.declared.version.Version.{Version}
use Rattle.text_fields.specs.Lines.{Unread, AreSolid, line_at, words_of}
use Rattle.text_fields.specs.Faults.{AreSharp}
use Rattle.text_fields.specs.Operations.{Operations}
use Rattle.text_fields.proofs.Readings.{one_part, no_part_fault}
use Rattle.text_fields.proofs.Sharp.{one_fault}
use Rattle.book_text.specs.CallLines.{BookSoFar, reading, no_call_read, call_rules, AreCallLines, AreNoCallLines, IsFirstCallFault}
use Rattle.book_text.specs.Ending.{IsEnded, IsNoEnd}
use Rattle.book_text.proofs.EntryTexts.{OneOperation}
use Rattle.book_text.proofs.SharpBooks.{call_sharp}

module _ (version : Version) (operations : Operations) (one : OneOperation operations)
    (solid_operation : (op : ℕ) → IsTrue (operations.has op) → AreSolid (operations.words op))
    (calls : List ℕ) (text : Unread) where
  sharp : AreSharp (call_rules version operations)
  sharp = call_sharp version operations one solid_operation

  pub only_calls : (result : Result (List Page) ReadFault) (new left : Unread)
      → IfOk result (λ b. AreCallLines version operations calls b text new)
      → IfErr result (AreNoCallLines version operations calls text)
      → (book : List Page) → AreCallLines version operations calls book text left
      → MatchResult result (λ b. (b ≡ book) × (new ≡ left)) (λ e. e ≡ NoMemory)
  only_calls (Ok b) new left h k book read =
      let same = one_part (call_rules version operations) sharp (no_call_read calls) text
      (reading b []) (reading book []) new left tt tt h read in
      (ap (λ (p : BookSoFar). p.book) same.0, same.1)
  only_calls (Err NoMemory) new left h k book read = refl
  only_calls (Err (Text fault)) new left h k book read =
      absurd (no_part_fault (call_rules version operations) sharp (no_call_read calls) text
      (reading book []) left fault tt read k)

  pub first_calls : (result : Result (List Page) ReadFault) (new : Unread)
      → IfOk result (λ b. AreCallLines version operations calls b text new)
      → IfErr result (AreNoCallLines version operations calls text)
      → (fault : TextFault) → IsFirstCallFault version operations calls text fault
      → MatchResult result (λ b. ⊥) (λ e. (e ≡ Text fault) ⊎ (e ≡ NoMemory))
  first_calls (Ok b) new h k fault f = no_part_fault (call_rules version operations) sharp
      (no_call_read calls) text (reading b []) new fault tt h f
  first_calls (Err NoMemory) new h k fault f = inr refl
  first_calls (Err (Text other)) new h k fault f = inl (ap Text
      (one_fault (call_rules version operations) sharp (no_call_read calls) text other fault k f))

-- ---- the end

-- a text has one next line
same_next : (text x y : Unread) (a b : List ℕ) → line_at text ≡ Ok (a, x) → line_at text ≡ Ok (b, y)
    → (a ≡ b) × (x ≡ y)
same_next text x y a b h k =
    let both : Ok (a, x) ≡ Ok (b, y) = sym h ∙ k in
    let same : ◌≡◌ {A = List ℕ × Unread} (a, x) (b, y) = cc in
    (ap (λ (p : List ℕ × Unread). p.0) same, ap (λ (p : List ℕ × Unread). p.1) same)

pub one_end : (text x y : Unread) → IsEnded text x → IsEnded text y → x ≡ y
one_end text x y h k = (same_next text x y h.line k.line h.next k.next).1

pub no_end_fault : (text left : Unread) (fault : TextFault) → IsEnded text left
    → IsNoEnd text fault → ⊥
no_end_fault text left fault h (inl cut) = absurd (cc (h.next, cut))
no_end_fault text left fault h (inr (inl k)) =
    k.words (ap words_of (sym (same_next text left k.left h.line k.line h.next k.next).0) ∙ h.words)
no_end_fault text left fault h (inr (inr k)) = k.more (ap (λ (u : Unread). u.bytes)
    (sym (same_next text left k.left h.line k.line h.next k.next).1) ∙ h.whole)

pub one_end_fault : (text : Unread) (a b : TextFault) → IsNoEnd text a → IsNoEnd text b → a ≡ b
one_end_fault text a b (inl h) (inl k) = let same : Err a ≡ Err b = sym h ∙ k in cc
one_end_fault text a b (inl h) (inr (inl k)) = absurd (cc (h, k.next))
one_end_fault text a b (inl h) (inr (inr k)) = absurd (cc (h, k.next))
one_end_fault text a b (inr (inl h)) (inl k) = absurd (cc (h.next, k))
one_end_fault text a b (inr (inl h)) (inr (inl k)) = h.fault_is ∙ sym k.fault_is
one_end_fault text a b (inr (inl h)) (inr (inr k)) = absurd
    (h.words (ap words_of (same_next text h.left k.left h.line k.line h.next k.next).0 ∙ k.words))
one_end_fault text a b (inr (inr h)) (inl k) = absurd (cc (h.next, k))
one_end_fault text a b (inr (inr h)) (inr (inl k)) = absurd (k.words
    (ap words_of (sym (same_next text h.left k.left h.line k.line h.next k.next).0) ∙ h.words))
one_end_fault text a b (inr (inr h)) (inr (inr k)) =
    let left = (same_next text h.left k.left h.line k.line h.next k.next).1 in
    h.fault_is ∙ ap (λ (u : Unread). record { line = u.number; what = Rest }) left ∙ sym k.fault_is
