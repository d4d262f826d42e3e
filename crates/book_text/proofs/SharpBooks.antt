-- The rules of a book's text are sharp.
use Rattle.std.proofs.Common.{◌≡◌, ℕ, zero, suc, ◌+◌, ◌<◌, ◌≤◌, ◌^◌, List, [], ◌∷◌, ◌++◌, length, decimal, Option, Some, None, refl, sym, ap, subst, ◌∙◌, arith, inl, inr}
use Rattle.std.specs.Prelude.{IsTrue, codes}
use Rattle.std.specs.List.{AllByRecursion}
use Rattle.std.proofs.lemmas.List.{length-append}
use Rattle.std.proofs.lemmas.List.Elements.{All-append, All-cons}
use Rattle.list_laws.proofs.Elements.{AllByRecursion-append}
use Rattle.book_base.specs.declared.call.Call.{Call}
use Rattle.book_base.specs.declared.call.Record.{Record}
use Rattle.book_base.specs.declared.fault.What.{What}
use Rattle.book_base.specs.declared.fault.What.TheVariants as what
use Rattle.book_base.specs.Book.{Page}
use Rattle.book_base.specs.Refusal.{FailsTest}
use Rattle.book_base.proofs.RefusalLemmas.{no_test_fails}
use Rattle.seq_objects.specs.Replies.{reply_word}
use Rattle.seq_objects.proofs.ReplyTexts.{reply_word-once}
use Rattle.seq_objects.proofs.Texts.{reply_word-IsWord}
use Rattle.text_fields.specs.declared.version.Version.{Version}
use Rattle.text_fields.specs.declared.version.Version.TheVariants.{First, Second}
use Rattle.text_fields.specs.Lines.{IsSolid, AreSolid}
use Rattle.text_fields.specs.Counts.{AreNumbers, cut_words, pair_words}
use Rattle.text_fields.specs.Faults.{ALine, AreSharp}
use Rattle.text_fields.specs.Head.{head_rules}
use Rattle.text_fields.specs.Operations.{Operations, kind_operations}
use Rattle.text_fields.specs.OperationLaws.{one_kind_operation, solid_kind_words}
use Rattle.text_fields.proofs.NumberTexts.{same_first, solid_word, solid_decimal}
use Rattle.text_fields.proofs.HeadTexts.{solid_numbers, plain, head_sharp}
use Rattle.book_text.specs.CallLines.{place_words, answer_words, call_words, HasView, EntryFails, ViewFails, is_gap, MayStand, with_line, IsNamedCall, IsCallLine, CallPasses, CallFails, BookSoFar, reading, call_wanted, call_rules}
use Rattle.book_text.specs.BookRules.{BookDue, InHead, InCalls, AtEnd, after_head, BookPasses, BookFails, book_wanted, book_rules}
use Rattle.book_text.proofs.EntryTexts.{OneOperation, same_after, after_place, one_after, passes_place, passes_op, passes_gap, passes_reply, passes_view}
use Rattle.book_text.proofs.CallTexts.{cut_once, one_view}

pub solid_pairs : (b : ℕ) (cut : List ℕ) → b + length cut ≤ 2 ^ 64 → AreNumbers cut
    → AllByRecursion IsSolid (pair_words b cut)
solid_pairs b [] few h = tt
solid_pairs b (zero ∷ cut) few h = solid_pairs (b + 1) cut (omega arith) h.1
solid_pairs b (suc c ∷ cut) few h =
    let prefix = solid_decimal b (omega arith) in
    let suffix = solid_decimal (suc c) h.0 in (
      record {
        some = omega (arith, prefix.some, length-append (decimal b) (58 ∷ decimal (suc c)));
        above = All-append (λ (byte : ℕ). 32 < byte) (decimal b) (58 ∷ decimal (suc c)) prefix.above
            (All-cons (λ (byte : ℕ). 32 < byte) 58 (decimal (suc c)) (omega arith) suffix.above);
      },
      solid_pairs (b + 1) cut (omega arith) h.1,
    )

pub solid_cut : (version : Version) (cut : List ℕ) → length cut ≤ 2 ^ 64 → AreNumbers cut
    → AllByRecursion IsSolid (cut_words version cut)
solid_cut First cut few h = solid_numbers cut h
solid_cut Second cut few h = solid_pairs 0 cut (omega arith) h

module _ (version : Version) (operations : Operations) (one : OneOperation operations)
    (solid_operation : (op : ℕ) → IsTrue (operations.has op) → AreSolid (operations.words op))
    (book : List Page) (call : Call) where
  same_answer : (n : ℕ) (a b : Option Record) → length book ≡ n → n < 2 ^ 64 → MayStand book call a
      → MayStand book call b → answer_words version a ≡ answer_words version b → a ≡ b
  same_answer n None None wide small h k e = refl
  same_answer n None (Some s) wide small h k e = absurd cc
  same_answer n (Some r) None wide small h k e = absurd cc
  same_answer n (Some r) (Some s) wide small h k e =
      let first = same_first _ _ _ _ e in
      let reply : r.reply ≡ s.reply = reply_word-once r.reply s.reply h.1 k.1 first.0 in
      let cut = (same_first (codes "view") (codes "view") (cut_words version r.view)
      (cut_words version s.view) first.1).1 in
      let view : r.view ≡ s.view =
      cut_once version n r.view s.view small (h.2 ∙ wide) (k.2 ∙ wide) h.3 k.3 cut in
      let made : ℕ → List ℕ → Option Record = λ p v. Some (record { reply = p; view = v }) in
      ap (λ (p : ℕ). made p r.view) reply ∙ ap (made s.reply) view

  -- a right line leads to one book only
  pub line_one_way : (words : List (List ℕ)) (a b : List Page)
      → IsCallLine version operations book call words a
      → IsCallLine version operations book call words b → a ≡ b
  line_one_way words a b h k =
      let e = after_place call (operations.words h.op ++ answer_words version h.answer)
      (operations.words k.op ++ answer_words version k.answer) (sym h.text ∙ k.text) in
      let op : h.op ≡ k.op = one h.op k.op _ _ h.has k.has e in
      let answers = same_after (operations.words k.op) (answer_words version h.answer)
      (answer_words version k.answer)
      (ap (λ (o : ℕ). operations.words o ++ answer_words version h.answer) (sym op) ∙ e) in
      let answer : h.answer ≡ k.answer = same_answer (length book) h.answer k.answer refl
      (omega (arith, h.named.callers)) h.stands k.stands answers in
      h.book_is ∙ ap (λ (o : ℕ). with_line book call o h.answer) op
      ∙ ap (with_line book call k.op) answer ∙ sym k.book_is

  entry_apart : (words : List (List ℕ)) (op : ℕ) (answer : Option Record) (name : What)
      → IsNamedCall book call → IsTrue (operations.has op) → MayStand book call answer
      → words ≡ call_words version operations call op answer
      → EntryFails version operations (length book) (is_gap book call) call words name → ⊥
  entry_apart words op answer what.Place named has stands text h =
      passes_place version operations (length book) (is_gap book call) call words _ text h
  entry_apart words op answer what.Op named has stands text h =
      passes_op version operations (length book) (is_gap book call) call words
      (answer_words version answer) (record { op = op; has = has; text = text }) h
  entry_apart words op None what.Gap named has stands text h =
      h.2 (sym (one_after version operations (length book) (is_gap book call) call words one [] h.0
      (record { op = op; has = has; text = text }) h.1))
  entry_apart words op (Some r) what.Gap named has stands text h =
      passes_gap version operations (length book) (is_gap book call) call words stands.0 h
  entry_apart words op None what.Reply named has stands text h =
      let none = one_after version operations (length book) (is_gap book call) call words
      one [] (h.0 ∷ h.1) (record { op = op; has = has; text = text }) h.2 in absurd cc
  entry_apart words op (Some r) what.Reply named has stands text h =
      passes_reply version operations (length book) (is_gap book call) call words one
      (codes "view" ∷ cut_words version r.view) (record {
        reply = r.reply;
        small = stands.1;
        text = record { op = op; has = has; text = text };
      }) h
  entry_apart words op None what.View named has stands text h =
      let none = one_after version operations (length book) (is_gap book call) call words
      one [] (reply_word h.1.reply ∷ h.0) (record { op = op; has = has; text = text }) h.1.text in
      absurd cc
  entry_apart words op (Some r) what.View named has stands text h =
      passes_view version operations (length book) (is_gap book call) call words one r.view
      (omega (arith, named.callers)) (record {
        wide = stands.2;
        numbers = stands.3;
        text = record {
          reply = r.reply;
          small = stands.1;
          text = record { op = op; has = has; text = text };
        };
      }) h
  entry_apart words op answer _ named has stands text h = h

  view_apart : (words : List (List ℕ)) (op : ℕ) (answer : Option Record) (name : What)
      → IsNamedCall book call → IsTrue (operations.has op) → MayStand book call answer
      → words ≡ call_words version operations call op answer
      → ViewFails version operations book call words name → ⊥
  view_apart words op None name named has stands text h =
      let none = one_after version operations (length book) (is_gap book call) call words
      one [] (reply_word h.has.text.reply ∷ codes "view" ∷ cut_words version h.view)
      (record { op = op; has = has; text = text }) h.has.text.text in absurd cc
  view_apart words op (Some r) name named has stands text h =
      let viewed : HasView version operations (length book) call words r.view = record {
        wide = stands.2;
        numbers = stands.3;
        text = record {
          reply = r.reply;
          small = stands.1;
          text = record { op = op; has = has; text = text };
        };
      } in
      let same : h.view ≡ r.view = one_view version operations book call words one
      (omega (arith, named.callers)) h.view r.view h.has viewed in
      no_test_fails book call.caller r.view stands.4 h.fault
      (subst (λ (v : List ℕ). FailsTest book call.caller v h.fault) same h.fails)

  -- a right line fails no test
  pub line_apart : (more : List Call) (words : List (List ℕ)) (after : List Page) (name : What)
      → IsCallLine version operations book call words after
      → CallFails version operations book (call ∷ more) words name → ⊥
  line_apart more words after name h (inl k) =
      entry_apart words h.op h.answer name h.named h.has h.stands h.text k
  line_apart more words after name h (inr k) =
      view_apart words h.op h.answer name h.named h.has h.stands h.text k

  solid_answer : (answer : Option Record) → IsNamedCall book call → MayStand book call answer
      → AllByRecursion IsSolid (answer_words version answer)
  solid_answer None named stands = tt
  solid_answer (Some r) named stands = (
    solid_word (reply_word r.reply) (reply_word-IsWord r.reply stands.1),
    (
      plain (codes "view") (omega arith, (omega arith, (omega arith, (omega arith, tt))))
          (omega arith),
      solid_cut version r.view (omega (arith, stands.2, named.callers)) stands.3,
    ),
  )

  pub line_solid : (words : List (List ℕ)) (after : List Page)
      → IsCallLine version operations book call words after → AreSolid words
  line_solid words after h = subst AreSolid (sym h.text) (record {
    some = omega (
      arith,
      length-append (place_words call) (operations.words h.op ++ answer_words version h.answer),
    );
    each = AllByRecursion-append IsSolid (place_words call)
        (operations.words h.op ++ answer_words version h.answer) (
          solid_decimal call.caller (omega (arith, h.named.caller, h.named.callers)),
          (solid_decimal call.number h.named.number, tt),
        )
        (AllByRecursion-append IsSolid (operations.words h.op) (answer_words version h.answer)
        (solid_operation h.op h.has).each (solid_answer h.answer h.named h.stands));
  })

module _ (version : Version) (operations : Operations) (one : OneOperation operations)
    (solid_operation : (op : ℕ) → IsTrue (operations.has op) → AreSolid (operations.words op)) where
  same_progress : (a b : BookSoFar) → a.book ≡ b.book → a.due ≡ b.due → a ≡ b
  same_progress a b books dues =
      ap (λ (book : List Page). reading book a.due) books ∙ ap (reading b.book) dues

  calls_one_way : (book : List Page) (due : List Call) (a b : BookSoFar) (words : List (List ℕ))
      → CallPasses version operations book due words a
      → CallPasses version operations book due words b → a ≡ b
  calls_one_way book [] a b words h k = absurd h
  calls_one_way book (call ∷ calls) a b words h k = same_progress a b
      (line_one_way version operations one solid_operation book call words a.book b.book h.0 k.0)
      (h.1 ∙ sym k.1)

  calls_apart : (book : List Page) (due : List Call) (after : BookSoFar) (words : List (List ℕ))
      (name : What) → CallPasses version operations book due words after
      → CallFails version operations book due words name → ⊥
  calls_apart book [] after words name h k = h
  calls_apart book (call ∷ calls) after words name h k =
      line_apart version operations one solid_operation book call calls words after.book name h.0 k

  calls_solid : (book : List Page) (due : List Call) (after : BookSoFar) (words : List (List ℕ))
      → CallPasses version operations book due words after → AreSolid words
  calls_solid book [] after words h = absurd h
  calls_solid book (call ∷ calls) after words h =
      line_solid version operations one solid_operation book call words after.book h.0

  calls_wanted : (book : List Page) (due : List Call) (after : BookSoFar) (words : List (List ℕ))
      → CallPasses version operations book due words after → call_wanted due ≡ ALine
  calls_wanted book [] after words h = absurd h
  calls_wanted book (call ∷ calls) after words h = refl

  -- the rules of the lines of calls are sharp, whatever the operations
  pub call_sharp : AreSharp (call_rules version operations)
  call_sharp = record {
    one_way = λ due a b words h k. calls_one_way due.book due.due a b words h k;
    apart = λ due after words name h k. calls_apart due.book due.due after words name h k;
    solid = λ due after words h. calls_solid due.book due.due after words h;
    lines = λ due after words h. calls_wanted due.book due.due after words h;
  }

module _ (version : Version) where
  title_solid : IsSolid (codes "book")
  title_solid = plain (codes "book") (omega arith, (omega arith, (omega arith, (omega arith, tt))))
      (omega arith)

  head : AreSharp (head_rules version (codes "book"))
  head = head_sharp version (codes "book") title_solid

  one_way : (due a b : BookDue) (words : List (List ℕ)) → BookPasses version due words a
      → BookPasses version due words b → a ≡ b
  one_way (InHead due) a b words h k =
      h.2 ∙ ap after_head (head.one_way due h.0 k.0 words h.1 k.1) ∙ sym k.2
  one_way (InCalls kind book []) a b words h k = h.1 ∙ sym k.1
  one_way (InCalls kind book (call ∷ calls)) a b words h k =
      let books =
      line_one_way version (kind_operations version kind) (one_kind_operation version kind)
      (solid_kind_words version kind) book call words h.0.book k.0.book h.1.0 k.1.0 in
      let dues : h.0.due ≡ k.0.due = h.1.1 ∙ sym k.1.1 in
      h.2 ∙ ap (λ (b : List Page). InCalls kind b h.0.due) books
      ∙ ap (InCalls kind k.0.book) dues ∙ sym k.2
  one_way (AtEnd kind book) a b words h k = absurd h

  apart : (due after : BookDue) (words : List (List ℕ)) (name : What)
      → BookPasses version due words after → BookFails version due words name → ⊥
  apart (InHead due) after words name h k = head.apart due h.0 words name h.1 k
  apart (InCalls kind book []) after words name h k = k.1 h.0
  apart (InCalls kind book (call ∷ calls)) after words name h k =
      line_apart version (kind_operations version kind) (one_kind_operation version kind)
      (solid_kind_words version kind) book call calls words h.0.book name h.1.0 k
  apart (AtEnd kind book) after words name h k = h

  solid : (due after : BookDue) (words : List (List ℕ)) → BookPasses version due words after
      → AreSolid words
  solid (InHead due) after words h = head.solid due h.0 words h.1
  solid (InCalls kind book []) after words h = subst AreSolid (sym h.0) (record {
    some = omega arith;
    each = (plain (codes "end") (omega arith, (omega arith, (omega arith, tt))) (omega arith), tt);
  })
  solid (InCalls kind book (call ∷ calls)) after words h =
      line_solid version (kind_operations version kind) (one_kind_operation version kind)
      (solid_kind_words version kind) book call words h.0.book h.1.0
  solid (AtEnd kind book) after words h = absurd h

  wanted : (due after : BookDue) (words : List (List ℕ)) → BookPasses version due words after
      → book_wanted due ≡ ALine
  wanted (InHead due) after words h = refl
  wanted (InCalls kind book calls) after words h = refl
  wanted (AtEnd kind book) after words h = absurd h

  -- the rules of a book's text are sharp
  pub book_sharp : AreSharp (book_rules version)
  book_sharp = record { one_way = one_way; apart = apart; solid = solid; lines = wanted }
