-- The rules of a report's text are sharp.
use Rattle.std.proofs.Common.{◌≡◌, ℕ, ◌<◌, ◌^◌, List, [], ◌∷◌, ◌++◌, length, refl, sym, ap, subst, ◌∙◌, arith}
use Rattle.std.specs.Prelude.{codes}
use Rattle.std.specs.List.{AllByRecursion}
use Rattle.std.proofs.lemmas.List.{length-append}
use Rattle.list_laws.proofs.Elements.{AllByRecursion-append}
use Rattle.book_base.specs.declared.call.Call.{Call}
use Rattle.book_base.specs.declared.call.Record.{Record}
use Rattle.book_base.specs.declared.fault.What.{What}
use Rattle.book_base.specs.declared.fault.What.TheVariants as what
use Rattle.book_base.specs.Refusal.{MayAnswer}
use Rattle.seq_objects.specs.declared.kind.Kind.{Kind}
use Rattle.seq_objects.specs.Words.{operation_words}
use Rattle.seq_objects.specs.Replies.{reply_word}
use Rattle.seq_objects.proofs.Texts.{reply_word-IsWord}
use Rattle.text_fields.specs.declared.version.Version.TheVariants.{Second}
use Rattle.text_fields.specs.Lines.{IsSolid, AreSolid}
use Rattle.text_fields.specs.Counts.{pair_words}
use Rattle.text_fields.specs.Faults.{ALine, AreSharp}
use Rattle.text_fields.specs.Head.{head_rules}
use Rattle.text_fields.specs.OperationLaws.{solid_kind_words}
use Rattle.text_fields.proofs.NumberTexts.{solid_word, solid_decimal}
use Rattle.text_fields.proofs.HeadTexts.{plain, head_sharp}
use Rattle.book_text.specs.CallLines.{place_words}
use Rattle.book_text.proofs.SharpBooks.{solid_pairs}
use Rattle.client_scripts.proofs.SharpScripts.{small_has}
use Rattle.report_lines.specs.declared.line.LineEnd.{LineEnd}
use Rattle.report_lines.specs.declared.line.LineEnd.TheVariants.{Pending, Unchecked, Delivered, Error}
use Rattle.report_lines.specs.declared.line.Line.{Line}
use Rattle.report_lines.specs.Lines.{reached_of}
use Rattle.book_base.specs.Book.{Page}
use Rattle.reports.specs.Grammar.{ending_words, seen_words}
use Rattle.report_text.specs.ReportRules.{book_so_far, IsCut, IsAnswer, IsFormed, SaysLine, FitsEarlier, LineFails, ReportDue, InHead, InLines, AtEnd, after_head, ReportPasses, ReportFails, report_wanted, report_rules}
use Rattle.world_core.specs.Calls.{records_of}
use Rattle.report_text.specs.Parts.{answer_in, MayTell}
use Rattle.report_text.proofs.RightLines.{one_line, said_place, said_op, said_reply, said_view, said_tests, said_mark, said_seen, said_last}

-- ---- a right line fails no test

-- the book can take what a right line says
pub may_tell : (book : List Page) (call : Call) (end : LineEnd)
    → ((r : Record) → records_of (reached_of end) ≡ r ∷ [] → MayAnswer book call.caller r.view)
    → MayTell book call (answer_in end)
may_tell book call Pending h = tt
may_tell book call (Unchecked r) h = h r refl
may_tell book call (Delivered r cut) h = h r refl
may_tell book call (Error r cut) h = h r refl

line_apart : (kind : Kind) (counts : List ℕ) (told : List Line) (call : Call)
    (words : List (List ℕ)) (line : Line) (name : What)
    → SaysLine kind (length counts) call words line → FitsEarlier counts told call line
    → LineFails kind counts told call words name → ⊥
line_apart kind counts told call words line what.Place h f k =
    said_place kind counts told call words line h k
line_apart kind counts told call words line what.Op h f k =
    said_op kind counts told call words line h k
line_apart kind counts told call words line what.Reply h f k =
    said_reply kind counts told call words line h k
line_apart kind counts told call words line what.View h f k =
    said_view kind counts told call words line h k
line_apart kind counts told call words line what.Mark h f k =
    said_mark kind counts told call words line h k
line_apart kind counts told call words line what.Seen h f k =
    said_seen kind counts told call words line h (record { seen = f.seen; pending = f.pending }) k
line_apart kind counts told call words line what.Last h f k =
    said_last kind counts told call words line h f.last k
line_apart kind counts told call words line name h f k =
    said_tests kind counts told call words line h name
    (may_tell (book_so_far counts told) call line.end f.view)
    (record { view = k.0; suffix = k.1; fault = k.2; at = k.3; test = k.4; fails = k.5 })

-- ---- the words of a right line can be those of a line

solid_pending : IsSolid (codes "pending")
solid_pending = plain (codes "pending") (
  omega arith,
  (omega arith, (omega arith, (omega arith, (omega arith, (omega arith, (omega arith, tt)))))),
) (omega arith)

solid_view : IsSolid (codes "view")
solid_view = plain (codes "view") (omega arith, (omega arith, (omega arith, (omega arith, tt))))
    (omega arith)

solid_unchecked : IsSolid (codes "unchecked")
solid_unchecked = plain (codes "unchecked") (
  omega arith,
  (
    omega arith,
    (
      omega arith,
      (omega arith, (omega arith, (omega arith, (omega arith, (omega arith, (omega arith, tt)))))),
    ),
  ),
) (omega arith)

solid_ok : IsSolid (codes "ok")
solid_ok = plain (codes "ok") (omega arith, (omega arith, tt)) (omega arith)

solid_error : IsSolid (codes "error")
solid_error = plain (codes "error")
    (omega arith, (omega arith, (omega arith, (omega arith, (omega arith, tt))))) (omega arith)

solid_seen : IsSolid (codes "seen")
solid_seen = plain (codes "seen") (omega arith, (omega arith, (omega arith, (omega arith, tt))))
    (omega arith)

solid_title : IsSolid (codes "report")
solid_title = plain (codes "report")
    (omega arith, (omega arith, (omega arith, (omega arith, (omega arith, (omega arith, tt))))))
    (omega arith)

solid_end : IsSolid (codes "end")
solid_end = plain (codes "end") (omega arith, (omega arith, (omega arith, tt))) (omega arith)

solid_answer : (n : ℕ) (r : Record) (rest : List (List ℕ)) → n < 2 ^ 64 → IsAnswer n r
    → AllByRecursion IsSolid rest
    → AllByRecursion IsSolid (reply_word r.reply ∷ codes "view" ∷ (pair_words 0 r.view ++ rest))
solid_answer n r rest small h k = (
  solid_word (reply_word r.reply) (reply_word-IsWord r.reply h.0),
  (
    solid_view,
    AllByRecursion-append IsSolid (pair_words 0 r.view) rest
        (solid_pairs 0 r.view (omega (arith, h.1.0)) h.1.1) k,
  ),
)

solid_cut : (n : ℕ) (cut : List ℕ) → n < 2 ^ 64 → IsCut n cut
    → AllByRecursion IsSolid (seen_words cut)
solid_cut n cut small h = (solid_seen, solid_pairs 0 cut (omega (arith, h.0)) h.1)

solid_ending : (n : ℕ) (end : LineEnd) → n < 2 ^ 64 → IsFormed n end
    → AllByRecursion IsSolid (ending_words end)
solid_ending n Pending small h = (solid_pending, tt)
solid_ending n (Unchecked r) small h = solid_answer n r _ small h (solid_unchecked, tt)
solid_ending n (Delivered r cut) small h =
    solid_answer n r _ small h.0 (solid_ok, solid_cut n cut small h.1)
solid_ending n (Error r cut) small h =
    solid_answer n r _ small h.0 (solid_error, solid_cut n cut small h.1)

line_solid : (kind : Kind) (n : ℕ) (call : Call) (words : List (List ℕ)) (line : Line)
    → SaysLine kind n call words line → AreSolid words
line_solid kind n call words line h = subst AreSolid (sym h.text) (record {
  some = omega (
    arith,
    length-append (place_words call) (operation_words kind line.op ++ ending_words line.end),
  );
  each = AllByRecursion-append IsSolid (place_words call)
      (operation_words kind line.op ++ ending_words line.end)
      (solid_decimal call.caller h.named.0, (solid_decimal call.number h.named.1.0, tt))
      (AllByRecursion-append IsSolid (operation_words kind line.op) (ending_words line.end)
      (solid_kind_words Second kind line.op (small_has Second line.op h.has)).each
      (solid_ending n line.end (omega (arith, h.few)) h.formed));
})

-- ---- the rules

head : AreSharp (head_rules Second (codes "report"))
head = head_sharp Second (codes "report") solid_title

one_way : (due a b : ReportDue) (words : List (List ℕ)) → ReportPasses due words a
    → ReportPasses due words b → a ≡ b
one_way (InHead due) a b words h k =
    h.2 ∙ ap after_head (head.one_way due h.0 k.0 words h.1 k.1) ∙ sym k.2
one_way (InLines kind counts told []) a b words h k = h.1 ∙ sym k.1
one_way (InLines kind counts told (call ∷ calls)) a b words h k =
    let same : h.0 ≡ k.0 = one_line kind (length counts) call words h.0 k.0 h.1 k.1 in
    h.3 ∙ ap (λ (line : Line). InLines kind counts (told ++ line ∷ []) calls) same ∙ sym k.3
one_way (AtEnd findings) a b words h k = absurd h

apart : (due after : ReportDue) (words : List (List ℕ)) (name : What) → ReportPasses due words after
    → ReportFails due words name → ⊥
apart (InHead due) after words name h k = head.apart due h.0 words name h.1 k
apart (InLines kind counts told []) after words name h k = k.1 h.0
apart (InLines kind counts told (call ∷ calls)) after words name h k =
    line_apart kind counts told call words h.0 name h.1 h.2 k
apart (AtEnd findings) after words name h k = h

solid : (due after : ReportDue) (words : List (List ℕ)) → ReportPasses due words after
    → AreSolid words
solid (InHead due) after words h = head.solid due h.0 words h.1
solid (InLines kind counts told []) after words h =
    subst AreSolid (sym h.0) (record { some = omega arith; each = (solid_end, tt) })
solid (InLines kind counts told (call ∷ calls)) after words h =
    line_solid kind (length counts) call words h.0 h.1
solid (AtEnd findings) after words h = absurd h

wanted : (due after : ReportDue) (words : List (List ℕ)) → ReportPasses due words after
    → report_wanted due ≡ ALine
wanted (InHead due) after words h = refl
wanted (InLines kind counts told calls) after words h = refl
wanted (AtEnd findings) after words h = absurd h

-- the rules of a report's text are sharp: a line has one reading or one fault
pub report_sharp : AreSharp report_rules
report_sharp = record { one_way = one_way; apart = apart; solid = solid; lines = wanted }
