-- What a reader makes of the parts of a report's text, whatever comes before each, and with which
-- fault it stops in them.
use Rattle.std.specs.Prelude.{◌≡◌, ◌≢◌, ◌⊎◌, ℕ, ◌<◌, ◌^◌, List, [], ◌∷◌, ◌++◌, length, slice_index, codes, Option, Some, None}
use Rattle.book_base.specs.declared.call.Call.{Call}
use Rattle.book_base.specs.declared.call.Record.{Record}
use Rattle.book_base.specs.declared.fault.ReadFault.{ReadFault}
use Rattle.book_base.specs.declared.fault.ReadFault.TheVariants.{Text, NoMemory}
use Rattle.book_base.specs.declared.fault.What.{What}
use Rattle.book_base.specs.declared.fault.What.TheVariants as what
use Rattle.book_base.specs.OperationWord.{IsOperationWord}
use Rattle.book_base.specs.Book.{Page}
use Rattle.book_base.specs.Refusal.{MayAnswer, IsFirstFault}
use Rattle.book_base.specs.declared.fault.BookFault.{BookFault}
use Rattle.seq_objects.specs.declared.kind.Kind.{Kind}
use Rattle.seq_objects.specs.Words.{operation_words}
use Rattle.seq_objects.specs.Replies.{reply_word}
use Rattle.text_fields.specs.Lines.{Unread}
use Rattle.text_fields.specs.Counts.{pair_words, HasBadPair, HasWordAfterPairs, NoPairFirst}
use Rattle.text_fields.specs.Faults.{GoesTo, IsFirstTest, StopsFor}
use Rattle.book_text.specs.CallLines.{place_words, calls_from, all_calls, LacksViewWord, view_test, with_line}
use Rattle.report_lines.specs.declared.line.LineEnd.{LineEnd}
use Rattle.report_lines.specs.declared.line.LineEnd.TheVariants.{Pending, Unchecked, Delivered, Error}
use Rattle.report_lines.specs.declared.line.Line.{Line}
use Rattle.std.specs.List.{flat_map}
use Rattle.report_lines.specs.Lines.{seen_in}
use Rattle.report_text.specs.declared.draft.Draft.{Draft}
use Rattle.reports.specs.Grammar.{seen_words}
use Rattle.report_text.specs.ReportRules.{book_so_far, IsCut, IsAnswer, BeginAsVerdict, IsWrongCut, IsSeenBefore, EndsTooEarly, LineFails, InLines, report_rules}
use Rattle.report_text.specs.Drafts.{StandBefore, AreLimits, AreSeenCounts, IsDraft}

-- ---- the words of a line

-- The words after the operation are 'pending' alone, where there is no answer; else they are the
-- answer's reply, 'view' and the pairs of its view, and then this suffix, which begins with no
-- pair.
abbrev pub SayAnswer : ℕ → List (List ℕ) → Option Record → List (List ℕ) → Type 0
SayAnswer n words None suffix = words ≡ codes "pending" ∷ []
SayAnswer n words (Some r) suffix = IsAnswer n r × NoPairFirst suffix
    × (words ≡ reply_word r.reply ∷ codes "view" ∷ (pair_words 0 r.view ++ suffix))

-- The words after the operation neither are 'pending' alone nor begin with an answer, and this is
-- the test that they fail: `Reply`, where they don't begin with a reply either; `View`, where
-- 'view' doesn't follow the reply, or one of the pairs after 'view' is bad.
abbrev pub IsNoAnswer : ℕ → List (List ℕ) → What → Type 0
IsNoAnswer n words what.Reply = (words ≢ codes "pending" ∷ [])
    × ((reply : ℕ) (others : List (List ℕ)) → reply < 2 ^ 64 → words ≢ reply_word reply ∷ others)
IsNoAnswer n words what.View = (reply : ℕ) × (suffix : List (List ℕ)) × (reply < 2 ^ 64)
    × (words ≡ reply_word reply ∷ suffix)
    × (LacksViewWord suffix
    ⊎ ((pairs : List (List ℕ)) × (suffix ≡ codes "view" ∷ pairs) × HasBadPair n 0 pairs))
IsNoAnswer n words _ = ⊥

-- The line begins with its call, this operation and this answer, where it has one, and this suffix
-- follows.
pub record IsPrefix (kind : Kind) (n : ℕ) (call : Call) (words : List (List ℕ)) (op : ℕ)
    (answer : Option Record) (suffix : List (List ℕ)) : Type 0 where
  pub has : IsOperationWord op
  pub rest : List (List ℕ)
  pub text : words ≡ place_words call ++ (operation_words kind op ++ rest)
  pub answered : SayAnswer n rest answer suffix

-- `name` is the first test that a line with these words fails where this call's line is due in a
-- report of n callers, whatever lines come before it and however many calls each caller has.
abbrev pub IsPrefixRefused : Kind → ℕ → Call → List (List ℕ) → What → Type 0
IsPrefixRefused kind n call words name = (counts : List ℕ) (told : List Line) → length counts ≡ n
    → IsFirstTest (LineFails kind counts told call words) name

-- The words that a line with this end has after its view; none where the line is pending.
abbrev pub verdict_words : LineEnd → List (List ℕ)
verdict_words Pending = []
verdict_words (Unchecked r) = codes "unchecked" ∷ []
verdict_words (Delivered r cut) = codes "ok" ∷ seen_words cut
verdict_words (Error r cut) = codes "error" ∷ seen_words cut

-- The end of a line isn't pending and has the record `r`; where it has a seen cut, this is a cut of
-- n callers.
abbrev pub HasVerdict : ℕ → Record → LineEnd → Type 0
HasVerdict n r Pending = ⊥
HasVerdict n r (Unchecked s) = s ≡ r
HasVerdict n r (Delivered s cut) = (s ≡ r) × IsCut n cut
HasVerdict n r (Error s cut) = (s ≡ r) × IsCut n cut

-- The words after a line's view are those of this end, which has the record `r`.
abbrev pub SayVerdict : ℕ → Record → List (List ℕ) → LineEnd → Type 0
SayVerdict n r words end = HasVerdict n r end × (words ≡ verdict_words end)

-- The words after the view say no end of a line, and this is the test that they fail: `Mark`, where
-- they neither are 'unchecked' alone nor begin as a verdict; `Seen`, where they begin as a verdict,
-- and one of the pairs after it is bad, or a word after it is no pair.
abbrev pub IsNoVerdict : ℕ → List (List ℕ) → What → Type 0
IsNoVerdict n words what.Mark = (words ≢ codes "unchecked" ∷ [])
    × ((others : List (List ℕ)) → ¬ (BeginAsVerdict words others))
IsNoVerdict n words what.Seen = (pairs : List (List ℕ)) × BeginAsVerdict words pairs
    × (HasBadPair n 0 pairs ⊎ HasWordAfterPairs pairs)
IsNoVerdict n words _ = ⊥

-- The record of a line, where it has one.
abbrev pub answer_in : LineEnd → Option Record
answer_in Pending = None
answer_in (Unchecked r) = Some r
answer_in (Delivered r cut) = Some r
answer_in (Error r cut) = Some r

-- The book of the lines before a call's line can take this answer of the call, where there is one.
abbrev pub MayTell : List Page → Call → Option Record → Type 0
MayTell book call None = Unit {0}
MayTell book call (Some r) = MayAnswer book call.caller r.view

-- The book with the operation of a call, and with its record where it has one, as a line says them.
abbrev pub with_told : List Page → Call → Line → List Page
with_told book call line = with_line book call line.op (answer_in line.end)

-- The reader of the line with this number stops with the fault `e` after it has read an answer with
-- this view: for want of memory; by the first test of views that the view fails in the book; or,
-- where the view is right, by the test that the words after it fail as a verdict.
abbrev pub IsAnswerRefused : List Page → Call → List ℕ → List (List ℕ) → ℕ → ReadFault → Type 0
IsAnswerRefused book call view words number e =
    (e ≡ NoMemory)
    ⊎ ((name : What) × (e ≡ Text (record { line = number; what = name }))
    × (((fault : BookFault) × (view_test fault ≡ Some name)
    × IsFirstFault book call.caller view fault)
    ⊎ (MayAnswer book call.caller view × IsNoVerdict (length book) words name)))

-- The reader of the line with these words and this number stops with the fault `e`: for want of
-- memory, or by the first test that the line fails after any lines that have this book.
abbrev pub AreWordsRefused : Kind → List Page → Call → List (List ℕ) → ℕ → ReadFault → Type 0
AreWordsRefused kind book call words number e =
    (e ≡ NoMemory)
    ⊎ ((name : What) × (e ≡ Text (record { line = number; what = name }))
    × ((counts : List ℕ) (told : List Line) → book ≡ book_so_far counts told
    → IsFirstTest (LineFails kind counts told call words) name))

-- ---- how a line fits

-- The seen cut of the line of this call, where it has one, isn't wrong among these lines; and where
-- the call is pending, no seen cut of these lines holds it.
pub record FitsCuts (counts : List ℕ) (lines : List (List Line)) (call : Call)
    (line : Line) : Type 0 where
  pub seen : (cut : List ℕ) → seen_in line.end ≡ Some cut → ¬ (IsWrongCut counts lines call cut)
  pub pending : line.end ≡ Pending → ¬ (IsSeenBefore lines call)

-- The line of this call fits the cuts of these lines (`FitsCuts`), and it is delivered or is its
-- caller's last.
pub record FitsOthers (counts : List ℕ) (lines : List (List Line)) (call : Call)
    (line : Line) : Type 0 where
  pub cuts : FitsCuts counts lines call line
  pub last : ¬ (EndsTooEarly counts call line)

-- This is the first test that a line fails, of two: `Seen`, that it fits the cuts of these lines
-- (`FitsCuts`); and `Last`, that it is delivered or is its caller's last.
abbrev pub IsMisfit : List ℕ → List (List Line) → Call → Line → What → Type 0
IsMisfit counts lines call line what.Seen =
    ((cut : List ℕ) × (seen_in line.end ≡ Some cut) × IsWrongCut counts lines call cut)
    ⊎ ((line.end ≡ Pending) × IsSeenBefore lines call)
IsMisfit counts lines call line what.Last = FitsCuts counts lines call line
    × EndsTooEarly counts call line
IsMisfit counts lines call line _ = ⊥

-- A line of this call, whose caller has `count` calls, fits (`FitsOthers`) whatever lines have
-- these limits and these greatest counts of seen cuts.
abbrev pub AlwaysFits : List ℕ → List ℕ → Call → ℕ → Line → Type 0
AlwaysFits limits seen call count line = (counts : List ℕ) (lines : List (List Line))
    → AreLimits counts lines limits → AreSeenCounts (length counts) lines seen
    → slice_index counts call.caller ≡ count → FitsOthers counts lines call line

-- `name` is the first test, `Seen` or `Last`, that a line of this call, whose caller has `count`
-- calls, fails after whatever lines have these limits and these greatest counts of seen cuts.
abbrev pub IsAlwaysMisfit : List ℕ → List ℕ → Call → ℕ → Line → What → Type 0
IsAlwaysMisfit limits seen call count line name = (counts : List ℕ) (lines : List (List Line))
    → AreLimits counts lines limits → AreSeenCounts (length counts) lines seen
    → slice_index counts call.caller ≡ count → IsMisfit counts lines call line name

-- ---- lines

-- The next line of the text is right and says `line` of this call, and the draft of all lines up to
-- it is `after`.
pub record IsLineRead (kind : Kind) (counts : List ℕ) (told : List Line) (call : Call)
    (more : List Call) (text : Unread) (line : Line) (after : Draft) (left : Unread) : Type 0 where
  pub goes : GoesTo report_rules (InLines kind counts told (call ∷ more)) text
      (InLines kind counts (told ++ line ∷ []) more) left
  pub draft : IsDraft counts (told ++ line ∷ []) after

-- After any lines that have the draft `before` and end right before this call, the next line of the
-- text is right and says `line` of this call, and the draft is then `after`.
abbrev pub LineIsRead : Kind → Draft → Call → Unread → Line → Draft → Unread → Type 0
LineIsRead kind before call text line after left =
    (counts : List ℕ) (told : List Line) (more : List Call)
    → IsDraft counts told before → StandBefore counts told call.caller call.number
    → IsLineRead kind counts told call more text line after left

-- After any lines that have the draft `before` and end right before this call, a reader of the next
-- line, where the call's line is due, stops with the fault `e`.
abbrev pub LineIsStopped : Kind → Draft → Call → Unread → ReadFault → Type 0
LineIsStopped kind before call text e = (counts : List ℕ) (told : List Line) (more : List Call)
    → IsDraft counts told before → StandBefore counts told call.caller call.number
    → StopsFor report_rules (InLines kind counts told (call ∷ more)) text e

-- The next `count` lines of the text are right and say the lines `own` of caller i, and the draft
-- of all lines up to the last of them is `after`.
pub record AreOwnRead (kind : Kind) (counts : List ℕ) (told : List Line) (i count : ℕ)
    (more : List Call) (text : Unread) (own : List Line) (after : Draft)
    (left : Unread) : Type 0 where
  pub goes : GoesTo report_rules (InLines kind counts told (calls_from i 0 count ++ more)) text
      (InLines kind counts (told ++ own) more) left
  pub draft : IsDraft counts (told ++ own) after

-- After any lines that have the draft `before` and end right before caller i's first call, the next
-- `count` lines of the text are right and say the lines `own` of caller i, and the draft is then
-- `after`.
abbrev pub LinesAreRead : Kind → Draft → ℕ → ℕ → Unread → List Line → Draft → Unread → Type 0
LinesAreRead kind before i count text own after left =
    (counts : List ℕ) (told : List Line) (more : List Call)
    → IsDraft counts told before → StandBefore counts told i 0
    → AreOwnRead kind counts told i count more text own after left

-- After any lines that have the draft `before` and end right before caller i's first call, a reader
-- of the next `count` lines, where the lines of caller i are due, stops with the fault `e`.
abbrev pub LinesAreStopped : Kind → Draft → ℕ → ℕ → Unread → ReadFault → Type 0
LinesAreStopped kind before i count text e = (counts : List ℕ) (told : List Line) (more : List Call)
    → IsDraft counts told before → StandBefore counts told i 0
    → StopsFor report_rules (InLines kind counts told (calls_from i 0 count ++ more)) text e

-- The lines of all callers in one list, caller by caller.
abbrev pub chained : List (List Line) → List Line
chained lines = flat_map (λ own. own) lines

-- The next lines of the text are right and say the lines `lines` of all calls, where each caller
-- has as many calls as `counts` says.
abbrev pub AreAllRead : Kind → List ℕ → Unread → List (List Line) → Unread → Type 0
AreAllRead kind counts text lines left = GoesTo report_rules
    (InLines kind counts [] (all_calls 0 counts)) text (InLines kind counts (chained lines) []) left

-- A reader of the next lines of the text, where the lines of all calls are due and each caller has
-- as many calls as `counts` says, stops with the fault `e`.
abbrev pub AreAllStopped : Kind → List ℕ → Unread → ReadFault → Type 0
AreAllStopped kind counts text e =
    StopsFor report_rules (InLines kind counts [] (all_calls 0 counts)) text e
