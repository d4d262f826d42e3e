-- The rules of a report's text: which lines are right, and which test a wrong line fails.
use Rattle.std.specs.Prelude.{◌≡◌, ◌≢◌, ℕ, ◌+◌, ◌-◌, ◌<◌, ◌≤◌, ◌^◌, ◌⊎◌, List, [], ◌∷◌, ◌++◌, length, map, take, drop, replicate, codes, Some, None, slice_index}
use Rattle.std.specs.List.{flat_map}
use Rattle.book_base.specs.declared.call.Call.{Call}
use Rattle.book_base.specs.declared.call.Record.{Record}
use Rattle.book_base.specs.declared.fault.BookFault.{BookFault}
use Rattle.book_base.specs.declared.fault.TextFault.{TextFault}
use Rattle.book_base.specs.declared.fault.What.{What}
use Rattle.book_base.specs.declared.fault.What.TheVariants as what
use Rattle.book_base.specs.declared.TheConstants.{MAX_CALLERS}
use Rattle.book_base.specs.OperationWord.{IsOperationWord}
use Rattle.book_base.specs.Cut.{Holds}
use Rattle.book_base.specs.Book.{Page}
use Rattle.book_base.specs.Refusal.{MayAnswer, FailsTest}
use Rattle.seq_objects.specs.declared.kind.Kind.{Kind}
use Rattle.seq_objects.specs.Words.{operation_words}
use Rattle.seq_objects.specs.Replies.{reply_word}
use Rattle.text_fields.specs.declared.version.Version.TheVariants.{Second}
use Rattle.text_fields.specs.Lines.{Unread}
use Rattle.text_fields.specs.Counts.{AreNumbers, pair_words, HasBadPair, HasWordAfterPairs, NoPairFirst}
use Rattle.text_fields.specs.Faults.{Wanted, ALine, TheEnd, Rules, IsFirstFault, IsReadTo}
use Rattle.text_fields.specs.Head.{HeadDue, TitleDue, ObjectDue, CallersDue, CountsDue, HeadRead, HeadPasses, HeadFails}
use Rattle.text_fields.specs.Operations.{kind_operations}
use Rattle.book_text.specs.CallLines.{place_words, all_calls, IsAfterOperation, IsAfterReply, LacksViewWord, view_test}
use Rattle.book_text.specs.Grammar.{end_words}
use Rattle.book_text.specs.BookRules.{whole_text}
use Rattle.world_core.specs.Calls.{records_of}
use Rattle.report_lines.specs.declared.line.LineEnd.{LineEnd}
use Rattle.report_lines.specs.declared.line.LineEnd.TheVariants.{Pending, Unchecked, Delivered, Error}
use Rattle.report_lines.specs.declared.line.Line.{Line}
use Rattle.report_lines.specs.Lines.{reached_of, line_at, seen_in, seen_at, delivered_in}
use Rattle.client_scripts.specs.ScriptRules.{grouped, IsNamedCall}
use Rattle.reports.specs.Findings.{Findings}
use Rattle.reports.specs.Grammar.{line_words}

-- ---- what the lines so far say

-- The page of a caller with `count` calls, of which the first have the lines `own`; each further
-- call has the operation word 0 and no answer.
abbrev pub part_page : ℕ → List Line → Page
part_page count own = record {
  operations = map (λ line. line.op) own ++ replicate (count - length own) 0;
  records = flat_map (λ line. records_of (reached_of line.end)) own;
}

-- The book of the lines read so far, which are in one list by caller and number, for callers with
-- these numbers of calls.
abbrev pub book_so_far : List ℕ → List Line → List Page
book_so_far [] told = []
book_so_far (count ∷ counts) told =
    part_page count (take count told) ∷ book_so_far counts (drop count told)

-- ---- what the words of a line say

-- A cut of this many callers whose counts a text can have.
abbrev pub IsCut : ℕ → List ℕ → Type 0
IsCut n cut = (length cut ≡ n) × AreNumbers cut

-- A record of this many callers whose reply and view a text can have.
abbrev pub IsAnswer : ℕ → Record → Type 0
IsAnswer n r = (r.reply < 2 ^ 64) × IsCut n r.view

-- The end of a line of this many callers whose record and seen cut a text can have.
abbrev pub IsFormed : ℕ → LineEnd → Type 0
IsFormed n Pending = Unit {0}
IsFormed n (Unchecked r) = IsAnswer n r
IsFormed n (Delivered r cut) = IsAnswer n r × IsCut n cut
IsFormed n (Error r cut) = IsAnswer n r × IsCut n cut

-- The words are the text of this call's line, in a report of n callers, and a text can have the
-- call's caller and number, the operation, the record and the seen cut.
pub record SaysLine (kind : Kind) (n : ℕ) (call : Call) (words : List (List ℕ))
    (line : Line) : Type 0 where
  pub named : IsNamedCall call
  pub few : n ≤ MAX_CALLERS
  pub has : IsOperationWord line.op
  pub formed : IsFormed n line.end
  pub text : words ≡ line_words kind call line

-- The words of a call's line are the call, an operation, a reply, this view and this suffix, which
-- begins with no pair.
pub record IsAfterView (kind : Kind) (n : ℕ) (call : Call) (words : List (List ℕ)) (view : List ℕ)
    (suffix : List (List ℕ)) : Type 0 where
  pub formed : IsCut n view
  pub plain : NoPairFirst suffix
  pub text : IsAfterReply (kind_operations Second kind) call words
      (codes "view" ∷ (pair_words 0 view ++ suffix))

-- The words are 'ok seen' or 'error seen', and then this suffix.
abbrev pub BeginAsVerdict : List (List ℕ) → List (List ℕ) → Type 0
BeginAsVerdict words suffix = (words ≡ codes "ok" ∷ codes "seen" ∷ suffix)
    ⊎ (words ≡ codes "error" ∷ codes "seen" ∷ suffix)

-- ---- how a line fits those before it

-- There is a line for this call among the lines, and it is pending.
abbrev pub IsPendingAt : List (List Line) → Call → Type 0
IsPendingAt lines call = (line : Line) × (line_at lines call ≡ Some line) × (line.end ≡ Pending)

-- A seen cut of a call is wrong: a count is above the number of its caller's calls, or the cut
-- holds a call whose line is pending, or it doesn't hold the call itself.
abbrev pub IsWrongCut : List ℕ → List (List Line) → Call → List ℕ → Type 0
IsWrongCut counts lines call cut =
    ((j : ℕ) × (slice_index counts j < slice_index cut j))
    ⊎ (((other : Call) × IsPendingAt lines other × Holds cut other)
    ⊎ (slice_index cut call.caller ≤ call.number))

-- The seen cut of one of these lines, which are those before the call's line, holds this call.
abbrev pub IsSeenBefore : List (List Line) → Call → Type 0
IsSeenBefore lines call = (other : Call) × (cut : List ℕ) × (seen_at lines other ≡ Some cut)
    × Holds cut call

-- The line isn't delivered, and isn't its caller's last.
abbrev pub EndsTooEarly : List ℕ → Call → Line → Type 0
EndsTooEarly counts call line = (delivered_in line.end ≡ None)
    × (call.number + 1 < slice_index counts call.caller)

-- A line of this call fits the lines before it: their book takes its view; its seen cut isn't
-- wrong; where it is pending, no earlier seen cut holds the call; and it is delivered or is its
-- caller's last.
pub record FitsEarlier (counts : List ℕ) (told : List Line) (call : Call)
    (line : Line) : Type 0 where
  pub view : (r : Record) → records_of (reached_of line.end)
      ≡ r ∷ [] → MayAnswer (book_so_far counts told) call.caller r.view
  pub seen : (cut : List ℕ) → seen_in line.end ≡ Some cut
      → ¬ (IsWrongCut counts (grouped counts told) call cut)
  pub pending : line.end ≡ Pending → ¬ (IsSeenBefore (grouped counts told) call)
  pub last : ¬ (EndsTooEarly counts call line)

-- ---- the tests of a line

-- A line with these words fails this test where the line of this call is due after the lines
-- `told`.
abbrev pub LineFails : Kind → List ℕ → List Line → Call → List (List ℕ) → What → Type 0
-- the line doesn't begin with the caller and the number that are due
LineFails kind counts told call words what.Place = (suffix : List (List ℕ))
    → words ≢ place_words call ++ suffix
-- the next words are no operation
LineFails kind counts told call words what.Op = (suffix : List (List ℕ))
    × (words ≡ place_words call ++ suffix)
    × ((op : ℕ) (others : List (List ℕ)) → IsOperationWord op
    → suffix ≢ operation_words kind op ++ others)
-- the words after the operation neither begin with a reply nor are 'pending' alone
LineFails kind counts told call words what.Reply = (suffix : List (List ℕ))
    × IsAfterOperation (kind_operations Second kind) call words suffix
    × (suffix ≢ codes "pending" ∷ [])
    × ((reply : ℕ) (others : List (List ℕ)) → reply < 2 ^ 64 → suffix ≢ reply_word reply ∷ others)
-- the words after the reply begin with no view: the first isn't 'view', or one of the pair words
-- after it is no pair, or has no greater caller than the pair before it
LineFails kind counts told call words what.View = (suffix : List (List ℕ))
    × IsAfterReply (kind_operations Second kind) call words suffix
    × (LacksViewWord suffix ⊎ ((pairs : List (List ℕ)) × (suffix ≡ codes "view" ∷ pairs)
    × HasBadPair (length counts) 0 pairs))
-- the words after the view neither are 'unchecked' alone nor begin with a verdict
LineFails kind counts told call words what.Mark = (view : List ℕ) × (suffix : List (List ℕ))
    × IsAfterView kind (length counts) call words view suffix
    × (suffix ≢ codes "unchecked" ∷ [])
    × ((others : List (List ℕ)) → ¬ (BeginAsVerdict suffix others))
-- the words after 'seen' are no cut; or the seen cut is wrong; or the line is pending, and an
-- earlier seen cut holds its call
LineFails kind counts told call words what.Seen =
    ((view : List ℕ) × (suffix : List (List ℕ)) × (pairs : List (List ℕ))
    × IsAfterView kind (length counts) call words view suffix × BeginAsVerdict suffix pairs
    × (HasBadPair (length counts) 0 pairs ⊎ HasWordAfterPairs pairs))
    ⊎ (((line : Line) × (cut : List ℕ) × SaysLine kind (length counts) call words line
    × (seen_in line.end ≡ Some cut) × IsWrongCut counts (grouped counts told) call cut)
    ⊎ ((line : Line) × SaysLine kind (length counts) call words line × (line.end ≡ Pending)
    × IsSeenBefore (grouped counts told) call))
-- the line isn't delivered, and isn't its caller's last
LineFails kind counts told call words what.Last = (line : Line)
    × SaysLine kind (length counts) call words line × EndsTooEarly counts call line
-- the book of the lines before this line refuses the line's view, by this test of views
LineFails kind counts told call words name = (view : List ℕ) × (suffix : List (List ℕ))
    × (fault : BookFault) × IsAfterView kind (length counts) call words view suffix
    × (view_test fault ≡ Some name) × FailsTest (book_so_far counts told) call.caller view fault

-- ---- the rules

-- What is due in the text of a report, with what the lines before say.
pub data ReportDue : Type 0 where
  InHead : HeadDue → ReportDue
  -- the lines of the calls in the last list are due, after text that says the lines in the list
  -- before it; the first list has each caller's number of calls
  InLines : Kind → List ℕ → List Line → List Call → ReportDue
  AtEnd : Findings → ReportDue

-- What is due in a report's text after a part of its head: the rest of the head, or, where the head
-- is read, the lines of the calls.
abbrev pub after_head : HeadDue → ReportDue
after_head TitleDue = InHead TitleDue
after_head ObjectDue = InHead ObjectDue
after_head (CallersDue kind) = InHead (CallersDue kind)
after_head (CountsDue kind n) = InHead (CountsDue kind n)
after_head (HeadRead kind counts) = InLines kind counts [] (all_calls 0 counts)

-- A line with these words is right in a report's text where `due` is due, and after it `after` is
-- due.
abbrev pub ReportPasses : ReportDue → List (List ℕ) → ReportDue → Type 0
ReportPasses (InHead due) words after = (next : HeadDue)
    × HeadPasses Second (codes "report") due words next × (after ≡ after_head next)
ReportPasses (InLines kind counts told []) words after = (words ≡ end_words)
    × (after ≡ AtEnd (record { kind = kind; lines = grouped counts told }))
ReportPasses (InLines kind counts told (call ∷ calls)) words after = (line : Line)
    × SaysLine kind (length counts) call words line × FitsEarlier counts told call line
    × (after ≡ InLines kind counts (told ++ line ∷ []) calls)
ReportPasses (AtEnd findings) words after = ⊥

-- A line with these words fails this test in a report's text where `due` is due.
abbrev pub ReportFails : ReportDue → List (List ℕ) → What → Type 0
ReportFails (InHead due) words name = HeadFails Second (codes "report") due words name
ReportFails (InLines kind counts told []) words name = (name ≡ what.End) × (words ≢ end_words)
ReportFails (InLines kind counts told (call ∷ calls)) words name =
    LineFails kind counts told call words name
ReportFails (AtEnd findings) words name = ⊥

-- What is due next in each state of reading a report's text: a line, or the end.
abbrev pub report_wanted : ReportDue → Wanted
report_wanted (InHead due) = ALine
report_wanted (InLines kind counts told calls) = ALine
report_wanted (AtEnd findings) = TheEnd

-- The rules of a report's text.
abbrev pub report_rules : Rules ReportDue
report_rules = record { Passes = ReportPasses; Fails = ReportFails; wanted = report_wanted }

-- The first fault of bytes that are to be a report's text.
abbrev pub IsFirstReportFault : List ℕ → TextFault → Type 0
IsFirstReportFault bytes fault =
    IsFirstFault report_rules (InHead TitleDue) (whole_text bytes) fault

-- The bytes are the text of the report with these findings: right lines from the title to the end
-- of the bytes.
abbrev pub IsReportText : List ℕ → Findings → Type 0
IsReportText bytes findings = (left : Unread)
    × IsReadTo report_rules (InHead TitleDue) (whole_text bytes) (AtEnd findings) left

-- The bytes are the text of no report.
abbrev pub IsNoReportText : List ℕ → Type 0
IsNoReportText bytes = (findings : Findings) → ¬ (IsReportText bytes findings)
