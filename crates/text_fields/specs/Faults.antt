-- The faults of a text that is read line by line: which line fails which test, and which fault is
-- the first.
use Rattle.std.specs.Prelude.{◌≡◌, ◌≢◌, ℕ, ◌+◌, ◌<◌, ◌⊎◌, List, [], ◌∷◌, ◌++◌, length, Some, None}
use Rattle.book_base.specs.declared.fault.TextFault.{TextFault}
use Rattle.book_base.specs.declared.fault.ReadFault.{ReadFault}
use Rattle.book_base.specs.declared.fault.ReadFault.TheVariants.{Text, NoMemory}
use Rattle.book_base.specs.declared.fault.What.{What}
use Rattle.book_base.specs.declared.fault.What.TheVariants.{Long, Cut, Head, Object, Callers, Calls, Place, Op, Gap, Reply, View, ViewOutside, ViewLacksOwn, ViewHasLater, ViewsCross, Mark, Seen, Last, Stop, Turns, End, Rest}
use Rattle.text_fields.specs.Lines.{Unread, AreSolid, text_of, cut_at, words_of}

-- what is due next for a reader: a line, the end of the bytes, or nothing, since other rules read
-- what follows
pub data Wanted : Type 0 where
  ALine : Wanted
  TheEnd : Wanted
  Nothing : Wanted

-- The rules of a kind of text. A value of Due is a state of reading: it says what is due next, as
-- the lines so far determine.
pub record Rules (Due : Type 0) : Type 1 where
  -- a line of these words is right in the first state, and leads to the second one
  pub Passes : Due → List (List ℕ) → Due → Type 0
  -- a line of these words fails the test with this name in this state
  pub Fails : Due → List (List ℕ) → What → Type 0
  -- what is due next in a state
  pub wanted : Due → Wanted

-- the turn of a test: of the tests of one line those with lower turns are tried first
abbrev pub turn_of : What → ℕ
turn_of Long = 0
turn_of Cut = 1
turn_of Head = 2
turn_of Object = 3
turn_of Callers = 4
turn_of Calls = 5
turn_of Place = 6
turn_of Op = 7
turn_of Gap = 8
turn_of Reply = 9
turn_of View = 10
turn_of ViewOutside = 11
turn_of ViewLacksOwn = 12
turn_of ViewHasLater = 13
turn_of ViewsCross = 14
turn_of Mark = 15
turn_of Seen = 16
turn_of Last = 17
turn_of Stop = 18
turn_of Turns = 19
turn_of End = 20
turn_of Rest = 21

-- This test is the first one that a line fails: the line fails it, and no test with a lower turn.
pub record IsFirstTest (Fails : What → Type 0) (what : What) : Type 0 where
  pub fails : Fails what
  pub first : (other : What) → turn_of other < turn_of what → Fails other → ⊥

-- The bytes begin with a line that a line feed ends; it fails this test, and no test with a lower
-- turn.
pub record IsWrongLine {Due : Type 0} (rules : Rules Due) (due : Due) (bytes : List ℕ)
    (what : What) : Type 0 where
  pub line : List ℕ
  pub rest : List ℕ
  pub whole : cut_at 10 bytes ≡ Some (line, rest)
  pub test : IsFirstTest (rules.Fails due (words_of line)) what

-- The first test that the bytes fail. Where a line is due, it is `Cut` if no line feed is left, or
-- the first test that the next line fails; where the end is due, it is `Rest` if bytes are left;
-- where nothing is due, bytes fail no test.
abbrev pub IsWrong : {Due : Type 0} → Rules Due → Due → Wanted → List ℕ → What → Type 0
IsWrong rules due ALine bytes what = ((what ≡ Cut) × (cut_at 10 bytes ≡ None))
    ⊎ IsWrongLine rules due bytes what
IsWrong rules due TheEnd bytes what = (what ≡ Rest) × (bytes ≢ [])
IsWrong rules due Nothing bytes what = ⊥

-- Each of these lines is right, and together they lead from the first state to the second.
abbrev pub AllPass : {Due : Type 0} → (Due → List (List ℕ) → Due → Type 0) → Due
    → List (List (List ℕ)) → Due → Type 0
AllPass Passes due [] after = due ≡ after
AllPass {Due} Passes due (words ∷ lines) after = (next : Due) × Passes due words next
    × AllPass Passes next lines after

-- A text begins with right lines that lead from one state to another, and the rest of it is left
-- unread.
pub record GoesTo {Due : Type 0} (rules : Rules Due) (due : Due) (text : Unread) (after : Due)
    (left : Unread) : Type 0 where
  pub lines : List (List (List ℕ))
  pub right : AllPass rules.Passes due lines after
  pub bytes : text.bytes ≡ text_of lines ++ left.bytes
  pub number : left.number ≡ text.number + length lines

-- The first fault of a text that is read from a state on: all lines before the fault's line are
-- right, and the fault names the first test that is failed at its line.
pub record IsFirstFault {Due : Type 0} (rules : Rules Due) (due : Due) (text : Unread)
    (fault : TextFault) : Type 0 where
  pub reached : Due
  pub left : Unread
  pub before : GoesTo rules due text reached left
  pub line : fault.line ≡ left.number
  pub wrong : IsWrong rules reached (rules.wanted reached) left.bytes fault.what

-- A fault of reading is want of memory, or a fault of the text that has this property.
abbrev pub IsFaultOf : (TextFault → Type 0) → ReadFault → Type 0
IsFaultOf IsOne (Text fault) = IsOne fault
IsFaultOf IsOne NoMemory = Unit {0}

-- A reader that reads a text from the state `due` on stops for want of memory, or with the text's
-- first fault.
abbrev pub StopsFor : {Due : Type 0} → Rules Due → Due → Unread → ReadFault → Type 0
StopsFor rules due text NoMemory = Unit {0}
StopsFor rules due text (Text fault) = IsFirstFault rules due text fault

-- Rules have nothing left to read: where the end is due, no byte is left; where nothing is due,
-- other rules read on, whatever is left; where a line is due, something is always left to read.
abbrev pub IsThrough : Wanted → List ℕ → Type 0
IsThrough ALine bytes = ⊥
IsThrough TheEnd bytes = bytes ≡ []
IsThrough Nothing bytes = Unit {0}

-- A text is read by right lines to its end, or to where other rules read on.
pub record IsReadTo {Due : Type 0} (rules : Rules Due) (due : Due) (text : Unread) (after : Due)
    (left : Unread) : Type 0 where
  pub goes : GoesTo rules due text after left
  pub through : IsThrough (rules.wanted after) left.bytes

-- Rules are sharp where a line is right only in a state in which a line is due, and leads from it
-- to one state at most, no right line fails a test, and the words of a right line can be read back
-- from its bytes.
pub record AreSharp {Due : Type 0} (rules : Rules Due) : Type 0 where
  -- a right line leads from a state to exactly one state
  pub one_way : (due a b : Due) (words : List (List ℕ)) → rules.Passes due words a
      → rules.Passes due words b → a ≡ b
  -- a right line fails no test
  pub apart : (due after : Due) (words : List (List ℕ)) (what : What) → rules.Passes due words after
      → rules.Fails due words what → ⊥
  -- the words of a right line have no space and no line feed
  pub solid : (due after : Due) (words : List (List ℕ)) → rules.Passes due words after
      → AreSolid words
  -- a line is right only in a state in which a line is due
  pub lines : (due after : Due) (words : List (List ℕ)) → rules.Passes due words after
      → rules.wanted due ≡ ALine
