-- The head of a text: its title, its object, its callers, and the calls of each.
use Rattle.std.specs.Prelude.{◌≡◌, ◌≢◌, ℕ, ◌≤◌, true, List, [], ◌∷◌, length, map, codes, decimal}
use Rattle.book_base.specs.declared.fault.What.{What}
use Rattle.book_base.specs.declared.fault.What.TheVariants.{Head, Object, Callers, Calls}
use Rattle.seq_objects.specs.declared.kind.Kind.{Kind}
use Rattle.seq_objects.specs.Words.{kind_name}
use Rattle.text_fields.specs.declared.version.Version.{Version}
use Rattle.text_fields.specs.Version.{version_word, most_callers, most_calls, has_kind}
use Rattle.text_fields.specs.Counts.{AreAtMost}
use Rattle.text_fields.specs.Lines.{Unread}
use Rattle.text_fields.specs.Faults.{Wanted, ALine, Nothing, Rules, GoesTo, IsFirstFault}
use Rattle.book_base.specs.declared.fault.TextFault.{TextFault}

-- the words of the title line: the title and the version
abbrev pub title_words : Version → List ℕ → List (List ℕ)
title_words version title = title ∷ version_word version ∷ []

-- the words of the object line: `object` and the name of the object's kind
abbrev pub object_words : Kind → List (List ℕ)
object_words kind = codes "object" ∷ kind_name kind ∷ []

-- the words of the callers line: `callers` and their number
abbrev pub callers_words : ℕ → List (List ℕ)
callers_words n = codes "callers" ∷ decimal n ∷ []

-- the words of the calls line: `calls` and for each caller the number of its calls
abbrev pub calls_words : List ℕ → List (List ℕ)
calls_words calls = codes "calls" ∷ map decimal calls

-- the four lines of a head
abbrev pub head_lines : Version → List ℕ → Kind → List ℕ → List (List (List ℕ))
head_lines version title kind calls = title_words version title ∷ object_words kind
    ∷ callers_words (length calls) ∷ calls_words calls ∷ []

-- the number of callers is within the limits of a version's texts
pub record AreCallers (version : Version) (n : ℕ) : Type 0 where
  pub some : 1 ≤ n
  pub few : n ≤ most_callers version

-- there are as many numbers of calls as callers, and each is within the limits of a version's texts
pub record AreCalls (version : Version) (n : ℕ) (calls : List ℕ) : Type 0 where
  pub count : length calls ≡ n
  pub few : AreAtMost (most_calls version) calls

-- the states of reading a head, each with what the lines before say
pub data HeadDue : Type 0 where
  TitleDue : HeadDue
  ObjectDue : HeadDue
  CallersDue : Kind → HeadDue
  CountsDue : Kind → ℕ → HeadDue
  HeadRead : Kind → List ℕ → HeadDue

-- a line of these words is right in a state of reading a head, and leads to another state
abbrev pub HeadPasses : Version → List ℕ → HeadDue → List (List ℕ) → HeadDue → Type 0
HeadPasses version title TitleDue words after = (words ≡ title_words version title)
    × (after ≡ ObjectDue)
HeadPasses version title ObjectDue words after = (kind : Kind) × (has_kind version kind ≡ true)
    × (words ≡ object_words kind) × (after ≡ CallersDue kind)
HeadPasses version title (CallersDue kind) words after = (n : ℕ) × AreCallers version n
    × (words ≡ callers_words n) × (after ≡ CountsDue kind n)
HeadPasses version title (CountsDue kind n) words after = (calls : List ℕ)
    × AreCalls version n calls × (words ≡ calls_words calls) × (after ≡ HeadRead kind calls)
HeadPasses version title (HeadRead kind calls) words after = ⊥

-- a line of these words fails a test in a state of reading a head; each line of a head has one test
abbrev pub HeadFails : Version → List ℕ → HeadDue → List (List ℕ) → What → Type 0
-- the line isn't the title with the version
HeadFails version title TitleDue words what = (what ≡ Head) × (words ≢ title_words version title)
-- the line isn't 'object' and the name of a kind that texts of the version have
HeadFails version title ObjectDue words what = (what ≡ Object)
    × ((kind : Kind) → has_kind version kind ≡ true → words ≢ object_words kind)
-- the line isn't 'callers' and a number in range
HeadFails version title (CallersDue kind) words what = (what ≡ Callers)
    × ((n : ℕ) → AreCallers version n → words ≢ callers_words n)
-- the line isn't 'calls' and as many numbers in range as there are callers
HeadFails version title (CountsDue kind n) words what = (what ≡ Calls)
    × ((calls : List ℕ) → AreCalls version n calls → words ≢ calls_words calls)
HeadFails version title (HeadRead kind calls) words what = ⊥

-- what is due next in each state of reading a head
abbrev pub head_wanted : HeadDue → Wanted
head_wanted TitleDue = ALine
head_wanted ObjectDue = ALine
head_wanted (CallersDue kind) = ALine
head_wanted (CountsDue kind n) = ALine
head_wanted (HeadRead kind calls) = Nothing

-- the rules of a head
abbrev pub head_rules : Version → List ℕ → Rules HeadDue
head_rules version title = record {
  Passes = HeadPasses version title;
  Fails = HeadFails version title;
  wanted = head_wanted;
}

-- the text begins with right lines of a head that lead from one state to another, and `left` is the
-- rest of it
abbrev pub HeadGoes : Version → List ℕ → HeadDue → Unread → HeadDue → Unread → Type 0
HeadGoes version title due text after left = GoesTo (head_rules version title) due text after left

-- the first fault of a text that is read as a head from a state on
abbrev pub IsHeadFault : Version → List ℕ → HeadDue → Unread → TextFault → Type 0
IsHeadFault version title due text fault = IsFirstFault (head_rules version title) due text fault

-- the text begins with a head that gives this title, this kind, and `calls` as the numbers of
-- calls, and `left` is the rest of it
abbrev pub IsHead : Version → List ℕ → Kind → List ℕ → Unread → Unread → Type 0
IsHead version title kind calls text left =
    HeadGoes version title TitleDue text (HeadRead kind calls) left
