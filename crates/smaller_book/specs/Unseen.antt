-- The rule of unseen settings: a call that sets the object's list, whatever the list was, may be
-- left out where no call that stays may see what it sets. The lists may be all lists, or those of
-- an invariant that the book's calls keep.
use Rattle.std.specs.Prelude.{◌≡◌, ℕ, ◌⊎◌, List, unwrap_or}
use Rattle.book_base.specs.declared.call.Call.{Call}
use Rattle.book_base.specs.Book.{Page, IsCall, IsAnswered, operation_of, Precedes}
use Rattle.smaller_book.specs.Part.{IsNamed, IsPart, CarriesOver}
use Rattle.smaller_book.specs.ReadOnly.{MayHave, IsReadOnly}

-- Every list.
abbrev pub IsAnyList : List ℕ → Type 0
IsAnyList list = Unit {0}

-- The calls of a book keep an invariant of lists: from a list that has it, at which the object gives
-- the recorded reply of a call, or any where the call is unanswered, the call leads to one that has
-- it.
abbrev pub Keep : (List ℕ → ℕ → List ℕ × ℕ) → List Page → (List ℕ → Type 0) → Type 0
Keep next book holds = (call : Call) (list : List ℕ) → IsCall book call → holds list
    → MayHave book call (next list (unwrap_or (operation_of book call) 0)).1
    → holds (next list (unwrap_or (operation_of book call) 0)).0

-- A call sets a list: whatever the list was before, among those that an invariant allows, where the
-- object gives the recorded reply, or any where the call is unanswered, the list after it is this
-- one.
abbrev pub Sets : (List ℕ → ℕ → List ℕ × ℕ) → List Page → (List ℕ → Type 0) → Call → List ℕ → Type 0
Sets next book holds call after = (before : List ℕ) → holds before
    → MayHave book call (next before (unwrap_or (operation_of book call) 0)).1
    → (next before (unwrap_or (operation_of book call) 0)).0 ≡ after

-- A call is blind: the list after it, and its reply where it is answered, are the same whatever the
-- list was before, among those that an invariant allows.
abbrev pub IsBlind : (List ℕ → ℕ → List ℕ × ℕ) → List Page → (List ℕ → Type 0) → Call → Type 0
IsBlind next book holds call = (before other : List ℕ) → holds before → holds other
    → ((next before (unwrap_or (operation_of book call) 0)).0
    ≡ (next other (unwrap_or (operation_of book call) 0)).0)
    × (IsAnswered book call → (next before (unwrap_or (operation_of book call) 0)).1
    ≡ (next other (unwrap_or (operation_of book call) 0)).1)

-- What a call sets is overwritten before another call: a call that isn't read-only stands between
-- them in each legal order.
abbrev pub IsOverwritten : (List ℕ → ℕ → List ℕ × ℕ) → List Page → Call → Call → Type 0
IsOverwritten next book setting seer =
    (between : Call) × (¬ IsReadOnly next book between) × Precedes book setting between
    × Precedes book between seer

-- A call can't tell that another one has set a list: it is blind, it precedes the other one, what
-- the other one sets is overwritten before it, or the object doesn't give its recorded reply at
-- that list.
abbrev pub CannotSee : (List ℕ → ℕ → List ℕ × ℕ) → List Page → (List ℕ → Type 0) → Call → List ℕ
    → Call → Type 0
CannotSee next book holds setting after seer =
    IsBlind next book holds seer ⊎ Precedes book seer setting
    ⊎ IsOverwritten next book setting seer
    ⊎ (¬ MayHave book seer (next after (unwrap_or (operation_of book seer) 0)).1)

-- A call sets some list, whatever the list was before, and another one, the seer, can't tell.
abbrev pub IsHiddenFrom : (List ℕ → ℕ → List ℕ × ℕ) → List Page → Call → Call → Type 0
IsHiddenFrom next book seer setting = (after : List ℕ) × Sets next book IsAnyList setting after
    × CannotSee next book IsAnyList setting after seer

-- A call sets some list, and no call of which `sees` holds can tell.
pub record IsUnseenBy (next : List ℕ → ℕ → List ℕ × ℕ) (book : List Page)
    (holds : List ℕ → Type 0) (sees : Call → Type 0) (setting : Call) : Type 0 where
  pub after : List ℕ
  pub sets : Sets next book holds setting after
  pub unseen : (seer : Call) → IsCall book seer → sees seer
      → CannotSee next book holds setting after seer

-- Each call of the book that isn't named by these numbers is read-only, or no named call can tell
-- that it sets a list, from lists that an invariant allows.
abbrev pub LacksUnseenAmong : (List ℕ → ℕ → List ℕ × ℕ) → List Page → (List ℕ → Type 0)
    → List (List ℕ) → Type 0
LacksUnseenAmong next book holds names = (call : Call) → IsCall book call → ¬ IsNamed names call
    → IsReadOnly next book call ⊎ IsUnseenBy next book holds (IsNamed names) call

-- Each call of the book that isn't named by these numbers is read-only, or no named call can tell
-- that it sets a list, whatever the list was before.
abbrev pub LacksUnseenAlone : (List ℕ → ℕ → List ℕ × ℕ) → List Page → List (List ℕ) → Type 0
LacksUnseenAlone next book names = LacksUnseenAmong next book IsAnyList names

-- Where a part lacks only read-only and unseen calls of the book, a legal order of the book gives
-- one of the part, whichever list the object begins with.
abbrev pub HasOneWithoutUnseen : Type 0
HasOneWithoutUnseen =
    (next : List ℕ → ℕ → List ℕ × ℕ) (book : List Page) (names : List (List ℕ)) (part : List Page)
    → IsPart book names part → LacksUnseenAlone next book names → CarriesOver next book part
