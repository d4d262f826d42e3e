-- The rule of unseen settings by words alone: which calls set a list, and which calls can't tell.
use Rattle.std.specs.Prelude.{◌≡◌, ◌≢◌, ℕ, ◌<◌, ◌⊎◌, ◌==◌, List, [], ◌∷◌, length, unwrap_or, Option, Some, None, is_some, IsSomeAnd, IsTrue, option_map, option_to_list, if◌then◌else◌}
use Rattle.book_base.specs.declared.call.Call.{Call}
use Rattle.book_base.specs.Book.{Page, IsCall, IsAnswered, operation_of, record_of, Precedes}
use Rattle.seq_objects.specs.declared.kind.Kind.{Kind}
use Rattle.seq_objects.specs.declared.kind.Kind.TheVariants as kinds
use Rattle.seq_objects.specs.declared.register.RegisterOperation.{RegisterOperation}
use Rattle.seq_objects.specs.declared.register.RegisterOperation.TheVariants as register
use Rattle.seq_objects.specs.declared.cas_register.CasRegisterOperation.{CasRegisterOperation}
use Rattle.seq_objects.specs.declared.cas_register.CasRegisterOperation.TheVariants as cas_register
use Rattle.seq_objects.specs.declared.int_set.IntSetOperation.{IntSetOperation}
use Rattle.seq_objects.specs.declared.int_set.IntSetOperation.TheVariants as int_set
use Rattle.seq_objects.specs.declared.map.MapOperation.{MapOperation}
use Rattle.seq_objects.specs.declared.map.MapOperation.TheVariants as map
use Rattle.seq_objects.specs.Replies.{reply_yes}
use Rattle.seq_objects.specs.RegisterSteps.{register_operation, register_after}
use Rattle.seq_objects.specs.CasRegisterSteps.{cas_register_operation, cas_register_after}
use Rattle.seq_objects.specs.IntSetSteps.{set_operation, set_after}
use Rattle.seq_objects.specs.MapSteps.{item_of, map_operation, map_after}
use Rattle.seq_objects.specs.Objects.{kind_next}
use Rattle.smaller_book.specs.Part.{IsNamed, IsPart, KeepsAnswers}
use Rattle.smaller_book.specs.ReadOnly.{IsReadOnly}
use Rattle.smaller_book.specs.OneKey.{is_set_or_map, IsOfOneKey, LacksUnseen}

-- A value as the only item of a list, where there is a reply and it is `yes`.
abbrev pub where_yes : ℕ → Option ℕ → Option (Option ℕ)
where_yes value None = None
where_yes value (Some reply) = if reply == reply_yes then Some (Some value) else None

-- The item that an operation of a register sets: the argument of a write.
abbrev pub set_by_register : Option RegisterOperation → Option (Option ℕ)
set_by_register (Some (register.Write value)) = Some (Some value)
set_by_register (Some register.Read) = None
set_by_register None = None

-- The item that an operation of a register with compare-and-set sets, with its reply where it has
-- one: the argument of a write; and the new value of a compare-and-set that replies `yes`.
abbrev pub set_by_cas_register : Option CasRegisterOperation → Option ℕ → Option (Option ℕ)
set_by_cas_register (Some (cas_register.Write value)) reply = Some (Some value)
set_by_cas_register (Some cas_register.Read) reply = None
set_by_cas_register (Some (cas_register.CompareAndSet expected new)) reply = where_yes new reply
set_by_cas_register None reply = None

-- The item that an operation of a set sets where all operations have one argument: that of an
-- addition; and no item for a removal.
abbrev pub set_by_set : Option IntSetOperation → Option (Option ℕ)
set_by_set (Some (int_set.Add value)) = Some (Some value)
set_by_set (Some (int_set.Remove value)) = Some None
set_by_set (Some (int_set.Has value)) = None
set_by_set None = None

-- The item that an operation of a map sets where all operations have one key: that of a put; and no
-- item for a delete.
abbrev pub set_by_map : Option MapOperation → Option (Option ℕ)
set_by_map (Some (map.Put key value)) = Some (Some (item_of key value))
set_by_map (Some (map.Get key)) = None
set_by_map (Some (map.Delete key)) = Some None
set_by_map None = None

-- What an operation word sets, with its reply where it has one: the only item of the list after it,
-- or no item. The objects of the other kinds have no such operations.
abbrev pub item_set_with : Kind → ℕ → Option ℕ → Option (Option ℕ)
item_set_with kinds.Register word reply = set_by_register (register_operation word)
item_set_with kinds.CasRegister word reply =
    set_by_cas_register (cas_register_operation word) reply
item_set_with kinds.IntSet word reply = set_by_set (set_operation word)
item_set_with kinds.Map word reply = set_by_map (map_operation word)
item_set_with kinds.Queue word reply = None
item_set_with kinds.Stack word reply = None
item_set_with kinds.Pqueue word reply = None
item_set_with kinds.Counter word reply = None

-- What a call of a book sets, by its operation and its recorded reply.
abbrev pub item_set : Kind → List Page → Call → Option (Option ℕ)
item_set kind book call = item_set_with kind (unwrap_or (operation_of book call) 0)
    (option_map (λ r. r.reply) (record_of book call))

-- The reply that an object gives to an operation word where this is the only item of its list, or
-- where it has no item. No reply is said of the kinds whose calls set no list.
abbrev pub reply_at : Kind → Option ℕ → ℕ → Option ℕ
reply_at kinds.Register item word =
    Some (register_after (option_to_list item) (register_operation word)).1
reply_at kinds.CasRegister item word =
    Some (cas_register_after (option_to_list item) (cas_register_operation word)).1
reply_at kinds.IntSet item word = Some (set_after (option_to_list item) (set_operation word)).1
reply_at kinds.Map item word = Some (map_after (option_to_list item) (map_operation word)).1
reply_at kinds.Queue item word = None
reply_at kinds.Stack item word = None
reply_at kinds.Pqueue item word = None
reply_at kinds.Counter item word = None

-- A call writes: its operation sets a list whatever its reply is; and in a set or a map, where
-- replies tell of the list before, the call is unanswered.
abbrev pub Writes : Kind → List Page → Call → Type 0
Writes kind book call =
    IsTrue (is_some (item_set_with kind (unwrap_or (operation_of book call) 0) None))
    × (IsTrue (is_set_or_map kind) → ¬ IsAnswered book call)

-- The recorded reply to a call isn't the one that the object gives where this is the only item of
-- its list, or where it has no item.
abbrev pub RepliesOtherwise : Kind → List Page → Option ℕ → Call → Type 0
RepliesOtherwise kind book item call = IsSomeAnd (record_of book call) (λ r.
    IsSomeAnd (reply_at kind item (unwrap_or (operation_of book call) 0)) (λ reply.
    r.reply ≢ reply))

-- The calls of a book set whole lists: of a set or a map, where all calls are about one key.
abbrev pub SetsLists : Kind → List Page → Type 0
SetsLists kind book = IsTrue (is_set_or_map kind) → (key : ℕ) × IsOfOneKey kind book key

-- A call overwrites what another one sets: it is answered, isn't read-only, and comes after it.
pub record Overwrites (kind : Kind) (book : List Page) (setting call : Call) : Type 0 where
  pub answered : IsAnswered book call
  pub changes : ¬ IsReadOnly (kind_next kind) book call
  pub after : Precedes book setting call

-- A call comes after one that overwrites what another one sets.
abbrev pub ComesAfterOverwriting : Kind → List Page → Call → Call → Type 0
ComesAfterOverwriting kind book setting call =
    (between : Call) × Overwrites kind book setting between × Precedes book between call

-- A call can't tell that another one has set a list: it writes, its recorded reply isn't the one at
-- that list, it precedes the other one, or it comes after one that overwrites the list.
abbrev pub CannotTell : Kind → List Page → Call → Option ℕ → Call → Type 0
CannotTell kind book setting item call =
    Writes kind book call ⊎ RepliesOtherwise kind book item call ⊎ Precedes book call setting
    ⊎ ComesAfterOverwriting kind book setting call

-- A call sets a list, and no call that is named by these numbers can tell.
pub record IsUnseenSetting (kind : Kind) (book : List Page) (names : List (List ℕ))
    (call : Call) : Type 0 where
  pub lists : SetsLists kind book
  pub item : Option ℕ
  pub sets : item_set kind book call ≡ Some item
  pub unseen : (other : Call) → IsCall book other → IsNamed names other
      → CannotTell kind book call item other

-- A call stays, since these numbers name it; or it may go, since it is read-only, or sets a list and
-- no named call can tell.
abbrev pub StaysOrMayGo : Kind → List Page → List (List ℕ) → Call → Type 0
StaysOrMayGo kind book names call = IsNamed names call ⊎ IsReadOnly (kind_next kind) book call
    ⊎ IsUnseenSetting kind book names call

-- Each call of the book that isn't named by these numbers is read-only, or sets a list and no
-- named call can tell.
abbrev pub LacksOnlyUnseen : Kind → List Page → List (List ℕ) → Type 0
LacksOnlyUnseen kind book names = (call : Call) → IsCall book call
    → StaysOrMayGo kind book names call

-- The part has the calls of the book that these numbers name, answered where the book has them
-- answered, and each call that it lacks is read-only, or sets a list and no call that stays can
-- tell.
pub record IsWithoutUnseen (kind : Kind) (book : List Page) (names : List (List ℕ))
    (part : List Page) : Type 0 where
  pub wide : length names ≡ length book
  pub is_part : IsPart book names part
  pub answers : KeepsAnswers book names part
  pub lacks : LacksOnlyUnseen kind book names

-- The first call of a book, by its caller and then by its number, that these numbers don't name and
-- that may not go.
pub record IsFirstSeen (kind : Kind) (book : List Page) (names : List (List ℕ))
    (call : Call) : Type 0 where
  pub is_call : IsCall book call
  pub seen : ¬ StaysOrMayGo kind book names call
  pub earlier_callers : (other : Call) → IsCall book other → other.caller < call.caller
      → StaysOrMayGo kind book names other
  pub earlier_calls : (number : ℕ) → number < call.number
      → StaysOrMayGo kind book names (record { caller = call.caller; number = number })

-- Each call of a book that is unseen by its words is unseen.
abbrev pub WordsTell : Type 0
WordsTell = (kind : Kind) (book : List Page) (names : List (List ℕ))
    → LacksOnlyUnseen kind book names → LacksUnseen kind book names
