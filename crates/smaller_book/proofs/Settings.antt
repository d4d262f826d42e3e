-- Calls that set a register's value by their words are settings, and what can't tell by its words
-- can't see.
use Rattle.std.proofs.Common.{◌≡◌, ◌≢◌, ℕ, ◌%◌, ◌^◌, ◌<◌, ◌≤◌, ◌⊎◌, ◌==◌, ◌∙◌, false, List, [], ◌∷◌, unwrap_or, Option, Some, None, option_map, refl, sym, ap, subst, inl, inr, arith}
use Rattle.std.specs.Option.{IsSomeAnd}
use Rattle.std.specs.Prelude.{option_to_list, IsTrue}
use Rattle.std.proofs.lemmas.Bool.{cases_Bool, cond-true, cond-false, true≢false, eqb-true}
use Rattle.std.proofs.lemmas.Option.{none-some, same_Some, cond_some, slice_get_within}
use Rattle.list_laws.proofs.Options.{some_from_is_some}
use Rattle.book_base.specs.declared.call.Call.{Call}
use Rattle.book_base.specs.declared.call.Record.{Record}
use Rattle.book_base.specs.Book.{Page, IsCall, operation_of, record_of}
use Rattle.seq_objects.specs.declared.kind.Kind.{Kind}
use Rattle.seq_objects.specs.declared.kind.Kind.TheVariants as kinds
use Rattle.seq_objects.specs.declared.register.RegisterOperation.{RegisterOperation}
use Rattle.seq_objects.specs.declared.register.RegisterOperation.TheVariants as register
use Rattle.seq_objects.specs.declared.cas_register.CasRegisterOperation.{CasRegisterOperation}
use Rattle.seq_objects.specs.declared.cas_register.CasRegisterOperation.TheVariants as cas_register
use Rattle.seq_objects.specs.Words.{argument_of}
use Rattle.seq_objects.specs.Replies.{reply_done, reply_yes, reply_no}
use Rattle.seq_objects.specs.Items.{first_or_zero}
use Rattle.seq_objects.specs.RegisterSteps.{register_operation, register_after}
use Rattle.seq_objects.specs.CasRegisterSteps.{compared_and_set, cas_register_operation, cas_register_after}
use Rattle.seq_objects.specs.Objects.{kind_next}
use Rattle.smaller_book.specs.ReadOnly.{MayHave}
use Rattle.smaller_book.specs.Unseen.{Sets, IsBlind, IsOverwritten, CannotSee}
use Rattle.smaller_book.specs.OneKey.{is_set_or_map, HoldsAtMost, HoldsOneKey}
use Rattle.smaller_book.specs.Settings.{set_by_register, set_by_cas_register, item_set_with, item_set, reply_at, Writes, RepliesOtherwise, Overwrites, ComesAfterOverwriting, CannotTell, SetsLists, WordsTell}
use Rattle.smaller_book.proofs.Following.{some_that}
use Rattle.smaller_book.proofs.OneKey.{argument_in, set_sets, map_sets}

-- A compare-and-set that succeeds leaves its new value.
compared_sets : (list : List ℕ) (expected new : ℕ)
    → reply_yes ≡ (compared_and_set list expected new).1
    → (compared_and_set list expected new).0 ≡ new ∷ []
compared_sets list expected new succeeds =
    elim (cases_Bool (first_or_zero list % 2 ^ 32 == expected)) [
      | inl same ↦ ap (λ (x : List ℕ × ℕ). x.0) (cond-true
          (first_or_zero list % 2 ^ 32 == expected) (new ∷ [], reply_yes) (list, reply_no) same)
      | inr other ↦ absurd (omega (
        arith,
        succeeds ∙ ap (λ (x : List ℕ × ℕ). x.1) (cond-false
            (first_or_zero list % 2 ^ 32 == expected) (new ∷ [], reply_yes) (list, reply_no) other),
      ))
    ]

-- A register has the value that an operation sets.
register_sets : (o : Option RegisterOperation) (item : Option ℕ) → set_by_register o ≡ Some item
    → (list : List ℕ) → register_after list o ≡ (option_to_list item, reply_done)
register_sets (Some (register.Write v)) item is list =
    ap (λ (x : Option ℕ). (option_to_list x, reply_done)) (same_Some (Some v) item is)
register_sets (Some register.Read) item is list = absurd (none-some item is)
register_sets None item is list = absurd (none-some item is)

-- A register with compare-and-set has the value that an operation sets whatever its reply is.
cas_register_writes : (o : Option CasRegisterOperation) (item : Option ℕ)
    → set_by_cas_register o None ≡ Some item
    → (list : List ℕ) → cas_register_after list o ≡ (option_to_list item, reply_done)
cas_register_writes (Some (cas_register.Write v)) item is list =
    ap (λ (x : Option ℕ). (option_to_list x, reply_done)) (same_Some (Some v) item is)
cas_register_writes (Some cas_register.Read) item is list = absurd (none-some item is)
cas_register_writes (Some (cas_register.CompareAndSet expected new)) item is list =
    absurd (none-some item is)
cas_register_writes None item is list = absurd (none-some item is)

-- A register with compare-and-set has the value that an operation sets, where it gives the reply.
cas_register_sets : (o : Option CasRegisterOperation) (reply : Option ℕ) (item : Option ℕ)
    → set_by_cas_register o reply ≡ Some item → (list : List ℕ)
    → ((r : ℕ) → reply ≡ Some r → r ≡ (cas_register_after list o).1)
    → (cas_register_after list o).0 ≡ option_to_list item
cas_register_sets (Some (cas_register.Write v)) reply item is list replied =
    ap option_to_list (same_Some (Some v) item is)
cas_register_sets (Some cas_register.Read) reply item is list replied =
    absurd (none-some item is)
cas_register_sets (Some (cas_register.CompareAndSet expected new)) None item is list replied =
    absurd (none-some item is)
cas_register_sets (Some (cas_register.CompareAndSet expected new)) (Some r) item is list replied =
    let (is_yes, same) = cond_some (r == reply_yes) (Some new) item is in
    compared_sets list expected new (sym (eqb-true r reply_yes is_yes) ∙ replied r refl)
    ∙ ap option_to_list same
cas_register_sets None reply item is list replied = absurd (none-some item is)

-- What an operation word sets with a reply, it sets from each list at which the object gives it; in
-- a set or a map, from each list that has at most the key of the word.
word_sets : (kind : Kind) (word : ℕ) (reply : Option ℕ) (item : Option ℕ)
    → item_set_with kind word reply ≡ Some item → (list : List ℕ)
    → (IsTrue (is_set_or_map kind) → HoldsAtMost kind (argument_of word) list)
    → ((r : ℕ) → reply ≡ Some r → r ≡ (kind_next kind list word).1)
    → (kind_next kind list word).0 ≡ option_to_list item
unfolding kind_next
word_sets kinds.Register word reply item is list holds replied =
    ap (λ (x : List ℕ × ℕ). x.0) (register_sets (register_operation word) item is list)
word_sets kinds.CasRegister word reply item is list holds replied =
    cas_register_sets (cas_register_operation word) reply item is list replied
word_sets kinds.IntSet word reply item is list holds replied =
    set_sets word (argument_of word) list item refl (holds refl) is
word_sets kinds.Map word reply item is list holds replied =
    map_sets word (argument_of word) list item refl (holds refl) is
word_sets kinds.Queue word reply item is list holds replied = absurd (none-some item is)
word_sets kinds.Stack word reply item is list holds replied = absurd (none-some item is)
word_sets kinds.Pqueue word reply item is list holds replied = absurd (none-some item is)
word_sets kinds.Counter word reply item is list holds replied = absurd (none-some item is)

-- An operation word of a register that sets a value whatever its reply is gets the reply `done`.
writes_done : (kind : Kind) (word : ℕ) (item : Option ℕ) → item_set_with kind word None ≡ Some item
    → is_set_or_map kind ≡ false → (list : List ℕ) → (kind_next kind list word).1 ≡ reply_done
unfolding kind_next
writes_done kinds.Register word item is other list =
    ap (λ (x : List ℕ × ℕ). x.1) (register_sets (register_operation word) item is list)
writes_done kinds.CasRegister word item is other list =
    ap (λ (x : List ℕ × ℕ). x.1) (cas_register_writes (cas_register_operation word) item is list)
writes_done kinds.IntSet word item is other list = absurd (true≢false other)
writes_done kinds.Map word item is other list = absurd (true≢false other)
writes_done kinds.Queue word item is other list = absurd (none-some item is)
writes_done kinds.Stack word item is other list = absurd (none-some item is)
writes_done kinds.Pqueue word item is other list = absurd (none-some item is)
writes_done kinds.Counter word item is other list = absurd (none-some item is)

-- The reply at an item is the object's.
replies_at : (kind : Kind) (item : Option ℕ) (word reply : ℕ) → reply_at kind item word ≡ Some reply
    → (kind_next kind (option_to_list item) word).1 ≡ reply
unfolding kind_next
replies_at kinds.Register item word reply is = same_Some _ reply is
replies_at kinds.CasRegister item word reply is = same_Some _ reply is
replies_at kinds.IntSet item word reply is = same_Some _ reply is
replies_at kinds.Map item word reply is = same_Some _ reply is
replies_at kinds.Queue item word reply is = absurd (none-some reply is)
replies_at kinds.Stack item word reply is = absurd (none-some reply is)
replies_at kinds.Pqueue item word reply is = absurd (none-some reply is)
replies_at kinds.Counter item word reply is = absurd (none-some reply is)

-- Where a call may have a reply, it is the one of its record, if it has one.
reply_known : (known : Option Record) (reply : ℕ)
    → ((r : Record) → known ≡ Some r → r.reply ≡ reply) → (recorded : ℕ)
    → option_map (λ r. r.reply) known ≡ Some recorded → recorded ≡ reply
reply_known None reply may recorded is = absurd (none-some recorded is)
reply_known (Some r) reply may recorded is = sym (same_Some r.reply recorded is) ∙ may r refl

-- In a set or a map whose book is of one key, a list that has at most this key has at most that of
-- each of the book's operations.
holds_argument : (kind : Kind) (book : List Page) (call : Call) (list : List ℕ)
    → SetsLists kind book → IsCall book call → HoldsOneKey kind book list
    → IsTrue (is_set_or_map kind)
    → HoldsAtMost kind (argument_of (unwrap_or (operation_of book call) 0)) list
holds_argument kind book call list lists inside holds keyed =
    let (key, one) = lists keyed in
    subst (λ (k : ℕ). HoldsAtMost kind k list) (sym (argument_in kind book key call one inside))
    (holds key one)

sets : (kind : Kind) (book : List Page) (call : Call) (item : Option ℕ) → SetsLists kind book
    → IsCall book call → item_set kind book call ≡ Some item
    → Sets (kind_next kind) book (HoldsOneKey kind book) call (option_to_list item)
sets kind book call item lists inside is before holds may =
    word_sets kind (unwrap_or (operation_of book call) 0)
    (option_map (λ r. r.reply) (record_of book call)) item is before
    (holds_argument kind book call before lists inside holds)
    (reply_known (record_of book call) _ may)

writes_blindly : (kind : Kind) (book : List Page) (call : Call) → SetsLists kind book
    → IsCall book call → Writes kind book call
    → IsBlind (kind_next kind) book (HoldsOneKey kind book) call
writes_blindly kind book call lists inside (writes, open_call) before other held also =
    let word : ℕ = unwrap_or (operation_of book call) 0 in
    let (item, is) = some_from_is_some (item_set_with kind word None) writes in
    let set : (list : List ℕ) → HoldsOneKey kind book list
    → (kind_next kind list word).0 ≡ option_to_list item = λ list holds.
    word_sets kind word None item is list (holds_argument kind book call list lists inside holds)
    (λ r none. absurd (none-some r none)) in (
      set before held ∙ sym (set other also),
      λ answered. elim (cases_Bool (is_set_or_map kind)) [
        | inl keyed ↦ absurd (open_call keyed answered)
        | inr register ↦ writes_done kind word item is register before
            ∙ sym (writes_done kind word item is register other)
      ],
    )

cannot_see : (kind : Kind) (book : List Page) (setting : Call) (item : Option ℕ) (call : Call)
    → SetsLists kind book → IsCall book call → CannotTell kind book setting item call
    → CannotSee (kind_next kind) book (HoldsOneKey kind book) setting (option_to_list item) call
cannot_see kind book setting item call lists inside tells =
    let word : ℕ = unwrap_or (operation_of book call) 0 in
    elim tells [
      | inl writes ↦ inl (writes_blindly kind book call lists inside writes)
      | inr rest ↦ elim rest [
        | inl otherwise ↦
            let (r, known, differs) = some_that (record_of book call) (λ (r : Record).
            IsSomeAnd (reply_at kind item word) (λ reply. r.reply ≢ reply)) otherwise in
            let (reply, given, other) =
            some_that (reply_at kind item word) (λ reply. r.reply ≢ reply) differs in
            inr (inr (inr (λ may.
            other (may r known ∙ replies_at kind item word reply given))))
        | inr later ↦ elim later [
          | inl earlier ↦ inr (inl earlier)
          | inr (between, overwrites, before) ↦
              inr (inr (inl (between, overwrites.changes, overwrites.after, before)))
        ]
      ]
    ]

pub words_tell : WordsTell
words_tell kind book names lacks call inside unnamed = elim (lacks call inside) [
  | inl named ↦ absurd (unnamed named)
  | inr goes ↦ elim goes [
    | inl only ↦ inl only
    | inr unseen ↦ inr (record {
      after = option_to_list unseen.item;
      sets = sets kind book call unseen.item unseen.lists inside unseen.sets;
      unseen = λ other is named. cannot_see kind book call unseen.item other unseen.lists is
          (unseen.unseen other is named);
    })
  ]
]
