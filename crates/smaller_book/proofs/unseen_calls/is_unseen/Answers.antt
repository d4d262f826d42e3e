use Rattle.std.proofs.Common.{◌≡◌, ℕ, ◌∙◌, Option, sym, subst}
use Rattle.std.proofs.lemmas.Option.{same_Some}
use Rattle.book_base.specs.declared.call.Call.{Call}
use Rattle.book_base.specs.Book.{IsCall}
use Rattle.smaller_book.specs.Part.{IsNamed}
use Rattle.smaller_book.specs.Numbers.{numbers_in}
use Rattle.smaller_book.specs.Settings.{CannotTell}
use Rattle.smaller_book.proofs.unseen_calls.is_unseen.Goals as goal

pub returns-in-Some : goal.returns-in-Some
returns-in-Some c = (
  λ unseen. record {
    lists = c.requires.lists;
    item = c.in-Some.item;
    sets = sym c.item_set.ensures ∙ c.in-Some.is;
    unseen = c.none_tells.ensures.0 unseen;
  },
  λ setting.
      let same : setting.item ≡ c.in-Some.item = same_Some setting.item c.in-Some.item
      (sym setting.sets ∙ (sym c.item_set.ensures ∙ c.in-Some.is)) in
      c.none_tells.ensures.1 (subst (λ (item : Option ℕ). (other : Call) → IsCall c.args.book.now other
      → IsNamed (numbers_in c.args.numbers.now) other
      → CannotTell c.args.kind c.args.book.now c.args.call item other) same setting.unseen),
)
