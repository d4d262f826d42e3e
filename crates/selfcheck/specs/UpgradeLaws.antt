-- What the output of `upgrade` keeps of its input.
use Rattle.std.specs.Prelude.{◌↔◌, ℕ, List}
use Rattle.book_base.specs.Book.{Page}
use Rattle.book_base.specs.declared.call.Place.{Place}
use Rattle.book_base.specs.Order.{IsLegalOrder}
use Rattle.book_text.specs.BookRules.{IsBookText}
use Rattle.client_scripts.specs.Plans.{Plan}
use Rattle.client_scripts.specs.ScriptRules.{IsScriptText}
use Rattle.seq_objects.specs.declared.kind.Kind.{Kind}
use Rattle.seq_objects.specs.Objects.{kind_spec}
use Rattle.text_fields.specs.declared.version.Version.TheVariants.{First, Second}
use Rattle.selfcheck.specs.declared.command.Command.TheVariants.{Upgrade}
use Rattle.byte_streams.specs.declared.status.Status.TheVariants.{Fine}
use Rattle.selfcheck.specs.Output.{IsOutputOf}

-- The bytes in version 1 and the text in version 2 are texts of exactly the same books and plans.
pub record SaysTheSame (bytes text : List ℕ) : Type 0 where
  pub books : (kind : Kind) (book : List Page) → IsBookText First bytes kind book
      ↔ IsBookText Second text kind book
  pub scripts : (plan : Plan) → IsScriptText First bytes plan ↔ IsScriptText Second text plan

-- Where `upgrade` succeeds, the text that it writes says in version 2 what its input says in
-- version 1: it is a text of exactly the same books and plans.
abbrev pub UpgradesSayTheSame : Type 0
UpgradesSayTheSame = (bytes text : List ℕ) → IsOutputOf Upgrade bytes Fine text
    → SaysTheSame bytes text

-- The order is legal for both books, or for neither.
abbrev pub HaveOneOrder : Kind → List Page → Kind → List Page → List Place → Type 0
HaveOneOrder kind book other another order =
    IsLegalOrder (kind_spec kind) book order
    ↔ IsLegalOrder (kind_spec other) another order

-- The book in the output of `upgrade` has exactly the legal orders of the book in its input.
abbrev pub UpgradesKeepOrders : Type 0
UpgradesKeepOrders = (bytes text : List ℕ) (kind other : Kind) (book another : List Page)
    → IsOutputOf Upgrade bytes Fine text
    → IsBookText First bytes kind book → IsBookText Second text other another → (order : List Place)
    → HaveOneOrder kind book other another order
