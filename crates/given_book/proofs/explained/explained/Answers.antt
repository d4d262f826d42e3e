use Rattle.std.proofs.Common.{◌<◌, List, [], ◌∷◌, length, inr, refl, subst, arith}
use Rattle.book_base.specs.Book.{Page}
use Rattle.book_base.specs.Order.{HasLegalOrder}
use Rattle.seq_objects.specs.declared.kind.Kind.{Kind}
use Rattle.seq_objects.specs.Objects.{kind_spec}
use Rattle.legal_prefixes.specs.declared.prefix.LegalPrefix.{LegalPrefix}
use Rattle.legal_prefixes.specs.Longest.{AreLongest, IsAnswer}
use Rattle.legal_prefixes.specs.Texts.{TellsPrefixes}
use Rattle.given_book.proofs.explained.explained.Goals as goal

-- A book of which longest legal prefixes are told has no legal order.
none_is_legal : (kind : Kind) (book : List Page) (prefixes : List LegalPrefix)
    → AreLongest kind book prefixes → ¬ (HasLegalOrder (kind_spec kind) book)
none_is_legal kind book [] longest legal = absurd (omega (arith, longest.some))
none_is_legal kind book (prefix ∷ rest) longest legal = (longest.each 0 prefix refl).illegal legal

pub returns-in-Longest-clause-explained : goal.returns-in-Longest-clause-explained
returns-in-Longest-clause-explained c =
    let kind = c.in_ok-kind.kind in
    let book = c.in_ok-kind.book in
    let prefixes = c.in-Longest.prefixes.items in
    let longest : AreLongest kind book prefixes =
    subst (IsAnswer kind book) c.in-Longest.is c.in_ok-prefixes-in-None.ensures in
    record {
      kind = kind;
      book = book;
      told = c.in_ok-kind.ensures.found;
      illegal = none_is_legal kind book prefixes longest;
      why = inr (record {
        none = c.in-None.ensures.none;
        prefixes = prefixes;
        longest = longest;
        written = subst (λ (all : List LegalPrefix). TellsPrefixes kind book all
            c.in_ok-text-in-Longest.text.items) c.deref.ensures.value
            c.in_ok-text-in-Longest.ensures;
      });
    }
