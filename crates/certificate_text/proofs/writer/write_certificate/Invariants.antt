use Rattle.std.proofs.Common.{◌≡◌, ◌∷◌, ◌++◌, map, take}
use Rattle.std.specs.List.{AllByRecursion}
use Rattle.text_fields.specs.declared.version.Version.TheVariants.{Second}
use Rattle.text_fields.specs.Lines.{text_of}
use Rattle.book_text.specs.Grammar.{book_lines}
use Rattle.certificate_text.specs.Grammar.{order_words, place_line, IsPlace}
use Rattle.certificate_text.proofs.writer.write_certificate.Given as goal

abbrev pub invariant-loop-place : goal.invariant-loop-place
invariant-loop-place l = record {
  text : l.out.items ≡ text_of (book_lines Second l.fn.kind l.book ++ order_words
      ∷ map place_line (take l.place-index l.order));
  places : AllByRecursion IsPlace (take l.place-index l.order);
}
