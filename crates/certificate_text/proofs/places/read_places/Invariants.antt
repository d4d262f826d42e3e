use Rattle.std.proofs.Common.{[], length}
use Rattle.book_base.specs.Book.{Page}
use Rattle.std.specs.Prelude.{List}
use Rattle.seq_objects.specs.declared.kind.Kind.{Kind}
use Rattle.certificate_text.specs.CertificateRules.{InPlaces}
use Rattle.certificate_text.specs.Reading.{Goes}
use Rattle.certificate_text.proofs.places.read_places.Given as goal

abbrev pub invariant-loop-order : goal.invariant-loop-order
invariant-loop-order l = (kind : Kind) (book : List Page)
    → Goes (InPlaces kind book []) l.fn.lines (InPlaces kind book l.order.items) l.lines

abbrev pub decreases-loop-order : goal.decreases-loop-order
decreases-loop-order l = length l.lines.bytes
