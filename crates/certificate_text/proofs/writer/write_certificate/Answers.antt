use Rattle.std.proofs.Common.{List, ℕ}
use Rattle.text_fields.specs.declared.version.Version.TheVariants.{Second}
use Rattle.book_text.specs.Grammar.{book_lines}
use Rattle.certificate_text.specs.Grammar.{IsWrittenCertificate}
use Rattle.certificate_text.proofs.PlaceLines.{place_written, end_written, places_more, places_all}
use Rattle.certificate_text.proofs.WrittenTexts.{written_is_read}
use Rattle.certificate_text.proofs.writer.write_certificate.Goals as goal

pub loop-place-preserved : goal.loop-place-preserved
loop-place-preserved c =
    let prefix : List (List (List ℕ)) = book_lines Second c.args.kind c.args.book.now in
    record {
      text = place_written prefix c.args.order.now c.loop-place.out.items
          c.put_place_line.new.out.items c.loop-place.place-index _ c.loop-place-test.true
          c.loop-place.invariant.text c.in_ok-put_place_line.ensures.ok;
      places = places_more prefix c.args.order.now c.loop-place.place-index _ c.loop-place-test.true
          c.loop-place.invariant.places c.in_ok-put_place_line.ensures.may;
    }

pub returns : goal.returns
returns c =
    let prefix : List (List (List ℕ)) = book_lines Second c.args.kind c.args.book.now in
    let written : IsWrittenCertificate c.extend_from_slice.new.self.items c.args.kind
    c.args.book.now c.args.order.now
    = record {
      writable = c.in_ok-out.ensures.written.writable;
      places = places_all prefix c.args.order.now c.loop-place.place-index c.loop-place-test.false
          c.loop-place.invariant.places;
      text = end_written prefix c.args.order.now c.loop-place.out.items
          c.extend_from_slice.new.self.items c.loop-place.place-index c.loop-place-test.false
          c.loop-place.invariant.text c.in_ok-extend_from_slice.ensures.items;
    } in
    record {
      written = written;
      read = written_is_read c.extend_from_slice.new.self.items c.args.kind c.args.book.now
          c.args.order.now written;
    }
