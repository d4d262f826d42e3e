use Rattle.std.proofs.Common.{ℕ, ◌∙◌, List, ◌++◌, flat_map, sym, ap, slice_get}
use Rattle.book_base.specs.declared.call.Place.{Place}
use Rattle.book_base.specs.Book.{IsCall}
use Rattle.book_base.specs.Order.{call_at}
use Rattle.seq_objects.specs.Objects.{kind_init, kind_next}
use Rattle.legal_prefixes.specs.Prefixes.{no_calls}
use Rattle.legal_prefixes.specs.Texts.{place_line, held_text}
use Rattle.legal_prefixes.proofs.Joining.{prefix_joined, all_at}
use Rattle.legal_prefixes.proofs.Leading.{calls_from_lead}
use Rattle.legal_prefixes.proofs.text.put_prefix.Goals as goal

pub put_places-requires : goal.put_places-requires
put_places-requires c k place has =
    let book = c.args.book.now in
    let prefix = c.args.prefix.now in
    all_at (λ (p : Place). IsCall book (call_at p)) prefix.places.items
    (calls_from_lead book (kind_next c.args.kind) (no_calls book) (kind_init c.args.kind)
    prefix.places.items prefix.cut prefix.words.items c.requires.longest.leads) k place
    (sym (ap (λ (xs : List Place). slice_get xs k) c.deref.ensures.value) ∙ has)

pub returns : goal.returns
returns c =
    prefix_joined c.args.kind c.args.book.now c.args.prefix.now c.args.all.now c.args.out.now.items
    c.put_places.new.out.items c.extend_from_slice.new.self.items c.put_held.new.out.items
    c.extend_from_slice-2.new.self.items c.put_all_blocked.new.out.items
    (c.in_ok-put_places.ensures
    ∙ ap (λ (xs : List Place). c.args.out.now.items
    ++ flat_map (place_line c.args.kind c.args.book.now) xs) c.deref.ensures.value)
    c.in_ok-extend_from_slice.ensures.items
    (c.in_ok-put_held.ensures
    ∙ ap (λ (xs : List ℕ). c.extend_from_slice.new.self.items ++ held_text c.args.kind xs)
    c.deref-2.ensures.value)
    c.in_ok-extend_from_slice-2.ensures.items
    c.in_ok-put_all_blocked.ensures
