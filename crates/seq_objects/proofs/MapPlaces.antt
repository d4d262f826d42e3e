-- The list after a put of a key that has an item.
use Rattle.std.proofs.Common.{◌≡◌, ℕ, ◌==◌, List, insert, remove, slice_get, Some, sym, ap, ◌∙◌}
use Rattle.std.proofs.lemmas.List.Quantifiers.{position-Some}
use Rattle.std.proofs.lemmas.Option.{get_or_from_slice_get}
use Rattle.seq_objects.specs.Replies.{reply_value}
use Rattle.seq_objects.specs.MapSteps.{item_of, key_of, place_of_key, put_at, put_in}
use Rattle.list_laws.proofs.Options.{pair_is}
use Rattle.list_laws.proofs.Replacing.{insert-remove}

-- A put takes out the first item with the key, and puts the new one there.
pub put_in-there : (list : List ℕ) (key value place old : ℕ) → place_of_key list key ≡ Some place
    → slice_get list place ≡ Some old
    → put_in list key value
    ≡ (insert (remove list place) place (item_of key value), reply_value old)
put_in-there list key value place old at here =
    let inside = (position-Some (λ item. key_of item == key) list place 0 at).0 in
    ap (put_at list (item_of key value)) at
    ∙ pair_is (sym (insert-remove list place (item_of key value) inside))
    (ap reply_value (get_or_from_slice_get list place old 0 here))
