use Rattle.std.proofs.Common.{◌≡◌, List, Option, Some, None, option_map, refl, sym, ap, subst}
use Rattle.book_base.specs.declared.call.Place.{Place}
use Rattle.book_picture.specs.Bars.{IsNumberIn}
use Rattle.book_picture.proofs.NumberLemmas.{number_told}
use Rattle.book_picture.proofs.sheet.PictureSheet.number.Goals as goal

pub returns-in-Some : goal.returns-in-Some
returns-in-Some c =
    let order : List Place = c.in-Some.order.now in
    subst (λ (o : Option (List Place)). IsNumberIn o c.args.call c.number_in.result)
    (sym (ap (option_map (λ o. o.now)) c.in-Some.is))
    (number_told order c.args.call c.number_in.result c.number_in.ensures.found
    c.number_in.ensures.none)

pub returns-in-None : goal.returns-in-None
returns-in-None c =
    subst (λ (o : Option (List Place)). IsNumberIn o c.args.call None)
    (sym (ap (option_map (λ o. o.now)) c.in-None.is)) refl
