use Rattle.std.proofs.Common.{◌∙◌, string_bytes}
use Rattle.hunts.specs.Asking.{Gives}
use Rattle.hunts.proofs.Changes.{first_two, changed_further, none_further}
use Rattle.hunts.proofs.asked.+changed_by.Goals as goal

pub returns-in-Some-number-clause-changed : goal.returns-in-Some-number-clause-changed
returns-in-Some-number-clause-changed t c =
    let same = first_two c.args.words.now c.name-item.result c.digits-item.result
    c.in-len2-up.len_at_least c.name-item.is c.digits-item.is in
    let gives : Gives (string_bytes c.name-item.result) (string_bytes c.digits-item.result)
    c.in-Some.setting c.in-Some-number.number = (
      cc,
      c.in-Some-number.ensures.found.0 ∙ c.as_str-in-Some.ensures.value,
      c.in-Some-number.ensures.found.1,
    ) in
    changed_further c.args.settings c.changed.result _ _ _ _ c.in-Some.setting
    c.in-Some-number.number same gives c.changed.ensures.changed c.changed_by.result
    c.changed_by.ensures.changed

pub returns-in-Some-number-clause-none : goal.returns-in-Some-number-clause-none
returns-in-Some-number-clause-none t c =
    let same = first_two c.args.words.now c.name-item.result c.digits-item.result
    c.in-len2-up.len_at_least c.name-item.is c.digits-item.is in
    let gives : Gives (string_bytes c.name-item.result) (string_bytes c.digits-item.result)
    c.in-Some.setting c.in-Some-number.number = (
      cc,
      c.in-Some-number.ensures.found.0 ∙ c.as_str-in-Some.ensures.value,
      c.in-Some-number.ensures.found.1,
    ) in
    none_further c.args.settings c.changed.result _ _ _ _ c.in-Some.setting
    c.in-Some-number.number same gives c.changed.ensures.changed c.changed_by.result
    c.changed_by.ensures.none
