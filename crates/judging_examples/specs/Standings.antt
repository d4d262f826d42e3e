-- Books of the small queue, written out, for lists of standings that are closed or aren't.
use Rattle.std.specs.Prelude.{List, [], ◌∷◌}
use Rattle.book_base.specs.Book.{Page}
use Rattle.judging_examples.specs.SmallObjects.{caller_page, answer}

-- A caller of the small queue takes 5, which nobody put in.
abbrev pub unput_take : List Page
unput_take = caller_page (0 ∷ []) (answer 6 (1 ∷ []) ∷ []) ∷ []

-- A caller of the small queue puts in 5 and then takes 5.
abbrev pub put_then_take : List Page
put_then_take =
    caller_page (6 ∷ 0 ∷ []) (answer 0 (1 ∷ []) ∷ answer 6 (2 ∷ []) ∷ []) ∷ []
