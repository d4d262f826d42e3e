-- Groups in a text of SVG: where a tag opens or closes one.
use Rattle.std.specs.Prelude.{◌≡◌, ◌≢◌, ℕ, Bool, true, false, not, ◌&&◌, ◌||◌, ◌==◌, List, [], ◌∷◌, ◌++◌, codes}

-- The text has neither `<g`, which opens a group of SVG, nor `</g`, which closes one.
pub record HasNoGroup (text : List ℕ) : Type 0 where
  pub opened : (prefix rest : List ℕ) → text ≢ prefix ++ (codes "<g" ++ rest)
  pub closed : (prefix rest : List ℕ) → text ≢ prefix ++ (codes "</g" ++ rest)

-- Whether a '<' with these bytes after it begins neither `<g` nor `</g`, whatever bytes are
-- appended to them.
abbrev pub is_of_no_group : List ℕ → Bool
is_of_no_group [] = false
is_of_no_group (x ∷ []) = not (x == 103) && not (x == 47)
is_of_no_group (x ∷ y ∷ rest) = not (x == 103) && not ((x == 47) && (y == 103))

-- Whether each '<' of the text begins neither `<g` nor `</g`, whatever bytes follow the text.
abbrev pub is_plain : List ℕ → Bool
is_plain [] = true
is_plain (x ∷ rest) = (not (x == 60) || is_of_no_group rest) && is_plain rest

-- The text `after` is `before` with the text `more` appended, in which each '<' begins neither `<g`
-- nor `</g`, whatever bytes follow it.
pub record GrowsPlain (more before after : List ℕ) : Type 0 where
  pub plain : is_plain more ≡ true
  pub grown : after ≡ before ++ more
