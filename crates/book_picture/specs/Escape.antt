-- Texts in XML: what would be read as markup is escaped.
use Rattle.std.specs.Prelude.{ℕ, ◌==◌, List, codes, if◌then◌else◌}
use Rattle.std.specs.List.{flat_map}
use Rattle.std.specs.Char.{encode_utf8}

-- How a byte is written in XML: the bytes `&`, `<`, `>` and `"` by their entities, and each other
-- byte as the character with its number, in UTF-8.
abbrev pub escape_of : ℕ → List ℕ
escape_of byte =
    if byte == 38 then codes "&amp;"
    else (if byte == 60 then codes "&lt;"
    else (if byte == 62 then codes "&gt;"
    else (if byte == 34 then codes "&quot;"
    else encode_utf8 byte)))

-- How a text is written in XML: its bytes in order, with an entity for each `&`, `<`, `>` and `"`.
abbrev pub escaped : List ℕ → List ℕ
escaped text = flat_map escape_of text
