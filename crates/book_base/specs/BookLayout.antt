-- How a book lies in memory.
use Rattle.std.specs.Prelude.{List, map}
use Rattle.book_base.specs.declared.book.CallerPage.{CallerPage}
use Rattle.book_base.specs.Book.{Page}

-- the page that a caller's vectors in memory stand for: its operation words, and its records
abbrev pub page : CallerPage → Page
page r = record { operations = r.operations.items; records = r.records.items }

-- the book that the callers' pages in memory stand for, as the list of these pages
abbrev pub pages : List CallerPage → List Page
pages rows = map page rows
