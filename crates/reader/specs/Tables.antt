-- The tables into which a file is read, as lists, and what a store leaves in them. The contracts of `read` and `size` cite none of this.
use Rattle.std.specs.Prelude.{List, [], ℕ, ◌+◌, ◌*◌, length, set}
use Rattle.std.proofs.lemmas.List.Edits.{sets}
use Rattle.scan.specs.Text.{max_length}
use Rattle.book.specs.declared.Book.{Book}

pub record Lists : Type 0 where
  pub text : List ℕ
  pub lengths : List ℕ
  pub heads : List ℕ
  pub starts : List ℕ
  pub entries : List ℕ

-- those of a book
abbrev pub lists_of : Book → Lists
lists_of b = record { text = b.text; lengths = b.lengths; heads = b.heads; starts = b.starts; entries = b.entries }

-- no tables: a store leaves them as they are
abbrev pub no_lists : Lists
no_lists = record { text = []; lengths = []; heads = []; starts = []; entries = [] }

-- with name k
abbrev pub with_name : Lists → ℕ → List ℕ → Lists
with_name l k name = record l { text = sets l.text (max_length * k) name; lengths = set l.lengths k (length name) }

-- with an entry in place j, and with entries from there on
abbrev pub with_entry : Lists → ℕ → ℕ → Lists
with_entry l j entry = record l { entries = set l.entries j entry }

abbrev pub with_entries : Lists → ℕ → List ℕ → Lists
with_entries l j entries = record l { entries = sets l.entries j entries }

-- with the head of rule r and the end of its body
abbrev pub with_rule : Lists → ℕ → ℕ → ℕ → Lists
with_rule l r head end = record l { heads = set l.heads r head; starts = set l.starts (r + 1) end }
