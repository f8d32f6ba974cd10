-- The tables of a book: the index has its rules, and the places of the table of its working order are the names of the groups, one group behind another.
use mathlib.Core.Path.{◌≡◌, ◌∙◌, ap}
use Prim.Native.Nat.{ℕ}
use lib.ListN.{take}
use Rattle.wfsx.specs.Sets.{Set}
use Rattle.wfsx.specs.Groups.{working_order}
use Rattle.book.specs.Limits.{max_names, max_rules}
use Rattle.book.specs.Book.{clamp, rules_of, program_of, joined}
use Rattle.book.specs.declared.Book.{Book}
use Rattle.book.proofs.Heads.{program_of_lem}
use Rattle.book.proofs.Counts.{clamp_most, clamp_least}
use Rattle.index.specs.Index.{index_of}
use Rattle.index.specs.declared.Index.{Index}
use Rattle.reach.specs.Order.{numbered, order_table}
use Rattle.reach.specs.declared.Order.{Order}
use Rattle.reach.proofs.Places.{order_names, order_groups}
use Rattle.fixpoint.specs.declared.Values.{Values}
use Rattle.groups.specs.Whole.{WholeOf}
use Rattle.groups.specs.Parts.{UsedBelow, Laid, ByGroups}

-- ---- a book

module _ (b : Book) {F : Set} {i : Index} (is : i ≡ index_of b) {n : ℕ} (used : UsedBelow i.starts F n) {o : Order}
    (order : o ≡ order_table (working_order (rules_of b) (clamp max_names n))) where
  pub book_laid : Laid b.heads b.starts b.entries i.starts i.rules (take o.names o.name) (take o.names o.group) F
  book_laid =
      let all : clamp max_names n ≡ n = clamp_least max_names n used.most in
      record {
        count = clamp max_rules b.rules;
        n = n;
        few = clamp_most max_rules b.rules;
        starts_are = ap (λ (x : Index). x.starts) is;
        rules_are = ap (λ (x : Index). x.rules) is;
        used = used;
        names_are = order_names _ order ∙ ap (λ (k : ℕ). joined (working_order (rules_of b) k)) all;
        groups_are = order_groups _ order ∙ ap (λ (k : ℕ). numbered 0 (working_order (rules_of b) k)) all;
      }

  pub book_whole : (v : Values) → ByGroups b.heads b.starts b.entries i.starts i.rules (take o.names o.name) (take o.names o.group) F v → WholeOf (program_of b F) v
  unfolding book_laid
  book_whole v by = rw (program_of_lem b F) (by book_laid)
