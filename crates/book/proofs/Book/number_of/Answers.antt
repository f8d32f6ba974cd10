-- Two names are compared by their keys.
use Rattle.std.proofs.Common.{ℕ, List, ◌≡◌, ◌∙◌, ap, sym}
use native.Mathlib.Nat.{sub-zero}
use Rattle.scan.specs.Text.{same_name}
use Rattle.scan.specs.declared.Key.{Key}
use Rattle.scan.specs.Keys.{Bytes, key_of, same_key}
use Rattle.scan.specs.declared.Alphabet.TheVariants.{EitherCase}
use Rattle.scan.proofs.Keys.{keys_tell}
use Rattle.book.specs.declared.Book.{Book}
use Rattle.book.specs.Book.{name_at, names_in, find}
use Rattle.book.proofs.Names.{name_most}
use Rattle.book.proofs.Lookup.{find_hit, find_miss, find_end}
use Rattle.book.proofs.Book.number_of.Goals as goal

-- the keys tell whether name k of a book is the one looked for
told : (b : Book) (name own : List ℕ) (k : ℕ) (x y : Key) → own ≡ name_at b.text b.lengths k → (x ≡ key_of EitherCase own) × Bytes own
    → (y ≡ key_of EitherCase name) × Bytes name → same_name EitherCase (name_at b.text b.lengths k) name ≡ same_key x y
told b name own k x y e p q =
    sym (keys_tell EitherCase own name x y p q (λ l. rw e (name_most b.text b.lengths k)) ∙ ap (λ (n : List ℕ). same_name EitherCase n name) e)

pub loop-k-init : goal.loop-k-init
loop-k-init c =
    let b = c.args.self.now in
    rw (sub-zero c.name_count-n.result) (ap (λ (n : ℕ). find EitherCase (names_in b.text b.lengths n) c.args.name.now) c.name_count-n.ensures)

pub returns-then-eq : goal.returns-then-eq
returns-then-eq c =
    let b = c.args.self.now in
    let name = c.args.name.now in
    let same = told b name c.name_at.result.now c.loop-k.k c.key_of-own.result c.key_of-key.result c.name_at.ensures c.key_of-own.ensures c.key_of-key.ensures in
    sym (find_hit EitherCase (name_at b.text b.lengths) name c.loop-k.k c.name_count-n.result c.loop-k-test.true (same ∙ sym c.eq.ensures ∙ c.if-eq.true)) ∙ c.loop-k.invariant

pub loop-k-preserved : goal.loop-k-preserved
loop-k-preserved c =
    let b = c.args.self.now in
    let name = c.args.name.now in
    let same = told b name c.name_at.result.now c.loop-k.k c.key_of-own.result c.key_of-key.result c.name_at.ensures c.key_of-own.ensures c.key_of-key.ensures in
    sym (find_miss EitherCase (name_at b.text b.lengths) name c.loop-k.k c.name_count-n.result c.loop-k-test.true (same ∙ sym c.eq.ensures ∙ c.if-eq.false)) ∙ c.loop-k.invariant

pub returns : goal.returns
returns c =
    let b = c.args.self.now in
    sym (find_end EitherCase (name_at b.text b.lengths) c.args.name.now c.loop-k.k c.name_count-n.result c.loop-k-test.false) ∙ c.loop-k.invariant
