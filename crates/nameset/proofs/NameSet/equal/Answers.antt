use Rattle.std.proofs.Common.{rules, arith, ℕ, ◌≡◌, ◌∙◌, length, get_or, ap, sym, Fits, w64}
use Rattle.std.specs.Cmp.Lexicographic.{same_text}
use Rattle.std.proofs.lemmas.Cmp.{nat_list_eq_equiv}
use Rattle.litset.specs.Words.{set_of}
use Rattle.nameset.specs.Names.{name_words}
use Rattle.litset.proofs.Words.{set_settles}
use Rattle.nameset.proofs.NameSet.equal.Goals as goal

pub returns : goal.returns
returns c =
    let a = c.args.self.words in
    let b = c.args.other.words in
    let size-a : length a ≡ name_words = search rules in
    let size-b : length b ≡ name_words = search rules in
    let fit-a : (k : ℕ) → Fits w64 (get_or a k 0) = λ k. search rules in
    let fit-b : (k : ℕ) → Fits w64 (get_or b k 0) = λ k. search rules in (
      (λ q. ap set_of (same_text a b (sym (sym c.eq.ensures ∙ q)))),
      (λ e. rw (c.eq.ensures, set_settles a b (omega arith) (λ k. (fit-a k).fits) (λ k. (fit-b k).fits) e) (nat_list_eq_equiv.refl b)),
    )
