-- Below the capacity the tree of the question's kind decides it, or for `not` that of the other kind, over the index of the book; past it no
-- literal has a rule or is a fact, so it fails and `not` of it holds.
use Rattle.std.proofs.Common.{◌≡◌, length, arith, rules}
use Rattle.litset.specs.Words.{n_words}
use Rattle.search.proofs.Questions.{past_capacity, decided_not, decided_plain, as_few_visits}
use Rattle.search.proofs.search_counted.Goals as goal

pub returns-then-literal-ge-CAPACITY : goal.returns-then-literal-ge-CAPACITY
returns-then-literal-ge-CAPACITY c =
    -- a set of literals has its words
    let long : length c.args.facts.words ≡ n_words = search rules in
    (past_capacity c.args.book.now _ long _ c.if-literal-ge-CAPACITY.true _ _, omega arith)

pub returns-then-default : goal.returns-then-default
returns-then-default c =
    let long : length c.args.facts.words ≡ n_words = search rules in
    let walked = c.root-walked.ensures in (
      decided_not c.args.book.now _ long _ c.index_of-index.ensures _ _ _ _ _ walked.0 c.decided_by.ensures c.if-default.true,
      as_few_visits c.args.book.now _ long _ c.index_of-index.ensures _ walked.1,
    )

pub returns : goal.returns
returns c =
    let long : length c.args.facts.words ≡ n_words = search rules in
    let walked = c.root-walked.ensures in (
      decided_plain c.args.book.now _ long _ c.index_of-index.ensures _ _ _ _ _ walked.0 c.decided_by.ensures c.if-default.false,
      as_few_visits c.args.book.now _ long _ c.index_of-index.ensures _ walked.1,
    )
