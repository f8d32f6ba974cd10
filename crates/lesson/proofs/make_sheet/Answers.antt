-- `make_sheet`: the sheet is that of the maker over the lesson's rules and facts.
use Rattle.std.proofs.Common.{sym, ◌∙◌}
use Rattle.book.proofs.Names.{names_counted}
use Rattle.lesson.proofs.Sheets.{make_25, make_count}
use Rattle.lesson.proofs.make_sheet.Goals as goal

pub returns-then-room-names : goal.returns-then-room-names
returns-then-room-names c =
    make_25 _ _ _ _ c.in_ok-check_literal.ensures _ _ c.in_force.ensures c.make.result c.make.ensures _ (c.name_count-names.ensures ∙ sym (names_counted c.args.s.now.book)) c.in-Some.made c.in-Some.is c.if-room-names.true

pub returns : goal.returns
returns c =
    make_count _ _ _ _ c.in_ok-check_literal.ensures _ _ c.in_force.ensures c.make.result c.make.ensures _ (c.name_count-names.ensures ∙ sym (names_counted c.args.s.now.book)) c.in-Some.made c.in-Some.is c.if-room-names.false
