-- The definitions give what the table says of cases 1 to 11, of a file of no bytes and of one with capitals: both sides of the equation compute to the same table.
use mathlib.Core.Path.{◌≡◌, refl}
use mathlib.Core.List.{map}
use Rattle.wfsx.specs.Sets.{members_from}
use Rattle.wfsx.specs.Program.{compl}
use Rattle.wfsx.specs.Model.{every, supported, Γ, Γs, I, M, N, verdict}
use Rattle.wfsx.specs.Rounds.{has_heads, first_still, rounds}
use Rattle.wfsx.specs.Reach.{mentioned, body_names, entry_count, reach}
use Rattle.wfsx.specs.ContradictoryNames.{some_head, contradictory_names}
use Rattle.wfsx.specs.Trees.{cut, tree, answer}
use Rattle.litset.specs.Words.{without, clash_from}
use Rattle.scan.specs.Text.{all_bytes, split, len_to, is_name, same_bytes, same_name, word_of}
use Rattle.book.specs.Book.{find_from}
use Rattle.reader.specs.File.{body_literals, all_fields, wrong_fields, malformed, declared_before, uses_undeclared, beyond_table, fault_of, line_fault, literal_number, entry_from, extended, with_line, read_lines, read_file}
use Rattle.lister.specs.Listing.{last_digits, digits, line, name_lines, header_by, listing_of}
use Rattle.lesson.specs.State.{in_force, program_in, in_book, listing_in, if_loaded, in_order, change_says, contradictory_below, verdict_says}
use Rattle.desk.specs.Cases.{found, cases}

pub cases_hold : map found cases ≡ cases
unfolding members_from compl every supported Γ Γs I M N verdict has_heads first_still rounds mentioned body_names entry_count reach some_head contradictory_names cut tree answer without all_bytes split len_to is_name same_bytes word_of same_name find_from body_literals all_fields wrong_fields malformed declared_before uses_undeclared beyond_table fault_of line_fault literal_number entry_from extended with_line read_lines read_file last_digits digits line name_lines header_by clash_from listing_of in_force program_in in_book listing_in if_loaded in_order change_says contradictory_below verdict_says
cases_hold = refl
