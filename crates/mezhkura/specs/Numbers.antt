-- Document 01's number and values for each case of the answers. An exported call answers the numbers of a reply that the call of `desk`, `lesson` or `reader`
-- may give; 0 says that it was not turned down.
use Rattle.std.specs.Prelude.{◌≡◌, Bool, not, cond, [], ℕ, eqb, Result, Ok, Err}
use Rattle.std.specs.Result.{result_unwrap_or}
use Rattle.wfsx.specs.Sets.{∅}
use Rattle.litset.specs.Words.{set_of}
use Rattle.reader.specs.Loading as loading
use Rattle.reader.specs.declared.Refusal as reader
use Rattle.reader.specs.declared.Sizes.{Sizes}
use Rattle.fixpoint.specs.declared.Verdict.{Verdict}
use Rattle.fixpoint.specs.declared.Verdict.TheVariants.{True, False, Undefined}
use Rattle.search.specs.declared.Tree.{Tree}
use Rattle.reach.specs.Order.{order_table}
use Rattle.reach.specs.declared.Order.{Order}
use Rattle.maker.specs.declared.Made.{Made}
use Rattle.lesson.specs.State.{number_of}
use Rattle.lesson.specs.Calls.{index_of}
use Rattle.lesson.specs.declared.Shelf.{Shelf}
use Rattle.lesson.specs.declared.Lesson.{Lesson}
use Rattle.lesson.specs.declared.Refusal.{Refusal}
use Rattle.lesson.specs.declared.WholeModel.{WholeModel}
use Rattle.lesson.specs.declared.ModelByGroups.{ModelByGroups}
use Rattle.lesson.specs.declared.Unmade.{Unmade}
use Rattle.desk.specs.declared.Desk.{Desk}
use Rattle.mezhkura.specs.declared.SizeReply.{SizeReply}
use Rattle.mezhkura.specs.declared.LoadReply.{LoadReply}
use Rattle.mezhkura.specs.declared.ChangeReply.{ChangeReply}
use Rattle.mezhkura.specs.declared.VerdictReply.{VerdictReply}
use Rattle.mezhkura.specs.declared.SearchReply.{SearchReply}
use Rattle.mezhkura.specs.declared.ModelReply.{ModelReply}
use Rattle.mezhkura.specs.declared.OrderReply.{OrderReply}
use Rattle.mezhkura.specs.declared.GroupsReply.{GroupsReply}
use Rattle.mezhkura.specs.declared.ListingReply.{ListingReply}
use Rattle.mezhkura.specs.declared.CheckReply.{CheckReply}
use Rattle.mezhkura.specs.declared.MakeReply.{MakeReply}

-- ---- the number and the values of an answer

-- 0 where the call was not turned down
abbrev pub number_in : {T : Type 0} → Result T Refusal → ℕ
number_in (Ok value) = 0
number_in (Err e) = number_of e

-- what `read` says of the value; a refusal has none, and `none` stands in its place
abbrev pub value_in : {T X : Type 0} → (read : T → X) → (none : X) → Result T Refusal → X
value_in read none (Ok value) = read value
value_in read none (Err e) = none

-- a flag of an answer: 1 is yes, 0 is no
abbrev pub flag : Bool → ℕ
flag b = cond b 1 0

-- ---- sizing

-- a refused file has no figures
abbrev pub size_numbers : Result Sizes reader.Refusal → SizeReply
size_numbers (Ok sizes) = record { number = 0; line = 0; names = sizes.names; rules = sizes.rules; body_literals = sizes.body_literals }
size_numbers (Err f) = record { number = loading.number_of f.fault; line = f.line; names = 0; rules = 0; body_literals = 0 }

abbrev pub SizeIn : (Result Sizes reader.Refusal → Type 0) → SizeReply → Type 0
SizeIn May r = (a : Result Sizes reader.Refusal) × May a × (r ≡ size_numbers a)

-- ---- load

abbrev pub load_number : Result (Unit {0}) reader.Refusal → ℕ
load_number (Ok done) = 0
load_number (Err f) = loading.number_of f.fault

abbrev pub load_line : Result (Unit {0}) reader.Refusal → ℕ
load_line (Ok done) = 0
load_line (Err f) = f.line

abbrev pub LoadIn : (Result (Unit {0}) reader.Refusal → Desk → Type 0) → LoadReply → Type 0
LoadIn May r = (a : Result (Unit {0}) reader.Refusal) × May a r.desk × (r.number ≡ load_number a) × (r.line ≡ load_line a)

-- ---- putting in and taking out

-- the desk afterwards has the shelf that it had
abbrev pub ChangeIn : Shelf → (Result (Unit {0}) Refusal → Lesson → Type 0) → ChangeReply → Type 0
ChangeIn s May r =
    (a : Result (Unit {0}) Refusal) × May a r.desk.lesson × (r.number ≡ number_in a) × (r.desk.shelf ≡ s)

-- ---- verdict

-- false is 0, true is 1, undefined is 2
abbrev pub verdict_number : Verdict → ℕ
verdict_number False = 0
verdict_number True = 1
verdict_number Undefined = 2

abbrev pub VerdictIn : (Result Verdict Refusal → Type 0) → VerdictReply → Type 0
VerdictIn May r = (a : Result Verdict Refusal) × May a × (r.number ≡ number_in a) × (r.verdict ≡ value_in verdict_number 0 a)

-- ---- search

-- a flag that is not 0 is set
abbrev pub is_set : ℕ → Bool
is_set flag = not (eqb flag 0)

-- 0 is a T-search, every other number a TU-search
abbrev pub kind_of : ℕ → Tree
kind_of tree = cond (eqb tree 0) Tree.T Tree.Tu

abbrev pub SearchIn : (Result Bool Refusal → Type 0) → SearchReply → Type 0
SearchIn May r = (a : Result Bool Refusal) × May a × (r.number ≡ number_in a) × (r.holds ≡ value_in flag 0 a)

-- ---- model

-- 1 where the lesson is contradictory; a call that is turned down gives empty sets and no round
abbrev pub ModelIn : (Result WholeModel Refusal → Type 0) → ModelReply → Type 0
ModelIn May r =
    (a : Result WholeModel Refusal) × May a × (r.number ≡ number_in a) × (r.contradictory ≡ value_in (λ (m : WholeModel). flag m.contradictory) 0 a)
    × (set_of r.truths.words ≡ value_in (λ (m : WholeModel). set_of m.model.truths.words) ∅ a) × (set_of r.nonfalse.words ≡ value_in (λ (m : WholeModel). set_of m.model.nonfalse.words) ∅ a)
    × (r.rounds ≡ value_in (λ (m : WholeModel). m.model.rounds) 0 a)

-- ---- working order, model by groups

-- a call that is turned down gives the table of no names
abbrev pub OrderIn : (Result Order Refusal → Type 0) → OrderReply → Type 0
OrderIn May r = (a : Result Order Refusal) × May a × (r.number ≡ number_in a) × (r.order ≡ result_unwrap_or a (order_table []))

abbrev pub GroupsIn : (Result ModelByGroups Refusal → Type 0) → GroupsReply → Type 0
GroupsIn May r =
    (a : Result ModelByGroups Refusal) × May a × (r.number ≡ number_in a) × (r.contradictory ≡ value_in (λ (m : ModelByGroups). flag m.contradictory) 0 a)
    × (set_of r.truths.words ≡ value_in (λ (m : ModelByGroups). set_of m.values.truths.words) ∅ a) × (set_of r.nonfalse.words ≡ value_in (λ (m : ModelByGroups). set_of m.values.nonfalse.words) ∅ a)

-- ---- listing, preview

abbrev pub listing_numbers : Result ℕ Refusal → ListingReply
listing_numbers a = record { number = number_in a; length = result_unwrap_or a 0 }

abbrev pub ListingIn : (Result ℕ Refusal → Type 0) → ListingReply → Type 0
ListingIn May r = (a : Result ℕ Refusal) × May a × (r ≡ listing_numbers a)

-- ---- proof sheets

-- the index is that of 27, and 0 beside another number
abbrev pub check_numbers : Result (Unit {0}) Refusal → CheckReply
check_numbers (Ok done) = record { number = 0; index = 0 }
check_numbers (Err e) = record { number = number_of e; index = index_of e }

abbrev pub CheckIn : (Result (Unit {0}) Refusal → Type 0) → CheckReply → Type 0
CheckIn May r = (a : Result (Unit {0}) Refusal) × May a × (r ≡ check_numbers a)

-- a call that is turned down wrote no entry
abbrev pub make_numbers : Result Made Unmade → MakeReply
make_numbers (Ok m) = record { number = 0; count = m.count }
make_numbers (Err e) = record { number = number_of e.refusal; count = 0 }

abbrev pub MakeIn : (Result Made Unmade → Type 0) → MakeReply → Type 0
MakeIn May r = (a : Result Made Unmade) × May a × (r ≡ make_numbers a)
